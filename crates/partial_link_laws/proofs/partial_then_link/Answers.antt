use Rattle.partial_link_laws.proofs.Law.{Laws, partial_then_link}
use Rattle.partial_link_laws.proofs.partial_then_link.Goals as goal

pub returns : goal.returns
returns c = partial_then_link (record {
  loads = c.runs_are_loaded.ensures;
  names = c.runs_stand_for_names.ensures;
  well = c.read_well.ensures;
  objects = c.partials_are_objects.ensures;
  groups = c.runs_groups.ensures;
  symbols = c.symbols_are_read.ensures;
  runs = c.runs_are_read.ensures;
  refer = c.runs_refer.ensures;
  same = c.linked_files_are_same.ensures;
  programs = c.programs_are_of_their_objects.ensures;
  found = c.objects_are_read.ensures.found;
  again = c.objects_are_read.ensures.again;
  input = c.read_objects_are_sound.ensures.input;
  sound = c.read_objects_are_sound.ensures.sound;
  loaded = c.loaded_objects_are_sound.ensures;
})
