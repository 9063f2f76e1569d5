use Rattle.shared_links.proofs.shared_links_are_read.Goals as goal
use Rattle.shared_links.proofs.Links.{links_are_read}

pub returns : goal.returns
returns c = links_are_read c.shared_outputs_are_read.ensures c.shared_outputs_are_written.ensures c.read_objects_are_sound.ensures.sound c.read_objects_are_spellable.ensures
    c.operands_stand_on_immediates.ensures c.strict_parts_stand.ensures c.parts_stand.ensures c.loaded_objects_are_sound.ensures
