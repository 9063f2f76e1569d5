use Rattle.valid_links.proofs.links_are_valid.Goals as goal
use Rattle.valid_links.proofs.Links.{links_law}

pub returns : goal.returns
returns c =
    links_law c.names_have_one_type.ensures c.outputs_are_valid.ensures c.places_dont_count.ensures c.bodies_take_references.ensures c.read_objects_are_sound.ensures.sound c.read_objects_are_spellable.ensures
    c.loaded_objects_are_sound.ensures c.values_and_segments_fit.ensures.values c.facts_hold.ensures c.links_run.ensures
