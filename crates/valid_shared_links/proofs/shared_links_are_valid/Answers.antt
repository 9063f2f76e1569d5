use Rattle.valid_shared_links.proofs.shared_links_are_valid.Goals as goal
use Rattle.valid_shared_links.proofs.Links.{links_law}

pub returns : goal.returns
returns c = links_law c.shared_names_have_one_type.ensures c.shared_outputs_are_valid.ensures c.shared_facts_hold.ensures c.shared_links_are_read.ensures c.shared_words_are_loaded.ensures
    c.places_dont_count.ensures c.read_objects_are_sound.ensures.sound c.read_objects_are_spellable.ensures c.loaded_objects_are_sound.ensures c.strict_parts_stand.ensures c.parts_stand.ensures
