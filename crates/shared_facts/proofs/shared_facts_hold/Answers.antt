use Rattle.shared_facts.proofs.shared_facts_hold.Goals as goal
use Rattle.shared_facts.proofs.Facts.{facts_hold}

pub returns : goal.returns
returns c = facts_hold c.bodies_take_references.ensures c.read_objects_are_sound.ensures.sound c.read_objects_are_spellable.ensures c.operands_stand_on_immediates.ensures
    c.addresses_are_only_read.ensures c.strict_parts_stand.ensures c.parts_stand.ensures c.loaded_objects_are_sound.ensures
