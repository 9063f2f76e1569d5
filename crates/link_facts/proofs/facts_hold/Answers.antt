use Rattle.link_facts.proofs.facts_hold.Goals as goal
use Rattle.link_facts.proofs.AllFacts.{all_facts}

pub returns : goal.returns
returns c = all_facts c.programs_are_sound.ensures c.read_objects_are_sound.ensures.sound c.operands_stand_on_immediates.ensures c.addresses_are_only_read.ensures c.strict_parts_stand.ensures c.parts_stand.ensures
