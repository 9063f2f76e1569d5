use Rattle.lib_rounds.proofs.Ends.{rounds_end, loaded_is_first_equal, nothing_is_left, added_rise, rounds_once, loaded_once}
use Rattle.lib_rounds.proofs.Offers.{next_is, least_offers}
use Rattle.lib_rounds.proofs.laws.rounds_end.Goals as goal

pub returns-clause-ends : goal.returns-clause-ends
returns-clause-ends c = rounds_end

pub returns-clause-loaded : goal.returns-clause-loaded
returns-clause-loaded c = loaded_is_first_equal

pub returns-clause-nothing_left : goal.returns-clause-nothing_left
returns-clause-nothing_left c = nothing_is_left

pub returns-clause-next : goal.returns-clause-next
returns-clause-next c = next_is

pub returns-clause-least : goal.returns-clause-least
returns-clause-least c = least_offers

pub returns-clause-added_rise : goal.returns-clause-added_rise
returns-clause-added_rise c = added_rise

pub returns-clause-once : goal.returns-clause-once
returns-clause-once c = rounds_once

pub returns-clause-loaded_once : goal.returns-clause-loaded_once
returns-clause-loaded_once c = loaded_once
