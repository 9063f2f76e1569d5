use Rattle.std.proofs.Common.{◌≡◌, drop}
use Rattle.std.specs.Prelude.{option_copied, filter}
use Rattle.lib_index.specs.Table.{shown}
use Rattle.round_rules.specs.Rounds.{least_name}
use Rattle.lib_rounds.specs.State.{is_other}
use Rattle.lib_rounds.proofs.lies.least_in.Given as goal

abbrev pub invariant-loop-at : goal.invariant-loop-at
invariant-loop-at l = option_copied l.least ≡ least_name (filter (is_other (shown l.definers) l.input) (drop l.at l.names))
