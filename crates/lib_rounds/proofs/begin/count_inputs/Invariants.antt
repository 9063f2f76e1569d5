use Rattle.std.proofs.Common.{◌≡◌, ◌+◌, drop}
use Rattle.std.specs.Prelude.{sum_by}
use Rattle.lib_rounds.specs.Begin.{input_count}
use Rattle.lib_rounds.proofs.Beginning.{member_count}
use Rattle.lib_rounds.proofs.begin.count_inputs.Given as goal

abbrev pub invariant-loop-at : goal.invariant-loop-at
invariant-loop-at l = l.count + sum_by member_count (drop l.at l.libraries) ≡ input_count l.fn.given l.libraries
