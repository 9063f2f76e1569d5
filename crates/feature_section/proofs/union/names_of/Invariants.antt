use Rattle.std.proofs.Common.{◌≡◌, ◌++◌}
use Rattle.feature_section.proofs.union.names_of.Given as goal

abbrev pub invariant-loop-key : goal.invariant-loop-key
invariant-loop-key l = l.list ++ l.key-iterator ≡ l.names.keys
