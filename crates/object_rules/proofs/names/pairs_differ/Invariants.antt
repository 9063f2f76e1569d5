use Rattle.std.proofs.Common.{◌≡◌, length}
use Rattle.object_rules.specs.Symbols.{names_differ}
use Rattle.object_rules.proofs.names.pairs_differ.Given as goal

abbrev pub invariant-loop-left : goal.invariant-loop-left
invariant-loop-left l = names_differ l.imports l.left ≡ names_differ l.imports l.symbols

abbrev pub decreases-loop-left : goal.decreases-loop-left
decreases-loop-left l = length l.left
