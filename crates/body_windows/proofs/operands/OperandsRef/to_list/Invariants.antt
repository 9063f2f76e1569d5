use Rattle.std.proofs.Common.{◌≡◌, ◌++◌, drop}
use Rattle.body_windows.specs.Operands.{spread}
use Rattle.body_windows.proofs.operands.OperandsRef.to_list.Given as goal

abbrev pub invariant-loop-reference : goal.invariant-loop-reference
invariant-loop-reference l = l.list ++ spread (drop l.reference-index l.self.references.now) l.self.behind ≡ spread l.self.references.now l.self.behind
