use Rattle.std.proofs.Common.{◌≡◌, ◌++◌, drop, map}
use Rattle.debug_out.specs.declared.pieces.Piece.TheVariants.{Content}
use Rattle.debug_out.proofs.pieces.push_members.Given as goal

abbrev pub invariant-loop-d : goal.invariant-loop-d
invariant-loop-d l = l.out ++ map Content (drop l.d-index l.members) ≡ l.fn.out ++ map Content l.members
