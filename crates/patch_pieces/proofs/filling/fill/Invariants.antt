use Rattle.reloc_apply.specs.Windows.{filled}
use Rattle.patch_pieces.specs.Pieces.{all_patches}
use Rattle.patch_pieces.proofs.Filled.{AreLeft}
use Rattle.patch_pieces.proofs.filling.fill.Given as goal

abbrev pub invariant-loop-piece : goal.invariant-loop-piece
invariant-loop-piece g l = AreLeft l.pieces l.piece-index l.out (filled (all_patches l.pieces) l.fn.out)
