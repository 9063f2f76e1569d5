use Rattle.std.proofs.Common.{length, refl, arith, rules}
use Rattle.std.proofs.lemmas.Option.{slice_get_read}
use Rattle.reloc_apply.specs.Windows.{filled}
use Rattle.reloc_apply.specs.Apart.{AreApart}
use Rattle.patch_pieces.specs.Pieces.{all_patches}
use Rattle.patch_pieces.proofs.Filled.{piece_apart, piece_filled}
use Rattle.patch_pieces.proofs.filling.fill.Goals as goal

pub fill-requires-after_bounds : goal.fill-requires-after_bounds
fill-requires-after_bounds g c κs within =
    let pieces = c.as_slice-pieces.result.now in
    let i = c.loop-piece.piece-index in
    let piece = c.piece-item.result in
    let there = slice_get_read pieces (length pieces) i piece refl (omega arith) c.piece-item.is in
    let apart : AreApart 0 (length c.loop-piece.out) piece.patches = piece_apart pieces i piece c.loop-piece.out (filled (all_patches pieces) c.args.out.now) there c.loop-piece.invariant in
    search (rules, apart)

pub loop-piece-preserved : goal.loop-piece-preserved
loop-piece-preserved g c =
    let pieces = c.as_slice-pieces.result.now in
    let i = c.loop-piece.piece-index in
    let piece = c.piece-item.result in
    let there = slice_get_read pieces (length pieces) i piece refl (omega arith) c.piece-item.is in
    piece_filled pieces i piece c.loop-piece.out c.fill.new.out (filled (all_patches pieces) c.args.out.now) there c.loop-piece.invariant c.fill.ensures
