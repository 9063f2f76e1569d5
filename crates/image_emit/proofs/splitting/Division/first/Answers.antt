use Rattle.std.proofs.Common.{sym, subst, ◌∙◌}
use Rattle.image_emit.specs.Bytes.{tree_of}
use Rattle.image_emit.specs.Parts.{Rising}
use Rattle.image_emit.proofs.Cuts.{rising, is_first}
use Rattle.image_emit.proofs.splitting.Division.first.Goals as goal

pub first_piece-requires-clause-rising : goal.first_piece-requires-clause-rising
first_piece-requires-clause-rising c = let d = c.args.self.now in subst Rising (sym d.placed) (rising (tree_of d.files.now d.image.now))

pub returns : goal.returns
returns c =
    let d = c.args.self.now in
    c.first_piece.ensures ∙ is_first d.files.now d.image.now d.places.now d.placed d.len d.width c.args.part d.long
