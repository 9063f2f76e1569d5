use Rattle.std.proofs.Common.{◌∙◌, ap, rules}
use Rattle.debug_out.specs.Pieces.{pieces_bytes}
use Rattle.debug_out.proofs.joining.tail_in.Goals as goal

pub returns-clause-bytes : goal.returns-clause-bytes
returns-clause-bytes c = λ ds p has stand.
    ap (λ rows. pieces_bytes rows p c.in_ok-pieces.pieces) (search rules) ∙ c.in_ok-pieces.ensures.bytes ds p has stand

pub returns-clause-whole : goal.returns-clause-whole
returns-clause-whole c = λ ds has stand. (search rules, search rules, c.in_ok-pieces.ensures.fit ds has stand)
