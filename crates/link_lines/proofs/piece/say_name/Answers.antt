use Rattle.std.proofs.Common.{get_or}
use Rattle.std.proofs.lemmas.List.{get_or_default}
use Rattle.link_lines.specs.Pieces.{escaped}
use Rattle.link_lines.proofs.Join.{stopped}
use Rattle.link_lines.proofs.piece.say_name.Goals as goal

pub returns-in_err-say_byte : goal.returns-in_err-say_byte
returns-in_err-say_byte g c =
    stopped escaped c.args.name.now c.loop-byte.byte-index (get_or c.args.name.now c.loop-byte.byte-index 0) _ _ _ c.from_residual.result
    c.from_residual.ensures.0 c.loop-byte-test.true (get_or_default _ _ _ _ c.loop-byte-test.true) c.loop-byte.invariant c.in_err-say_byte.ensures
