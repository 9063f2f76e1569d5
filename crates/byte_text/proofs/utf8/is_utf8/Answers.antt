use Rattle.byte_text.proofs.Found.{utf8_is}
use Rattle.byte_text.proofs.utf8.is_utf8.Goals as goal

pub returns : goal.returns
returns c = utf8_is c.args.text.now c.is_utf8.result c.is_utf8.ensures
