use Rattle.std.proofs.Common.{arith}
use Rattle.leb_codec.specs.declared.form.Form.TheVariants.{U32}
use Rattle.leb_codec.specs.Spelling.{magnitude}
use Rattle.leb_codec.proofs.Laws.{one_byte}
use Rattle.leb_codec.proofs.reading.u32_at.Goals as goal

pub returns-in-len1-up : goal.returns-in-len1-up
returns-in-len1-up c = one_byte magnitude U32 c.args.bytes.now _ (omega arith) c.if-byte-lt128.true (omega (arith, c.from.ensures, c.if-byte-lt128.true))
