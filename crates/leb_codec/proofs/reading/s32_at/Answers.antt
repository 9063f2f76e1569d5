use Rattle.std.proofs.Common.{◌≡◌, arith, to_z, of_z, w32}
use Rattle.std.proofs.lemmas.Int.{ints}
use Rattle.leb_codec.specs.declared.form.Form.TheVariants.{S32}
use Rattle.leb_codec.specs.Spelling.{signed_value}
use Rattle.leb_codec.proofs.Laws.{one_byte}
use Rattle.leb_codec.proofs.reading.s32_at.Goals as goal

pub returns-in-len1-up : goal.returns-in-len1-up
returns-in-len1-up c =
    let same : to_z w32 (of_z w32 c.small.result) ≡ c.small.result = omega (arith, ints, c.small.type_inv) in
    rw same (one_byte signed_value S32 c.args.bytes.now _ (omega arith) c.if-byte-lt128.true c.small.ensures)
