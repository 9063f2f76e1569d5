use Rattle.std.proofs.Common.{◌≡◌, arith, to_z, of_z, w64}
use Rattle.std.proofs.lemmas.Int.{ints}
use Rattle.leb_codec.specs.declared.form.Form.TheVariants.{S33}
use Rattle.leb_codec.specs.Spelling.{signed_value}
use Rattle.leb_codec.proofs.Laws.{one_byte}
use Rattle.leb_codec.proofs.reading.s33_at.Goals as goal

pub returns-in-len1-up : goal.returns-in-len1-up
returns-in-len1-up c =
    let same : to_z w64 (of_z w64 c.from.result) ≡ c.small.result = omega (arith, ints, c.small.type_inv, c.from.ensures) in
    rw same (one_byte signed_value S33 c.args.bytes.now _ (omega arith) c.if-byte-lt128.true c.small.ensures)
