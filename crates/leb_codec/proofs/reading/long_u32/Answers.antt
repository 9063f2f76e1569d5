use Rattle.std.proofs.Common.{◌<◌, ◌^◌, arith, take}
use Rattle.std.proofs.lemmas.Result.{err_from_is_err_and}
use Rattle.leb_codec.specs.declared.form.Form.TheVariants.{U32}
use Rattle.leb_codec.specs.Spelling.{magnitude}
use Rattle.leb_codec.specs.Reading.{low_bits}
use Rattle.leb_codec.proofs.Laws.{fault_as, number_as, number_found}
use Rattle.leb_codec.proofs.Values.{u32_fits}
use Rattle.leb_codec.proofs.reading.long_u32.Goals as goal

pub returns-in_err-bits : goal.returns-in_err-bits
returns-in_err-bits c =
    let p = err_from_is_err_and c.from_residual.result c.from_residual.ensures.1 in
    rw (p.1, p.2) (fault_as low_bits magnitude U32 c.args.bytes.now _ c.in_err-bits.ensures.value)

pub overflow_cast-result : goal.overflow_cast-result
overflow_cast-result c =
    let f = number_found low_bits U32 c.args.bytes.now _ c.in_ok-bits.ensures.value in
    let fits : magnitude (take c.in_ok-bits.used c.args.bytes.now) < 2 ^ 32 = u32_fits _ f.spells.spelled in
    omega (arith, f.spells.value_is)

pub returns : goal.returns
returns c =
    let f = number_found low_bits U32 c.args.bytes.now _ c.in_ok-bits.ensures.value in
    let fits : magnitude (take c.in_ok-bits.used c.args.bytes.now) < 2 ^ 32 = u32_fits _ f.spells.spelled in
    number_as low_bits magnitude U32 c.args.bytes.now _ _ _ c.in_ok-bits.ensures.value (λ is. omega (arith, is))
