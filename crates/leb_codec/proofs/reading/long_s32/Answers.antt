use Rattle.std.proofs.Common.{◌≡◌, FitsSigned, refl, arith, to_z, of_z, w32, w64}
use Rattle.std.proofs.lemmas.Int.{ints}
use Rattle.std.proofs.lemmas.Result.{err_from_is_err_and}
use Rattle.leb_codec.specs.declared.form.Form.TheVariants.{S32}
use Rattle.leb_codec.specs.Spelling.{signed_value}
use Rattle.leb_codec.specs.Reading.{low_bits}
use Rattle.leb_codec.proofs.Laws.{fault_as, number_as, number_found}
use Rattle.leb_codec.proofs.Values.{s32_fits}
use Rattle.leb_codec.proofs.reading.long_s32.Goals as goal

pub returns-in_err-bits : goal.returns-in_err-bits
returns-in_err-bits c =
    let p = err_from_is_err_and c.from_residual.result c.from_residual.ensures.1 in
    rw (p.1, p.2) (fault_as low_bits signed_value S32 c.args.bytes.now _ c.in_err-bits.ensures.value)

pub with_sign-requires-clause-ends : goal.with_sign-requires-clause-ends
with_sign-requires-clause-ends c =
    let f = number_found low_bits S32 c.args.bytes.now _ c.in_ok-bits.ensures.value in f.spells.spelled.ends

pub with_sign-requires-clause-is : goal.with_sign-requires-clause-is
with_sign-requires-clause-is c =
    let f = number_found low_bits S32 c.args.bytes.now _ c.in_ok-bits.ensures.value in f.spells.value_is

pub overflow_cast-result : goal.overflow_cast-result
overflow_cast-result c =
    let f = number_found low_bits S32 c.args.bytes.now _ c.in_ok-bits.ensures.value in
    let fits : FitsSigned w32 c.with_sign.result = rw c.with_sign.ensures (s32_fits _ f.spells.spelled) in
    omega (arith, ints)

pub returns : goal.returns
returns c =
    let f = number_found low_bits S32 c.args.bytes.now _ c.in_ok-bits.ensures.value in
    let fits : FitsSigned w32 c.with_sign.result = rw c.with_sign.ensures (s32_fits _ f.spells.spelled) in
    let same : to_z w32 (of_z w32 (to_z w64 (of_z w64 c.with_sign.result))) ≡ c.with_sign.result = omega (arith, ints) in
    rw (same, c.with_sign.ensures) (number_as low_bits signed_value S32 c.args.bytes.now _ _ _ c.in_ok-bits.ensures.value (λ is. refl))
