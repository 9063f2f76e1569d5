use Rattle.std.proofs.Common.{◌≡◌, ◌≤◌, refl, ◌∙◌, arith, length, take, length-take, to_z, of_z, w64}
use Rattle.std.proofs.lemmas.Int.{ints}
use Rattle.std.proofs.lemmas.Result.{err_from_is_err_and}
use Rattle.leb_codec.specs.declared.form.Form.TheVariants.{S64}
use Rattle.leb_codec.specs.Spelling.{signed_value}
use Rattle.leb_codec.specs.Reading.{low_bits}
use Rattle.leb_codec.proofs.Laws.{fault_as, number_as, number_found}
use Rattle.leb_codec.proofs.Values.{s64_by_bits}
use Rattle.leb_codec.proofs.reading.long_s64.Goals as goal

pub returns-in_err-bits : goal.returns-in_err-bits
returns-in_err-bits c =
    let p = err_from_is_err_and c.from_residual.result c.from_residual.ensures.1 in
    rw (p.1, p.2) (fault_as low_bits signed_value S64 c.args.bytes.now _ c.in_err-bits.ensures.value)

pub with_sign-value-requires-clause-ends : goal.with_sign-value-requires-clause-ends
with_sign-value-requires-clause-ends c =
    let f = number_found low_bits S64 c.args.bytes.now _ c.in_ok-bits.ensures.value in f.spells.spelled.ends

pub with_sign-value-requires-clause-is : goal.with_sign-value-requires-clause-is
with_sign-value-requires-clause-is c =
    let f = number_found low_bits S64 c.args.bytes.now _ c.in_ok-bits.ensures.value in f.spells.value_is

pub returns-then-used-lt10 : goal.returns-then-used-lt10
returns-then-used-lt10 c =
    let same : to_z w64 (of_z w64 c.with_sign-value.result) ≡ c.with_sign-value.result = omega (arith, ints, c.with_sign-value.type_inv) in
    rw (same, c.with_sign-value.ensures) (number_as low_bits signed_value S64 c.args.bytes.now _ _ _ c.in_ok-bits.ensures.value (λ is. refl))

pub returns-else-used-lt10 : goal.returns-else-used-lt10
returns-else-used-lt10 c =
    let f = number_found low_bits S64 c.args.bytes.now _ c.in_ok-bits.ensures.value in
    let full : 10 ≤ length (take c.in_ok-bits.used c.args.bytes.now) = omega (arith, length-take c.in_ok-bits.used c.args.bytes.now, f.held) in
    let value : c.cast_signed-value.result ≡ signed_value (take c.in_ok-bits.used c.args.bytes.now) = c.cast_signed-value.ensures ∙ s64_by_bits _ _ f.spells.spelled full f.spells.value_is in
    let same : to_z w64 (of_z w64 c.cast_signed-value.result) ≡ c.cast_signed-value.result = omega (arith, ints, c.cast_signed-value.type_inv) in
    rw (same, value) (number_as low_bits signed_value S64 c.args.bytes.now _ _ _ c.in_ok-bits.ensures.value (λ is. refl))
