-- What is spelled with a sign is in its range.
use Rattle.std.proofs.Common.{◌≡◌, ℕ, ◌+◌, ◌*◌, ◌%◌, ◌^◌, ◌<◌, ◌≤◌, List, length, take, sym, ap, ◌∙◌, subst, arith, length-take, ⊎_elim, pos, ◌-ℤ◌}
use Rattle.std.specs.Prelude.{cond, ℤ}
use Rattle.std.proofs.lemmas.Int.{ints}
use Rattle.std.proofs.lemmas.Bool.{lt-ltb, le-ltb, cases_lt}
use Rattle.leb_codec.specs.declared.form.Form.TheVariants.{S32, S64}
use Rattle.leb_codec.specs.Spelling.{IsSpelling, Spells, last_byte, magnitude, signed_value}
use Rattle.leb_codec.proofs.Values.{s32_fits, signed_within, ten, magnitude_within}
use Rattle.image_emit.specs.Spelled.{IsConstant}
use Rattle.wasm_types.specs.declared.const_expr.ConstExpr.{ConstExpr}
use Rattle.wasm_types.specs.declared.const_expr.ConstExpr.TheVariants as exprs
use Rattle.wasm_types.specs.Types.{SpellsConstExpr}

pub in_s32 : (z : ℤ) (bytes : List ℕ) → Spells signed_value S32 bytes z → IsConstant (exprs.I32 z)
in_s32 z bytes s = subst (λ z. IsConstant (exprs.I32 z)) (sym s.value_is) (let f = s32_fits bytes s.spelled in (omega (arith, ints, f), omega (arith, ints, f)))

few_bytes : (bytes : List ℕ) → IsSpelling S64 bytes → length bytes ≤ 9 → IsConstant (exprs.I64 (signed_value bytes))
few_bytes bytes s few = let b = signed_within 9 bytes s.ends few (omega arith) in (omega (arith, ints, b.0, b.1, b.2), omega (arith, ints, b.0, b.1, b.2))

low_number : (m : ℕ) (t : ℕ) (z : ℤ) → z ≡ pos m → m ≡ t + 0 * 128 ^ 9 → t < 128 ^ 9 → IsConstant (exprs.I64 z)
low_number m t z e k l = subst (λ z. IsConstant (exprs.I64 z)) (sym e) (omega (arith, ints, k, l), omega (arith, ints, k, l))

high_number : (m : ℕ) (t : ℕ) (z : ℤ) → z ≡ pos m -ℤ pos (128 ^ 10) → m ≡ t + 127 * 128 ^ 9 → t < 128 ^ 9 → IsConstant (exprs.I64 z)
high_number m t z e k l = subst (λ z. IsConstant (exprs.I64 z)) (sym e) (omega (arith, ints, k, l), omega (arith, ints, k, l))

many_bytes : (bytes : List ℕ) → IsSpelling S64 bytes → 10 ≤ length bytes → IsConstant (exprs.I64 (signed_value bytes))
many_bytes bytes s many =
    let t = ten bytes s many in
    let front : magnitude (take 9 bytes) < 128 ^ 9 = magnitude_within (take 9 bytes) 9 (omega (arith, length-take 9 bytes)) in
    ⊎_elim
    (λ z. let l : last_byte bytes < 64 = omega (arith, t.3, z) in
    let k : magnitude bytes ≡ magnitude (take 9 bytes) + 0 * 128 ^ 9 = t.1 ∙ ap (λ b. magnitude (take 9 bytes) + b % 128 * 128 ^ 9) z in
    low_number (magnitude bytes) (magnitude (take 9 bytes)) (signed_value bytes) (ap (λ q. cond q (pos (magnitude bytes)) (pos (magnitude bytes) -ℤ pos (128 ^ length bytes))) (lt-ltb (last_byte bytes) 64 l)) k front)
    (λ z. let l : 64 ≤ last_byte bytes = omega (arith, t.3, z) in
    let k : magnitude bytes ≡ magnitude (take 9 bytes) + 127 * 128 ^ 9 = t.1 ∙ ap (λ b. magnitude (take 9 bytes) + b % 128 * 128 ^ 9) z in
    high_number (magnitude bytes) (magnitude (take 9 bytes)) (signed_value bytes) (ap (λ q. cond q (pos (magnitude bytes)) (pos (magnitude bytes) -ℤ pos (128 ^ length bytes))) (le-ltb (last_byte bytes) 64 l) ∙ ap (λ n. pos (magnitude bytes) -ℤ pos (128 ^ n)) t.0) k front)
    t.2

pub in_s64 : (z : ℤ) (bytes : List ℕ) → Spells signed_value S64 bytes z → IsConstant (exprs.I64 z)
in_s64 z bytes s = subst (λ z. IsConstant (exprs.I64 z)) (sym s.value_is) (⊎_elim (λ l. few_bytes bytes s.spelled (omega (arith, l))) (λ l. many_bytes bytes s.spelled l) (cases_lt (length bytes) 10))

pub in_range : (e : ConstExpr) (text : List ℕ) → SpellsConstExpr e text → IsConstant e
in_range (exprs.I32 z) text s = in_s32 z s.3.0 s.3.2
in_range (exprs.I64 z) text s = in_s64 z s.3.0 s.3.2
in_range (exprs.Get index) text s = absurd s
