-- That the two parts of a rotated number fit beside one another.
use Rattle.std.proofs.Common.{◌≡◌, ℕ, suc, ◌+◌, ◌-◌, ◌*◌, ◌/◌, ◌%◌, ◌<◌, ◌≤◌, ◌^◌, refl, sym, ap, ◌∙◌, subst, arith}
use Rattle.std.proofs.Math.Nat.{div-add-mod', div-lt_iff_lt-mul, mod-lt, mod-eq_of_lt, mod-le, mul-le-mul_right, add-mul-mod_self_right, add-mul, mul_assoc, mul_comm}
use Rattle.std.proofs.lemmas.Nat.{pow-add, pow_pos}
use Rattle.wasm_types.specs.declared.value.ValType.{ValType}
use Rattle.wasm_types.specs.declared.value.ValType.TheVariants as types
use Rattle.run_rules.specs.Numbers.{bits}

turned : (p q a : ℕ) → 0 < p → 0 < q → a < p * q → (a * p) % (p * q) + a / q < p * q
turned p q a hp hq h =
    let k = a / q in
    let r = a % q in
    let e : k * q + r ≡ a = div-add-mod' a q in
    let low : k < p = (div-lt_iff_lt-mul hq).1 h in
    let under : r < q = mod-lt a hq in
    let split : a * p ≡ r * p + k * (p * q) =
    ap (λ x. x * p) (sym e) ∙ add-mul (k * q) r p ∙ ap (λ x. x + r * p) (mul_assoc k q p ∙ ap (λ x. k * x) (mul_comm q p)) ∙ omega arith in
    let rest : (a * p) % (p * q) ≡ (r * p) % (p * q) = ap (λ x. x % (p * q)) split ∙ add-mul-mod_self_right (r * p) k (p * q) in
    let small : (r * p) % (p * q) ≤ r * p = mod-le (r * p) (p * q) in
    let one_more : (r + 1) * p ≤ q * p = mul-le-mul_right p (omega arith) in
    let grown : (r + 1) * p ≡ r * p + p = add-mul r 1 p ∙ omega arith in
    let swapped : q * p ≡ p * q = mul_comm q p in
    omega (arith, rest, small, one_more, grown, swapped, low)

pub rotated : (w s a : ℕ) → s ≤ w → a < 2 ^ w → (a * 2 ^ s) % 2 ^ w + a / 2 ^ (w - s) < 2 ^ w
rotated w s a le h =
    let e : s + (w - s) ≡ w = omega arith in
    let whole : 2 ^ s * 2 ^ (w - s) ≡ 2 ^ w = sym (pow-add 2 s (w - s)) ∙ ap (λ x. 2 ^ x) e in
    subst (λ m. (a * 2 ^ s) % m + a / 2 ^ (w - s) < m) whole
    (turned (2 ^ s) (2 ^ (w - s)) a (pow_pos s) (pow_pos (w - s)) (subst (λ m. a < m) (sym whole) h))

pub rotated_right : (w by a : ℕ) → 0 < by → by < w → a < 2 ^ w → a / 2 ^ by + (a * 2 ^ ((w - by) % w)) % 2 ^ w < 2 ^ w
rotated_right w by a some low h =
    let small : (w - by) % w ≡ w - by = mod-eq_of_lt (omega arith) in
    let back : w - (w - by) ≡ by = omega arith in
    let r : (a * 2 ^ (w - by)) % 2 ^ w + a / 2 ^ (w - (w - by)) < 2 ^ w = rotated w (w - by) a (omega arith) h in
    let r2 : (a * 2 ^ (w - by)) % 2 ^ w + a / 2 ^ by < 2 ^ w = subst (λ x. (a * 2 ^ (w - by)) % 2 ^ w + a / 2 ^ x < 2 ^ w) back r in
    let r3 : (a * 2 ^ ((w - by) % w)) % 2 ^ w + a / 2 ^ by < 2 ^ w = subst (λ x. (a * 2 ^ x) % 2 ^ w + a / 2 ^ by < 2 ^ w) (sym small) r2 in
    omega (arith, r3)

pub turns_within : (t : ValType) (b : ℕ) → b % bits t < bits t
turns_within types.I32 b = omega arith
turns_within types.I64 b = omega arith
turns_within types.F32 b = omega arith
turns_within types.F64 b = omega arith

pub small_64 : (t : ValType) (n : ℕ) → n < 2 ^ bits t → n < 2 ^ 64
small_64 types.I32 n h = omega arith
small_64 types.I64 n h = h
small_64 types.F32 n h = omega arith
small_64 types.F64 n h = h
