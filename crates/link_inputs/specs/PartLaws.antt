-- Parts begin one after another.
use Rattle.std.proofs.Common.{◌≡◌, ℕ, ◌/◌, ◌≤◌, min, ap, ◌∙◌, arith}
use Rattle.std.proofs.Math.Nat.{div-add-mod, mod-lt, mul-le-mul_right}
use Rattle.link_inputs.specs.Parts.{items_before, first_of}

before_rises : (count parts p q : ℕ) → p ≤ q → items_before count parts p ≤ items_before count parts q
before_rises count parts p q le = omega (arith, le, mul-le-mul_right {m = p} {n = q} (count / parts) le)

pub first_rises : (count parts p q : ℕ) → p ≤ q → first_of count parts p ≤ first_of count parts q
first_rises count parts p q le = before_rises count parts (min p parts) (min q parts) (omega (arith, le))

-- the first k parts have no more than all items, and all parts have all of them
pub before_low : (count parts k : ℕ) → k ≤ parts → items_before count parts k ≤ count
before_low count parts k le = omega (arith, div-add-mod count parts, mul-le-mul_right {m = k} {n = parts} (count / parts) le)

pub first_low : (count parts k : ℕ) → first_of count parts k ≤ count
first_low count parts k = before_low count parts (min k parts) (omega arith)

pub first_all : (count parts : ℕ) → 1 ≤ parts → first_of count parts parts ≡ count
first_all count parts some =
    let same : min parts parts ≡ parts = omega arith in
    ap (λ (k : ℕ). items_before count parts k) same ∙ omega (arith, some, div-add-mod count parts, mod-lt count some)

pub first_none : (count parts : ℕ) → first_of count parts 0 ≡ 0
first_none count parts = let z : min 0 parts ≡ 0 = omega arith in ap (λ (k : ℕ). items_before count parts k) z ∙ omega arith
