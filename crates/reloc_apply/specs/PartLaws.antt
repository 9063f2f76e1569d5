-- Parts begin one after another.
use Rattle.std.proofs.Common.{◌≡◌, ℕ, zero, suc, ◌+◌, ◌/◌, ◌≤◌, min, List, [], ◌∷◌, arith, length, drop, cond, Bool, ap, ne_eqb}
use Rattle.std.proofs.Math.Nat.{mul-le-mul_right}
use Rattle.std.proofs.Props.{props}
use Rattle.reloc_apply.specs.declared.window.Patch.{Patch}
use Rattle.reloc_apply.specs.Apart.{AreApart, size_of}
use Rattle.reloc_apply.specs.Parts.{begins, place_or, first_of, windows_before}

pub apart_prop : (at end : ℕ) (ps : List Patch) → IsProp (AreApart at end ps)
apart_prop at end [] = Prim.hlevel props
apart_prop at end (p ∷ ps) = let rest = apart_prop (p.place + size_of p.form) end ps in Prim.hlevel (props, rest)

pub place_low : (at end : ℕ) (ps : List Patch) (i : ℕ) → AreApart at end ps → at ≤ place_or end (drop i ps)
place_low at end [] zero apart = apart
place_low at end [] (suc i) apart = apart
place_low at end (p ∷ ps) zero apart = apart.0
place_low at end (p ∷ ps) (suc i) apart = omega (arith, apart.0, place_low (p.place + size_of p.form) end ps i apart.1)

pub place_rises : (at end : ℕ) (ps : List Patch) (i j : ℕ) → AreApart at end ps → i ≤ j → place_or end (drop i ps) ≤ place_or end (drop j ps)
place_rises at end [] zero zero apart le = omega arith
place_rises at end [] zero (suc j) apart le = omega arith
place_rises at end [] (suc i) zero apart le = omega arith
place_rises at end [] (suc i) (suc j) apart le = omega arith
place_rises at end (p ∷ ps) zero j apart le = place_low p.place end (p ∷ ps) j (omega arith, apart.1)
place_rises at end (p ∷ ps) (suc i) zero apart le = absurd (omega arith)
place_rises at end (p ∷ ps) (suc i) (suc j) apart le = place_rises (p.place + size_of p.form) end ps i j apart.1 (omega (arith, le))

before_rises : (count parts p q : ℕ) → p ≤ q → windows_before count parts p ≤ windows_before count parts q
before_rises count parts p q le = omega (arith, le, mul-le-mul_right {m = p} {n = q} (count / parts) le)

pub first_rises : (count parts p q : ℕ) → p ≤ q → first_of count parts p ≤ first_of count parts q
first_rises count parts p q le = before_rises count parts (min p parts) (min q parts) (omega (arith, le))

-- a part that isn't the first begins at a window or the end
pub begins_later : (ps : List Patch) (end parts part : ℕ) → 1 ≤ part → begins ps end parts part ≡ place_or end (drop (first_of (length ps) parts part) ps)
begins_later ps end parts part some = ap (λ (b : Bool). cond b 0 (place_or end (drop (first_of (length ps) parts part) ps))) (ne_eqb part 0 (λ e. omega (arith, some, e)))

pub begins_rises : (ps : List Patch) (end parts p q : ℕ) → AreApart 0 end ps → p ≤ q → begins ps end parts p ≤ begins ps end parts q
begins_rises ps end parts zero q apart le = omega arith
begins_rises ps end parts (suc p) q apart le =
    let some : 1 ≤ suc p = omega arith in
    let some' : 1 ≤ q = omega (arith, le) in
    let rises = place_rises 0 end ps (first_of (length ps) parts (suc p)) (first_of (length ps) parts q) apart (first_rises (length ps) parts (suc p) q le) in
    omega (arith, begins_later ps end parts (suc p) some, begins_later ps end parts q some', rises)
