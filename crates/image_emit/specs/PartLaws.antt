-- A later part doesn't begin earlier.
use Rattle.std.proofs.Common.{◌≡◌, ℕ, zero, suc, ◌+◌, ◌-◌, ◌*◌, ◌/◌, ◌<◌, ◌≤◌, ◌==◌, List, [], ◌∷◌, length, take, Bool, true, false, nat_le, nat_lt, min, max, refl, ap, ◌∙◌, arith, rules, length-append}
use Rattle.std.proofs.Math.Nat.{le-div_iff_mul-le, div-mul-le_self, mul-le-mul_left}
use mathlib.Core.Logic.{dite}
use native.Mathlib.Decide.{dec_lt}
use Rattle.std.specs.Prelude.{if◌then◌else◌}
use Rattle.image_emit.specs.Bytes.{Tree, bytes_of}
use Rattle.image_emit.specs.Pieces.{Piece, joined, pieces, front, source_places}
use Rattle.image_emit.specs.Parts.{whole_piece, upto, below, first_piece, part_first, part_start}

pub below_step : (n p : ℕ) (ps : List ℕ) (b : Bool) → nat_lt p n ≡ b → below n (p ∷ ps) ≡ if b then suc (below n ps) else 0
below_step n p ps b is = ap (λ c. if c then suc (below n ps) else 0) is

mono_step : (m n p : ℕ) (ps : List ℕ) (b : Bool) → m ≤ n → nat_lt p m ≡ b → below m ps ≤ below n ps → below m (p ∷ ps) ≤ below n (p ∷ ps)
mono_step m n p ps true le is rest =
    let low : nat_lt p n ≡ true = search rules in
    let e : below m (p ∷ ps) ≡ suc (below m ps) = below_step m p ps true is in
    let f : below n (p ∷ ps) ≡ suc (below n ps) = below_step n p ps true low in
    omega (arith, e, f, rest)
mono_step m n p ps false le is rest = let e : below m (p ∷ ps) ≡ 0 = below_step m p ps false is in omega (arith, e)

pub below_mono : (m n : ℕ) (ps : List ℕ) → m ≤ n → below m ps ≤ below n ps
below_mono m n [] le = omega arith
below_mono m n (p ∷ ps) le = mono_step m n p ps (nat_lt p m) le refl (below_mono m n ps le)

-- The piece at which a part begins

mul_mono : (n a b : ℕ) → a ≤ b → n * a ≤ n * b
mul_mono n a b le = mul-le-mul_left n le

share_rises : (len p q width : ℕ) → 0 < width → p ≤ q → len * p / width ≤ len * q / width
share_rises len p q width some le =
    let m = mul_mono len p q le in
    let d = div-mul-le_self (len * p) width in
    (le-div_iff_mul-le {k = width} {x = len * p / width} {y = len * q} some).1 (omega (arith, m, d))

module _ (ps : List ℕ) (len width : ℕ) where
  inner : (part : ℕ) → part < width → first_piece ps len width part ≡ max part (min (length ps + part - width) (below (len * part / width) ps))
  inner part low = let e : nat_le width part ≡ false = search rules in
      ap (λ c. if c then length ps else max part (min (length ps + part - width) (below (len * part / width) ps))) e

  pub outer : (part : ℕ) → width ≤ part → first_piece ps len width part ≡ length ps
  outer part high = let e : nat_le width part ≡ true = search rules in
      ap (λ c. if c then length ps else max part (min (length ps + part - width) (below (len * part / width) ps))) e

  module _ (some : 1 ≤ width) (few : width ≤ max 1 (length ps)) where
    pub first_most : (part : ℕ) → first_piece ps len width part ≤ length ps
    first_most part = dite (dec_lt part width)
        (λ low. let e = inner part low in omega (arith, e, low, few))
        (λ high. let e = outer part (omega (arith, high)) in omega (arith, e))

    pub first_rises : (p q : ℕ) → p ≤ q → first_piece ps len width p ≤ first_piece ps len width q
    first_rises p q le = dite (dec_lt q width)
        (λ low. let e = inner q low in let f = inner p (omega (arith, low, le)) in
        let b = below_mono (len * p / width) (len * q / width) ps (share_rises len p q width (omega (arith, some)) le) in omega (arith, e, f, b, le))
        (λ high. let e = outer q (omega (arith, high)) in let f = first_most p in omega (arith, e, f))

    pub first_some : (part : ℕ) → 0 < part → part < width → 0 < first_piece ps len width part
    first_some part one low = let e = inner part low in omega (arith, e, one)

    pub first_zero : first_piece ps len width 0 ≡ 0
    first_zero =
        let none : len * 0 / width ≡ 0 = (let m : len * 0 ≡ 0 = omega arith in ap (λ k. k / width) m ∙ no_share) in
        let e = inner 0 (omega (arith, some)) in
        let z = ap (λ k. below k ps) none in
        let b = below_zero ps in
        omega (arith, e, z, b)
      where
        no_share : 0 / width ≡ 0
        no_share = omega arith

        below_zero : (qs : List ℕ) → below 0 qs ≡ 0
        below_zero [] = refl
        below_zero (q ∷ qs) = let e : nat_lt q 0 ≡ false = search rules in below_step 0 q qs false e

    pub last_first : first_piece ps len width width ≡ length ps
    last_first = outer width (omega arith)

-- The bytes up to a piece

pub joined_rises : (ps : List Piece) (i j : ℕ) → i ≤ j → length (joined (take i ps)) ≤ length (joined (take j ps))
joined_rises [] i j le =
    let e = ap (λ ps. length (joined ps)) (nothing i) in
    let f = ap (λ ps. length (joined ps)) (nothing j) in
    omega (arith, e, f)
  where
    nothing : (i : ℕ) → take {A = Piece} i [] ≡ []
    nothing zero = refl
    nothing (suc i) = refl
joined_rises (p ∷ ps) zero j le = omega arith
joined_rises (p ∷ ps) (suc i) zero le = absurd (omega (arith, le))
joined_rises (p ∷ ps) (suc i) (suc j) le =
    omega (arith, joined_rises ps i j (omega (arith, le)), length-append (whole_piece p) (joined (take i ps)), length-append (whole_piece p) (joined (take j ps)))

module _ (t : Tree) where
  pub upto_rises : (i j : ℕ) → i ≤ j → length (upto t i) ≤ length (upto t j)
  unfolding upto
  upto_rises i j le = omega (arith, joined_rises (pieces t) i j le, length-append (front t) (joined (take i (pieces t))), length-append (front t) (joined (take j (pieces t))))

  module _ (width : ℕ) (some : 1 ≤ width) (few : width ≤ max 1 (length (source_places t))) where
    pub part_first_rises : (p q : ℕ) → p ≤ q → part_first t width p ≤ part_first t width q
    unfolding part_first
    part_first_rises p q le = first_rises (source_places t) (length (bytes_of t)) width some few p q le

    pub start_zero : part_start t width 0 ≡ 0
    unfolding part_start
    start_zero = refl

    pub start_is : (part : ℕ) → 0 < part → part_start t width part ≡ length (upto t (part_first t width part))
    unfolding part_start
    start_is zero above = absurd (omega (arith, above))
    start_is (suc k) above = let e : (suc k == 0) ≡ false = search rules in
        ap (λ c. if c then 0 else length (upto t (part_first t width (suc k)))) e

    pub start_rises : (p q : ℕ) → p ≤ q → part_start t width p ≤ part_start t width q
    start_rises zero q le = omega (arith, start_zero)
    start_rises (suc p) zero le = absurd (omega (arith, le))
    start_rises (suc p) (suc q) le =
        let e = start_is (suc p) (omega arith) in
        let f = start_is (suc q) (omega arith) in
        let r = part_first_rises (suc p) (suc q) le in
        omega (arith, e, f, upto_rises (part_first t width (suc p)) (part_first t width (suc q)) r)

pub emitter_rises : (t : Tree) (ps : List ℕ) (width : ℕ) → ps ≡ source_places t → (1 ≤ width) × (width ≤ max 1 (length ps)) → (p q : ℕ) → p ≤ q → part_start t width p ≤ part_start t width q
emitter_rises t ps width is parts p q le = start_rises t width parts.0 (let e = ap (λ (zs : List ℕ). length zs) is in omega (arith, parts.1, e)) p q le
