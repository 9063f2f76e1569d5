-- A later run doesn't begin earlier.
use Rattle.std.proofs.Common.{◌≡◌, ℕ, zero, suc, ◌+◌, ◌*◌, ◌/◌, ◌<◌, ◌≤◌, List, [], ◌∷◌, length, take, Bool, true, false, nat_le, nat_lt, refl, ap, ◌∙◌, arith, rules}
use Rattle.std.proofs.Math.Nat.{mul-le-mul_left}
use Rattle.std.proofs.lemmas.List.Sums.{sum_by-drop_more}
use mathlib.Core.Logic.{dite}
use native.Mathlib.Decide.{dec_lt}
use Rattle.std.specs.Prelude.{if◌then◌else◌}
use Rattle.image_emit.specs.Parts.{below}
use Rattle.image_emit.specs.PartLaws.{below_step, below_mono}
use Rattle.partial_bytes.specs.declared.pieces.Piece.{Piece}
use Rattle.partial_bytes.specs.Pieces.{piece_len, pieces_len, starts_from, run_first, run_start}

cons_len : (q : Piece) (qs : List Piece) → pieces_len (q ∷ qs) ≡ piece_len q + pieces_len qs
cons_len q qs = sum_by-drop_more piece_len (q ∷ qs) 0 q (omega arith)

nothing : (i : ℕ) → take {A = Piece} i [] ≡ []
nothing zero = refl
nothing (suc i) = refl

-- more pieces have no fewer bytes
pub len_rises : (qs : List Piece) (i j : ℕ) → i ≤ j → pieces_len (take i qs) ≤ pieces_len (take j qs)
len_rises [] i j le = omega (arith, ap pieces_len (nothing i), ap pieces_len (nothing j))
len_rises (q ∷ qs) zero j le = omega arith
len_rises (q ∷ qs) (suc i) zero le = absurd (omega (arith, le))
len_rises (q ∷ qs) (suc i) (suc j) le = omega (arith, len_rises qs i j (omega (arith, le)), cons_len q (take i qs), cons_len q (take j qs))

most_step : (n p : ℕ) (ps : List ℕ) (b : Bool) → nat_lt p n ≡ b → below n ps ≤ length ps → below n (p ∷ ps) ≤ length (p ∷ ps)
most_step n p ps true is rest = omega (arith, below_step n p ps true is, rest)
most_step n p ps false is rest = omega (arith, below_step n p ps false is)

most_below : (n : ℕ) (ps : List ℕ) → below n ps ≤ length ps
most_below n [] = omega arith
most_below n (p ∷ ps) = most_step n p ps (nat_lt p n) refl (most_below n ps)

module _ (starts : List ℕ) (len width : ℕ) where
  pub inner : (run : ℕ) → run < width → run_first starts len width run ≡ below (len / width * run) starts
  inner run low = let e : nat_le width run ≡ false = search rules in
      ap (λ c. if c then length starts else below (len / width * run) starts) e

  pub outer : (run : ℕ) → width ≤ run → run_first starts len width run ≡ length starts
  outer run high = let e : nat_le width run ≡ true = search rules in
      ap (λ c. if c then length starts else below (len / width * run) starts) e

  pub first_most : (run : ℕ) → run_first starts len width run ≤ length starts
  first_most run = dite (dec_lt run width)
      (λ low. omega (arith, inner run low, most_below (len / width * run) starts))
      (λ high. omega (arith, outer run (omega (arith, high))))

  pub first_rises : (p q : ℕ) → p ≤ q → run_first starts len width p ≤ run_first starts len width q
  first_rises p q le = dite (dec_lt q width)
      (λ low. omega (arith, inner q low, inner p (omega (arith, low, le)), below_mono (len / width * p) (len / width * q) starts (mul-le-mul_left (len / width) le)))
      (λ high. omega (arith, outer q (omega (arith, high)), first_most p))

  pub first_zero : 1 ≤ width → run_first starts len width 0 ≡ 0
  first_zero some =
      let none : len / width * 0 ≡ 0 = omega arith in
      inner 0 (omega (arith, some)) ∙ (ap (λ k. below k starts) none ∙ below_zero starts)
    where
      below_zero : (ps : List ℕ) → below 0 ps ≡ 0
      below_zero [] = refl
      below_zero (p ∷ ps) = let e : nat_lt p 0 ≡ false = search rules in below_step 0 p ps false e

pub starts_rise : (qs : List Piece) (width p q : ℕ) → p ≤ q → run_start qs width p ≤ run_start qs width q
starts_rise qs width p q le =
    len_rises qs (run_first (starts_from 0 qs) (pieces_len qs) width p) (run_first (starts_from 0 qs) (pieces_len qs) width q) (first_rises (starts_from 0 qs) (pieces_len qs) width p q le)
