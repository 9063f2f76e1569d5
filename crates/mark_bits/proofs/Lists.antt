-- Counts in lists, bits of words, and sums over parties.
use Rattle.std.proofs.Common.{◌≡◌, ◌≢◌, ℕ, zero, suc, ◌+◌, ◌/◌, ◌%◌, ◌^◌, ◌<◌, ◌≤◌, max, Bool, cond, eqb, List, [], ◌∷◌, ◌++◌, length, set, get_or, refl, sym, ap, ◌∙◌, subst, ⊎_elim, arith, eq-eqb, ne_eqb, get_or-set_same, get_or-set_other}
use Rattle.std.specs.Int.Bits.{bit_or}
use Rattle.std.specs.Int.{bit_at}
use Rattle.std.proofs.lemmas.Nat.Bits.{bit_at_or, bit_at-pow_same, bit_at-pow_other}
use mathlib.Core.Logic.{dite}
use mathlib.Core.Option.{some, some-ne-none, some-injective}
use native.Mathlib.Decide.{ℕ_discrete}
use lib.ListN.{get_elem?}
use Rattle.atomic_table.proofs.Lists.{at_set, at_snoc}
use Rattle.mark_bits.specs.declared.party.Party.{Party}
use Rattle.mark_bits.specs.Words.{times, bit_of, set_bit}
use Rattle.mark_bits.specs.Marks.{spent}
use Rattle.mark_bits.specs.Kept.{total}

pub times_append : (x : ℕ) (xs ys : List ℕ) → times x (xs ++ ys) ≡ times x xs + times x ys
times_append x [] ys = omega arith
times_append x (y ∷ xs) ys = let h = times_append x xs ys in omega arith

pub one_here : (x : ℕ) → times x (x ∷ []) ≡ 1
one_here x = let e : cond {A = ℕ} (eqb x x) 1 0 ≡ 1 = ap (λ (b : Bool). cond {A = ℕ} b 1 0) (eq-eqb x x refl) in omega arith

pub none_here : (x y : ℕ) → y ≢ x → times x (y ∷ []) ≡ 0
none_here x y ne = let e : cond {A = ℕ} (eqb y x) 1 0 ≡ 0 = ap (λ (b : Bool). cond {A = ℕ} b 1 0) (ne_eqb y x ne) in omega arith

pub bit_low : (words : List ℕ) (c : ℕ) → bit_of words c ≤ 1
bit_low words c = let n : ℕ = get_or words (c / 64) 0 in let i : ℕ = c % 64 in let h : bit_at n i ≤ 1 = omega arith in h

module _ (words : List ℕ) (c : ℕ) (inside : c / 64 < length words) where
  pub bit_here : bit_of (set_bit words c) c ≡ 1
  bit_here = let n : ℕ = get_or words (c / 64) 0 in
      ap (λ (m : ℕ). bit_at m (c % 64)) (get_or-set_same words (c / 64) (bit_or n (2 ^ (c % 64))) 0 inside)
      ∙ (bit_at_or n (2 ^ (c % 64)) (c % 64) ∙ (let a : bit_at n (c % 64) ≤ 1 = omega arith in let b = bit_at-pow_same (c % 64) in omega arith))

  pub bit_else : (x : ℕ) → x ≢ c → bit_of (set_bit words c) x ≡ bit_of words x
  bit_else x ne = let n : ℕ = get_or words (c / 64) 0 in dite (ℕ_discrete (x / 64) (c / 64))
      (λ e. let apart : x % 64 ≢ c % 64 = λ (q : x % 64 ≡ c % 64). ne (omega arith) in
      ap (λ (j : ℕ). bit_at (get_or (set_bit words c) j 0) (x % 64)) e
      ∙ (ap (λ (m : ℕ). bit_at m (x % 64)) (get_or-set_same words (c / 64) (bit_or n (2 ^ (c % 64))) 0 inside)
      ∙ (bit_at_or n (2 ^ (c % 64)) (x % 64)
      ∙ ((let b = bit_at-pow_other (c % 64) (x % 64) apart in let a : max (bit_at n (x % 64)) (bit_at (2 ^ (c % 64)) (x % 64)) ≡ bit_at n (x % 64) = omega arith in a)
      ∙ ap (λ (j : ℕ). bit_at (get_or words j 0) (x % 64)) (sym e)))))
      (λ far. ap (λ (m : ℕ). bit_at m (x % 64)) (get_or-set_other words (c / 64) (x / 64) (bit_or n (2 ^ (c % 64))) 0 far))

  -- a bit is set where it was or where it is the chunk's
  pub bit_step : (x : ℕ) → bit_of (set_bit words c) x ≡ max (bit_of words x) (times x (c ∷ []))
  bit_step x = let low = bit_low words x in dite (ℕ_discrete x c)
      (λ e. let b : bit_of (set_bit words c) x ≡ 1 = ap (bit_of (set_bit words c)) e ∙ bit_here in let t : times x (c ∷ []) ≡ 1 = subst (λ (y : ℕ). times y (c ∷ []) ≡ 1) (sym e) (one_here c) in omega arith)
      (λ ne. let b = bit_else x ne in let t = none_here x c (λ q. ne (sym q)) in omega arith)

module _ (f : Party → ℕ) where
  pub total_set : (vs : List Party) (p : ℕ) (v w : Party) → get_elem? vs p ≡ some v → total f (set vs p w) + f v ≡ total f vs + f w
  total_set [] p v w e = absurd (some-ne-none v (sym e))
  total_set (x ∷ xs) zero v w e = let same : f x ≡ f v = ap f (some-injective x v e) in omega arith
  total_set (x ∷ xs) (suc p) v w e = let h = total_set xs p v w e in omega arith

  pub total_snoc : (vs : List Party) (w : Party) → total f (vs ++ w ∷ []) ≡ total f vs + f w
  total_snoc [] w = omega arith
  total_snoc (x ∷ xs) w = let h = total_snoc xs w in omega arith

  pub total_le : (vs : List Party) (p : ℕ) (v : Party) → get_elem? vs p ≡ some v → f v ≤ total f vs
  total_le [] p v e = absurd (some-ne-none v (sym e))
  total_le (x ∷ xs) zero v e = let same : f x ≡ f v = ap f (some-injective x v e) in omega arith
  total_le (x ∷ xs) (suc p) v e = let h = total_le xs p v e in omega arith

  pub total_none : (vs : List Party) → ((q : ℕ) (u : Party) → get_elem? vs q ≡ some u → f u ≡ 0) → total f vs ≡ 0
  total_none [] h = refl
  total_none (x ∷ xs) h = let a = h 0 x refl in let b = total_none xs (λ q u e. h (suc q) u e) in omega arith

-- a fact of each party, after one has changed, and after one has come
pub each_set : (P : Party → Type 0) (vs : List Party) (p : ℕ) (w : Party) → ((q : ℕ) (u : Party) → get_elem? vs q ≡ some u → P u) → P w → (q : ℕ) (u : Party) → get_elem? (set vs p w) q ≡ some u → P u
each_set P vs p w all mine q u e = ⊎_elim (λ (t : (q ≡ p) × (w ≡ u)). subst P t.1 mine) (λ (t : (q ≢ p) × (get_elem? vs q ≡ some u)). all q u t.1) (at_set vs p q w u e)

pub each_snoc : (P : Party → Type 0) (vs : List Party) (w : Party) → ((q : ℕ) (u : Party) → get_elem? vs q ≡ some u → P u) → P w → (q : ℕ) (u : Party) → get_elem? (vs ++ w ∷ []) q ≡ some u → P u
each_snoc P vs w all mine q u e = ⊎_elim (all q u) (λ (t : w ≡ u). subst P t mine) (at_snoc vs w u q e)

-- where one party has the whole, the others have nothing
pub alone : (f : Party → ℕ) (vs : List Party) (p : ℕ) (v : Party) → get_elem? vs p ≡ some v → f spent ≡ 0 → total f vs ≡ f v → (q : ℕ) (u : Party) → get_elem? (set vs p spent) q ≡ some u → f u ≡ 0
alone f vs p v at none whole q u e = let s = total_set f vs p v spent at in let l = total_le f (set vs p spent) q u e in omega arith
