-- Candidates by number, files in three parts, and the numbers of inputs outside a run where one input stands for it.
use Rattle.std.proofs.Common.{◌≡◌, ◌⊎◌, ℕ, zero, suc, ◌+◌, ◌-◌, ◌<◌, ◌≤◌, Bool, true, false, ◌==◌, List, [], ◌∷◌, ◌++◌, length, inl, inr, refl, sym, ap, subst, ◌∙◌, arith}
use Rattle.std.specs.Prelude.{if◌then◌else◌, nat_le, slice_index_or}
use Rattle.std.proofs.lemmas.Bool.{eq-eqb, eqb-true}
use Rattle.std.proofs.lemmas.Bool.Decides.{nat_tests}
use Rattle.list_places.specs.Has.{Has}
use Rattle.round_rules.specs.Rounds.{Candidate}
use Rattle.partial_laws.specs.Inputs.{Run, later}
use Rattle.partial_loading_laws.specs.Numbered.{AreNumbered}
use Rattle.partial_loading_laws.proofs.Names.{both_ways}

-- ---- numbers

pub numbered_cut : (n : ℕ) (cs ds : List Candidate) → AreNumbered n (cs ++ ds) → AreNumbered n cs × AreNumbered (n + length cs) ds
numbered_cut n [] ds a = let z : n ≡ n + 0 = omega arith in (tt, subst (λ m. AreNumbered m ds) z a)
numbered_cut n (c ∷ cs) ds a =
    let r = numbered_cut (n + 1) cs ds a.1 in
    let z : n + 1 + length cs ≡ n + suc (length cs) = omega arith in
    ((a.0, r.0), subst (λ m. AreNumbered m ds) z r.1)

pub numbered_in : (n : ℕ) (cs : List Candidate) → AreNumbered n cs → (c : Candidate) → Has cs c → (n < c.input) × (c.input ≤ n + length cs)
numbered_in n [] a c has = absurd has
numbered_in n (d ∷ cs) a c (inl is) = let e : c.input ≡ n + 1 = ap (λ (x : Candidate). x.input) (sym is) ∙ a.0 in (omega (arith, e), omega (arith, e))
numbered_in n (d ∷ cs) a c (inr has) = let r = numbered_in (n + 1) cs a.1 c has in (omega (arith, r.0), omega (arith, r.1))

-- ---- files in three parts

pub file_in_left : (fs gs : List (List ℕ)) (k : ℕ) → k < length fs → slice_index_or (fs ++ gs) k [] ≡ slice_index_or fs k []
file_in_left [] gs k low = absurd (omega (arith, low))
file_in_left (f ∷ fs) gs zero low = refl
file_in_left (f ∷ fs) gs (suc k) low = file_in_left fs gs k (omega (arith, low))

pub file_in_right : (fs gs : List (List ℕ)) (k : ℕ) → slice_index_or (fs ++ gs) (length fs + k) [] ≡ slice_index_or gs k []
file_in_right [] gs k = let z : 0 + k ≡ k = omega arith in ap (λ m. slice_index_or gs m []) z
file_in_right (f ∷ fs) gs k = let z : suc (length fs) + k ≡ suc (length fs + k) = omega arith in ap (λ m. slice_index_or (f ∷ fs ++ gs) m []) z ∙ file_in_right fs gs k

-- ---- moved numbers

module _ (run : Run) where
  -- numbers outside the run
  abbrev pub IsOutside : ℕ → Type 0
  IsOutside n = (n ≤ run.first) ⊎ (run.first + run.many < n)

  abbrev pub moved_number : ℕ → ℕ
  moved_number n = if nat_le n run.first then n else later run n

  pub low_stays : (n : ℕ) → n ≤ run.first → moved_number n ≡ n
  low_stays n low = let t : nat_le n run.first ≡ true = grind (arith, nat_tests, low) in ap (λ (b : Bool). if b then n else later run n) t

  pub high_moves : (n : ℕ) → run.first + run.many < n → moved_number n ≡ later run n
  high_moves n high = let t : nat_le n run.first ≡ false = grind (arith, nat_tests, high) in ap (λ (b : Bool). if b then n else later run n) t

  eqb_alike : (a b x y : ℕ) → (a ≡ b → x ≡ y) → (x ≡ y → a ≡ b) → (a == b) ≡ (x == y)
  eqb_alike a b x y there back = both_ways (a == b) (x == y) (λ e. eq-eqb x y (there (eqb-true a b e))) (λ e. eq-eqb a b (back (eqb-true x y e)))

  pub numbers_tell : 0 < run.many → (m n : ℕ) → IsOutside m → IsOutside n → (moved_number m == moved_number n) ≡ (m == n)
  numbers_tell some m n (inl a) (inl b) =
      let p = low_stays m a in let q = low_stays n b in
      eqb_alike (moved_number m) (moved_number n) m n (λ e. sym p ∙ (e ∙ q)) (λ e. p ∙ (e ∙ sym q))
  numbers_tell some m n (inl a) (inr b) =
      let p = low_stays m a in let q = high_moves n b in
      eqb_alike (moved_number m) (moved_number n) m n (λ e. let f : m ≡ n + 1 - run.many = sym p ∙ (e ∙ q) in absurd (omega (arith, a, b, f))) (λ e. absurd (omega (arith, a, b, e)))
  numbers_tell some m n (inr a) (inl b) =
      let p = high_moves m a in let q = low_stays n b in
      eqb_alike (moved_number m) (moved_number n) m n (λ e. let f : m + 1 - run.many ≡ n = sym p ∙ (e ∙ q) in absurd (omega (arith, a, b, f))) (λ e. absurd (omega (arith, a, b, e)))
  numbers_tell some m n (inr a) (inr b) =
      let p = high_moves m a in let q = high_moves n b in
      eqb_alike (moved_number m) (moved_number n) m n (λ e. let f : m + 1 - run.many ≡ n + 1 - run.many = sym p ∙ (e ∙ q) in omega (arith, a, b, f)) (λ e. ap moved_number e)
