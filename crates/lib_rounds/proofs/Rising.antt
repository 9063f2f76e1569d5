-- Lists whose numbers rise.
use Rattle.std.proofs.Common.{◌≡◌, ℕ, suc, ◌+◌, ◌-◌, ◌<◌, List, [], ◌∷◌, Some, refl, sym, ap, subst, ◌∙◌, arith, inl, inr}
use Rattle.std.specs.Prelude.{Contains, map, slice_get}
use Rattle.std.proofs.lemmas.List.Elements.{All-contains}
use Rattle.std.proofs.lemmas.List.Kept.{AllPairs-cons}
use Rattle.std.proofs.lemmas.Option.{slice_get-get_or, slice_get_within, get_or_from_slice_get}
use Rattle.round_rules.specs.Rounds.{Candidate}
use Rattle.round_rules.specs.RoundLaws.{inputs_in, Rise}
use Rattle.lib_rounds.proofs.Kept.{contains_head, contains_tail, contains_none, contains_cases, all_from, contains_map, was_mapped, pairs_none, pairs_first, pairs_later}

-- ---- two rising lists of the same elements

module _ {X : Type 0} (f : X → ℕ) where
  pub below : (x : X) (xs : List X) → Rise (map f (x ∷ xs)) → (y : X) → Contains xs y → f x < f y
  below x xs rise y h = All-contains (λ (b : ℕ). f x < b) (map f xs) (f y) (pairs_first (λ (a b : ℕ). a < b) (f x) (map f xs) rise)
      (contains_map f xs y h)

  later_in : (x : X) (xs ys : List X) → Rise (map f (x ∷ xs)) → ((z : X) → Contains (x ∷ xs) z → Contains (x ∷ ys) z) → (z : X) → Contains xs z
      → Contains ys z
  later_in x xs ys rise h z m = elim (contains_cases x ys z (h z (contains_tail x xs z m))) [
    | inl same ↦ let lt = below x xs rise z m in let e : f x ≡ f z = ap f same in absurd (omega (arith, lt, e))
    | inr later ↦ later
  ]

  same_head : (x y : X) (xs ys : List X) → Rise (map f (x ∷ xs)) → Rise (map f (y ∷ ys)) → Contains (y ∷ ys) x → Contains (x ∷ xs) y → x ≡ y
  same_head x y xs ys up also h k = elim (contains_cases y ys x h) [
    | inl same ↦ sym same
    | inr later ↦ elim (contains_cases x xs y k) [
      | inl same ↦ same
      | inr too ↦ let a = below y ys also x later in let b = below x xs up y too in absurd (omega (arith, a, b))
    ]
  ]

  pub rising_same : (xs ys : List X) → Rise (map f xs) → Rise (map f ys) → ((z : X) → Contains xs z → Contains ys z)
      → ((z : X) → Contains ys z → Contains xs z) → xs ≡ ys
  rising_same [] [] up also h k = refl
  rising_same [] (y ∷ ys) up also h k = absurd (contains_none y (k y (contains_head y ys)))
  rising_same (x ∷ xs) [] up also h k = absurd (contains_none x (h x (contains_head x xs)))
  rising_same (x ∷ xs) (y ∷ ys) up also h k =
      let same = same_head x y xs ys up also (h x (contains_head x xs)) (k y (contains_head y ys)) in
      let there : (z : X) → Contains (x ∷ xs) z → Contains (x ∷ ys) z = λ z m. subst (λ (w : X). Contains (w ∷ ys) z) (sym same) (h z m) in
      let back : (z : X) → Contains (y ∷ ys) z → Contains (y ∷ xs) z = λ z m. subst (λ (w : X). Contains (w ∷ xs) z) same (k z m) in
      let rest = rising_same xs ys (pairs_later (λ (a b : ℕ). a < b) (f x) (map f xs) up) (pairs_later (λ (a b : ℕ). a < b) (f y) (map f ys) also)
      (later_in x xs ys up there) (later_in y ys xs also back) in
      ap (λ (w : X). w ∷ xs) same ∙ ap (λ (ws : List X). y ∷ ws) rest

-- ---- places

pub place_of : {X : Type 0} (xs : List X) (x : X) → Contains xs x → (i : ℕ) × (slice_get xs i ≡ Some x)
place_of xs x h = (h.0, slice_get-get_or xs h.0 x h.1 ∙ ap Some h.2)

pub at_place : {X : Type 0} (xs : List X) (i : ℕ) (x : X) → slice_get xs i ≡ Some x → Contains xs x
at_place xs i x e = (i, slice_get_within xs i x e, get_or_from_slice_get xs i x x e)

-- ---- candidates that are numbered from 1

module _ (all : List Candidate) (numbered : (i : ℕ) (c : Candidate) → slice_get all i ≡ Some c → c.input ≡ i + 1) where
  -- each stands at the place that its number tells
  pub stands : (c : Candidate) → Contains all c → slice_get all (c.input - 1) ≡ Some c
  stands c h =
      let p = place_of all c h in
      let n = numbered p.0 c p.1 in
      subst (λ (i : ℕ). slice_get all i ≡ Some c) (omega (arith, n)) p.1

rise_from : (start : ℕ) (cs : List Candidate) → ((i : ℕ) (c : Candidate) → slice_get cs i ≡ Some c → c.input ≡ start + i) → Rise (inputs_in cs)
rise_from start [] h = pairs_none (λ (a b : ℕ). a < b)
rise_from start (c ∷ cs) h =
    let first = h 0 c refl in
    let later : (i : ℕ) (d : Candidate) → slice_get cs i ≡ Some d → d.input ≡ suc start + i = λ i d e. let n = h (suc i) d e in omega (arith, n) in
    let others = rise_from (suc start) cs later in
    let above = all_from (λ (b : ℕ). c.input < b) (inputs_in cs) (λ b m.
    let r = was_mapped (λ (d : Candidate). d.input) cs b m in
    let p = place_of cs r.0 r.1 in
    let n = later p.0 r.0 p.1 in
    let same = r.2 in
    omega (arith, first, n, same)) in
    AllPairs-cons (λ (a b : ℕ). a < b) c.input (inputs_in cs) above others

-- so their numbers rise
pub numbers_rise : (all : List Candidate) → ((i : ℕ) (c : Candidate) → slice_get all i ≡ Some c → c.input ≡ i + 1) → Rise (inputs_in all)
numbers_rise all numbered = rise_from 1 all (λ i c e. let n = numbered i c e in omega (arith, n))
