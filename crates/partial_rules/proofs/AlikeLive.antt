-- What is live in two programs that are one but for places: counterparts are reached alike.
use Rattle.std.proofs.Common.{◌≡◌, ◌⊎◌, inl, inr, ℕ, zero, suc, ◌+◌, ◌<◌, ◌==◌, Bool, true, false, cond, nat_lt, List, [], ◌∷◌, length, map, refl, sym, ap, subst, ◌∙◌, arith}
use Rattle.std.specs.Prelude.{Option, Some, None, option_map, filter_map, position, slice_index_or}
use Rattle.std.specs.List.{position_or_len, cons_option}
use Rattle.std.proofs.lemmas.Bool.Decides.{nat_tests}
use Rattle.mark_bits.specs.Words.{times, Among}
use Rattle.mark_bits.specs.Reach.{IsWalk, Reached}
use Rattle.partial_rules.specs.Alike.{At, In}

-- ---- what stands where

pub at_map : {A B : Type 0} (f : A → B) (xs : List A) (i : ℕ) (x : A) → At xs i x → At (map f xs) i (f x)
at_map f [] i x at = absurd at
at_map f (y ∷ ys) zero x at = ap f at
at_map f (y ∷ ys) (suc i) x at = at_map f ys i x at

pub of_map : {A B : Type 0} (f : A → B) (xs : List A) (i : ℕ) (z : B) → At (map f xs) i z → (x : A) × At xs i x × (f x ≡ z)
of_map f [] i z at = absurd at
of_map f (y ∷ ys) zero z at = (y, refl, at)
of_map f (y ∷ ys) (suc i) z at = of_map f ys i z at

pub at_once : {A : Type 0} (xs : List A) (i : ℕ) (x y : A) → At xs i x → At xs i y → x ≡ y
at_once [] i x y a b = absurd a
at_once (z ∷ zs) zero x y a b = sym a ∙ b
at_once (z ∷ zs) (suc i) x y a b = at_once zs i x y a b

pub row_at : {A B : Type 0} (f : A → B) (xs : List A) (i : ℕ) (x : A) (d : B) → At xs i x → slice_index_or (map f xs) i d ≡ f x
row_at f [] i x d at = absurd at
row_at f (y ∷ ys) zero x d at = ap f at
row_at f (y ∷ ys) (suc i) x d at = row_at f ys i x d at

next_place : {A : Type 0} (p : A → Bool) (x : A) (xs : List A) → p x ≡ false → position p (x ∷ xs) ≡ option_map suc (position p xs)
next_place p x xs e = rw e (shift (position_or_len p xs) (length xs))
  where
    shift : (a n : ℕ) → cond (nat_lt (1 + a) (suc n)) (Some (1 + a)) None ≡ option_map suc (cond (nat_lt a n) (Some a) None)
    shift a n = grind (arith, nat_tests)

first_place : {A : Type 0} (p : A → Bool) (x : A) (xs : List A) → p x ≡ true → position p (x ∷ xs) ≡ Some 0
first_place p x xs e = rw e (grind (arith, nat_tests))

pub place_at : {A : Type 0} (t : A → Bool) (xs : List A) (i : ℕ) → position t xs ≡ Some i → (x : A) × At xs i x × (t x ≡ true)
place_at t [] i e = absurd cc
place_at {A} t (x ∷ xs) i e = by_head (t x) refl (place_at t xs)
  where
    by_rest : (o : Option ℕ) → position t xs ≡ o → t x ≡ false → ((j : ℕ) → position t xs ≡ Some j → (y : A) × At xs j y × (t y ≡ true)) → (y : A) × At (x ∷ xs) i y × (t y ≡ true)
    by_rest None none is again = absurd (let f = sym (next_place t x xs is ∙ ap (option_map suc) none) ∙ e in cc)
    by_rest (Some j) some is again =
        let f : Some (suc j) ≡ Some i = sym (next_place t x xs is ∙ ap (option_map suc) some) ∙ e in
        let same : suc j ≡ i = cc in
        subst (λ k. (y : A) × At (x ∷ xs) k y × (t y ≡ true)) same (again j some)

    by_head : (r : Bool) → t x ≡ r → ((j : ℕ) → position t xs ≡ Some j → (y : A) × At xs j y × (t y ≡ true)) → (y : A) × At (x ∷ xs) i y × (t y ≡ true)
    by_head true is again =
        let f : Some 0 ≡ Some i = sym (first_place t x xs is) ∙ e in
        let same : 0 ≡ i = cc in
        subst (λ k. (y : A) × At (x ∷ xs) k y × (t y ≡ true)) same (x, refl, is)
    by_head false is again = by_rest (position t xs) refl is again

-- ---- numbers among those that are given

here_or_there : (b y : ℕ) (ys : List ℕ) → Among b (y ∷ ys) → (y ≡ b) ⊎ Among b ys
here_or_there b y ys among = by_test (y == b) refl among
  where
    by_test : (r : Bool) → (y == b) ≡ r → 0 < cond r 1 0 + times b ys → (y ≡ b) ⊎ Among b ys
    by_test true e lt = inl (let same : y ≡ b = grind (arith, nat_tests, e) in same)
    by_test false e lt = inr (omega (arith, lt))

among_here : (b : ℕ) (ys : List ℕ) → Among b (b ∷ ys)
among_here b ys = let e : (b == b) ≡ true = grind (arith, nat_tests) in rw e (omega arith)

among_there : (b y : ℕ) (ys : List ℕ) → Among b ys → Among b (y ∷ ys)
among_there b y ys among = omega (arith, among)

pub among_from : {A : Type 0} (f : A → Option ℕ) (cs : List A) (b : ℕ) → Among b (filter_map f cs) → (c : A) × In c cs × (f c ≡ Some b)
among_from f [] b among = absurd (omega (arith, among))
among_from {A} f (c ∷ cs) b among = by_head (f c) refl among (among_from f cs b)
  where
    later : (d : A) × In d cs × (f d ≡ Some b) → (d : A) × In d (c ∷ cs) × (f d ≡ Some b)
    later found = (found.0, (suc found.1.0, found.1.1), found.2)

    by_head : (o : Option ℕ) → f c ≡ o → Among b (cons_option o (filter_map f cs)) → (Among b (filter_map f cs) → (d : A) × In d cs × (f d ≡ Some b)) → (d : A) × In d (c ∷ cs) × (f d ≡ Some b)
    by_head None is among again = later (again among)
    by_head (Some y) is among again = elim (here_or_there b y (filter_map f cs) among) [
      | inl same ↦ (c, (0, refl), is ∙ ap Some same)
      | inr rest ↦ later (again rest)
    ]

pub among_to : {A : Type 0} (f : A → Option ℕ) (cs : List A) (i : ℕ) (c : A) (b : ℕ) → At cs i c → f c ≡ Some b → Among b (filter_map f cs)
among_to f [] i c b at is = absurd at
among_to f (d ∷ cs) zero c b at is = let e : f d ≡ Some b = ap f at ∙ is in rw e (among_here b (filter_map f cs))
among_to f (d ∷ cs) (suc i) c b at is = by_head (f d) (among_to f cs i c b at is)
  where
    by_head : (o : Option ℕ) → Among b (filter_map f cs) → Among b (cons_option o (filter_map f cs))
    by_head None rest = rest
    by_head (Some y) rest = among_there b y (filter_map f cs) rest

-- ---- two graphs whose places go in pairs

module _ (T U : List (List ℕ)) (R S : List ℕ) (Pair : ℕ → ℕ → Type 0)
    (step : (a a' b : ℕ) → Pair a a' → Among b (slice_index_or T a []) → (b' : ℕ) × Pair b b' × Among b' (slice_index_or U a' []))
    (root : (a : ℕ) → Among a R → (a' : ℕ) × Pair a a' × Among a' S) where
  walked : (walk : List ℕ) (a a' c : ℕ) → Pair a a' → IsWalk T a walk c → (c' : ℕ) × (walk' : List ℕ) × Pair c c' × IsWalk U a' walk' c'
  walked [] a a' c pair end = (a', [], subst (λ n. Pair n a') end pair, refl)
  walked (b ∷ bs) a a' c pair go =
      let next = step a a' b pair go.0 in
      let rest = walked bs b next.0 c next.1 go.1 in
      (rest.0, next.0 ∷ rest.1, rest.2, (next.2, rest.3))

  pub reached_pair : (c : ℕ) → Reached T R c → (c' : ℕ) × Pair c c' × Reached U S c'
  reached_pair c found =
      let start = root found.0 found.1 in
      let rest = walked found.2 found.0 start.0 c start.1 found.3 in
      (rest.0, rest.2, (start.0, start.2, rest.1, rest.3))
