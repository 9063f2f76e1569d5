-- Numbers, and what stands at them in a list.
use Rattle.std.proofs.Common.{◌≡◌, ℕ, zero, suc, ◌||◌, Bool, true, false, cond, List, [], ◌∷◌, map, filter, length, get_or, slice_get, position, Some, refl, sym, ap, ◌∙◌, arith, find}
use Rattle.std.specs.List.{list_any}
use Rattle.link_numbers.proofs.link_keys_lemmas.Positions.{position_of_map}

module _ {A : Type 0} (ps : List A) where
  -- what is told by the numbers is what is told by the items
  pub map_pairs : {B : Type 0} (f : ℕ → B) (g : A → B) → ((n : ℕ) (x : A) → slice_get ps n ≡ Some x → f n ≡ g x)
      → (ns : List ℕ) (xs : List A) → map (slice_get ps) ns ≡ map Some xs → map f ns ≡ map g xs
  map_pairs f g each [] [] e = refl
  map_pairs f g each [] (x ∷ xs) e = absurd cc
  map_pairs f g each (n ∷ ns) [] e = absurd cc
  map_pairs f g each (n ∷ ns) (x ∷ xs) e =
      let at : slice_get ps n ≡ Some x = cc in
      let rest : map (slice_get ps) ns ≡ map Some xs = cc in
      let h = each n x at in let t = map_pairs f g each ns xs rest in λ i. h i ∷ t i

  one_pair : (r : Bool) (n : ℕ) (x : A) (ns : List ℕ) (xs : List A) → slice_get ps n ≡ Some x → map (slice_get ps) ns ≡ map Some xs
      → map (slice_get ps) (cond r (n ∷ ns) ns) ≡ map Some (cond r (x ∷ xs) xs)
  one_pair true n x ns xs at rest = λ i. at i ∷ rest i
  one_pair false n x ns xs at rest = rest

  -- the numbers that are kept are those of the items that are kept
  pub filter_pairs : (f : ℕ → Bool) (g : A → Bool) → ((n : ℕ) (x : A) → slice_get ps n ≡ Some x → f n ≡ g x)
      → (ns : List ℕ) (xs : List A) → map (slice_get ps) ns ≡ map Some xs → map (slice_get ps) (filter f ns) ≡ map Some (filter g xs)
  filter_pairs f g each [] [] e = refl
  filter_pairs f g each [] (x ∷ xs) e = absurd cc
  filter_pairs f g each (n ∷ ns) [] e = absurd cc
  filter_pairs f g each (n ∷ ns) (x ∷ xs) e =
      let at : slice_get ps n ≡ Some x = cc in
      let rest : map (slice_get ps) ns ≡ map Some xs = cc in
      let again = filter_pairs f g each ns xs rest in
      ap (λ r. map (slice_get ps) (cond r (n ∷ filter f ns) (filter f ns))) (each n x at) ∙ one_pair (g x) n x (filter f ns) (filter g xs) at again

  -- each number is below the length
  pub pairs_within : (ns : List ℕ) (xs : List A) → map (slice_get ps) ns ≡ map Some xs → (k : ℕ) (x : A) → slice_get xs k ≡ Some x
      → (n : ℕ) × (slice_get ns k ≡ Some n) × (slice_get ps n ≡ Some x)
  pairs_within [] [] e k x at = absurd cc
  pairs_within [] (y ∷ xs) e k x at = absurd cc
  pairs_within (n ∷ ns) [] e k x at = absurd cc
  pairs_within (n ∷ ns) (y ∷ xs) e zero x at = let there : slice_get ps n ≡ Some x = cc in (n, refl, there)
  pairs_within (n ∷ ns) (y ∷ xs) e (suc k) x at = let rest : map (slice_get ps) ns ≡ map Some xs = cc in pairs_within ns xs rest k x at

  -- the one item that passes a test is found among others
  pub find_pair : (test : A → Bool) (x : A) → ((n : ℕ) (y : A) → slice_get ps n ≡ Some y → test y ≡ true → y ≡ x) → test x ≡ true
      → (ns : List ℕ) (xs : List A) → map (slice_get ps) ns ≡ map Some xs → (k : ℕ) → slice_get xs k ≡ Some x → find test xs ≡ Some x
  find_pair test x one is [] [] e k at = absurd cc
  find_pair test x one is [] (y ∷ xs) e k at = absurd cc
  find_pair test x one is (n ∷ ns) [] e k at = absurd cc
  find_pair test x one is (n ∷ ns) (y ∷ xs) e zero at =
      let same : y ≡ x = cc in
      ap (λ r. cond r (Some y) (find test xs)) (ap test same ∙ is) ∙ ap Some same
  find_pair test x one is (n ∷ ns) (y ∷ xs) e (suc k) at =
      let here : slice_get ps n ≡ Some y = cc in
      let rest : map (slice_get ps) ns ≡ map Some xs = cc in
      by_head (test y) refl here (find_pair test x one is ns xs rest k at)
    where
      by_head : (r : Bool) → test y ≡ r → slice_get ps n ≡ Some y → find test xs ≡ Some x → cond r (Some y) (find test xs) ≡ Some x
      by_head true t here again = ap Some (one n y here t)
      by_head false t here again = again

pub map_twice : {A B C : Type 0} (g : B → C) (f : A → B) (xs : List A) → map g (map f xs) ≡ map (λ x. g (f x)) xs
map_twice g f [] = refl
map_twice g f (x ∷ xs) = ap (λ r. g (f x) ∷ r) (map_twice g f xs)

-- ---- what a list of answers gives

-- a position tells of the answers alone
pub same_position : {A B : Type 0} (p : A → Bool) (q : B → Bool) (xs : List A) (ys : List B) → map p xs ≡ map q ys → position p xs ≡ position q ys
same_position p q xs ys e =
    sym (position_of_map p p (λ b. b) xs (λ k d below. refl)) ∙ ap (position (λ b. b)) e ∙ position_of_map q q (λ b. b) ys (λ k d below. refl)

pub same_any : {A B : Type 0} (p : A → Bool) (q : B → Bool) (xs : List A) (ys : List B) → map p xs ≡ map q ys → list_any p xs ≡ list_any q ys
same_any p q [] [] e = refl
same_any p q [] (y ∷ ys) e = absurd cc
same_any p q (x ∷ xs) [] e = absurd cc
same_any p q (x ∷ xs) (y ∷ ys) e =
    let h : p x ≡ q y = cc in
    let rest : map p xs ≡ map q ys = cc in
    let t = same_any p q xs ys rest in
    λ i. h i || t i

-- ---- told items

pub at_told : {A B C : Type 0} (f : A → C) (g : B → C) (xs : List A) (ys : List B) (n : ℕ) (y : B) (d : A) → map f xs ≡ map g ys → slice_get ys n ≡ Some y → f (get_or xs n d) ≡ g y
at_told f g [] [] n y d e at = absurd cc
at_told f g [] (z ∷ ys) n y d e at = absurd cc
at_told f g (x ∷ xs) [] n y d e at = absurd cc
at_told f g (x ∷ xs) (z ∷ ys) zero y d e at = let h : f x ≡ g z = cc in let s : z ≡ y = cc in h ∙ ap g s
at_told f g (x ∷ xs) (z ∷ ys) (suc n) y d e at = let rest : map f xs ≡ map g ys = cc in at_told f g xs ys n y d rest at

-- a list that has at each place what is told of the item there
pub list_is : {A B : Type 0} (f : A → B) (xs : List B) (ps : List A) → length xs ≡ length ps → ((m : ℕ) (a : A) (d : B) → slice_get ps m ≡ Some a → get_or xs m d ≡ f a) → xs ≡ map f ps
list_is f [] [] long each = refl
list_is f [] (a ∷ ps) long each = absurd (omega (arith, long))
list_is f (x ∷ xs) [] long each = absurd (omega (arith, long))
list_is f (x ∷ xs) (a ∷ ps) long each =
    let h : x ≡ f a = each 0 a x refl in
    let t = list_is f xs ps (omega (arith, long)) (λ m b d at. each (suc m) b d at) in
    λ i. h i ∷ t i
