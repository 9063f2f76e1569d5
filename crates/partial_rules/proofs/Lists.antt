-- Lists that go side by side, and lists of keys that are told by others.
use Rattle.std.proofs.Common.{◌≡◌, ℕ, zero, suc, ◌<◌, ◌==◌, Bool, true, false, ◌||◌, ◌&&◌, cond, List, [], ◌∷◌, ◌++◌, map, filter, length, refl, sym, ap, ◌∙◌, arith}
use Rattle.std.specs.Prelude.{if◌then◌else◌, Option, Some, None, option_map, filter_map, flat_map, find, position, unwrap_or, All}
use Rattle.std.specs.List.{list_any, AllZip, position_or_len, cons_option}
use Rattle.std.proofs.lemmas.List.{map-append, length-map}
use Rattle.std.proofs.lemmas.List.Concat.{flat_map-cons}
use Rattle.std.proofs.lemmas.List.Elements.{All-head, All-tail, All-cons, All-append}
use Rattle.std.proofs.lemmas.List.Folds.{list_any-append}
use Rattle.object_file.specs.wl_base.Choice.{distinct, distinct_onto}
use Rattle.index_layout.specs.Numbers.{number_by}

-- ---- two lists, item by item

module _ {A B : Type 0} (R : A → B → Type 0) where
  pub zip_any : (t : A → Bool) (u : B → Bool) → ((x : A) (y : B) → R x y → u y ≡ t x) → (xs : List A) (ys : List B) → AllZip R xs ys → list_any u ys ≡ list_any t xs
  zip_any t u same [] [] z = refl
  zip_any t u same [] (y ∷ ys) z = absurd z
  zip_any t u same (x ∷ xs) [] z = absurd z
  zip_any t u same (x ∷ xs) (y ∷ ys) z = rw (same x y z.0, zip_any t u same xs ys z.1) refl

  pub zip_map : {C : Type 0} (f : A → C) (g : B → C) → ((x : A) (y : B) → R x y → g y ≡ f x) → (xs : List A) (ys : List B) → AllZip R xs ys → map g ys ≡ map f xs
  zip_map f g same [] [] z = refl
  zip_map f g same [] (y ∷ ys) z = absurd z
  zip_map f g same (x ∷ xs) [] z = absurd z
  zip_map f g same (x ∷ xs) (y ∷ ys) z = rw (same x y z.0, zip_map f g same xs ys z.1) refl

  pub zip_filter_map : {C D : Type 0} (h : C → D) (f : A → Option C) (g : B → Option D) → ((x : A) (y : B) → R x y → g y ≡ option_map h (f x)) → (xs : List A) (ys : List B) → AllZip R xs ys
      → filter_map g ys ≡ map h (filter_map f xs)
  zip_filter_map h f g same [] [] z = refl
  zip_filter_map h f g same [] (y ∷ ys) z = absurd z
  zip_filter_map h f g same (x ∷ xs) [] z = absurd z
  zip_filter_map {C} {D} h f g same (x ∷ xs) (y ∷ ys) z = rw (same x y z.0) (by_head (f x) (zip_filter_map h f g same xs ys z.1))
    where
      by_head : (o : Option C) → filter_map g ys ≡ map h (filter_map f xs) → cons_option (option_map h o) (filter_map g ys) ≡ map h (cons_option o (filter_map f xs))
      by_head None rest = rest
      by_head (Some c) rest = ap (λ ds. h c ∷ ds) rest

  pub zip_flat_map : {C : Type 0} (f : A → List C) (g : B → List C) → ((x : A) (y : B) → R x y → g y ≡ f x) → (xs : List A) (ys : List B) → AllZip R xs ys → flat_map g ys ≡ flat_map f xs
  zip_flat_map f g same [] [] z = refl
  zip_flat_map f g same [] (y ∷ ys) z = absurd z
  zip_flat_map f g same (x ∷ xs) [] z = absurd z
  zip_flat_map f g same (x ∷ xs) (y ∷ ys) z =
      flat_map-cons g y ys ∙ (ap (λ cs. cs ++ flat_map g ys) (same x y z.0) ∙ (ap (λ cs. f x ++ cs) (zip_flat_map f g same xs ys z.1) ∙ sym (flat_map-cons f x xs)))

  pub zip_filter : (t : A → Bool) (u : B → Bool) → ((x : A) (y : B) → R x y → u y ≡ t x) → (xs : List A) (ys : List B) → AllZip R xs ys → AllZip R (filter t xs) (filter u ys)
  zip_filter t u same [] [] z = tt
  zip_filter t u same [] (y ∷ ys) z = absurd z
  zip_filter t u same (x ∷ xs) [] z = absurd z
  zip_filter t u same (x ∷ xs) (y ∷ ys) z = rw (same x y z.0) (by_test (t x) (zip_filter t u same xs ys z.1))
    where
      by_test : (r : Bool) → AllZip R (filter t xs) (filter u ys) → AllZip R (cond r (x ∷ filter t xs) (filter t xs)) (cond r (y ∷ filter u ys) (filter u ys))
      by_test true rest = (z.0, rest)
      by_test false rest = rest

  pub zip_length : (xs : List A) (ys : List B) → AllZip R xs ys → length ys ≡ length xs
  zip_length [] [] z = refl
  zip_length [] (y ∷ ys) z = absurd z
  zip_length (x ∷ xs) [] z = absurd z
  zip_length (x ∷ xs) (y ∷ ys) z = ap suc (zip_length xs ys z.1)

-- ---- what is asked of some items alone

pub filter_map_of : {A C : Type 0} (f : A → Option C) (k : A → Bool) → ((x : A) → k x ≡ false → f x ≡ None) → (xs : List A) → filter_map f xs ≡ filter_map f (filter k xs)
filter_map_of f k none [] = refl
filter_map_of {A} {C} f k none (x ∷ xs) = by_test (k x) refl (filter_map_of f k none xs)
  where
    by_none : f x ≡ None → filter_map f xs ≡ filter_map f (filter k xs) → filter_map f (x ∷ xs) ≡ filter_map f (filter k xs)
    by_none e rest = rw e rest

    by_same : filter_map f xs ≡ filter_map f (filter k xs) → filter_map f (x ∷ xs) ≡ filter_map f (x ∷ filter k xs)
    by_same rest = ap (λ cs. cons_option (f x) cs) rest

    by_test : (r : Bool) → k x ≡ r → filter_map f xs ≡ filter_map f (filter k xs) → filter_map f (x ∷ xs) ≡ filter_map f (cond r (x ∷ filter k xs) (filter k xs))
    by_test true is rest = by_same rest
    by_test false is rest = by_none (none x is) rest

pub flat_map_of : {A C : Type 0} (f : A → List C) (k : A → Bool) → ((x : A) → k x ≡ false → f x ≡ []) → (xs : List A) → flat_map f xs ≡ flat_map f (filter k xs)
flat_map_of f k none [] = refl
flat_map_of f k none (x ∷ xs) = by_test (k x) refl (flat_map_of f k none xs)
  where
    by_test : (r : Bool) → k x ≡ r → flat_map f xs ≡ flat_map f (filter k xs) → flat_map f (x ∷ xs) ≡ flat_map f (cond r (x ∷ filter k xs) (filter k xs))
    by_test true is rest = flat_map-cons f x xs ∙ (ap (λ cs. f x ++ cs) rest ∙ sym (flat_map-cons f x (filter k xs)))
    by_test false is rest = flat_map-cons f x xs ∙ (ap (λ cs. cs ++ flat_map f xs) (none x is) ∙ rest)

pub any_flat_map : {A C : Type 0} (t : C → Bool) (f : A → List C) (xs : List A) → list_any t (flat_map f xs) ≡ list_any (λ x. list_any t (f x)) xs
any_flat_map t f [] = refl
any_flat_map t f (x ∷ xs) = ap (list_any t) (flat_map-cons f x xs) ∙ (any_append t (f x) (flat_map f xs) ∙ ap (λ b. list_any t (f x) || b) (any_flat_map t f xs))
  where
    any_append : {C : Type 0} (t : C → Bool) (as' bs : List C) → list_any t (as' ++ bs) ≡ (list_any t as' || list_any t bs)
    any_append t as' bs = list_any-append t as' bs

pub find_of : {A : Type 0} (t k : A → Bool) → ((x : A) → k x ≡ false → t x ≡ false) → (xs : List A) → find t xs ≡ find t (filter k xs)
find_of t k none [] = refl
find_of t k none (x ∷ xs) = by_test (k x) refl (find_of t k none xs)
  where
    by_test : (r : Bool) → k x ≡ r → find t xs ≡ find t (filter k xs) → find t (x ∷ xs) ≡ find t (cond r (x ∷ filter k xs) (filter k xs))
    by_test true is rest = ap (λ o. cond (t x) (Some x) o) rest
    by_test false is rest = rw (none x is) rest

-- Items of one of three kinds.
or_shuffle : (h a b c : Bool) → (h || (a || (b || c))) ≡ ((h || a) || (b || c))
or_shuffle true a b c = refl
or_shuffle false a b c = refl

or_second : (h a b c : Bool) → (h || (a || (b || c))) ≡ (a || ((h || b) || c))
or_second true true b c = refl
or_second true false b c = refl
or_second false a b c = refl

or_third : (h a b c : Bool) → (h || (a || (b || c))) ≡ (a || (b || (h || c)))
or_third true true b c = refl
or_third true false true c = refl
or_third true false false c = refl
or_third false a b c = refl

pub any_by_kinds : {A : Type 0} (t : A → Bool) (kind : A → ℕ) (xs : List A) → All (λ x. kind x < 3) xs
    → list_any t xs ≡ (list_any t (filter (λ x. kind x == 0) xs) || (list_any t (filter (λ x. kind x == 1) xs) || list_any t (filter (λ x. kind x == 2) xs)))
any_by_kinds t kind [] all = refl
any_by_kinds {A} t kind (x ∷ xs) all = by_kind (kind x) (All-head (λ x. kind x < 3) x xs all) (any_by_kinds t kind xs (All-tail (λ x. kind x < 3) x xs all))
  where
    by_kind : (n : ℕ) → n < 3 → list_any t xs ≡ (list_any t (filter (λ x. kind x == 0) xs) || (list_any t (filter (λ x. kind x == 1) xs) || list_any t (filter (λ x. kind x == 2) xs)))
        → (t x || list_any t xs) ≡ (list_any t (cond (n == 0) (x ∷ filter (λ x. kind x == 0) xs) (filter (λ x. kind x == 0) xs))
        || (list_any t (cond (n == 1) (x ∷ filter (λ x. kind x == 1) xs) (filter (λ x. kind x == 1) xs)) || list_any t (cond (n == 2) (x ∷ filter (λ x. kind x == 2) xs) (filter (λ x. kind x == 2) xs))))
    by_kind zero low rest = ap (λ b. t x || b) rest ∙ or_shuffle (t x) (list_any t (filter (λ x. kind x == 0) xs)) (list_any t (filter (λ x. kind x == 1) xs)) (list_any t (filter (λ x. kind x == 2) xs))
    by_kind (suc zero) low rest = ap (λ b. t x || b) rest ∙ or_second (t x) (list_any t (filter (λ x. kind x == 0) xs)) (list_any t (filter (λ x. kind x == 1) xs)) (list_any t (filter (λ x. kind x == 2) xs))
    by_kind (suc (suc zero)) low rest = ap (λ b. t x || b) rest ∙ or_third (t x) (list_any t (filter (λ x. kind x == 0) xs)) (list_any t (filter (λ x. kind x == 1) xs)) (list_any t (filter (λ x. kind x == 2) xs))
    by_kind (suc (suc (suc n))) low rest = absurd (omega (arith, low))

-- ---- keys that are told by others

module _ {A B : Type 0} (f : A → B) (same : A → A → Bool) (told : B → B → Bool) (K : A → Type 0) (tells : (a b : A) → K a → K b → told (f a) (f b) ≡ same a b) where
  pub any_told : (a : A) (xs : List A) → K a → All K xs → list_any (told (f a)) (map f xs) ≡ list_any (same a) xs
  any_told a [] ka all = refl
  any_told a (x ∷ xs) ka all = rw (tells a x ka (All-head K x xs all), any_told a xs ka (All-tail K x xs all)) refl

  seen_told : (seen : List A) (x : A) (r : Bool) → (if r then map f seen else map f seen ++ f x ∷ []) ≡ map f (if r then seen else seen ++ x ∷ [])
  seen_told seen x true = refl
  seen_told seen x false = sym (map-append f seen (x ∷ []))

  seen_known : (seen : List A) (x : A) (r : Bool) → All K seen → K x → All K (if r then seen else seen ++ x ∷ [])
  seen_known seen x true all kx = all
  seen_known seen x false all kx = All-append K seen (x ∷ []) all (All-cons K x [] kx (λ k d below. absurd (omega arith)))

  distinct_told_onto : (seen xs : List A) → All K seen → All K xs → distinct_onto told (map f seen) (map f xs) ≡ map f (distinct_onto same seen xs)
  distinct_told_onto seen [] held all = refl
  distinct_told_onto seen (x ∷ xs) held all =
      let kx : K x = All-head K x xs all in
      ap (λ r. distinct_onto told (if r then map f seen else map f seen ++ f x ∷ []) (map f xs)) (any_told x seen kx held)
      ∙ ap (λ s. distinct_onto told s (map f xs)) (seen_told seen x (list_any (same x) seen))
      ∙ distinct_told_onto (if list_any (same x) seen then seen else seen ++ x ∷ []) xs (seen_known seen x (list_any (same x) seen) held kx) (All-tail K x xs all)

  pub distinct_told : (xs : List A) → All K xs → distinct told (map f xs) ≡ map f (distinct same xs)
  distinct_told xs all = distinct_told_onto [] xs (λ k d below. absurd (omega arith)) all

  one_told : (r : Bool) (x : A) (xs : List A) → cond r (f x ∷ map f xs) (map f xs) ≡ map f (cond r (x ∷ xs) xs)
  one_told true x xs = refl
  one_told false x xs = refl

  pub filter_told : (taken xs : List A) → All K taken → All K xs → filter (λ b. list_any (told b) (map f taken)) (map f xs) ≡ map f (filter (λ a. list_any (same a) taken) xs)
  filter_told taken [] held all = refl
  filter_told taken (x ∷ xs) held all =
      rw (any_told x taken (All-head K x xs all) held, filter_told taken xs held (All-tail K x xs all)) (one_told (list_any (same x) taken) x (filter (λ a. list_any (same a) taken) xs))

  place_told : (a : A) (xs : List A) → K a → All K xs → position_or_len (told (f a)) (map f xs) ≡ position_or_len (same a) xs
  place_told a [] ka all = refl
  place_told a (x ∷ xs) ka all = rw (tells a x ka (All-head K x xs all), place_told a xs ka (All-tail K x xs all)) refl

  pub number_told : (a : A) (xs : List A) → K a → All K xs → number_by told (map f xs) (f a) ≡ number_by same xs a
  number_told a xs ka all =
      let found : position (told (f a)) (map f xs) ≡ position (same a) xs = rw (place_told a xs ka all, length-map xs f) refl in
      ap (λ o. unwrap_or o 0) found

-- ---- lists by what is asked of each item

pub filter_same : {A : Type 0} (f g : A → Bool) → ((x : A) → f x ≡ g x) → (xs : List A) → filter f xs ≡ filter g xs
filter_same f g same [] = refl
filter_same f g same (x ∷ xs) = rw (same x, filter_same f g same xs) refl

pub map_same : {A B : Type 0} (f g : A → B) → ((x : A) → f x ≡ g x) → (xs : List A) → map f xs ≡ map g xs
map_same f g same [] = refl
map_same f g same (x ∷ xs) = rw (same x, map_same f g same xs) refl

pub map_map : {A B D : Type 0} (f : A → B) (g : B → D) (xs : List A) → map g (map f xs) ≡ map (λ x. g (f x)) xs
map_map f g [] = refl
map_map f g (x ∷ xs) = ap (λ ds. g (f x) ∷ ds) (map_map f g xs)

pub any_map : {A B : Type 0} (t : B → Bool) (f : A → B) (xs : List A) → list_any t (map f xs) ≡ list_any (λ x. t (f x)) xs
any_map t f [] = refl
any_map t f (x ∷ xs) = ap (λ b. t (f x) || b) (any_map t f xs)

abbrev pub opt_any : {A : Type 0} → (A → Bool) → Option A → Bool
opt_any t None = false
opt_any t (Some x) = t x

pub any_filter_map : {A B : Type 0} (t : B → Bool) (f : A → Option B) (xs : List A) → list_any t (filter_map f xs) ≡ list_any (λ x. opt_any t (f x)) xs
any_filter_map t f [] = refl
any_filter_map {A} {B} t f (x ∷ xs) = by_head (f x) (any_filter_map t f xs)
  where
    by_head : (o : Option B) → list_any t (filter_map f xs) ≡ list_any (λ x. opt_any t (f x)) xs → list_any t (cons_option o (filter_map f xs)) ≡ (opt_any t o || list_any (λ x. opt_any t (f x)) xs)
    by_head None rest = rest
    by_head (Some b) rest = ap (λ c. t b || c) rest

pub any_filter : {A : Type 0} (t k : A → Bool) (xs : List A) → list_any t (filter k xs) ≡ list_any (λ x. k x && t x) xs
any_filter t k [] = refl
any_filter t k (x ∷ xs) = by_test (k x) (any_filter t k xs)
  where
    by_test : (r : Bool) → list_any t (filter k xs) ≡ list_any (λ x. k x && t x) xs → list_any t (cond r (x ∷ filter k xs) (filter k xs)) ≡ ((r && t x) || list_any (λ x. k x && t x) xs)
    by_test true rest = ap (λ c. t x || c) rest
    by_test false rest = rest

-- what holds of the items that are given
pub filter_map_all : {A B : Type 0} (P : A → Type 0) (Q : B → Type 0) (f : A → Option B) → ((x : A) (b : B) → P x → f x ≡ Some b → Q b) → (xs : List A) → All P xs → All Q (filter_map f xs)
filter_map_all P Q f each [] all = λ k d below. absurd (omega (arith, below))
filter_map_all {A} {B} P Q f each (x ∷ xs) all = by_head (f x) refl (filter_map_all P Q f each xs (All-tail P x xs all))
  where
    by_head : (o : Option B) → f x ≡ o → All Q (filter_map f xs) → All Q (cons_option o (filter_map f xs))
    by_head None is rest = rest
    by_head (Some b) is rest = All-cons Q b (filter_map f xs) (each x b (All-head P x xs all) is) rest

pub map_all : {A B : Type 0} (P : A → Type 0) (Q : B → Type 0) (f : A → B) → ((x : A) → P x → Q (f x)) → (xs : List A) → All P xs → All Q (map f xs)
map_all P Q f each [] all = λ k d below. absurd (omega (arith, below))
map_all P Q f each (x ∷ xs) all = All-cons Q (f x) (map f xs) (each x (All-head P x xs all)) (map_all P Q f each xs (All-tail P x xs all))

-- what two lists say of the items of the first
pub zip_first : {A B : Type 0} (R : A → B → Type 0) (P : A → Type 0) → ((x : A) (y : B) → R x y → P x) → (xs : List A) (ys : List B) → AllZip R xs ys → All P xs
zip_first R P each [] [] z = λ k d below. absurd (omega (arith, below))
zip_first R P each [] (y ∷ ys) z = absurd z
zip_first R P each (x ∷ xs) [] z = absurd z
zip_first R P each (x ∷ xs) (y ∷ ys) z = All-cons P x xs (each x y z.0) (zip_first R P each xs ys z.1)

pub filter_moved : {A B : Type 0} (f : A → B) (t : A → Bool) (u : B → Bool) (P : A → Type 0) → ((x : A) → P x → u (f x) ≡ t x) → (xs : List A) → All P xs → filter u (map f xs) ≡ map f (filter t xs)
filter_moved f t u P same [] all = refl
filter_moved f t u P same (x ∷ xs) all = rw (same x (All-head P x xs all), filter_moved f t u P same xs (All-tail P x xs all)) (by_test (t x))
  where
    by_test : (r : Bool) → cond r (f x ∷ map f (filter t xs)) (map f (filter t xs)) ≡ map f (cond r (x ∷ filter t xs) (filter t xs))
    by_test true = refl
    by_test false = refl

pub flat_map_where : {A C : Type 0} (f : A → List C) (k : A → Bool) (xs : List A) → All (λ x. k x ≡ false → f x ≡ []) xs → flat_map f xs ≡ flat_map f (filter k xs)
flat_map_where f k [] all = refl
flat_map_where f k (x ∷ xs) all = by_test (k x) refl (All-head (λ x. k x ≡ false → f x ≡ []) x xs all) (flat_map_where f k xs (All-tail (λ x. k x ≡ false → f x ≡ []) x xs all))
  where
    by_test : (r : Bool) → k x ≡ r → (k x ≡ false → f x ≡ []) → flat_map f xs ≡ flat_map f (filter k xs) → flat_map f (x ∷ xs) ≡ flat_map f (cond r (x ∷ filter k xs) (filter k xs))
    by_test true is none rest = flat_map-cons f x xs ∙ (ap (λ cs. f x ++ cs) rest ∙ sym (flat_map-cons f x (filter k xs)))
    by_test false is none rest = flat_map-cons f x xs ∙ (ap (λ cs. cs ++ flat_map f xs) (none is) ∙ rest)

pub zip_append : {A B : Type 0} (R : A → B → Type 0) (as' xs : List A) (bs ys : List B) → AllZip R as' bs → AllZip R xs ys → AllZip R (as' ++ xs) (bs ++ ys)
zip_append R [] xs [] ys z w = w
zip_append R [] xs (b ∷ bs) ys z w = absurd z
zip_append R (a ∷ as') xs [] ys z w = absurd z
zip_append R (a ∷ as') xs (b ∷ bs) ys z w = (z.0, zip_append R as' xs bs ys z.1 w)

pub zip_flat : {A B C D : Type 0} (R : A → B → Type 0) (Q : C → D → Type 0) (f : A → List C) (g : B → List D) → ((x : A) (y : B) → R x y → AllZip Q (f x) (g y)) → (xs : List A) (ys : List B) → AllZip R xs ys
    → AllZip Q (flat_map f xs) (flat_map g ys)
zip_flat R Q f g each [] [] z = tt
zip_flat R Q f g each [] (y ∷ ys) z = absurd z
zip_flat R Q f g each (x ∷ xs) [] z = absurd z
zip_flat R Q f g each (x ∷ xs) (y ∷ ys) z =
    let both = zip_append Q (f x) (flat_map f xs) (g y) (flat_map g ys) (each x y z.0) (zip_flat R Q f g each xs ys z.1) in
    rw (flat_map-cons f x xs, flat_map-cons g y ys) both

pub zip_find : {A B D : Type 0} (R : A → B → Type 0) (t : A → Bool) (u : B → Bool) (f : Option A → D) (g : Option B → D) → g None ≡ f None → ((x : A) (y : B) → R x y → t x ≡ true → g (Some y) ≡ f (Some x))
    → ((x : A) (y : B) → R x y → u y ≡ t x) → (xs : List A) (ys : List B) → AllZip R xs ys → g (find u ys) ≡ f (find t xs)
zip_find R t u f g none some same [] [] z = none
zip_find R t u f g none some same [] (y ∷ ys) z = absurd z
zip_find R t u f g none some same (x ∷ xs) [] z = absurd z
zip_find R t u f g none some same (x ∷ xs) (y ∷ ys) z = rw (same x y z.0) (by_test (t x) refl (zip_find R t u f g none some same xs ys z.1))
  where
    by_test : (r : Bool) → t x ≡ r → g (find u ys) ≡ f (find t xs) → g (cond r (Some y) (find u ys)) ≡ f (cond r (Some x) (find t xs))
    by_test true is rest = some x y z.0 is
    by_test false is rest = rest

pub filter_map_moved : {A B C D : Type 0} (move : A → B) (h : C → D) (f : A → Option C) (g : B → Option D) (P : A → Type 0) → ((x : A) → P x → g (move x) ≡ option_map h (f x)) → (xs : List A) → All P xs
    → filter_map g (map move xs) ≡ map h (filter_map f xs)
filter_map_moved move h f g P same [] all = refl
filter_map_moved {A} {B} {C} {D} move h f g P same (x ∷ xs) all = rw (same x (All-head P x xs all)) (by_head (f x) (filter_map_moved move h f g P same xs (All-tail P x xs all)))
  where
    by_head : (o : Option C) → filter_map g (map move xs) ≡ map h (filter_map f xs) → cons_option (option_map h o) (filter_map g (map move xs)) ≡ map h (cons_option o (filter_map f xs))
    by_head None rest = rest
    by_head (Some c) rest = ap (λ ds. h c ∷ ds) rest

pub map_where : {A B : Type 0} (f g : A → B) (P : A → Type 0) → ((x : A) → P x → f x ≡ g x) → (xs : List A) → All P xs → map f xs ≡ map g xs
map_where f g P same [] all = refl
map_where f g P same (x ∷ xs) all = rw (same x (All-head P x xs all), map_where f g P same xs (All-tail P x xs all)) refl

pub distinct_all_onto : {A : Type 0} (P : A → Type 0) (same : A → A → Bool) (seen xs : List A) → All P seen → All P xs → All P (distinct_onto same seen xs)
distinct_all_onto P same seen [] held all = held
distinct_all_onto {A} P same seen (x ∷ xs) held all = distinct_all_onto P same (if list_any (same x) seen then seen else seen ++ x ∷ []) xs (by_test (list_any (same x) seen)) (All-tail P x xs all)
  where
    by_test : (r : Bool) → All P (if r then seen else seen ++ x ∷ [])
    by_test true = held
    by_test false = All-append P seen (x ∷ []) held (All-cons P x [] (All-head P x xs all) (λ k d below. absurd (omega (arith, below))))

pub distinct_all : {A : Type 0} (P : A → Type 0) (same : A → A → Bool) (xs : List A) → All P xs → All P (distinct same xs)
distinct_all P same xs all = distinct_all_onto P same [] xs (λ k d below. absurd (omega (arith, below))) all

pub filter_all : {A : Type 0} (P : A → Type 0) (t : A → Bool) (xs : List A) → All P xs → All P (filter t xs)
filter_all P t [] all = all
filter_all {A} P t (x ∷ xs) all = by_test (t x) (filter_all P t xs (All-tail P x xs all))
  where
    by_test : (r : Bool) → All P (filter t xs) → All P (cond r (x ∷ filter t xs) (filter t xs))
    by_test true rest = All-cons P x (filter t xs) (All-head P x xs all) rest
    by_test false rest = rest
