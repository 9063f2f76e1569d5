-- Lists that are told, and what is made of them.
use Rattle.std.proofs.Common.{◌≡◌, ℕ, Bool, true, false, not, suc, cond, List, [], ◌∷◌, ◌++◌, map, filter, filter_map, slice_get, get_or, Option, Some, None, refl, ap, ◌∙◌, arith}
use Rattle.std.specs.Prelude.{if◌then◌else◌}
use Rattle.std.specs.List.{list_any, list_all, All, cons_option}
use Rattle.std.proofs.lemmas.Bool.{and_parts}
use Rattle.std.proofs.lemmas.List.Elements.{All-head, All-tail, All-cons}
use Rattle.link_program.specs.wl_base.Choice.{given}
use Rattle.link_program.specs.index_layout.Numbers.{number_by}
use Rattle.link_program.specs.name_rules.Entries.{ImportKey, same_import}
use Rattle.std.proofs.lemmas.Option.{slice_get-get_or}
use Rattle.link_layout.proofs.link_numbers_lemmas.link_keys_lemmas.Equals.{stands, number_is, holds_at}
use Rattle.link_layout.proofs.link_numbers_lemmas.link_keys_lemmas.Imports.{import_equal, import_itself}

-- what is made of told items is what is made of the items
pub filter_map_same : {A B C : Type 0} (h : B → Option C) (g : A → Option C) (told : A → B) (xs : List A) → All (λ x. h (told x) ≡ g x) xs → filter_map h (map told xs) ≡ filter_map g xs
filter_map_same h g told [] all = refl
filter_map_same h g told (x ∷ xs) all =
    let first = All-head (λ x. h (told x) ≡ g x) x xs all in
    let rest = filter_map_same h g told xs (All-tail (λ x. h (told x) ≡ g x) x xs all) in
    λ i. cons_option (first i) (rest i)

pub map_same : {A B C : Type 0} (h : B → C) (g : A → C) (told : A → B) (xs : List A) → All (λ x. h (told x) ≡ g x) xs → map h (map told xs) ≡ map g xs
map_same h g told [] all = refl
map_same h g told (x ∷ xs) all =
    let first = All-head (λ x. h (told x) ≡ g x) x xs all in
    let rest = map_same h g told xs (All-tail (λ x. h (told x) ≡ g x) x xs all) in
    λ i. first i ∷ rest i

-- what is made of all but some is what is made of the others
pub filter_map_but : {A C : Type 0} (skip : A → Bool) (g : A → C) (xs : List A) → filter_map (λ x. if skip x then None else Some (g x)) xs ≡ map g (filter (λ x. not (skip x)) xs)
filter_map_but skip g [] = refl
filter_map_but {A} {C} skip g (x ∷ xs) = by_test (skip x) (filter_map_but skip g xs)
  where
    by_test : (r : Bool) → filter_map (λ x. if skip x then None else Some (g x)) xs ≡ map g (filter (λ x. not (skip x)) xs)
        → cons_option (if r then None else Some (g x)) (filter_map (λ x. if skip x then None else Some (g x)) xs) ≡ map g (cond (not r) (x ∷ filter (λ x. not (skip x)) xs) (filter (λ x. not (skip x)) xs))
    by_test true again = again
    by_test false again = ap (λ r. g x ∷ r) again

-- what one fact of all items gives for another
pub all_each : {A : Type 0} (P Q : A → Type 0) → ((x : A) → P x → Q x) → (xs : List A) → All P xs → All Q xs
all_each P Q each [] all = λ k d below. absurd (omega arith)
all_each P Q each (x ∷ xs) all = All-cons Q x xs (each x (All-head P x xs all)) (all_each P Q each xs (All-tail P x xs all))

-- what holds of each item that a part gives
pub all_chosen : {A B : Type 0} (P : B → Type 0) (h : A → Option B) (xs : List A) → ((k : ℕ) (a : A) (b : B) → slice_get xs k ≡ Some a → h a ≡ Some b → P b) → All P (filter_map h xs)
all_chosen P h [] each = λ k d below. absurd (omega arith)
all_chosen {A} {B} P h (x ∷ xs) each = by_option (h x) refl (all_chosen P h xs (λ k a b at is. each (suc k) a b at is))
  where
    by_option : (o : Option B) → h x ≡ o → All P (filter_map h xs) → All P (cons_option o (filter_map h xs))
    by_option None is rest = rest
    by_option (Some b) is rest = All-cons P b (filter_map h xs) (each 0 x b refl is) rest

pub all_mapped : {A B : Type 0} (P : B → Type 0) (f : A → B) → ((x : A) → P (f x)) → (xs : List A) → All P (map f xs)
all_mapped P f each [] = λ k d below. absurd (omega arith)
all_mapped P f each (x ∷ xs) = All-cons P (f x) (map f xs) (each x) (all_mapped P f each xs)

pub given_is : {A : Type 0} (b : Bool) (a x : A) → given b a ≡ Some x → (b ≡ true) × (a ≡ x)
given_is true a x e = (refl, cc)
given_is false a x e = absurd cc

pub all_tested : {A : Type 0} (test : A → Bool) (xs : List A) → list_all test xs ≡ true → All (λ x. test x ≡ true) xs
all_tested test [] is = λ k d below. absurd (omega arith)
all_tested test (x ∷ xs) is = let both = and_parts (test x) (list_all test xs) is in All-cons (λ x. test x ≡ true) x xs both.0 (all_tested test xs both.1)

pub tested_map : {A B : Type 0} (test : B → Bool) (f : A → B) (xs : List A) → All (λ x. test x ≡ true) (map f xs) → All (λ x. test (f x) ≡ true) xs
tested_map test f [] all = λ k d below. absurd (omega arith)
tested_map test f (x ∷ xs) all =
    All-cons (λ x. test (f x) ≡ true) x xs (All-head (λ x. test x ≡ true) (f x) (map f xs) all) (tested_map test f xs (All-tail (λ x. test x ≡ true) (f x) (map f xs) all))

pub all_two : {A : Type 0} (P Q : A → Type 0) (xs : List A) → All P xs → All Q xs → All (λ x. P x × Q x) xs
all_two P Q [] p q = λ k d below. absurd (omega arith)
all_two P Q (x ∷ xs) p q = All-cons (λ x. P x × Q x) x xs (All-head P x xs p, All-head Q x xs q) (all_two P Q xs (All-tail P x xs p) (All-tail Q x xs q))

-- an import stands at its number
pub import_there : (imports : List ImportKey) (k : ImportKey) → list_any (same_import k) imports ≡ true → slice_get imports (number_by same_import imports k) ≡ Some k
import_there imports k held =
    let s = stands same_import import_equal import_itself imports k held in
    ap (slice_get imports) (number_is same_import import_equal import_itself imports k s.at s.found) ∙ s.there

pub not_true : (b : Bool) → not b ≡ true → b ≡ false
not_true true e = absurd cc
not_true false e = refl

pub first_ones : {A : Type 0} (P : A → Type 0) (xs ys : List A) → All P (xs ++ ys) → All P xs
first_ones P [] ys all = λ k d below. absurd (omega arith)
first_ones P (x ∷ xs) ys all = All-cons P x xs (All-head P x (xs ++ ys) all) (first_ones P xs ys (All-tail P x (xs ++ ys) all))

pub last_ones : {A : Type 0} (P : A → Type 0) (xs ys : List A) → All P (xs ++ ys) → All P ys
last_ones P [] ys all = all
last_ones P (x ∷ xs) ys all = last_ones P xs ys (All-tail P x (xs ++ ys) all)

-- each import is one of the imports
pub held_all : (imports : List ImportKey) → All (λ k. list_any (same_import k) imports ≡ true) imports
held_all imports = λ k d below. holds_at same_import import_equal import_itself imports k (get_or imports k d) (slice_get-get_or imports k d below)
