-- Folds over the symbols of objects, one place after another.
use Rattle.std.proofs.Common.{◌≡◌, ℕ, zero, suc, ◌+◌, ◌<◌, ◌≤◌, List, [], ◌∷◌, ◌++◌, map, fold, take, drop, length, get_or, slice_get, Some, option_map, refl, sym, ap, ◌∙◌, arith}
use Rattle.std.proofs.lemmas.List.{take_all, take_more, map-append}
use Rattle.std.proofs.lemmas.Option.{slice_get-get_or}
use Rattle.std.proofs.Math.ListN.{drop_of_length-le}
use Rattle.link_program.specs.name_rules.Entries.{InputSymbol}
use Rattle.partial_symbols.specs.declared.facts.Fact.{Fact}
use Rattle.partial_symbols.specs.Facts.{fact_of, facts_rows}

pub fold_append : {A C : Type 0} (g : C → A → C) (c : C) (xs ys : List A) → fold g c (xs ++ ys) ≡ fold g (fold g c xs) ys
fold_append g c [] ys = refl
fold_append g c (x ∷ xs) ys = fold_append g (g c x) xs ys

-- one item more, by its place
pub fold_more : {A B C : Type 0} (g : C → B → C) (f : A → B) (c : C) (xs : List A) (i : ℕ) → i < length xs → (old new : C)
    → ((y : B) → Some y ≡ option_map f (slice_get xs i) → new ≡ g old y) → old ≡ fold g c (map f (take i xs)) → new ≡ fold g c (map f (take (i + 1) xs))
fold_more g f c [] i lt old new step so_far = absurd (omega (arith, lt))
fold_more {A} {B} {C} g f c (x ∷ xs) i lt old new step so_far =
    let all : List A = x ∷ xs in
    let item : A = get_or all i x in
    let there : Some (f item) ≡ option_map f (slice_get all i) = sym (ap (option_map f) (slice_get-get_or all i x lt)) in
    step (f item) there
    ∙ (ap (λ o. g o (f item)) so_far
    ∙ sym (ap (fold g c) (ap (map f) (take_more all i x lt) ∙ map-append f (take i all) (item ∷ [])) ∙ fold_append g c (map f (take i all)) (f item ∷ [])))

-- all items were folded
pub fold_all : {A B C : Type 0} (g : C → B → C) (f : A → B) (c : C) (xs : List A) (i : ℕ) → length xs ≤ i → (old : C) → old ≡ fold g c (map f (take i xs)) → old ≡ fold g c (map f xs)
fold_all g f c xs i past old so_far = so_far ∙ ap (λ ys. fold g c (map f ys)) (take_all i xs past)

-- ---- rows of symbols

-- the row of an object stands before those of the objects behind it
rows_from : (names : List (List ℕ)) (object : ℕ) (rows : List (List InputSymbol)) (i : ℕ) → i < length rows
    → facts_rows names object (drop i rows) ≡ map (fact_of names object) (get_or rows i []) ++ facts_rows names (object + 1) (drop (i + 1) rows)
rows_from names object [] i lt = absurd (omega (arith, lt))
rows_from names object (row ∷ rows) zero lt = refl
rows_from names object (row ∷ rows) (suc i) lt =
    let moved : suc (i + 1) ≡ suc i + 1 = omega arith in
    rows_from names object rows i (omega (arith, lt))
    ∙ ap (λ k. map (fact_of names object) (get_or rows i []) ++ facts_rows names (object + 1) (drop {A = List InputSymbol} k (row ∷ rows))) moved

pub row_more : {C : Type 0} (g : C → Fact → C) (names : List (List ℕ)) (rows : List (List InputSymbol)) (i : ℕ) → i < length rows → (old new whole : C)
    → new ≡ fold g old (map (fact_of names i) (get_or rows i [])) → fold g old (facts_rows names i (drop i rows)) ≡ whole
    → fold g new (facts_rows names (i + 1) (drop (i + 1) rows)) ≡ whole
row_more g names rows i lt old new whole step so_far =
    let rest : List Fact = facts_rows names (i + 1) (drop (i + 1) rows) in
    ap (λ c. fold g c rest) step
    ∙ (sym (fold_append g old (map (fact_of names i) (get_or rows i [])) rest)
    ∙ (ap (fold g old) (sym (rows_from names i rows i lt)) ∙ so_far))

pub rows_all : {C : Type 0} (g : C → Fact → C) (names : List (List ℕ)) (rows : List (List InputSymbol)) (i : ℕ) → length rows ≤ i → (old whole : C)
    → fold g old (facts_rows names i (drop i rows)) ≡ whole → old ≡ whole
rows_all g names rows i past old whole so_far = sym (ap (λ (rs : List (List InputSymbol)). fold g old (facts_rows names i rs)) (drop_of_length-le rows past)) ∙ so_far
