-- Places in a list.
use Rattle.std.proofs.Common.{◌≡◌, ℕ, ◌+◌, ◌<◌, Bool, true, false, cond, not, ◌||◌, List, [], ◌∷◌, ◌++◌, length, get_or, slice_get, Some, None, Ok, Err, refl, sym, ap, subst, ◌∙◌, arith, nat_lt}
use Rattle.std.specs.List.{position, position_or_len, list_any, IsDistinct}
use Rattle.std.specs.Str.{bytes_eq}
use Rattle.std.proofs.lemmas.List.Sums.{position_or_len_is}
use Rattle.std.proofs.lemmas.Map.Keys.{apart_from_distinct}
use Rattle.std.proofs.lemmas.Option.{slice_get_within, get_or_from_slice_get}
use Rattle.std.proofs.lemmas.Slice.Eq.{bytes_eq-Decides}
use Rattle.std.specs.Cmp.Lexicographic.{nat_list_eq_equiv}
use Rattle.wl_base.specs.declared.name_table.NameFault.TheVariants.{TooMany}
use Rattle.std.proofs.lemmas.Bool.Decides.{nat_tests}
use Rattle.indexmap.specs.IndexSet.{insert_key}
use Rattle.wl_base.specs.Names.{Names, number_of, interned, added, held_or}

any_is : {A : Type 0} (xs : List A) (test : A → Bool) → list_any test xs ≡ nat_lt (position_or_len test xs) (length xs)
any_is [] test = refl
any_is (x ∷ xs) test = by (test x) (any_is xs test)
  where
    by : (b : Bool) → list_any test xs ≡ nat_lt (position_or_len test xs) (length xs)
        → (b || list_any test xs) ≡ nat_lt (cond (not b) (1 + position_or_len test xs) 0) (length (x ∷ xs))
    by true e = grind (arith, nat_tests)
    by false e = e ∙ grind (arith, nat_tests)

-- where no item has a place, there is none
none_of : {A : Type 0} (xs : List A) (test : A → Bool) → position test xs ≡ None → list_any test xs ≡ false
none_of xs test e = by (nat_lt (position_or_len test xs) (length xs)) (any_is xs test) e
  where
    by : (b : Bool) → list_any test xs ≡ b → cond b (Some (position_or_len test xs)) None ≡ None → list_any test xs ≡ false
    by true here e = cc
    by false here e = here

-- a new key goes last
pub new_last : (names after : List (List ℕ)) (key name : List ℕ) → position (bytes_eq name) names ≡ None → key ≡ name → after ≡ insert_key bytes_eq names key
    → after ≡ names ++ name ∷ []
new_last names after key name none is inserted =
    let absent : list_any (bytes_eq key) names ≡ false = subst (λ n. list_any (bytes_eq n) names ≡ false) (sym is) (none_of names (bytes_eq name) none) in
    inserted ∙ ap (λ b. cond b names (names ++ key ∷ [])) absent ∙ ap (λ n. names ++ n ∷ []) is

pub interned_new : (t : Names) (name : List ℕ) (count limit : ℕ) (names : List (List ℕ)) → number_of t.names name ≡ None → count ≡ length t.names → count < limit → limit ≡ t.limit
    → names ≡ t.names ++ name ∷ [] → interned t name ≡ Ok (count, record { limit = limit; names = names })
interned_new t name count limit names none counted room limited after =
    let below : nat_lt (length t.names) t.limit ≡ true = grind (arith, nat_tests) in
    ap (λ o. held_or o t (added t name)) none
    ∙ ap (λ b. cond b (Ok (length t.names, record { limit = t.limit; names = t.names ++ name ∷ [] })) (Err TooMany)) below
    ∙ (λ j. Ok (sym counted j, record { limit = sym limited j; names = sym after j }))

-- the place of an item of a list without repetition
pub own_place : (xs : List (List ℕ)) (i : ℕ) (x : List ℕ) → IsDistinct bytes_eq xs → slice_get xs i ≡ Some x → position (bytes_eq x) xs ≡ Some i
own_place xs i x distinct at =
    let within = slice_get_within xs i x at in
    let here : get_or xs i x ≡ x = get_or_from_slice_get xs i x x at in
    let place = position_or_len_is (bytes_eq x) xs i x (omega arith)
    (λ k below. nat_list_eq_equiv.symm x (get_or xs k x) ∙ (subst (λ y. bytes_eq (get_or xs k x) y ≡ false) here (apart_from_distinct bytes_eq xs k i x distinct below within)))
    (λ h. (bytes_eq-Decides _ _).1 (sym here)) in
    rw place (let b : nat_lt i (length xs) ≡ true = grind (arith, nat_tests) in rw b refl)
