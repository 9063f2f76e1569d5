-- Names in a table, and the names of an object.
use Rattle.std.proofs.Common.{◌≡◌, ℕ, zero, suc, ◌+◌, ◌-◌, ◌<◌, ◌≤◌, ltb, eqb, Bool, true, false, cond, List, [], ◌∷◌, length, drop, Option, Some, None, refl, sym, ap, ◌∙◌, arith, inl, inr, add-one}
use Rattle.std.specs.Prelude.{slice_get, filter, filter_map}
use Rattle.std.specs.Option.{option_and_then}
use Rattle.std.specs.Map.{lookup}
use Rattle.std.specs.Str.{bytes_eq}
use Rattle.std.proofs.lemmas.Bool.{cases_Bool}
use Rattle.std.proofs.lemmas.Option.{slice_get-get_or}
use Rattle.std.proofs.lemmas.Slice.Eq.{bytes_eq-Decides}
use Rattle.indexmap.specs.IndexMap.{insert_entry}
use Rattle.std.proofs.lemmas.List.{drop_all}
use Rattle.std.proofs.Math.ListN.{get_or}
use Rattle.object_file.specs.wl_base.Choice.{has_name}
use Rattle.object_file.specs.linking_section.declared.symbol.Symbol.{Symbol}
use Rattle.std.specs.Ordering.{nat_cmp, is_lt}
use Rattle.std.specs.Cmp.Lexicographic.{slice_cmp}
use Rattle.round_rules.specs.Rounds.{comes_before, lesser_name, least_name}
use Rattle.lib_rounds.specs.Held.{name_if}

-- the names of the symbols that pass a test
abbrev pub names_in : (Symbol → Bool) → List Symbol → List (List ℕ)
names_in test ss = filter_map (λ s. s.name) (filter test ss)

-- a symbol that has a name for the test, and the ones behind it
pub named_first : (test : Symbol → Bool) (s : Symbol) (ss : List Symbol) (name : List ℕ) → name_if test s ≡ Some name → names_in test
    (s ∷ ss) ≡ name ∷ names_in test ss
named_first test s ss name e =
    elim (cases_Bool (test s)) [
      | inl is ↦ let n : s.name ≡ Some name = rw is at e in rw (is, n) refl
      | inr not_so ↦ let n = rw not_so at e in absurd cc
    ]

pub nameless_first : (test : Symbol → Bool) (s : Symbol) (ss : List Symbol) → name_if test s ≡ None → names_in test (s ∷ ss) ≡ names_in test ss
nameless_first test s ss e =
    elim (cases_Bool (test s)) [
      | inl is ↦ let n : s.name ≡ None = rw is at e in rw (is, n) refl
      | inr not_so ↦ rw not_so refl
    ]

drop_step : {X : Type 0} (k : ℕ) (y : X) (ys : List X) → drop (suc k + 1) (y ∷ ys) ≡ drop (k + 1) ys
drop_step k y ys = ap (λ m. drop m (y ∷ ys)) (add-one (suc k)) ∙ ap (λ m. drop m ys) (sym (add-one k))

-- the one at a place, and the ones behind it
pub at_place_first : {X : Type 0} (xs : List X) (i : ℕ) (x : X) → slice_get xs i ≡ Some x → drop i xs ≡ x ∷ drop (i + 1) xs
at_place_first [] i x e = absurd cc
at_place_first (y ∷ ys) zero x e = let s : y ≡ x = cc in rw s refl
at_place_first {X} (y ∷ ys) (suc i) x e = at_place_first ys i x e ∙ ap (λ (zs : List X). x ∷ zs) (sym (drop_step i y ys))

pub there : {X : Type 0} (xs : List X) (i : ℕ) → i < length xs → (x : X) × (slice_get xs i ≡ Some x)
there [] i lt = absurd (omega (arith, lt))
there (y ∷ ys) zero lt = (y, refl)
there (y ∷ ys) (suc i) lt = there ys i (omega (arith, lt))

-- ---- by the name at a place

abbrev pub named_at : (Symbol → Bool) → List Symbol → ℕ → Option (List ℕ)
named_at test ss at = option_and_then (name_if test) (slice_get ss at)

pub names_from : (test : Symbol → Bool) (ss : List Symbol) (at : ℕ) (name : List ℕ) → named_at test ss at ≡ Some name → names_in test
    (drop at ss) ≡ name ∷ names_in test (drop (at + 1) ss)
names_from test [] at name e = absurd cc
names_from test (s ∷ ss) zero name e = named_first test s ss name e
names_from test (s ∷ ss) (suc at) name e = names_from test ss at name e ∙ ap (λ (xs : List Symbol). name ∷ names_in test xs) (sym (drop_step at s ss))

pub names_past : (test : Symbol → Bool) (ss : List Symbol) (at : ℕ) → at < length ss → named_at test ss at ≡ None → names_in test
    (drop at ss) ≡ names_in test (drop (at + 1) ss)
names_past test [] at lt e = absurd (omega (arith, lt))
names_past test (s ∷ ss) zero lt e = nameless_first test s ss e
names_past test (s ∷ ss) (suc at) lt e = names_past test ss at (omega (arith, lt)) e ∙ ap (λ (xs : List Symbol). names_in test xs) (sym
    (drop_step at s ss))

-- ---- definitions entered one after another

-- what a name's input is after the names of an input
abbrev pub after_names : List (List ℕ) → ℕ → List ℕ → Option ℕ → Option ℕ
after_names names input n before = cond (has_name names n) (Some input) before

pub one_more : (names : List (List ℕ)) (name : List ℕ) (input : ℕ) (n : List ℕ) (before : Option ℕ) → after_names
    (name ∷ names) input n before ≡ after_names names input n (cond (bytes_eq n name) (Some input) before)
one_more names name input n before =
    elim (cases_Bool (bytes_eq n name)) [
      | inl is ↦ elim (cases_Bool (has_name names n)) [ inl y ↦ rw (is, y) refl | inr o ↦ rw (is, o) refl ]
      | inr not_so ↦ rw not_so refl
    ]

-- ---- no name

pub none_in : (name : List ℕ) (es : List (List ℕ × ℕ)) → length es ≡ 0 → None ≡ lookup (bytes_eq name) es
none_in name [] none = refl
none_in name (e ∷ es) none = absurd (omega (arith, none))

-- ---- one name put in

same_name : (a b : List ℕ) → bytes_eq a b ≡ true → a ≡ b
same_name a b e = (bytes_eq-Decides a b).0 e

pub put_lookup : (es : List (List ℕ × ℕ)) (key : List ℕ) (k : ℕ) (n : List ℕ)
    → lookup (bytes_eq n) (insert_entry bytes_eq es key k) ≡ cond (bytes_eq n key) (Some k) (lookup
    (bytes_eq n) es)
put_lookup [] key k n = refl
put_lookup (e ∷ es) key k n =
    elim (cases_Bool (bytes_eq key e.0)) [
      | inl is ↦ let s : key ≡ e.0 = same_name key e.0 is in
          elim (cases_Bool (bytes_eq n e.0)) [ inl h ↦ rw (is, s, h) refl | inr h ↦ rw (is, s, h) refl ]
      | inr not_so ↦
          elim (cases_Bool (bytes_eq n e.0)) [
            | inl h ↦
                let s : n ≡ e.0 = same_name n e.0 h in
                elim (cases_Bool (bytes_eq n key)) [
                  | inl g ↦ let t : n ≡ key = same_name n key g in let u : bytes_eq key e.0 ≡ true = rw (sym t, s)
                      ((bytes_eq-Decides e.0 e.0).1 refl) in absurd cc
                  | inr g ↦ rw (not_so, h, g) refl
                ]
            | inr h ↦ rw (not_so, h) (put_lookup es key k n)
          ]
    ]

pub enters : (test : Symbol → Bool) (ss : List Symbol) (at input : ℕ) (n name : List ℕ) (before after total : Option ℕ)
    → named_at test ss at ≡ Some name → after ≡ cond (bytes_eq n name) (Some input) before
    → after_names (names_in test (drop at ss)) input n before ≡ total → after_names (names_in test (drop (at + 1) ss)) input n after ≡ total
enters test ss at input n name before after total e is so_far =
    ap (after_names (names_in test (drop (at + 1) ss)) input n) is
    ∙ sym (one_more (names_in test (drop (at + 1) ss)) name input n before)
    ∙ ap (λ (ns : List (List ℕ)). after_names ns input n before) (sym (names_from test ss at name e))
    ∙ so_far

pub passes : (test : Symbol → Bool) (ss : List Symbol) (at input : ℕ) (n : List ℕ) (before total : Option ℕ)
    → at < length ss → named_at test ss at ≡ None
    → after_names (names_in test (drop at ss)) input n before ≡ total → after_names (names_in test (drop (at + 1) ss)) input n before ≡ total
passes test ss at input n before total lt e so_far = ap (λ (ns : List (List ℕ)). after_names ns input n before) (sym
    (names_past test ss at lt e)) ∙ so_far

pub ends_after : (test : Symbol → Bool) (ss : List Symbol) (at input : ℕ) (n : List ℕ) (before total : Option ℕ)
    → length ss ≤ at → after_names (names_in test (drop at ss)) input n before ≡ total → before ≡ total
ends_after test ss at input n before total le so_far = rw (drop_all at ss le) at so_far

-- ---- the least lie

pub comes_is : (a b : List ℕ) → is_lt (slice_cmp nat_cmp a b) ≡ comes_before a b
comes_is [] [] = refl
comes_is [] (b ∷ bs) = refl
comes_is (a ∷ as') [] = refl
comes_is (a ∷ as') (b ∷ bs) =
    elim (cases_Bool (ltb a b)) [
      | inl is ↦ rw is refl
      | inr not_so ↦ elim (cases_Bool (eqb a b)) [ inl same ↦ rw (not_so, same) (comes_is as' bs) | inr other ↦ rw (not_so, other) refl ]
    ]

last_dropped : {X : Type 0} (xs : List X) (at : ℕ) (x : X) → 0 < at → slice_get xs (at - 1) ≡ Some x → drop (at - 1) xs ≡ x ∷ drop at xs
last_dropped {X} xs at x lt e = at_place_first xs (at - 1) x e ∙ ap (λ (m : ℕ). let ys : List X = x ∷ drop m xs in ys) (omega (arith, lt))

pub lie_more : (test : List ℕ → Bool) (names : List (List ℕ)) (at : ℕ) (name : List ℕ) → 0 < at → slice_get names (at - 1) ≡ Some name
    → test name ≡ true
    → least_name (filter test (drop (at - 1) names)) ≡ lesser_name name (least_name (filter test (drop at names)))
lie_more test names at name lt e is = rw (last_dropped names at name lt e, is) refl

pub no_lie : (test : List ℕ → Bool) (names : List (List ℕ)) (at : ℕ) (name : List ℕ) → 0 < at → slice_get names (at - 1) ≡ Some name
    → test name ≡ false
    → least_name (filter test (drop (at - 1) names)) ≡ least_name (filter test (drop at names))
no_lie test names at name lt e is = rw (last_dropped names at name lt e, is) refl

-- ---- places

pub index_is : {X : Type 0} (xs : List X) (i : ℕ) (x : X) → i < length xs → x ≡ get_or xs i x → slice_get xs i ≡ Some x
index_is xs i x lt e = slice_get-get_or xs i x lt ∙ ap Some (sym e)
