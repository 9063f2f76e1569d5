-- The names that an object gives, symbol by symbol.
use Rattle.std.proofs.Common.{◌≡◌, ℕ, zero, suc, ◌+◌, ◌<◌, ◌≤◌, Bool, ◌&&◌, List, [], ◌∷◌, ◌++◌, length, drop, Option, Some, None, refl, sym, ap, ◌∙◌, arith, inl, inr, add-one, append_assoc}
use Rattle.std.specs.Prelude.{filter, filter_map, map}
use Rattle.std.specs.List.{flat_map, list_all}
use Rattle.std.proofs.lemmas.Bool.{cases_Bool}
use Rattle.std.proofs.lemmas.Grind.{flat_map-append}
use Rattle.std.proofs.lemmas.List.{map-append, append-nil, drop_all}
use Rattle.linking_section.specs.declared.symbol.Symbol.{Symbol}
use Rattle.linking_section.specs.Flags.{is_definition}
use Rattle.library_indexer.specs.declared.entries.Entries.{Entries}
use Rattle.library_indexer.specs.Indexed.{ended, can_be_told}
use Rattle.library_indexer.specs.Steps.{defined_by, defined_at, listed, with_names}

-- ---- those of all symbols

by_name : (s : Symbol) (ss : List Symbol) (name : Option (List ℕ)) → s.name ≡ name → is_definition s ≡ Bool.true → filter_map (λ s. s.name) (filter is_definition ss) ≡ filter_map defined_by ss
    → filter_map (λ s. s.name) (filter is_definition (s ∷ ss)) ≡ filter_map defined_by (s ∷ ss)
by_name s ss None e is rest = rw (is, e) rest
by_name s ss (Some name) e is rest = rw (is, e) (ap (λ (names : List (List ℕ)). name ∷ names) rest)

pub defined_once : (ss : List Symbol) → filter_map (λ s. s.name) (filter is_definition ss) ≡ filter_map defined_by ss
defined_once [] = refl
defined_once (s ∷ ss) =
    elim (cases_Bool (is_definition s)) [
      | inl is ↦ by_name s ss s.name refl is (defined_once ss)
      | inr is ↦ rw is (defined_once ss)
    ]

-- ---- the one at a place, and those behind it

drop_step : {X : Type 0} (k : ℕ) (y : X) (ys : List X) → drop (suc k + 1) (y ∷ ys) ≡ drop (k + 1) ys
drop_step k y ys = ap (λ m. drop m (y ∷ ys)) (add-one (suc k)) ∙ ap (λ m. drop m ys) (sym (add-one k))

at_first : (s : Symbol) (ss : List Symbol) (name : Option (List ℕ)) → defined_by s ≡ name → filter_map defined_by (s ∷ ss) ≡ listed name ++ filter_map defined_by ss
at_first s ss None e = rw e refl
at_first s ss (Some name) e = rw e refl

next_names : (ss : List Symbol) (at : ℕ) → at < length ss → filter_map defined_by (drop at ss) ≡ listed (defined_at ss at) ++ filter_map defined_by (drop (at + 1) ss)
next_names [] at lt = absurd (omega (arith, lt))
next_names (s ∷ ss) zero lt = at_first s ss (defined_by s) refl
next_names (s ∷ ss) (suc at) lt =
    next_names ss at (omega (arith, lt)) ∙ ap (λ (later : List Symbol). listed (defined_at ss at) ++ filter_map defined_by later) (sym (drop_step at s ss))

-- ---- names behind names

pub and_assoc : (a b c : Bool) → ((a && b) && c) ≡ (a && (b && c))
and_assoc Bool.true b c = refl
and_assoc Bool.false b c = refl

pub all_both : (xs ys : List (List ℕ)) → list_all can_be_told (xs ++ ys) ≡ (list_all can_be_told xs && list_all can_be_told ys)
all_both [] ys = refl
all_both (x ∷ xs) ys = ap (λ t. can_be_told x && t) (all_both xs ys) ∙ sym (and_assoc (can_be_told x) (list_all can_be_told xs) (list_all can_be_told ys))

pub made : (t u : List ℕ) (p q : List ℕ) (a b : Bool) → t ≡ u → p ≡ q → a ≡ b
    → (let x : Entries = record { text = t; places = p; told = a } in x ≡ record { text = u; places = q; told = b })
made t u p q a b e f g = rw (e, f, g) refl

pub names_behind : (e : Entries) (place : ℕ) (xs ys : List (List ℕ)) → with_names (with_names e place xs) place ys ≡ with_names e place (xs ++ ys)
names_behind e place xs ys =
    made _ _ _ _ _ _
    (append_assoc e.text (flat_map ended xs) (flat_map ended ys) ∙ ap (λ (t : List ℕ). e.text ++ t) (sym (flat_map-append ended xs ys)))
    (append_assoc e.places (map (λ name. place) xs) (map (λ name. place) ys) ∙ ap (λ (t : List ℕ). e.places ++ t) (sym (map-append (λ name. place) xs ys)))
    (and_assoc e.told (list_all can_be_told xs) (list_all can_be_told ys) ∙ ap (λ t. e.told && t) (sym (all_both xs ys)))

-- ---- one more symbol

pub gives_on : (ss : List Symbol) (at place : ℕ) (now new whole : Entries) → at < length ss → new ≡ with_names now place (listed (defined_at ss at))
    → with_names now place (filter_map defined_by (drop at ss)) ≡ whole → with_names new place (filter_map defined_by (drop (at + 1) ss)) ≡ whole
gives_on ss at place now new whole lt is so_far =
    let later : List (List ℕ) = filter_map defined_by (drop (at + 1) ss) in
    ap (λ (e : Entries). with_names e place later) is ∙ names_behind now place (listed (defined_at ss at)) later ∙ ap (with_names now place) (sym (next_names ss at lt)) ∙ so_far

-- ---- no name, and one

and_true : (b : Bool) → (b && Bool.true) ≡ b
and_true Bool.true = refl
and_true Bool.false = refl

nothing_more : (e : Entries) (place : ℕ) → with_names e place [] ≡ e
nothing_more e place = made _ _ _ _ _ _ (append-nil e.text) (append-nil e.places) (and_true e.told)

pub gives_none : (e : Entries) (place : ℕ) (name : Option (List ℕ)) → None ≡ name → e ≡ with_names e place (listed name)
gives_none e place name is = sym (nothing_more e place) ∙ ap (λ (o : Option (List ℕ)). with_names e place (listed o)) is

pub gives_some : (e new : Entries) (place : ℕ) (bytes : List ℕ) (name : Option (List ℕ)) → Some bytes ≡ name → new ≡ with_names e place (bytes ∷ []) → new ≡ with_names e place (listed name)
gives_some e new place bytes name is given = given ∙ ap (λ (o : Option (List ℕ)). with_names e place (listed o)) is

pub one_name : (e : Entries) (place : ℕ) (name : List ℕ)
    → (let x : Entries = record { text = (e.text ++ name) ++ 0 ∷ []; places = e.places ++ place ∷ []; told = e.told && can_be_told name } in x ≡ with_names e place (name ∷ []))
one_name e place name =
    made _ _ _ _ _ _
    (append_assoc e.text name (0 ∷ []) ∙ ap (λ (t : List ℕ). e.text ++ t) (sym (append-nil (name ++ 0 ∷ []))))
    refl
    (ap (λ t. e.told && t) (sym (and_true (can_be_told name))))

-- ---- all symbols

pub begins : (ss : List Symbol) (place : ℕ) (e : Entries) → with_names e place (filter_map defined_by (drop 0 ss)) ≡ with_names e place (filter_map (λ s. s.name) (filter is_definition ss))
begins ss place e = ap (with_names e place) (sym (defined_once ss))

pub ends : (ss : List Symbol) (at place : ℕ) (now whole : Entries) → length ss ≤ at → with_names now place (filter_map defined_by (drop at ss)) ≡ whole → now ≡ whole
ends ss at place now whole le so_far =
    sym (nothing_more now place) ∙ sym (ap (λ (later : List Symbol). with_names now place (filter_map defined_by later)) (drop_all at ss le)) ∙ so_far
