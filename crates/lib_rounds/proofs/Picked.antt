-- The candidates that a round adds, and what is loaded and defined after it.
use Rattle.std.proofs.Common.{◌≡◌, ℕ, ◌<◌, Bool, true, false, not, ◌&&◌, ◌||◌, List, [], ◌∷◌, ◌++◌, Result, Ok, Err, refl, sym, ap, subst, ◌∙◌, arith, inl, inr}
use Rattle.std.specs.Prelude.{Contains, map, filter, filter_map, ◌==◌, bytes_eq}
use Rattle.std.specs.List.{list_any}
use Rattle.std.proofs.lemmas.Bool.{cases_Bool}
use Rattle.std.proofs.lemmas.List.Elements.{All-contains}
use Rattle.std.proofs.lemmas.List.Folds.{list_any-append}
use Rattle.object_file.specs.wl_base.Choice.{has_name}
use Rattle.object_file.specs.wl_base.declared.fault.Fault.{Fault}
use Rattle.object_file.specs.declared.object.Object.{Object}
use Rattle.made_symbols.specs.declared.mode.Mode.{Mode}
use Rattle.made_symbols.specs.Made.{made}
use Rattle.round_rules.specs.Rounds.{Candidate, Added, object_in, is_loaded, objects_of, defined_names, is_defined, added_with, adds_any, round_adds, inputs_of}
use Rattle.round_rules.specs.RoundLaws.{inputs_in, Rise}
use Rattle.lib_rounds.specs.Lean.{new_objects}
use Rattle.lib_rounds.proofs.Kept.{contains_head, contains_tail, contains_none, contains_cases, any_contains, contains_any, was_kept, kept, contains_map, was_mapped, pairs_first, pairs_later}

-- ---- candidates with rising inputs

-- a candidate is the only one of its input
pub same_input : (all : List Candidate) → Rise (inputs_in all) → (c d : Candidate) → Contains all c → Contains all d → c.input ≡ d.input → c ≡ d
same_input [] rise c d h k e = absurd (contains_none c h)
same_input (x ∷ xs) rise c d h k e =
    let above : (z : Candidate) → Contains xs z → x.input < z.input =
    λ z m. All-contains (λ (b : ℕ). x.input < b) (inputs_in xs) z.input (pairs_first (λ (a b : ℕ). a < b) x.input (inputs_in xs) rise)
    (contains_map (λ (y : Candidate). y.input) xs z m) in
    elim (contains_cases x xs c h) [
      | inl first ↦ elim (contains_cases x xs d k) [
        | inl too ↦ sym first ∙ too
        | inr later ↦ let lt = above d later in let i : x.input ≡ c.input = ap (λ (y : Candidate). y.input) first in absurd (omega (arith, lt, i, e))
      ]
      | inr later ↦ elim (contains_cases x xs d k) [
        | inl too ↦ let lt = above c later in let i : x.input ≡ d.input = ap (λ (y : Candidate). y.input) too in absurd (omega (arith, lt, i, e))
        | inr also ↦ same_input xs (pairs_later (λ (a b : ℕ). a < b) x.input (inputs_in xs) rise) c d later also e
      ]
    ]

-- of the candidates, those that were picked are the ones whose inputs were
pub picked : (all : List Candidate) → Rise (inputs_in all) → (q : Candidate → Bool) (c : Candidate) → Contains all c
    → is_loaded (inputs_in (filter q all)) c ≡ q c
picked all rise q c h = elim (cases_Bool (q c)) [
  | inl is ↦ contains_any c.input (inputs_in (filter q all)) (contains_map (λ (x : Candidate). x.input) (filter q all) c (kept q all c h is)) ∙ sym is
  | inr not_so ↦ elim (cases_Bool (is_loaded (inputs_in (filter q all)) c)) [
    | inl there ↦
        let m = was_mapped (λ (x : Candidate). x.input) (filter q all) c.input (any_contains c.input (inputs_in (filter q all)) there) in
        let k = was_kept q all m.0 m.1 in
        let one = same_input all rise m.0 c k.0 h m.2 in
        let is : q c ≡ true = subst (λ (z : Candidate). q z ≡ true) one k.1 in absurd cc
    | inr nowhere ↦ nowhere ∙ sym not_so
  ]
]

-- ---- what a round adds

module _ (all : List Candidate) (wanted : List (List ℕ)) (loaded : List ℕ) where
  -- whether a candidate is added
  abbrev pub is_picked : Candidate → Bool
  is_picked c = not (is_loaded loaded c) && adds_any (added_with all wanted c)

  adds_from : (cs : List Candidate)
      → filter adds_any (map (added_with all wanted) (filter (λ c. not (is_loaded loaded c)) cs)) ≡ map (added_with all wanted) (filter is_picked cs)
  adds_from [] = refl
  adds_from (c ∷ cs) = elim (cases_Bool (is_loaded loaded c)) [
    | inl is ↦ rw is (adds_from cs)
    | inr fresh ↦ elim (cases_Bool (adds_any (added_with all wanted c))) [
      | inl any ↦ rw (fresh, any) (ap (λ (xs : List Added). added_with all wanted c ∷ xs) (adds_from cs))
      | inr none ↦ rw (fresh, none) (adds_from cs)
    ]
  ]

  pub adds_are : round_adds all wanted loaded ≡ map (added_with all wanted) (filter is_picked all)
  adds_are = adds_from all

  inputs_from : (cs : List Candidate) → inputs_of (map (added_with all wanted) cs) ≡ inputs_in cs
  inputs_from [] = refl
  inputs_from (c ∷ cs) = ap (λ (xs : List ℕ). c.input ∷ xs) (inputs_from cs)

  pub inputs_are : inputs_of (round_adds all wanted loaded) ≡ inputs_in (filter is_picked all)
  inputs_are = ap (λ (new : List Added). inputs_of new) adds_are ∙ inputs_from (filter is_picked all)

  objects_from : (cs : List Candidate) → new_objects (map (added_with all wanted) cs) ≡ filter_map (λ c. object_in c.object) cs
  objects_from [] = refl
  objects_from (c ∷ cs) = rw (objects_from cs) refl

  pub objects_are : new_objects (round_adds all wanted loaded) ≡ filter_map (λ c. object_in c.object) (filter is_picked all)
  objects_are = ap (λ (new : List Added). new_objects new) adds_are ∙ objects_from (filter is_picked all)

  -- after the round a candidate is loaded where it was before or was added
  pub loaded_after : Rise (inputs_in all) → (c : Candidate) → Contains all c
      → is_loaded (loaded ++ inputs_of (round_adds all wanted loaded)) c ≡ (is_loaded loaded c || is_picked c)
  loaded_after rise c h =
      list_any-append (λ k. k == c.input) loaded (inputs_of (round_adds all wanted loaded))
      ∙ ap (λ (xs : List ℕ). is_loaded loaded c || is_loaded xs c) inputs_are
      ∙ ap (λ (b : Bool). is_loaded loaded c || b) (picked all rise is_picked c h)

-- ---- what is defined after it

abbrev pub holds_in : (Object → Bool) → Result Object Fault → Bool
holds_in test (Ok o) = test o
holds_in test (Err fault) = false

any_kept : (test : Object → Bool) (q : Candidate → Bool) (c : Candidate) (cs : List Candidate)
    → list_any test (filter_map (λ c. object_in c.object) (filter q cs)) ≡ list_any (λ c. q c && holds_in test c.object) cs
    → (r : Result Object Fault) → c.object ≡ r
    → list_any test (filter_map (λ c. object_in c.object) (c ∷ filter q cs)) ≡
    (holds_in test r || list_any (λ c. q c && holds_in test c.object) cs)
any_kept test q c cs others (Ok o) e = rw (e, others) refl
any_kept test q c cs others (Err fault) e = rw (e, others) refl

-- a test of the objects of some candidates
pub any_object : (test : Object → Bool) (q : Candidate → Bool) (cs : List Candidate)
    → list_any test (filter_map (λ c. object_in c.object) (filter q cs)) ≡ list_any (λ c. q c && holds_in test c.object) cs
any_object test q [] = refl
any_object test q (c ∷ cs) =
    let others = any_object test q cs in
    elim (cases_Bool (q c)) [ inl is ↦ rw is (any_kept test q c cs others c.object refl) | inr not_so ↦ rw not_so others ]

or_shared : (a b d u v : Bool) → (((a || b) && d) || (u || v)) ≡ (((a && d) || u) || ((b && d) || v))
or_shared true true true u v = refl
or_shared true true false u v = refl
or_shared true false true u v = refl
or_shared true false false u v = refl
or_shared false true true true v = refl
or_shared false true true false v = refl
or_shared false true false u v = refl
or_shared false false d u v = refl

pub any_split : (p q r test : Candidate → Bool) (cs : List Candidate) → ((c : Candidate) → Contains cs c → p c ≡ (q c || r c))
    → list_any (λ c. p c && test c) cs ≡ (list_any (λ c. q c && test c) cs || list_any (λ c. r c && test c) cs)
any_split p q r test [] h = refl
any_split p q r test (c ∷ cs) h =
    let others = any_split p q r test cs (λ d m. h d (contains_tail c cs d m)) in
    let first = h c (contains_head c cs) in
    rw (first, others) (or_shared (q c) (r c) (test c) (list_any (λ c. q c && test c) cs) (list_any (λ c. r c && test c) cs))

or_or : (a b c : Bool) → (a || (b || c)) ≡ ((a || b) || c)
or_or true b c = refl
or_or false b c = refl

module _ (all : List Candidate) (rise : Rise (inputs_in all)) (wanted : List (List ℕ)) (loaded : List ℕ) where
  -- a test of the loaded objects holds of one of those before or of one that was added
  pub any_after : (test : Object → Bool)
      → list_any test (objects_of all (loaded ++ inputs_of (round_adds all wanted loaded))) ≡
      (list_any test (objects_of all loaded) || list_any test (new_objects (round_adds all wanted loaded)))
  any_after test =
      let new : List Added = round_adds all wanted loaded in
      any_object test (is_loaded (loaded ++ inputs_of new)) all
      ∙ any_split (is_loaded (loaded ++ inputs_of new)) (is_loaded loaded) (is_picked all wanted loaded) (λ c. holds_in test c.object) all
      (loaded_after all wanted loaded rise)
      ∙ ap (λ (b : Bool). b || list_any (λ c. is_picked all wanted loaded c && holds_in test c.object) all)
      (sym (any_object test (is_loaded loaded) all))
      ∙ ap (λ (b : Bool). list_any test (objects_of all loaded) || b)
      (sym (any_object test (is_picked all wanted loaded) all) ∙ ap (λ (os : List Object). list_any test os) (sym (objects_are all wanted loaded)))

  -- a name is defined where it was before, or where an added object defines it
  pub defined_after : (mode : Mode) (name : List ℕ)
      → is_defined mode (objects_of all (loaded ++ inputs_of (round_adds all wanted loaded))) name ≡
      (is_defined mode (objects_of all loaded) name || list_any (λ o. has_name (defined_names o) name)
      (new_objects (round_adds all wanted loaded)))
  defined_after mode name =
      let linker : Bool = list_any (λ m. bytes_eq m.name name) (made mode) in
      ap (λ (b : Bool). linker || b) (any_after (λ o. has_name (defined_names o) name))
      ∙ or_or linker (list_any (λ o. has_name (defined_names o) name) (objects_of all loaded))
      (list_any (λ o. has_name (defined_names o) name) (new_objects (round_adds all wanted loaded)))
