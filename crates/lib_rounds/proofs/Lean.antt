-- The rounds that look only at the names of what was added last load the same inputs.
use Rattle.std.proofs.Common.{◌≡◌, ℕ, zero, suc, ◌+◌, Bool, true, false, not, ◌&&◌, List, [], ◌∷◌, ◌++◌, length, Option, Some, None, Result, Ok, Err, refl, sym, ap, subst, ◌∙◌, inl, inr, ◌⊎◌}
use Rattle.std.specs.Prelude.{Contains, map, filter, filter_map, flat_map}
use Rattle.std.proofs.lemmas.Bool.{cases_Bool, and_parts}
use Rattle.std.proofs.lemmas.List.Elements.{filter-append, Contains-append_left, Contains-append_right}
use Rattle.object_file.specs.wl_base.Choice.{first_some, unless, ◌>>=◌}
use Rattle.object_file.specs.wl_base.declared.fault.Fault.{Fault}
use Rattle.object_file.specs.declared.object.Object.{Object}
use Rattle.made_symbols.specs.declared.mode.Mode.{Mode}
use Rattle.round_rules.specs.Rounds.{Candidate, Added, object_in, is_loaded, objects_of, strong_names, is_defined, wanted_names, offering, is_just, names_for, added_with, adds_any, added_fault, inputs_of, go_on, next_adds, rounds, at_once, always_read_fault, loaded_inputs}
use Rattle.round_rules.specs.RoundLaws.{inputs_in, Rise, next_round}
use Rattle.lib_rounds.specs.Lean.{names_of, first_names, lean_on, lean_adds, lean}
use Rattle.lib_rounds.proofs.Kept.{contains_head, contains_tail, contains_none, contains_cases, contains_any, kept}
use Rattle.lib_rounds.proofs.Offers.{next_is, is_that}
use Rattle.lib_rounds.proofs.Picked.{is_picked, loaded_after, objects_are, defined_after}

-- ---- names of candidates

abbrev pub strong_in : Result Object Fault → List (List ℕ)
strong_in (Ok o) = strong_names o
strong_in (Err fault) = []

one_more : (c : Candidate) (cs : List Candidate)
    → flat_map strong_names (filter_map (λ c. object_in c.object) cs) ≡ flat_map (λ c. strong_in c.object) cs
    → (r : Result Object Fault) → c.object ≡ r
    → flat_map strong_names (filter_map (λ c. object_in c.object) (c ∷ cs)) ≡ strong_in r ++ flat_map (λ c. strong_in c.object) cs
one_more c cs others (Ok o) e = rw (e, others) refl
one_more c cs others (Err fault) e = rw (e, others) refl

-- the names that the objects of candidates refer to strongly
pub strong_from : (cs : List Candidate) → flat_map strong_names (filter_map (λ c. object_in c.object) cs) ≡ flat_map (λ c. strong_in c.object) cs
strong_from [] = refl
strong_from (c ∷ cs) = one_more c cs (strong_from cs) c.object refl

pub in_flat : (f : Candidate → List (List ℕ)) (cs : List Candidate) (c : Candidate) (name : List ℕ) → Contains cs c → Contains (f c) name
    → Contains (flat_map f cs) name
in_flat f [] c name h k = absurd (contains_none c h)
in_flat f (d ∷ ds) c name h k = elim (contains_cases d ds c h) [
  | inl same ↦ Contains-append_left (f d) (flat_map f ds) name (subst (λ (x : Candidate). Contains (f x) name) (sym same) k)
  | inr later ↦ Contains-append_right (f d) (flat_map f ds) name (in_flat f ds c name later k)
]

-- ---- filters

filter_both : {X : Type 0} (p q : X → Bool) (xs : List X) → filter p (filter q xs) ≡ filter (λ x. q x && p x) xs
filter_both p q [] = refl
filter_both {X} p q (x ∷ xs) = elim (cases_Bool (q x)) [
  | inl is ↦
      elim
      (cases_Bool (p x)) [
        | inl too ↦ rw (is, too) (ap (λ (ys : List X). x ∷ ys) (filter_both p q xs))
        | inr other ↦ rw (is, other)
            (filter_both p q xs)
      ]
  | inr not_so ↦ rw not_so (filter_both p q xs)
]

none_kept : {X : Type 0} (p : X → Bool) (xs : List X) → ((x : X) → Contains xs x → p x ≡ false) → filter p xs ≡ []
none_kept p [] h = refl
none_kept p (x ∷ xs) h = rw (h x (contains_head x xs)) (none_kept p xs (λ y c. h y (contains_tail x xs y c)))

-- names that a test leaves out may be left out before
leave_out : (p : List ℕ → Bool) (f : Candidate → List (List ℕ)) (q r : Candidate → Bool) (cs : List Candidate)
    → ((c : Candidate) → Contains cs c → (q c ≡ r c) ⊎ ((r c ≡ false) × (filter p (f c) ≡ [])))
    → filter p (flat_map f (filter q cs)) ≡ filter p (flat_map f (filter r cs))
leave_out p f q r [] h = refl
leave_out p f q r (c ∷ cs) h =
    let others = leave_out p f q r cs (λ d m. h d (contains_tail c cs d m)) in
    let more : filter p (f c ++ flat_map f (filter q cs)) ≡ filter p (f c) ++ filter p (flat_map f (filter r cs)) =
    filter-append p (f c) (flat_map f (filter q cs)) ∙ ap (λ (ns : List (List ℕ)). filter p (f c) ++ ns) others in
    elim (h c (contains_head c cs)) [
      | inl same ↦ elim (cases_Bool (r c)) [
        | inl is ↦ rw (same, is) (more ∙ sym (filter-append p (f c) (flat_map f (filter r cs))))
        | inr not_so ↦ rw (same, not_so) others
      ]
      | inr out ↦ elim (cases_Bool (q c)) [
        | inl is ↦ rw (is, out.0) (more ∙ ap (λ (ns : List (List ℕ)). ns ++ filter p (flat_map f (filter r cs))) out.1)
        | inr not_so ↦ rw (not_so, out.0) others
      ]
    ]

-- ---- what a round adds depends on the names of each candidate alone

kept_alike : (a b : Added) (xs ys : List Added) → a ≡ b → filter adds_any xs ≡ filter adds_any ys
    → filter adds_any (a ∷ xs) ≡ filter adds_any (b ∷ ys)
kept_alike a b xs ys same others = elim (cases_Bool (adds_any b)) [
  | inl any ↦ ap (λ (x : Added). filter adds_any (x ∷ xs)) same ∙ rw any (ap (λ (zs : List Added). b ∷ zs) others)
  | inr none ↦ ap (λ (x : Added). filter adds_any (x ∷ xs)) same ∙ rw none others
]

pub adds_agree : (all : List Candidate) (wanted names : List (List ℕ)) (loaded : List ℕ) (cs : List Candidate)
    → ((c : Candidate) → Contains cs c → is_loaded loaded c ≡ false → names_for all wanted c ≡ names_for all names c)
    → filter adds_any (map (added_with all wanted) (filter (λ c. not (is_loaded loaded c)) cs)) ≡ filter adds_any
    (map (added_with all names) (filter (λ c. not (is_loaded loaded c)) cs))
adds_agree all wanted names loaded [] h = refl
adds_agree all wanted names loaded (c ∷ cs) h =
    let others = adds_agree all wanted names loaded cs (λ d m. h d (contains_tail c cs d m)) in
    let unloaded : List Candidate = filter (λ c. not (is_loaded loaded c)) cs in
    elim (cases_Bool (is_loaded loaded c)) [
      | inl is ↦ rw is others
      | inr fresh ↦
          let same : added_with all wanted c ≡ added_with all names c =
          ap (λ (ns : List (List ℕ)). let a : Added = record { candidate = c; names = ns } in a) (h c (contains_head c cs) fresh) in
          rw fresh
          (kept_alike (added_with all wanted c) (added_with all names c) (map (added_with all wanted) unloaded)
          (map (added_with all names) unloaded) same others)
    ]

-- ---- the rounds

false_or : (b : Bool) → not b ≡ true → b ≡ false
false_or true e = absurd cc
false_or false e = refl

module _ (mode : Mode) (asked : List (List ℕ)) (all : List Candidate) (rise : Rise (inputs_in all)) where
  abbrev Undefined : List ℕ → List ℕ → Bool
  Undefined loaded name = not (is_defined mode (objects_of all loaded) name)

  abbrev Wanted : List ℕ → List (List ℕ)
  Wanted loaded = wanted_names mode asked (objects_of all loaded)

  -- the names that are looked at give each candidate that isn't loaded the same names as all that are wanted
  abbrev pub Enough : List ℕ → List (List ℕ) → Type 0
  Enough loaded names = (c : Candidate) → Contains all c → is_loaded loaded c ≡ false
      → names_for all (Wanted loaded) c ≡ names_for all (filter (Undefined loaded) names) c

  adds_same : (loaded : List ℕ) (names : List (List ℕ)) → Enough loaded names → next_adds mode asked all loaded ≡ lean_adds mode all loaded names
  adds_same loaded names h = adds_agree all (Wanted loaded) (filter (Undefined loaded) names) loaded all h

  module _ (loaded : List ℕ) (c : Candidate) (in_all : Contains all c) (fresh : is_loaded (next_round mode asked all loaded) c ≡ false) where
    -- whether a name is wanted after the round, and c offers it
    abbrev still : List ℕ → Bool
    still name = Undefined (next_round mode asked all loaded) name && is_just c.input (offering all name)

    abbrev old : List (List ℕ)
    old = first_names asked (objects_of all loaded)

    was_undefined : (name : List ℕ) → Undefined (next_round mode asked all loaded) name ≡ true → Undefined loaded name ≡ true
    was_undefined name e = elim (cases_Bool (is_defined mode (objects_of all loaded) name)) [
      | inl is ↦
          let now = defined_after all rise (Wanted loaded) loaded mode name in
          let f = false_or (is_defined mode (objects_of all (next_round mode asked all loaded)) name) e in
          let h = rw is at now in absurd cc
      | inr not_so ↦ rw not_so refl
    ]

    -- a name of before the round isn't: it was wanted, so c was added
    none_old : (name : List ℕ) → Contains old name → still name ≡ false
    none_old name h = elim (cases_Bool (still name)) [
      | inr not_so ↦ not_so
      | inl is ↦
          let both = and_parts (Undefined (next_round mode asked all loaded) name) (is_just c.input (offering all name)) is in
          let w : Contains (Wanted loaded) name = kept (Undefined loaded) old name h (was_undefined name both.0) in
          let there = (next_is mode asked all loaded c.input).1 (inr (name, w, is_that c.input (offering all name) both.1)) in
          let t : is_loaded (next_round mode asked all loaded) c ≡ true = contains_any c.input (next_round mode asked all loaded) there in
          absurd cc
    ]

    abbrev new : List Added
    new = next_adds mode asked all loaded

    -- the object of a candidate that was loaded before has no such name
    none_in : (d : Candidate) → Contains all d → is_loaded loaded d ≡ true → filter still (strong_in d.object) ≡ []
    none_in d h e = none_kept still (strong_in d.object) (λ name k. none_old name (
        Contains-append_right asked (flat_map strong_names (objects_of all loaded)) name
        (subst (λ (ns : List (List ℕ)). Contains ns name) (sym (strong_from (filter (is_loaded loaded) all)))
        (in_flat (λ c. strong_in c.object) (filter (is_loaded loaded) all) d name (kept (is_loaded loaded) all d h e) k))))

    by_cases : (d : Candidate) → Contains all d
        → (is_loaded (next_round mode asked all loaded) d ≡ is_picked all (Wanted loaded) loaded d) ⊎
        ((is_picked all (Wanted loaded) loaded d ≡ false) × (filter still (strong_in d.object) ≡ []))
    by_cases d h =
        let after = loaded_after all (Wanted loaded) loaded rise d h in
        elim (cases_Bool (is_loaded loaded d)) [ inl is ↦ inr (rw is refl, none_in d h is) | inr not_so ↦ inl (after ∙ rw not_so refl) ]

    -- so the names of the objects that were added are those that give c its names
    names_same : filter still (first_names asked (objects_of all (next_round mode asked all loaded))) ≡ filter still (names_of new)
    names_same =
        let needs : Candidate → List (List ℕ) = λ d. strong_in d.object in
        let now : List Candidate = filter (is_loaded (next_round mode asked all loaded)) all in
        let picks : List Candidate = filter (is_picked all (Wanted loaded) loaded) all in
        filter-append still asked (flat_map strong_names (objects_of all (next_round mode asked all loaded)))
        ∙ ap (λ (ns : List (List ℕ)). ns ++ filter still (flat_map strong_names (objects_of all (next_round mode asked all loaded))))
        (none_kept still asked (λ name k. none_old name (Contains-append_left asked (flat_map strong_names (objects_of all loaded)) name k)))
        ∙ ap (λ (ns : List (List ℕ)). filter still ns) (strong_from now)
        ∙ leave_out still needs (is_loaded (next_round mode asked all loaded)) (is_picked all (Wanted loaded) loaded) all by_cases
        ∙ ap (λ (ns : List (List ℕ)). filter still ns) (sym (strong_from picks)
        ∙ ap (λ (os : List Object). flat_map strong_names os) (sym (objects_are all (Wanted loaded) loaded)))

    pub enough_for : names_for all (Wanted (next_round mode asked all loaded)) c ≡ names_for all
        (filter (Undefined (next_round mode asked all loaded)) (names_of new)) c
    enough_for =
        filter_both (λ name. is_just c.input (offering all name)) (Undefined (next_round mode asked all loaded))
        (first_names asked (objects_of all (next_round mode asked all loaded)))
        ∙ names_same
        ∙ sym (filter_both (λ name. is_just c.input (offering all name)) (Undefined (next_round mode asked all loaded)) (names_of new))

  pub enough_next : (loaded : List ℕ) → Enough (next_round mode asked all loaded) (names_of (next_adds mode asked all loaded))
  enough_next loaded c h fresh = enough_for loaded c h fresh

  -- ---- the theorem

  same_after : (fault : Option Fault) (next : List ℕ) (names : List (List ℕ)) (again : List ℕ → Result (List ℕ) Fault) (lean_again : List ℕ
      → List (List ℕ) → Result (List ℕ) Fault) → again next ≡ lean_again next names
      → (unless fault next >>= again) ≡ (unless fault next >>= λ l. lean_again l names)
  same_after None next names again lean_again e = e
  same_after (Some fault) next names again lean_again e = refl

  same_on : (loaded : List ℕ) (adds : List Added) (again : List ℕ → Result (List ℕ) Fault) (lean_again : List ℕ → List (List ℕ)
      → Result (List ℕ) Fault)
      → again (loaded ++ inputs_of adds) ≡ lean_again (loaded ++ inputs_of adds) (names_of adds)
      → go_on again loaded adds ≡ lean_on lean_again loaded adds
  same_on loaded [] again lean_again e = refl
  same_on loaded (a ∷ as') again lean_again e = same_after (first_some (map added_fault (a ∷ as'))) (loaded ++ inputs_of (a ∷ as'))
      (names_of (a ∷ as')) again lean_again e

  pub lean_rounds : (n : ℕ) (loaded : List ℕ) (names : List (List ℕ)) → Enough loaded names
      → rounds mode asked all n loaded ≡ lean mode all n loaded names
  lean_rounds zero loaded names h = refl
  lean_rounds (suc n) loaded names h =
      same_on loaded (next_adds mode asked all loaded) (rounds mode asked all n) (lean mode all n)
      (lean_rounds n (next_round mode asked all loaded) (names_of (next_adds mode asked all loaded)) (enough_next loaded))
      ∙ ap (λ (adds : List Added). lean_on (lean mode all n) loaded adds) (adds_same loaded names h)

  from_start : (fault : Option Fault) (n : ℕ) (start : List ℕ)
      → (unless fault start >>= rounds mode asked all n) ≡ (unless fault start >>= λ l. lean mode all n l (first_names asked (objects_of all l)))
  from_start (Some fault) n start = refl
  from_start None n start = lean_rounds n start (first_names asked (objects_of all start)) (λ c h fresh. refl)

-- The loaded inputs, or the first fault, are those of the rounds that look only at new names.
pub lean_is : (mode : Mode) (asked : List (List ℕ)) (all : List Candidate) → Rise (inputs_in all)
    → loaded_inputs mode asked all ≡
    (unless (always_read_fault all) (at_once all) >>= λ l. lean mode all (length all + 1) l (first_names asked (objects_of all l)))
lean_is mode asked all rise = from_start mode asked all rise (always_read_fault all) (length all + 1) (at_once all)
