-- The rounds end at the first that equals its successor.
use Rattle.std.proofs.Common.{◌≡◌, ◌≢◌, ℕ, zero, suc, ◌+◌, ◌≤◌, ◌<◌, Bool, true, false, not, ◌||◌, List, [], ◌∷◌, ◌++◌, length, Option, Some, None, Result, Ok, refl, sym, ap, subst, ◌∙◌, arith, inl, inr}
use Rattle.std.specs.Prelude.{All, AllPairs, Contains, map, filter, ◌==◌}
use Rattle.std.proofs.lemmas.Bool.{cases_Bool}
use Rattle.std.proofs.lemmas.List.{append-nil}
use Rattle.std.proofs.lemmas.List.Elements.{All-append, Contains-append_left, Contains-append_right}
use Rattle.std.proofs.lemmas.List.Folds.{list_any-append}
use Rattle.object_file.specs.wl_base.Choice.{first_some, unless, ◌>>=◌}
use Rattle.object_file.specs.wl_base.declared.fault.Fault.{Fault}
use Rattle.made_symbols.specs.declared.mode.Mode.{Mode}
use Rattle.round_rules.specs.Rounds.{Candidate, Added, is_loaded, objects_of, wanted_names, added_with, adds_any, added_fault, inputs_of, go_on, next_adds, rounds, at_once, always_read_fault, loaded_inputs}
use Rattle.round_rules.specs.RoundLaws.{inputs_in, Differ, next_round, round_after, round_fault, fault_within, Grows, IsFirstEqual, RoundsEnd, LoadedIsFirstEqual, NothingIsLeft, AddedRise, RoundsOnce, LoadedOnce}
use Rattle.lib_rounds.proofs.Kept.{contains_head, all_from, contains_any, was_kept, kept, fewer_by, fewest, contains_map, was_mapped, pairs_joined, pairs_kept}

not_true : (b : Bool) → not b ≡ true → b ≡ false
not_true true e = absurd cc
not_true false e = refl

not_false : (b : Bool) → b ≡ false → not b ≡ true
not_false true e = absurd cc
not_false false e = refl

false_not : (b : Bool) → b ≡ true → not b ≡ false
false_not true e = refl
false_not false e = absurd cc

or_left : (a b c : Bool) → c ≡ (a || b) → a ≡ true → c ≡ true
or_left true b c e t = e
or_left false b c e t = absurd cc

not_loaded : (loaded : List ℕ) (c : Candidate) → is_loaded loaded c ≡ false → Contains loaded c.input → ⊥
not_loaded loaded c e h = let t : is_loaded loaded c ≡ true = contains_any c.input loaded h in cc

-- ---- what a round adds

module _ (mode : Mode) (asked : List (List ℕ)) (all : List Candidate) where
  abbrev pub wants : List ℕ → List (List ℕ)
  wants loaded = wanted_names mode asked (objects_of all loaded)

  abbrev pub with_names : List ℕ → Candidate → Added
  with_names loaded c = added_with all (wants loaded) c

  -- it is a candidate that isn't loaded, with its names
  abbrev pub IsNew : List ℕ → ℕ → Candidate → Type 0
  IsNew loaded input c = Contains all c × (is_loaded loaded c ≡ false) × (c.input ≡ input) × (adds_any (with_names loaded c) ≡ true)

  pub new_from : (loaded : List ℕ) (input : ℕ) → Contains (inputs_of (next_adds mode asked all loaded)) input → (c : Candidate) × IsNew loaded input c
  new_from loaded input h =
      let fresh : List Candidate = filter (λ c. not (is_loaded loaded c)) all in
      let m = was_mapped (λ (a : Added). a.candidate.input) (next_adds mode asked all loaded) input h in
      let k = was_kept adds_any (map (with_names loaded) fresh) m.0 m.1 in
      let n = was_mapped (with_names loaded) fresh m.0 k.0 in
      let f = was_kept (λ c. not (is_loaded loaded c)) all n.0 n.1 in
      (n.0, (f.0, not_true (is_loaded loaded n.0) f.1, ap (λ (a : Added). a.candidate.input) n.2 ∙ m.2, subst (λ (a : Added). adds_any a ≡ true) (sym n.2) k.1))

  pub new_again : (loaded : List ℕ) (c : Candidate) → Contains all c → is_loaded loaded c ≡ false → adds_any (with_names loaded c) ≡ true → Contains (inputs_of (next_adds mode asked all loaded)) c.input
  new_again loaded c h f t =
      let fresh : List Candidate = filter (λ c. not (is_loaded loaded c)) all in
      let k = kept (λ c. not (is_loaded loaded c)) all c h (not_false (is_loaded loaded c) f) in
      let m = contains_map (with_names loaded) fresh c k in
      let n = kept adds_any (map (with_names loaded) fresh) (with_names loaded c) m t in
      contains_map (λ (a : Added). a.candidate.input) (next_adds mode asked all loaded) (with_names loaded c) n

  -- how many candidates aren't loaded
  abbrev left : List ℕ → ℕ
  left loaded = length (filter (λ c. not (is_loaded loaded c)) all)

  later_loaded : (loaded more : List ℕ) (c : Candidate) → is_loaded loaded c ≡ true → is_loaded (loaded ++ more) c ≡ true
  later_loaded loaded more c e = or_left (is_loaded loaded c) (is_loaded more c) (is_loaded (loaded ++ more) c) (list_any-append (λ k. k == c.input) loaded more) e

  earlier_not : (loaded more : List ℕ) (c : Candidate) → not (is_loaded (loaded ++ more) c) ≡ true → not (is_loaded loaded c) ≡ true
  earlier_not loaded more c e = elim (cases_Bool (is_loaded loaded c)) [
    | inl is ↦ let t = later_loaded loaded more c is in let f = not_true (is_loaded (loaded ++ more) c) e in absurd cc
    | inr f ↦ not_false (is_loaded loaded c) f
  ]

  shrinks : (loaded : List ℕ) (input : ℕ) → Contains (inputs_of (next_adds mode asked all loaded)) input → left (next_round mode asked all loaded) < left loaded
  shrinks loaded input h =
      let more : List ℕ = inputs_of (next_adds mode asked all loaded) in
      let n = new_from loaded input h in
      let c = n.0 in
      let there : is_loaded (loaded ++ more) c ≡ true = contains_any c.input (loaded ++ more) (Contains-append_right loaded more c.input (subst (λ (i : ℕ). Contains more i) (sym n.1.2) h)) in
      fewer_by (λ c. not (is_loaded loaded c)) (λ c. not (is_loaded (loaded ++ more) c)) (earlier_not loaded more) all c n.1.0
      (not_false (is_loaded loaded c) n.1.1) (false_not (is_loaded (loaded ++ more) c) there)

  grows : (loaded : List ℕ) (input : ℕ) → Contains (inputs_of (next_adds mode asked all loaded)) input → Grows mode asked all loaded
  grows loaded input h =
      let n = new_from loaded input h in
      (input, Contains-append_right loaded (inputs_of (next_adds mode asked all loaded)) input h, λ e. not_loaded loaded n.0 n.1.1 (subst (λ (i : ℕ). Contains loaded i) (sym n.1.2) e))

  -- ---- the end

  -- nothing is added to round k, and something to each before it
  abbrev Ends : ℕ → List ℕ → Type 0
  Ends k loaded = (next_adds mode asked all (round_after mode asked all k loaded) ≡ []) × ((j : ℕ) → j < k → Grows mode asked all (round_after mode asked all j loaded)) × (k ≤ left loaded)

  grow_from : (loaded : List ℕ) (k : ℕ) → Grows mode asked all loaded → ((j : ℕ) → j < k → Grows mode asked all (round_after mode asked all j (next_round mode asked all loaded))) → (j : ℕ) → j < suc k → Grows mode asked all (round_after mode asked all j loaded)
  grow_from loaded k first others zero lt = first
  grow_from loaded k first others (suc j) lt = others j (omega (arith, lt))

  first_added : (loaded : List ℕ) (a : Added) (as' : List Added) → next_adds mode asked all loaded ≡ a ∷ as' → Contains (inputs_of (next_adds mode asked all loaded)) a.candidate.input
  first_added loaded a as' e = subst (λ (xs : List Added). Contains (inputs_of xs) a.candidate.input) (sym e) (contains_head a.candidate.input (inputs_of as'))

  end_by : (n : ℕ) (loaded : List ℕ) (adds : List Added) → next_adds mode asked all loaded ≡ adds → left loaded ≤ n → (k : ℕ) × Ends k loaded
  end_by n loaded [] e l = (0, (e, λ j lt. absurd (omega (arith, lt)), omega arith))
  end_by zero loaded (a ∷ as') e l = absurd (let s = shrinks loaded a.candidate.input (first_added loaded a as' e) in omega (arith, s, l))
  end_by (suc n) loaded (a ∷ as') e l =
      let here = first_added loaded a as' e in
      let s = shrinks loaded a.candidate.input here in
      let next : List ℕ = next_round mode asked all loaded in
      let r = end_by n next (next_adds mode asked all next) refl (omega (arith, s, l)) in
      (suc r.0, (r.1.0, grow_from loaded r.0 (grows loaded a.candidate.input here) r.1.1, omega (arith, r.1.2, s)))

  end_of : (loaded : List ℕ) → (k : ℕ) × Ends k loaded
  end_of loaded = end_by (left loaded) loaded (next_adds mode asked all loaded) refl (omega arith)

  same_next : (loaded : List ℕ) → next_adds mode asked all loaded ≡ [] → next_round mode asked all loaded ≡ loaded
  same_next loaded e = ap (λ (xs : List Added). loaded ++ inputs_of xs) e ∙ append-nil loaded

  first_equal : (k : ℕ) (loaded : List ℕ) → Ends k loaded → IsFirstEqual mode asked all k loaded
  first_equal k loaded e = (same_next (round_after mode asked all k loaded) e.0, e.1)

  some_added : (loaded : List ℕ) → Grows mode asked all loaded → next_adds mode asked all loaded ≡ [] → ⊥
  some_added loaded g e = g.2 (subst (λ (xs : List ℕ). Contains xs g.0) (same_next loaded e) g.1)

  -- ---- what the rounds answer

  one_round : (again : List ℕ → Result (List ℕ) Fault) (loaded : List ℕ) (adds : List Added) (a : Added) (as' : List Added) → adds ≡ a ∷ as'
      → go_on again loaded adds ≡ (unless (first_some (map added_fault adds)) (loaded ++ inputs_of adds) >>= again)
  one_round again loaded adds a as' e = subst (λ (xs : List Added). go_on again loaded xs ≡ (unless (first_some (map added_fault xs)) (loaded ++ inputs_of xs) >>= again)) (sym e) refl

  behind : (fault : Option Fault) (next : List ℕ) (again : List ℕ → Result (List ℕ) Fault) (later : Option Fault) (last : List ℕ) → again next ≡ unless later last
      → (unless fault next >>= again) ≡ unless (first_some (fault ∷ later ∷ [])) last
  behind (Some x) next again later last e = refl
  behind None next again (Some y) last e = e
  behind None next again None last e = e

  answer_by : (k n : ℕ) (loaded : List ℕ) (adds : List Added) → next_adds mode asked all loaded ≡ adds → next_adds mode asked all (round_after mode asked all k loaded) ≡ []
      → ((j : ℕ) → j < k → Grows mode asked all (round_after mode asked all j loaded)) → k ≤ n
      → rounds mode asked all n loaded ≡ unless (fault_within mode asked all k loaded) (round_after mode asked all k loaded)
  answer_by zero zero loaded adds is last going l = refl
  answer_by zero (suc n) loaded adds is last going l = ap (go_on (rounds mode asked all n) loaded) last
  answer_by (suc k) zero loaded adds is last going l = absurd (omega (arith, l))
  answer_by (suc k) (suc n) loaded [] is last going l = absurd (some_added loaded (going 0 (omega arith)) is)
  answer_by (suc k) (suc n) loaded (a ∷ as') is last going l =
      let next : List ℕ = next_round mode asked all loaded in
      let others = answer_by k n next (next_adds mode asked all next) refl last (λ j lt. going (suc j) (omega (arith, lt))) (omega (arith, l)) in
      one_round (rounds mode asked all n) loaded (next_adds mode asked all loaded) a as' is
      ∙ behind (round_fault mode asked all loaded) next (rounds mode asked all n) (fault_within mode asked all k next) (round_after mode asked all k next) others

  answer_of : (k n : ℕ) (loaded : List ℕ) → Ends k loaded → k ≤ n → rounds mode asked all n loaded ≡ unless (fault_within mode asked all k loaded) (round_after mode asked all k loaded)
  answer_of k n loaded e l = answer_by k n loaded (next_adds mode asked all loaded) refl e.0 e.1 l

  few : (k : ℕ) (loaded : List ℕ) → Ends k loaded → k ≤ length all
  few k loaded e = let f = fewest (λ c. not (is_loaded loaded c)) all in omega (arith, e.2, f)

  loaded_of : (k : ℕ) → Ends k (at_once all) → loaded_inputs mode asked all ≡ unless (first_some (always_read_fault all ∷ fault_within mode asked all k (at_once all) ∷ [])) (round_after mode asked all k (at_once all))
  loaded_of k e =
      let f = few k (at_once all) e in
      behind (always_read_fault all) (at_once all) (rounds mode asked all (length all + 1)) (fault_within mode asked all k (at_once all)) (round_after mode asked all k (at_once all))
      (answer_of k (length all + 1) (at_once all) e (omega (arith, f)))

  -- ---- exactly what is added

  mapped : (loaded : List ℕ) (cs : List Candidate) → map (λ (a : Added). a.candidate.input) (map (with_names loaded) cs) ≡ inputs_in cs
  mapped loaded [] = refl
  mapped loaded (c ∷ cs) = ap (λ (xs : List ℕ). c.input ∷ xs) (mapped loaded cs)

  added_pairs : (R : ℕ → ℕ → Type 0) (loaded : List ℕ) → AllPairs R (inputs_in all) → AllPairs R (inputs_of (next_adds mode asked all loaded))
  added_pairs R loaded h =
      let fresh : List Candidate = filter (λ c. not (is_loaded loaded c)) all in
      pairs_kept R (λ (a : Added). a.candidate.input) adds_any (map (with_names loaded) fresh)
      (subst (AllPairs R) (sym (mapped loaded fresh)) (pairs_kept R (λ (c : Candidate). c.input) (λ c. not (is_loaded loaded c)) all h))

  next_differ : (loaded : List ℕ) → Differ (inputs_in all) → Differ loaded → Differ (next_round mode asked all loaded)
  next_differ loaded h d =
      let more : List ℕ = inputs_of (next_adds mode asked all loaded) in
      pairs_joined (λ (a b : ℕ). a ≢ b) loaded more d (added_pairs (λ (a b : ℕ). a ≢ b) loaded h)
      (λ x y in_loaded in_more e. let n = new_from loaded y in_more in not_loaded loaded n.0 n.1.1 (subst (λ (i : ℕ). Contains loaded i) (e ∙ sym n.1.2) in_loaded))

  abbrev Inputs : List ℕ → Type 0
  Inputs loaded = All (Contains (inputs_in all)) loaded

  next_inputs : (loaded : List ℕ) → Inputs loaded → Inputs (next_round mode asked all loaded)
  next_inputs loaded h =
      let more : List ℕ = inputs_of (next_adds mode asked all loaded) in
      All-append (Contains (inputs_in all)) loaded more h
      (all_from (Contains (inputs_in all)) more (λ i c. let n = new_from loaded i c in
      subst (λ (z : ℕ). Contains (inputs_in all) z) n.1.2 (contains_map (λ (c : Candidate). c.input) all n.0 n.1.0)))

  all_differ : (k : ℕ) (loaded : List ℕ) → Differ (inputs_in all) → Differ loaded → Differ (round_after mode asked all k loaded)
  all_differ zero loaded h d = d
  all_differ (suc k) loaded h d = all_differ k (next_round mode asked all loaded) h (next_differ loaded h d)

  all_inputs : (k : ℕ) (loaded : List ℕ) → Inputs loaded → Inputs (round_after mode asked all k loaded)
  all_inputs zero loaded h = h
  all_inputs (suc k) loaded h = all_inputs k (next_round mode asked all loaded) (next_inputs loaded h)

  onward : (k : ℕ) (loaded : List ℕ) (i : ℕ) → Contains loaded i → Contains (round_after mode asked all k loaded) i
  onward zero loaded i h = h
  onward (suc k) loaded i h = onward k (next_round mode asked all loaded) i (Contains-append_left loaded (inputs_of (next_adds mode asked all loaded)) i h)

  at_once_inputs : Inputs (at_once all)
  at_once_inputs = all_from (Contains (inputs_in all)) (at_once all) (λ i h.
      let r = was_mapped (λ (c : Candidate). c.input) (filter (λ c. not c.by_need) all) i h in
      let k = was_kept (λ (c : Candidate). not c.by_need) all r.0 r.1 in
      subst (λ (z : ℕ). Contains (inputs_in all) z) r.2 (contains_map (λ (c : Candidate). c.input) all r.0 k.0))

  at_once_differ : Differ (inputs_in all) → Differ (at_once all)
  at_once_differ h = pairs_kept (λ (a b : ℕ). a ≢ b) (λ (c : Candidate). c.input) (λ c. not c.by_need) all h

is_answer : (fault : Option Fault) (last loaded : List ℕ) → unless fault last ≡ Ok loaded → last ≡ loaded
is_answer None last loaded e = cc
is_answer (Some fault) last loaded e = absurd cc

pub rounds_end : RoundsEnd
rounds_end mode asked all loaded =
    let r = end_of mode asked all loaded in
    (r.0, few mode asked all r.0 loaded r.1, first_equal mode asked all r.0 loaded r.1, λ n l. answer_of mode asked all r.0 n loaded r.1 l)

pub loaded_is_first_equal : LoadedIsFirstEqual
loaded_is_first_equal mode asked all =
    let r = end_of mode asked all (at_once all) in
    (r.0, few mode asked all r.0 (at_once all) r.1, first_equal mode asked all r.0 (at_once all) r.1, loaded_of mode asked all r.0 r.1)

last_is : (mode : Mode) (asked : List (List ℕ)) (all : List Candidate) (loaded : List ℕ) → loaded_inputs mode asked all ≡ Ok loaded → round_after mode asked all (end_of mode asked all (at_once all)).0 (at_once all) ≡ loaded
last_is mode asked all loaded e =
    let r = end_of mode asked all (at_once all) in
    is_answer (first_some (always_read_fault all ∷ fault_within mode asked all r.0 (at_once all) ∷ [])) (round_after mode asked all r.0 (at_once all)) loaded (sym (loaded_of mode asked all r.0 r.1) ∙ e)

pub nothing_is_left : NothingIsLeft
nothing_is_left mode asked all loaded e =
    let r = end_of mode asked all (at_once all) in
    subst (λ (xs : List ℕ). next_adds mode asked all xs ≡ []) (last_is mode asked all loaded e) r.1.0

pub added_rise : AddedRise
added_rise mode asked all loaded h = added_pairs mode asked all (λ a b. a < b) loaded h

pub rounds_once : RoundsOnce
rounds_once mode asked all k loaded h d i = (all_differ mode asked all k loaded h d, all_inputs mode asked all k loaded i)

pub loaded_once : LoadedOnce
loaded_once mode asked all loaded h e =
    let k = (end_of mode asked all (at_once all)).0 in
    let is = last_is mode asked all loaded e in (
      subst Differ is (all_differ mode asked all k (at_once all) h (at_once_differ mode asked all h)),
      subst (λ (xs : List ℕ). All (Contains (inputs_in all)) xs) is (all_inputs mode asked all k (at_once all) (at_once_inputs mode asked all)),
      all_from (Contains loaded) (at_once all) (λ i c. subst (λ (xs : List ℕ). Contains xs i) is (onward mode asked all k (at_once all) i c)),
    )
