-- The map of what a round adds, name by name.
use Rattle.std.proofs.Common.{◌≡◌, ℕ, ◌<◌, Bool, true, false, ◌&&◌, cond, List, [], ◌∷◌, ◌++◌, length, Option, Some, None, refl, sym, ap, subst, ◌∙◌, arith, inl, inr}
use Rattle.std.specs.Prelude.{Contains, filter, unwrap_or, ◌==◌}
use Rattle.std.specs.Ordering.{nat_cmp}
use Rattle.std.specs.BTreeMap.{is_at}
use Rattle.std.specs.Map.{lookup, keys_of}
use Rattle.std.specs.List.Sorted.{IsStrictlySortedBy}
use Rattle.std.proofs.lemmas.Bool.{cases_Bool, eq-eqb, ne_eqb}
use Rattle.std.proofs.lemmas.List.{append-nil, length-append}
use Rattle.std.proofs.lemmas.List.Elements.{All-nil, All-contains, filter-append}
use Rattle.round_rules.specs.Rounds.{Candidate, is_loaded, offering, is_just, names_for}
use Rattle.round_rules.specs.RoundLaws.{inputs_in, Rise}
use Rattle.lib_rounds.specs.Lean.{Entry, IsFresh, HoldNames}
use Rattle.lib_rounds.proofs.Kept.{all_from}
use Rattle.lib_rounds.proofs.Picked.{same_input}
use Rattle.lib_rounds.proofs.Groups.{same_key, at_same, found_at}

-- ---- one name more

-- what a test keeps of one element
abbrev kept_of : {X : Type 0} → Bool → X → List X
kept_of b x = cond b (x ∷ []) []

filter_one : {X : Type 0} (p : X → Bool) (x : X) → filter p (x ∷ []) ≡ kept_of (p x) x
filter_one p x = refl

filter_two : {X : Type 0} (p q : X → Bool) (x : X) → filter p (filter q (x ∷ [])) ≡ kept_of (q x && p x) x
filter_two p q x = elim (cases_Bool (q x)) [ inl is ↦ rw is refl | inr not_so ↦ rw not_so refl ]

and_false : (a b : Bool) → b ≡ false → (a && b) ≡ false
and_false true b e = e
and_false false b e = refl

none_sorted : IsStrictlySortedBy nat_cmp []
unfolding IsStrictlySortedBy
none_sorted = tt

some_is : (a b : List (List ℕ)) → (let x : Option (List (List ℕ)) = Some a in x ≡ Some b) → a ≡ b
some_is a b e = cc

one_long : (ns : List (List ℕ)) (n : List ℕ) → 0 < length (ns ++ n ∷ [])
one_long ns n = rw (length-append ns (n ∷ [])) (omega arith)

key_same : (a b : ℕ) → a ≡ b → is_at (nat_cmp a) b ≡ true
key_same a b e = grind (arith, e)

module _ (all : List Candidate) (wanted : List ℕ → Bool) where
  -- the names of a candidate, with one more that is looked at
  pub names_more : (names : List (List ℕ)) (name : List ℕ) (c : Candidate)
      → names_for all (filter wanted (names ++ name ∷ [])) c ≡ names_for all (filter wanted names) c ++ cond
      (wanted name && is_just c.input (offering all name)) (name ∷ []) []
  names_more names name c =
      ap (λ (ns : List (List ℕ)). names_for all ns c) (filter-append wanted names (name ∷ []))
      ∙ filter-append (λ n. is_just c.input (offering all n)) (filter wanted names) (filter wanted (name ∷ []))
      ∙ ap (λ (ns : List (List ℕ)). names_for all (filter wanted names) c ++ ns) (filter_two (λ n. is_just c.input (offering all n)) wanted name)

  module _ (loaded : List ℕ) where
    abbrev pub Holds : List (List ℕ) → List Entry → Type 0
    Holds names es = HoldNames all (filter wanted names) loaded es

    pub hold_start : Holds [] []
    hold_start = record {
      sorted = none_sorted;
      names = λ c h fresh. refl;
      filled = All-nil (λ (e : Entry). 0 < length e.1);
      fresh = All-nil
          (IsFresh all [] loaded);
    }

    -- a name that no candidate gets
    hold_same : (names : List (List ℕ)) (name : List ℕ) (es : List Entry) → Holds names es
        → ((c : Candidate) → Contains all c → is_loaded loaded c ≡ false → (wanted name && is_just c.input (offering all name)) ≡ false)
        → Holds (names ++ name ∷ []) es
    hold_same names name es h none = record {
      sorted = h.sorted;
      names = λ c m fresh. h.names c m fresh ∙ sym (append-nil (names_for all (filter wanted names) c))
          ∙ ap (λ (b : Bool). names_for all (filter wanted names) c ++ kept_of b name) (sym (none c m fresh)) ∙ sym (names_more names name c);
      filled = h.filled;
      fresh = h.fresh;
    }

    -- it isn't wanted
    pub hold_unwanted : (names : List (List ℕ)) (name : List ℕ) (es : List Entry) → Holds names es → wanted name ≡ false
        → Holds (names ++ name ∷ []) es
    hold_unwanted names name es h e = hold_same names name es h (λ c m fresh. rw e refl)

    -- none offers it
    pub hold_none : (names : List (List ℕ)) (name : List ℕ) (es : List Entry) → Holds names es → offering all name ≡ None
        → Holds (names ++ name ∷ []) es
    hold_none names name es h e = hold_same names name es h
        (λ c m fresh. and_false (wanted name) (is_just c.input (offering all name)) (ap (is_just c.input) e))

    -- what offers it is loaded
    pub hold_loaded : Rise (inputs_in all) → (names : List (List ℕ)) (name : List ℕ) (es : List Entry) → Holds names es
        → (d : Candidate) → Contains all d → offering all name ≡ Some d.input → is_loaded loaded d ≡ true → Holds (names ++ name ∷ []) es
    hold_loaded rise names name es h d there e is =
        hold_same names name es h
        (λ c m fresh. and_false (wanted name) (is_just c.input (offering all name)) (ap (is_just c.input) e ∙ other c m fresh))
      where
        other : (c : Candidate) → Contains all c → is_loaded loaded c ≡ false → (d.input == c.input) ≡ false
        other c m fresh = ne_eqb d.input c.input (λ same.
            let one = same_input all rise d c there m same in
            let t : is_loaded loaded c ≡ true = subst (λ (x : Candidate). is_loaded loaded x ≡ true) one is in cc)

    -- a candidate gets it
    pub hold_push : Rise (inputs_in all) → (names : List (List ℕ)) (name : List ℕ) (es fs : List Entry) → Holds names es → wanted name ≡ true
        → (d : Candidate) → Contains all d → offering all name ≡ Some d.input → is_loaded loaded d ≡ false → IsStrictlySortedBy nat_cmp (keys_of fs)
        → ((q : ℕ)
        → lookup (is_at (nat_cmp q)) fs ≡ cond (is_at (nat_cmp d.input) q)
        (Some (unwrap_or (lookup (is_at (nat_cmp d.input)) es) [] ++ name ∷ [])) (lookup (is_at (nat_cmp q)) es))
        → Holds (names ++ name ∷ []) fs
    hold_push rise names name es fs h is d there e unloaded sorted put = record {
      sorted = sorted;
      names = names_now;
      filled = all_from (λ (x : Entry). 0 < length x.1) fs (λ x m. (each x m).0);
      fresh = all_from (IsFresh all (filter wanted (names ++ name ∷ [])) loaded) fs (λ x m. (each x m).1);
    }
      where
        before : List (List ℕ)
        before = unwrap_or (lookup (is_at (nat_cmp d.input)) es) []

        names_now : (c : Candidate) → Contains all c → is_loaded loaded c ≡ false
            → unwrap_or (lookup (is_at (nat_cmp c.input)) fs) [] ≡ names_for all (filter wanted (names ++ name ∷ [])) c
        names_now c m fresh = elim (cases_Bool (is_at (nat_cmp d.input) c.input)) [
          | inl same ↦
              let one = same_input all rise d c there m (same_key d.input c.input same) in
              let gets : (wanted name && is_just c.input (offering all name)) ≡ true =
              rw (is, e) (eq-eqb d.input c.input (ap (λ (x : Candidate). x.input) one)) in
              let old : before ≡ names_for all (filter wanted names) c = h.names d there unloaded ∙ ap (names_for all (filter wanted names)) one in
              ap (λ (o : Option (List (List ℕ))). unwrap_or o [])
              (put c.input ∙ ap (λ (b : Bool). cond b (Some (before ++ name ∷ [])) (lookup (is_at (nat_cmp c.input)) es)) same)
              ∙ ap (λ (ns : List (List ℕ)). ns ++ name ∷ []) old
              ∙ ap (λ (b : Bool). names_for all (filter wanted names) c ++ kept_of b name) (sym gets) ∙ sym (names_more names name c)
          | inr other ↦
              let not_it : (d.input == c.input) ≡ false = ne_eqb d.input c.input (λ same. let t = key_same d.input c.input same in absurd cc) in
              let none : (wanted name && is_just c.input (offering all name)) ≡ false =
              and_false (wanted name) (is_just c.input (offering all name)) (ap (is_just c.input) e ∙ not_it) in
              ap (λ (o : Option (List (List ℕ))). unwrap_or o [])
              (put c.input ∙ ap (λ (b : Bool). cond b (Some (before ++ name ∷ [])) (lookup (is_at (nat_cmp c.input)) es)) other)
              ∙ h.names c m fresh ∙ sym (append-nil (names_for all (filter wanted names) c))
              ∙ ap (λ (b : Bool). names_for all (filter wanted names) c ++ kept_of b name) (sym none) ∙ sym (names_more names name c)
        ]

        each : (x : Entry) → Contains fs x → (0 < length x.1) × IsFresh all (filter wanted (names ++ name ∷ [])) loaded x
        each x m =
            let here = sym (put x.0) ∙ at_same fs x sorted m in
            elim (cases_Bool (is_at (nat_cmp d.input) x.0)) [
              | inl same ↦
                  let value : before ++ name ∷ [] ≡ x.1 =
                  some_is (before ++ name ∷ []) x.1
                  (ap (λ (b : Bool). cond b (Some (before ++ name ∷ [])) (lookup (is_at (nat_cmp x.0)) es)) (sym same) ∙ here) in
                  (subst (λ (ns : List (List ℕ)). 0 < length ns) value (one_long before name), (d, there, same_key d.input x.0 same, unloaded))
              | inr other ↦
                  let old : lookup (is_at (nat_cmp x.0)) es ≡ Some x.1 =
                  ap (λ (b : Bool). cond b (Some (before ++ name ∷ [])) (lookup (is_at (nat_cmp x.0)) es)) (sym other) ∙ here in
                  let k = found_at es x.0 x.1 old in (
                    All-contains (λ (y : Entry). 0 < length y.1) es (x.0, x.1) h.filled k,
                    All-contains (IsFresh all (filter wanted names) loaded) es
                        (x.0, x.1) h.fresh k,
                  )
            ]
