-- The least member that is given for a name.
use Rattle.std.proofs.Common.{◌≡◌, ℕ, zero, suc, ◌≤◌, ◌<◌, Bool, true, false, not, cond, List, [], ◌∷◌, ◌++◌, length, Option, Some, None, refl, sym, ap, subst, ◌∙◌, append_assoc, arith, inl, inr}
use Rattle.std.specs.Prelude.{min, map, filter, All, MatchOption, IfSome, Contains, slice_index_or}
use Rattle.std.specs.Map.{lookup}
use Rattle.std.specs.Str.{bytes_eq}
use Rattle.std.proofs.lemmas.Bool.{cases_Bool, cases_lt}
use Rattle.std.proofs.lemmas.Slice.Eq.{bytes_eq-Decides}
use Rattle.std.proofs.lemmas.List.{append-nil, map-append}
use Rattle.std.proofs.lemmas.List.Elements.{filter-append, All-nil, All-cons, All-head, All-tail, All-filter}
use Rattle.lib_index.specs.Library.{less_of, least, least_of, leasts}
use Rattle.lib_index.specs.Table.{offered_onto}

abbrev pub Entry : Type 0
Entry = List ℕ × ℕ

-- ---- names

pub same_name : (a b : List ℕ) → bytes_eq a b ≡ true → a ≡ b
same_name a b e = (bytes_eq-Decides a b).0 e

pub itself : (a : List ℕ) → bytes_eq a a ≡ true
itself a = (bytes_eq-Decides a a).1 refl

-- of two names that differ, one that is the first isn't the second
pub apart : (a b c : List ℕ) → bytes_eq a b ≡ false → bytes_eq b c ≡ true → bytes_eq a c ≡ false
apart a b c other same = subst (λ (x : List ℕ). bytes_eq a x ≡ false) (same_name b c same) other

pub apart_left : (a b c : List ℕ) → bytes_eq a b ≡ false → bytes_eq a c ≡ true → bytes_eq b c ≡ false
apart_left a b c other same =
    elim (cases_Bool (bytes_eq b c)) [
      | inl is ↦ let p : a ≡ b = same_name a c same ∙ sym (same_name b c is) in let q : bytes_eq a b ≡ true = (bytes_eq-Decides a b).1 p in absurd cc
      | inr unlike ↦ unlike
    ]

-- ---- one entry more

less_swap : (j k : ℕ) (o : Option ℕ) → less_of j (Some (less_of k o)) ≡ less_of k (Some (less_of j o))
less_swap j k None = omega arith
less_swap j k (Some x) = omega arith

least_push : (ks : List ℕ) (k : ℕ) → least (ks ++ k ∷ []) ≡ Some (less_of k (least ks))
least_push [] k = refl
least_push (j ∷ ks) k = ap (λ o. Some (less_of j o)) (least_push ks k) ∙ ap Some (less_swap j k (least ks))

last_given : (b : Bool) (es : List Entry) (e : Entry) → least (map (λ (x : Entry). x.1) (es ++ cond b (e ∷ []) [])) ≡ cond b (Some (less_of e.1 (least (map (λ (x : Entry). x.1) es)))) (least (map (λ (x : Entry). x.1) es))
last_given true es e = ap least (map-append (λ (x : Entry). x.1) es (e ∷ [])) ∙ least_push (map (λ (x : Entry). x.1) es) e.1
last_given false es e = ap (λ (xs : List Entry). least (map (λ (x : Entry). x.1) xs)) (append-nil es)

pub least_of_push : (es : List Entry) (e : Entry) (name : List ℕ) → least_of (es ++ e ∷ []) name ≡ cond (bytes_eq name e.0) (Some (less_of e.1 (least_of es name))) (least_of es name)
least_of_push es e name =
    ap (λ (xs : List Entry). least (map (λ (x : Entry). x.1) xs)) (filter-append (λ (x : Entry). bytes_eq name x.0) es (e ∷ []))
    ∙ last_given (bytes_eq name e.0) (filter (λ (x : Entry). bytes_eq name x.0) es) e

abbrev without : List ℕ → List Entry → List Entry
without name os = filter (λ o. not (bytes_eq name o.0)) os

without_offered : (name : List ℕ) (k : ℕ) (os : List Entry) → without name (offered_onto os name k) ≡ without name os
without_offered name k [] = rw (itself name) refl
without_offered name k (o ∷ os) =
    elim (cases_Bool (bytes_eq name o.0)) [
      | inl same ↦ rw (same, same) refl
      | inr other ↦ rw (other, other) (ap (λ (xs : List Entry). o ∷ xs) (without_offered name k os))
    ]

offered_without : (other name : List ℕ) (k : ℕ) (os : List Entry) → bytes_eq other name ≡ false → without other (offered_onto os name k) ≡ offered_onto (without other os) name k
offered_without other name k [] h = rw h refl
offered_without other name k (o ∷ os) h =
    elim (cases_Bool (bytes_eq name o.0)) [
      | inl same ↦ let unlike = apart other name o.0 h same in rw (same, unlike, same) refl
      | inr differ ↦
          elim (cases_Bool (bytes_eq other o.0)) [
            | inl same ↦ rw (differ, same) (offered_without other name k os h)
            | inr unlike ↦ rw (differ, unlike, differ) (ap (λ (xs : List Entry). o ∷ xs) (offered_without other name k os h))
          ]
    ]

pub leasts_push : (es : List Entry) (e : Entry) → leasts (es ++ e ∷ []) ≡ offered_onto (leasts es) e.0 e.1
leasts_push [] e = refl
leasts_push (a ∷ es) e =
    elim (cases_Bool (bytes_eq e.0 a.0)) [
      | inl same ↦
          let is = same_name e.0 a.0 same in
          let back : bytes_eq a.0 e.0 ≡ true = (bytes_eq-Decides a.0 e.0).1 (sym is) in
          let value : less_of a.1 (least_of (es ++ e ∷ []) a.0) ≡ min e.1 (less_of a.1 (least_of es a.0))
          = rw (least_of_push es e a.0, back) (less_swap a.1 e.1 (least_of es a.0)) in
          let others : without a.0 (leasts (es ++ e ∷ [])) ≡ without a.0 (leasts es)
          = ap (without a.0) (leasts_push es e) ∙ subst (λ (n : List ℕ). without a.0 (offered_onto (leasts es) n e.1) ≡ without a.0 (leasts es)) (sym is) (without_offered a.0 e.1 (leasts es)) in
          rw (same, value, others) refl
      | inr other ↦
          let back : bytes_eq a.0 e.0 ≡ false = elim (cases_Bool (bytes_eq a.0 e.0)) [ inl alike ↦ let p : bytes_eq e.0 a.0 ≡ true = (bytes_eq-Decides e.0 a.0).1 (sym (same_name a.0 e.0 alike)) in absurd cc | inr unlike ↦ unlike ] in
          let value : least_of (es ++ e ∷ []) a.0 ≡ least_of es a.0 = rw (least_of_push es e a.0, back) refl in
          let others : without a.0 (leasts (es ++ e ∷ [])) ≡ offered_onto (without a.0 (leasts es)) e.0 e.1
          = ap (without a.0) (leasts_push es e) ∙ offered_without a.0 e.0 e.1 (leasts es) back in
          rw (other, value, others) refl
    ]

-- ---- entries one after another

abbrev pub onto_all : List Entry → List Entry → List Entry
onto_all os [] = os
onto_all os (e ∷ es) = onto_all (offered_onto os e.0 e.1) es

leasts_onto : (before es : List Entry) → onto_all (leasts before) es ≡ leasts (before ++ es)
leasts_onto before [] = ap leasts (sym (append-nil before))
leasts_onto before (e ∷ es) =
    ap (λ (os : List Entry). onto_all os es) (sym (leasts_push before e)) ∙ leasts_onto (before ++ e ∷ []) es ∙ ap leasts (append_assoc before (e ∷ []) es)

pub onto_nothing : (es : List Entry) → onto_all [] es ≡ leasts es
onto_nothing es = leasts_onto [] es

-- ---- what is offered

lookup_without : (other name : List ℕ) (os : List Entry) → bytes_eq name other ≡ false → lookup (bytes_eq name) (without other os) ≡ lookup (bytes_eq name) os
lookup_without other name [] h = refl
lookup_without other name (o ∷ os) h =
    elim (cases_Bool (bytes_eq other o.0)) [
      | inl same ↦ let unlike = apart name other o.0 h same in rw (same, unlike) (lookup_without other name os h)
      | inr differ ↦ rw differ (ap (cond (bytes_eq name o.0) (Some o.1)) (lookup_without other name os h))
    ]

pub least_is_offered : (es : List Entry) (name : List ℕ) → lookup (bytes_eq name) (leasts es) ≡ least_of es name
least_is_offered [] name = refl
least_is_offered (e ∷ es) name =
    elim (cases_Bool (bytes_eq name e.0)) [
      | inl same ↦ let is = same_name name e.0 same in rw same (ap (λ (n : List ℕ). Some (less_of e.1 (least_of es n))) (sym is))
      | inr other ↦ rw other (lookup_without e.0 name (leasts es) other ∙ least_is_offered es name)
    ]

-- ---- what the least is

less_below : (k : ℕ) (o : Option ℕ) (n : ℕ) → k < n → less_of k o < n
less_below k None n lt = lt
less_below k (Some j) n lt = omega (arith, lt)

pub leasts_below : (n : ℕ) (es : List Entry) → All (λ e. e.1 < n) es → All (λ o. o.1 < n) (leasts es)
leasts_below n [] all = All-nil (λ (o : Entry). o.1 < n)
leasts_below n (e ∷ es) all =
    All-cons (λ (o : Entry). o.1 < n) (e.0, less_of e.1 (least_of es e.0)) (without e.0 (leasts es))
    (less_below e.1 (least_of es e.0) n (All-head (λ (x : Entry). x.1 < n) e es all))
    (All-filter (λ (o : Entry). not (bytes_eq e.0 o.0)) (λ (o : Entry). o.1 < n) (leasts es) (leasts_below n es (All-tail (λ (x : Entry). x.1 < n) e es all)))

-- what is found is below what all are below
pub lookup_below : (n : ℕ) (os : List Entry) (name : List ℕ) → All (λ o. o.1 < n) os → IfSome (lookup (bytes_eq name) os) (λ k. k < n)
lookup_below n [] name all = tt
lookup_below n (o ∷ os) name all =
    elim (cases_Bool (bytes_eq name o.0)) [
      | inl same ↦ rw same (All-head (λ (x : Entry). x.1 < n) o os all)
      | inr other ↦ rw other (lookup_below n os name (All-tail (λ (x : Entry). x.1 < n) o os all))
    ]

Contains-first : (e : Entry) (es : List Entry) → Contains (e ∷ es) e
Contains-first e es = (0, omega arith, refl)

Contains-later : (e x : Entry) (es : List Entry) → Contains es x → Contains (e ∷ es) x
Contains-later e x es h = (suc h.0, omega (arith, h.1), h.2)

given_first : (e : Entry) (es : List Entry) (name : List ℕ) (k : ℕ) (o : Option ℕ) → bytes_eq name e.0 ≡ true → ((j : ℕ) → o ≡ Some j → Contains es (name, j)) → Some (less_of e.1 o) ≡ Some k → Contains (e ∷ es) (name, k)
given_first e es name k None same later h =
    let is : e.1 ≡ k = cc in
    let both : (let x : Entry = (e.0, e.1) in x ≡ (name, k)) = rw (same_name name e.0 same, is) refl in
    subst (λ (x : Entry). Contains (e ∷ es) x) both (Contains-first e es)
given_first e es name k (Some j) same later h =
    let is : min e.1 j ≡ k = cc in
    elim (cases_lt j e.1) [
      | inl lt ↦
          let one : j ≡ k = omega (arith, is, lt) in
          Contains-later e (name, k) es (subst (λ n. Contains es (name, n)) one (later j refl))
      | inr le ↦
          let one : e.1 ≡ k = omega (arith, is, le) in
          let both : (let x : Entry = (e.0, e.1) in x ≡ (name, k)) = rw (same_name name e.0 same, one) refl in
          subst (λ (x : Entry). Contains (e ∷ es) x) both (Contains-first e es)
    ]

pub least_is_given : (es : List Entry) (name : List ℕ) (k : ℕ) → least_of es name ≡ Some k → Contains es (name, k)
least_is_given [] name k h = absurd cc
least_is_given (e ∷ es) name k h =
    elim (cases_Bool (bytes_eq name e.0)) [
      | inl same ↦ given_first e es name k (least_of es name) same (least_is_given es name) (rw same at h)
      | inr other ↦ Contains-later e (name, k) es (least_is_given es name k (rw other at h))
    ]

-- there is a number, and it is this one at most
abbrev AtMost : ℕ → Option ℕ → Type 0
AtMost j o = MatchOption o ⊥ (λ k. k ≤ j)

less_at_most : (k j : ℕ) (o : Option ℕ) → k ≤ j → less_of k o ≤ j
less_at_most k j None le = le
less_at_most k j (Some x) le = omega (arith, le)

more_at_most : (k j : ℕ) (o : Option ℕ) → AtMost j o → less_of k o ≤ j
more_at_most k j None h = absurd h
more_at_most k j (Some x) h = omega (arith, h)

at_most : (es : List Entry) (name : List ℕ) (j i : ℕ) → i < length es → slice_index_or es i (name, j) ≡ (name, j) → AtMost j (least_of es name)
at_most [] name j i lt h = absurd (omega arith)
at_most (e ∷ es) name j zero lt h =
    let n : e.0 ≡ name = ap (λ (x : Entry). x.0) h in
    let k : e.1 ≡ j = ap (λ (x : Entry). x.1) h in
    let same : bytes_eq name e.0 ≡ true = (bytes_eq-Decides name e.0).1 (sym n) in
    rw same (less_at_most e.1 j (least_of es name) (omega (arith, k)))
at_most (e ∷ es) name j (suc i) lt h =
    let others = at_most es name j i (omega (arith, lt)) h in
    elim (cases_Bool (bytes_eq name e.0)) [
      | inl same ↦ rw same (more_at_most e.1 j (least_of es name) others)
      | inr other ↦ rw other others
    ]

pub given_at_most : (es : List Entry) (name : List ℕ) (j : ℕ) → Contains es (name, j) → AtMost j (least_of es name)
given_at_most es name j h = at_most es name j h.0 h.1 h.2
