-- Counts of live parts, part by part.
use Rattle.std.proofs.Common.{◌≡◌, ℕ, zero, suc, ◌+◌, ◌<◌, ◌≤◌, ◌==◌, All, arith, Bool, true, false, not, cond, ◌||◌, List, [], ◌∷◌, ◌++◌, length, get_or, set, replicate, append_assoc, refl, sym, ap, subst, ◌∙◌, inl, inr, Option, Some, None, eq-eqb, eqb-true}
use Rattle.std.specs.Prelude.{if◌then◌else◌}
use Rattle.std.specs.List.{list_any}
use Rattle.std.proofs.lemmas.Bool.{cases_eq, ne_eqb}
use Rattle.std.proofs.lemmas.List.{append-nil, length-set, length-replicate, get_or-set_same, get_or-set_other}
use Rattle.std.proofs.lemmas.List.Elements.{filter-append, All-head, All-tail}
use Rattle.std.proofs.lemmas.Option.{slice_get-get_or}
use Rattle.std.proofs.lemmas.List.Folds.{list_any-append}
use Rattle.link_marks.specs.link_program.declared.program.Tables.{Tables}
use Rattle.lost_ctors.specs.declared.alive.Alive.{Alive}
use Rattle.lost_ctors.specs.declared.alive.Alive.TheVariants.{Nothing, Alone, Many}
use Rattle.lost_ctors.specs.Alive.{input_of, with_part, is_other, lives_beside, lives, Sums, parts_of, kept_count, count_part, count_parts, AreAlive}

or_false : (b : Bool) → (b || false) ≡ b
or_false true = refl
or_false false = refl

or_true : (b : Bool) → (b || true) ≡ true
or_true true = refl
or_true false = refl

or_same : (b : Bool) → (b || b) ≡ b
or_same true = refl
or_same false = refl

-- two different parts: one of them isn't the own one
one_is_other : (a n : ℕ) (own : Option ℕ) → (a == n) ≡ false → (is_other own a || is_other own n) ≡ true
one_is_other a n None differ = refl
one_is_other a n (Some own) differ = by (own == a) refl (own == n) refl
  where
    by : (x : Bool) → (own == a) ≡ x → (y : Bool) → (own == n) ≡ y → (not x || not y) ≡ true
    by true first true second = absurd (
        let same : a ≡ n = sym (eqb-true own a first) ∙ eqb-true own n second in
        let e : true ≡ false = sym (eq-eqb a n same) ∙ differ in
        cc)
    by true first false second = refl
    by false first y second = refl

more_any : (own : Option ℕ) (ns : List ℕ) (n : ℕ) (b : Bool) → b ≡ list_any (is_other own) ns → (b || is_other own n) ≡ list_any (is_other own) (ns ++ n ∷ [])
more_any own ns n b is =
    ap (λ b. b || is_other own n) is ∙ ap (λ c. list_any (is_other own) ns || c) (sym (or_false (is_other own n))) ∙ sym (list_any-append (is_other own) ns (n ∷ []))

pub sums_more : (alive : Alive) (ns : List ℕ) (n : ℕ) → Sums alive ns → Sums (with_part alive n) (ns ++ n ∷ [])
sums_more Nothing ns n sums = λ own. more_any own ns n false (sums own)
sums_more (Alone a) ns n sums = λ own. by own (a == n) refl
  where
    by : (own : Option ℕ) (b : Bool) → (a == n) ≡ b → lives_beside (if b then Alone a else Many) own ≡ list_any (is_other own) (ns ++ n ∷ [])
    by own true same = sym (or_same (is_other own a)) ∙ ap (λ k. is_other own a || is_other own k) (eqb-true a n same) ∙ more_any own ns n (is_other own a) (sums own)
    by own false differ = sym (one_is_other a n own differ) ∙ more_any own ns n (is_other own a) (sums own)
sums_more Many ns n sums = λ own. more_any own ns n true (sums own)

pub sums_none : Sums Nothing []
sums_none = λ own. refl

-- whether any is there
pub lives_any : (alive : Alive) (ns : List ℕ) → Sums alive ns → lives alive ≡ list_any (λ n. true) ns
lives_any Nothing ns sums = sums None
lives_any (Alone n) ns sums = sums None
lives_any Many ns sums = sums None

-- ---- the column

module _ (t : Tables) where
  one_of : (input : ℕ) (ns : List ℕ) (n : ℕ) → parts_of t input (ns ++ n ∷ []) ≡ parts_of t input ns ++ (cond (input_of t n == input) (n ∷ []) [])
  one_of input ns n = filter-append (λ n. input_of t n == input) ns (n ∷ [])

  pub column_more : (alive : List Alive) (ns : List ℕ) (n : ℕ) → input_of t n < length alive → AreAlive t ns alive → AreAlive t (ns ++ n ∷ []) (set alive (input_of t n) (with_part (get_or alive (input_of t n) Nothing) n))
  column_more alive ns n inside are input = elim (cases_eq input (input_of t n)) as (λ _. Sums (get_or (set alive (input_of t n) (with_part (get_or alive (input_of t n) Nothing) n)) input Nothing) (parts_of t input (ns ++ n ∷ []))) [
    | inl same ↦
        let hit : (input_of t n == input) ≡ true = eq-eqb (input_of t n) input (sym same) in
        let now = get_or-set_same alive (input_of t n) (with_part (get_or alive (input_of t n) Nothing) n) Nothing inside in
        let whole : parts_of t input (ns ++ n ∷ []) ≡ parts_of t input ns ++ n ∷ [] = one_of input ns n ∙ ap (λ b. parts_of t input ns ++ cond b (n ∷ []) []) hit in
        subst (λ s. Sums s (parts_of t input (ns ++ n ∷ []))) (sym (ap (λ k. get_or (set alive (input_of t n) (with_part (get_or alive (input_of t n) Nothing) n)) k Nothing) same ∙ now))
        (subst (Sums (with_part (get_or alive (input_of t n) Nothing) n)) (sym whole)
        (subst (λ k. Sums (with_part (get_or alive k Nothing) n) (parts_of t input ns ++ n ∷ [])) same (sums_more (get_or alive input Nothing) (parts_of t input ns) n (are input))))
    | inr differ ↦
        let missed : (input_of t n == input) ≡ false = ne_eqb (input_of t n) input (λ e. differ (sym e)) in
        let whole : parts_of t input (ns ++ n ∷ []) ≡ parts_of t input ns = one_of input ns n ∙ ap (λ b. parts_of t input ns ++ cond b (n ∷ []) []) missed ∙ append-nil (parts_of t input ns) in
        subst (λ s. Sums s (parts_of t input (ns ++ n ∷ []))) (sym (get_or-set_other alive (input_of t n) input (with_part (get_or alive (input_of t n) Nothing) n) Nothing differ))
        (subst (Sums (get_or alive input Nothing)) (sym whole) (are input))
  ]

  pub column_none : (alive : List Alive) → ((input : ℕ) → get_or alive input Nothing ≡ Nothing) → AreAlive t [] alive
  column_none alive none input = subst (λ s. Sums s []) (sym (none input)) sums_none

-- below a greater number too
pub all_higher : (t : Tables) (a b : ℕ) (ns : List ℕ) → a ≤ b → All (λ n. input_of t n < a) ns → All (λ n. input_of t n < b) ns
all_higher t a b ns low all = λ k d lt. let below = all k d lt in omega (arith, low, below)

-- a column that begins with nothing
pub none_at : (alive : List Alive) (n input : ℕ) → alive ≡ replicate n Nothing → get_or alive input Nothing ≡ Nothing
none_at alive n input is = ap (λ l. get_or l input Nothing) is ∙ by n input
  where
    by : (n input : ℕ) → get_or (replicate n Nothing) input Nothing ≡ Nothing
    by zero input = refl
    by (suc n) zero = refl
    by (suc n) (suc input) = by n input

-- ---- all parts, one after another

module _ (t : Tables) where
  is_set : (column : List Alive) (n : ℕ) → input_of t n < length column → count_part t column n ≡ set column (input_of t n) (with_part (get_or column (input_of t n) Nothing) n)
  is_set column n inside = ap (kept_count column (input_of t n) n) (slice_get-get_or column (input_of t n) Nothing inside)

  counted_on : (column : List Alive) (before ns : List ℕ) → All (λ n. input_of t n < length column) ns → AreAlive t before column → AreAlive t (before ++ ns) (count_parts t column ns)
  counted_on column before [] all are = subst (λ l. AreAlive t l column) (sym (append-nil before)) are
  counted_on column before (n ∷ ns) all are =
      let inside : input_of t n < length column = All-head (λ n. input_of t n < length column) n ns all in
      let same = is_set column n inside in
      let long : length (count_part t column n) ≡ length column = ap (λ (l : List Alive). length l) same ∙ length-set column (input_of t n) (with_part (get_or column (input_of t n) Nothing) n) in
      let next : AreAlive t (before ++ n ∷ []) (count_part t column n) = subst (λ cells. AreAlive t (before ++ n ∷ []) cells) (sym same) (column_more t column before n inside are) in
      let rest : All (λ m. input_of t m < length (count_part t column n)) ns = subst (λ k. All (λ n. input_of t n < k) ns) (sym long) (All-tail (λ n. input_of t n < length column) n ns all) in
      subst (λ l. AreAlive t l (count_parts t (count_part t column n) ns)) (append_assoc before (n ∷ []) ns) (counted_on (count_part t column n) (before ++ n ∷ []) ns rest next)

  pub all_counted : (inputs : ℕ) (ns : List ℕ) → All (λ n. input_of t n < inputs) ns → AreAlive t ns (count_parts t (replicate inputs Nothing) ns)
  all_counted inputs ns all =
      counted_on (replicate inputs Nothing) [] ns (subst (λ k. All (λ n. input_of t n < k) ns) (sym (length-replicate inputs Nothing)) all)
      (column_none t (replicate inputs Nothing) (λ input. none_at (replicate inputs Nothing) inputs input refl))
