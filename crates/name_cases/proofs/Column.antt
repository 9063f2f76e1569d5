-- The column of the least entries gains a symbol.
use Rattle.std.proofs.Common.{◌≡◌, ◌≢◌, ℕ, ◌+◌, ◌<◌, Bool, true, false, cond, ◌&&◌, List, [], ◌∷◌, ◌++◌, length, get_or, set, replicate, take, filter, slice_get, Option, Some, None, refl, sym, ap, ◌∙◌, subst, arith, append_assoc, nat_lt, inl, inr, ◌⊎◌}
use Rattle.std.specs.List.{find, flat_map, IsDistinct}
use Rattle.std.specs.Option.{option_map, option_or, option_and_then, option_to_list}
use Rattle.std.specs.Str.{bytes_eq}
use Rattle.std.proofs.lemmas.Bool.{cases_eq}
use Rattle.std.proofs.lemmas.Bool.Decides.{nat_tests}
use Rattle.std.proofs.lemmas.List.{append-nil, get_or-set_same, get_or-set_other, length-set, take_more, flat_map_more, length-replicate, get_or-replicate}
use Rattle.std.proofs.Math.Seq.{take-length}
use Rattle.std.proofs.lemmas.List.Elements.{filter-append}
use Rattle.std.proofs.lemmas.List.Folds.{find-append}
use Rattle.std.proofs.lemmas.List.Quantifiers.{position-Some}
use Rattle.std.proofs.lemmas.List.Sums.{position_or_len_is}
use Rattle.std.proofs.lemmas.Map.Keys.{apart_from_distinct}
use Rattle.std.proofs.lemmas.Option.{slice_get_within, slice_get-get_or, get_or_from_slice_get}
use Rattle.std.proofs.lemmas.Slice.Eq.{bytes_eq-Decides}
use Rattle.std.specs.Cmp.Lexicographic.{nat_list_eq_equiv}
use Rattle.name_entries.specs.wl_base.Names.{number_of}
use Rattle.name_entries.specs.name_rules.Entries.{InputSymbol, name_of, is_named, is_entry}
use Rattle.name_entries.specs.View.{entry_number}
use Rattle.name_cases.specs.declared.question.Question.{Question}
use Rattle.name_cases.specs.declared.question.Question.TheVariants.{Judged, Mismatches, Definitions}
use Rattle.name_cases.specs.declared.rows.Spot.{Spot}
use Rattle.name_cases.specs.Beside.{number_at}
use Rattle.name_cases.specs.Rows.{symbol_in, entries_in}
use Rattle.name_cases.specs.Search.{counts, least_of, counted_number}
use Rattle.name_cases.specs.Firsts.{AreFirsts, Adds, noted, noted_at}

-- ---- numbers of names

-- the name of a number
pub name_at : (names : List (List ℕ)) (name : List ℕ) (n : ℕ) → number_of names name ≡ Some n → slice_get names n ≡ Some name
name_at names name n numbered =
    let at = position-Some (bytes_eq name) names n [] numbered in
    slice_get-get_or names n [] at.0 ∙ ap (λ x. Some x) (sym ((bytes_eq-Decides name (get_or names n [])).0 at.1))

-- the number of a name where all differ
pub own_number : (names : List (List ℕ)) (name : List ℕ) (i : ℕ) → IsDistinct bytes_eq names → slice_get names i ≡ Some name → number_of names name ≡ Some i
own_number names name i distinct at =
    let within = slice_get_within names i name at in
    let here : get_or names i name ≡ name = get_or_from_slice_get names i name name at in
    let place = position_or_len_is (bytes_eq name) names i name (omega arith)
    (λ k below. nat_list_eq_equiv.symm name (get_or names k name) ∙ (subst (λ y. bytes_eq (get_or names k name) y ≡ false) here (apart_from_distinct bytes_eq names k i name distinct below within)))
    (λ h. (bytes_eq-Decides name (get_or names i name)).1 (sym here)) in
    rw place (let b : nat_lt i (length names) ≡ true = grind (arith, nat_tests) in rw b refl)

-- ---- small facts

or_none : {A : Type 0} (o : Option A) → option_or o None ≡ o
or_none None = refl
or_none (Some x) = refl

second : (a b : Bool) → (a && b) ≡ true → b ≡ true
second true b h = h
second false true h = refl
second false false h = h

pub some_is : {A : Type 0} {x y : A} → Some x ≡ Some y → x ≡ y
some_is h = cc

pub some_none : {A : Type 0} {x : A} → Some x ≡ None → ⊥
some_none h = cc

-- where something stands in the column, it was found before
stands : {S A : Type 0} (f : S → Option A) (s : S) (o p : Option A) → option_map f (Some s) ≡ option_map (λ x. Some x) o → option_or o p ≡ o
stands f s None p h = cc
stands f s (Some x) p h = refl

none_found : {S A : Type 0} (f : S → Option A) (o : Option A) → option_map f None ≡ option_map (λ x. Some x) o → o ≡ None
none_found f None h = refl
none_found f (Some x) h = cc

-- ---- one entry more

module _ (q : Question) (names : List (List ℕ)) (rows : List (List InputSymbol)) where
  pub adds_none : (column : List (Option Spot)) → Adds q names rows column column []
  adds_none column es h = subst (λ xs. AreFirsts q names rows xs column) (sym (append-nil es)) h

  pub adds_both : (old mid new : List (Option Spot)) (xs ys : List InputSymbol) → Adds q names rows old mid xs → Adds q names rows mid new ys → Adds q names rows old new (xs ++ ys)
  adds_both old mid new xs ys f g es h = subst (λ zs. AreFirsts q names rows zs new) (append_assoc es xs ys) (g (es ++ xs) (f es h))

  least_more : (es : List InputSymbol) (e : InputSymbol) (name : List ℕ) → least_of q (es ++ e ∷ []) name ≡ option_or (least_of q es name) (cond (counts q e && is_named name e) (Some e) None)
  least_more es e name = find-append (λ x. counts q x && is_named name x) es (e ∷ [])

  -- an entry that the test of a name fails
  passed_by : (es : List InputSymbol) (e : InputSymbol) (name : List ℕ) → (counts q e && is_named name e) ≡ false → least_of q (es ++ e ∷ []) name ≡ least_of q es name
  passed_by es e name fails = least_more es e name ∙ ap (λ b. option_or (least_of q es name) (cond b (Some e) None)) fails ∙ or_none (least_of q es name)

  -- the column stays where the entry changes no least one
  adds_nothing : (column : List (Option Spot)) (e : InputSymbol)
      → ((es : List InputSymbol) (i : ℕ) (name : List ℕ) → AreFirsts q names rows es column → slice_get names i ≡ Some name → least_of q (es ++ e ∷ []) name ≡ least_of q es name)
      → Adds q names rows column column (e ∷ [])
  adds_nothing column e same es h = record { len = h.len; at = λ i name here. h.at i name here ∙ ap (option_map (λ x. Some x)) (sym (same es i name h here)) }

  pub adds_skipped : (column : List (Option Spot)) (e : InputSymbol) → counts q e ≡ false → Adds q names rows column column (e ∷ [])
  adds_skipped column e fails = adds_nothing column e (λ es i name h here. passed_by es e name (ap (λ b. b && is_named name e) fails))

  -- the name's entry stands in the column already
  pub adds_later : IsDistinct bytes_eq names → (column : List (Option Spot)) (e : InputSymbol) (n : ℕ) (s : Spot) → number_of names (name_of e) ≡ Some n → get_or column n None ≡ Some s
      → Adds q names rows column column (e ∷ [])
  adds_later distinct column e n s numbered there = adds_nothing column e (λ es i name h here. by es i name h here (counts q e && is_named name e) refl)
    where
      by : (es : List InputSymbol) (i : ℕ) (name : List ℕ) → AreFirsts q names rows es column → slice_get names i ≡ Some name → (b : Bool) → (counts q e && is_named name e) ≡ b
          → least_of q (es ++ e ∷ []) name ≡ least_of q es name
      by es i name h here false t = passed_by es e name t
      by es i name h here true t =
          let same : name_of e ≡ name = (bytes_eq-Decides (name_of e) name).0 (second (counts q e) (is_named name e) t) in
          let at : n ≡ i = some_is (sym numbered ∙ ap (number_of names) same ∙ own_number names name i distinct here) in
          least_more es e name ∙ stands (symbol_in rows) s (least_of q es name) (cond (counts q e && is_named name e) (Some e) None)
          (ap (option_map (symbol_in rows)) (sym there ∙ ap (λ k. get_or column k None) at) ∙ h.at i name here)

  -- a name that isn't held has no entry in the column
  pub adds_unheld : IsDistinct bytes_eq names → (column : List (Option Spot)) (e : InputSymbol) → number_of names (name_of e) ≡ None → Adds q names rows column column (e ∷ [])
  adds_unheld distinct column e numbered = adds_nothing column e (λ es i name h here. by es i name here (counts q e && is_named name e) refl)
    where
      by : (es : List InputSymbol) (i : ℕ) (name : List ℕ) → slice_get names i ≡ Some name → (b : Bool) → (counts q e && is_named name e) ≡ b → least_of q (es ++ e ∷ []) name ≡ least_of q es name
      by es i name here false t = passed_by es e name t
      by es i name here true t =
          let same : name_of e ≡ name = (bytes_eq-Decides (name_of e) name).0 (second (counts q e) (is_named name e) t) in
          absurd (some_none (sym (own_number names name i distinct here) ∙ ap (number_of names) (sym same) ∙ numbered))

  -- the name's first entry
  pub adds_first : IsDistinct bytes_eq names → (column : List (Option Spot)) (e : InputSymbol) (n : ℕ) (s : Spot) → number_of names (name_of e) ≡ Some n → get_or column n None ≡ None
      → symbol_in rows s ≡ Some e → counts q e ≡ true → Adds q names rows column (set column n (Some s)) (e ∷ [])
  adds_first distinct column e n s numbered there stood counted es h =
      record { len = length-set column n (Some s) ∙ h.len; at = λ i name here. by i name here (cases_eq i n) }
    where
      by : (i : ℕ) (name : List ℕ) → slice_get names i ≡ Some name → (i ≡ n) ⊎ (i ≢ n)
          → option_map (symbol_in rows) (get_or (set column n (Some s)) i None) ≡ option_map (λ x. Some x) (least_of q (es ++ e ∷ []) name)
      by i name here (inl at) =
          let same : name_of e ≡ name = some_is (sym (name_at names (name_of e) n numbered) ∙ ap (slice_get names) (sym at) ∙ here) in
          let inside : n < length column = omega (arith, h.len, slice_get_within names n (name_of e) (name_at names (name_of e) n numbered)) in
          let empty : least_of q es name ≡ None = none_found (symbol_in rows) (least_of q es name) (ap (option_map (symbol_in rows)) (sym there ∙ ap (λ k. get_or column k None) (sym at)) ∙ h.at i name here) in
          let passes : (counts q e && is_named name e) ≡ true = rw (counted, (bytes_eq-Decides (name_of e) name).1 same) refl in
          let found : least_of q (es ++ e ∷ []) name ≡ Some e = least_more es e name ∙ ap (λ o. option_or o (cond (counts q e && is_named name e) (Some e) None)) empty ∙ ap (λ b. cond b (Some e) None) passes in
          ap (option_map (symbol_in rows)) (ap (λ k. get_or (set column n (Some s)) k None) at ∙ get_or-set_same column n (Some s) None inside)
          ∙ ap (λ o. Some o) stood ∙ ap (option_map (λ x. Some x)) (sym found)
      by i name here (inr other) =
          ap (option_map (symbol_in rows)) (get_or-set_other column n i (Some s) None other) ∙ h.at i name here
          ∙ ap (option_map (λ x. Some x)) (sym (kept (counts q e && is_named name e) refl))
        where
          kept : (b : Bool) → (counts q e && is_named name e) ≡ b → least_of q (es ++ e ∷ []) name ≡ least_of q es name
          kept false t = passed_by es e name t
          kept true t =
              let same : name_of e ≡ name = (bytes_eq-Decides (name_of e) name).0 (second (counts q e) (is_named name e) t) in
              absurd (other (some_is (sym (own_number names name i distinct here) ∙ ap (number_of names) (sym same) ∙ numbered)))

  -- ---- a symbol of a row

  -- an entry, by whether it counts and has a number
  adds_entry : IsDistinct bytes_eq names → (column : List (Option Spot)) (e : InputSymbol) (s : Spot) → symbol_in rows s ≡ Some e → is_entry e ≡ true
      → Adds q names rows column (noted column s (counted_number q names e)) (e ∷ [])
  adds_entry distinct column e s stood entry = by (counts q e) refl
    where
      held : counts q e ≡ true → (n : Option ℕ) → number_of names (name_of e) ≡ n → (o : Option Spot)
          → ((k : ℕ) → n ≡ Some k → get_or column k None ≡ o) → Adds q names rows column (noted column s n) (e ∷ [])
      held counted None numbered o there = adds_unheld distinct column e numbered
      held counted (Some k) numbered (Some f) there = subst (λ c. Adds q names rows column (noted_at column s k c) (e ∷ [])) (sym (there k refl)) (adds_later distinct column e k f numbered (there k refl))
      held counted (Some k) numbered None there = subst (λ c. Adds q names rows column (noted_at column s k c) (e ∷ [])) (sym (there k refl)) (adds_first distinct column e k s numbered (there k refl) stood counted)

      at_number : Option ℕ → Option Spot
      at_number None = None
      at_number (Some k) = get_or column k None

      by : (b : Bool) → counts q e ≡ b → Adds q names rows column (noted column s (cond b (entry_number names e) None)) (e ∷ [])
      by false fails = adds_skipped column e fails
      by true counted =
          let numbered : entry_number names e ≡ number_of names (name_of e) = ap (λ b. cond b (number_of names (name_of e)) None) entry in
          subst (λ n. Adds q names rows column (noted column s n) (e ∷ [])) (sym numbered)
          (held counted (number_of names (name_of e)) refl (at_number (number_of names (name_of e))) (λ k is. ap at_number (sym is)))

  no_number : (b : Bool) (n : Option ℕ) → n ≡ None → cond b n None ≡ None
  no_number true n none = none
  no_number false n none = refl

  -- whatever stands at the place
  pub adds_symbol : IsDistinct bytes_eq names → (column new : List (Option Spot)) (s : Spot) → new ≡ noted column s (number_at q names rows s)
      → Adds q names rows column new (filter is_entry (option_to_list (symbol_in rows s)))
  adds_symbol distinct column new s is = subst (λ c. Adds q names rows column c (filter is_entry (option_to_list (symbol_in rows s)))) (sym is) (by (symbol_in rows s) refl)
    where
      entry_or_not : (e : InputSymbol) → symbol_in rows s ≡ Some e → (b : Bool) → is_entry e ≡ b → Adds q names rows column (noted column s (counted_number q names e)) (cond b (e ∷ []) [])
      entry_or_not e stood true entry = adds_entry distinct column e s stood entry
      entry_or_not e stood false entry =
          let none : counted_number q names e ≡ None = no_number (counts q e) (entry_number names e) (ap (λ b. cond b (number_of names (name_of e)) None) entry) in
          subst (λ n. Adds q names rows column (noted column s n) []) (sym none) (adds_none column)

      by : (o : Option InputSymbol) → symbol_in rows s ≡ o → Adds q names rows column (noted column s (option_and_then (counted_number q names) o)) (filter is_entry (option_to_list o))
      by None stood = adds_none column
      by (Some e) stood = entry_or_not e stood (is_entry e) refl

  pub length-noted : (column : List (Option Spot)) (s : Spot) (n : Option ℕ) → length (noted column s n) ≡ length column
  length-noted column s None = refl
  length-noted column s (Some n) = by (get_or column n None)
    where
      by : (o : Option Spot) → length (noted_at column s n o) ≡ length column
      by None = length-set column n (Some s)
      by (Some f) = refl

-- ---- a row, and all rows

pub row_more : (row : List InputSymbol) (p : ℕ) → p < length row → filter is_entry (take (p + 1) row) ≡ filter is_entry (take p row) ++ filter is_entry (option_to_list (slice_get row p))
row_more [] p below = absurd (omega arith)
row_more (x ∷ xs) p below =
    ap (filter is_entry) (take_more (x ∷ xs) p x below) ∙ filter-append is_entry (take p (x ∷ xs)) (get_or (x ∷ xs) p x ∷ [])
    ∙ ap (λ o. filter is_entry (take p (x ∷ xs)) ++ filter is_entry (option_to_list o)) (sym (slice_get-get_or (x ∷ xs) p x below))

pub rows_more : (rows : List (List InputSymbol)) (r : ℕ) → r < length rows → entries_in (take (r + 1) rows) ≡ entries_in (take r rows) ++ filter is_entry (get_or rows r [])
rows_more rows r below =
    ap entries_in (take_more rows r [] below)
    ∙ ap (filter is_entry) (sym (flat_map_more (λ (row : List InputSymbol). row) [] (take r rows) (get_or rows r [])))
    ∙ filter-append is_entry (flat_map (λ row. row) (take r rows)) (get_or rows r [])

module _ (q : Question) (names : List (List ℕ)) (rows : List (List InputSymbol)) where
  pub adds_row_more : IsDistinct bytes_eq names → (old column new : List (Option Spot)) (r p : ℕ) → p < length (get_or rows r [])
      → Adds q names rows old column (filter is_entry (take p (get_or rows r []))) → new ≡ noted column (record { row = r; place = p }) (number_at q names rows (record { row = r; place = p }))
      → Adds q names rows old new (filter is_entry (take (p + 1) (get_or rows r [])))
  adds_row_more distinct old column new r p below so_far is =
      let s : Spot = record { row = r; place = p } in
      subst (λ es. Adds q names rows old new es) (sym (row_more (get_or rows r []) p below))
      (adds_both q names rows old column new _ _ so_far (adds_symbol q names rows distinct column new s is))

  pub adds_row_none : (old : List (Option Spot)) (row : List InputSymbol) → Adds q names rows old old (filter is_entry (take 0 row))
  adds_row_none old row = adds_none q names rows old

  pub adds_row_all : (old new : List (Option Spot)) (row : List InputSymbol) (p : ℕ) → p ≡ length row → Adds q names rows old new (filter is_entry (take p row)) → Adds q names rows old new (filter is_entry row)
  adds_row_all old new row p end so_far = subst (λ es. Adds q names rows old new (filter is_entry es)) (ap (λ n. take n row) end ∙ take-length row) so_far

  pub adds_rows_more : (old column new : List (Option Spot)) (r : ℕ) → r < length rows → Adds q names rows old column (entries_in (take r rows))
      → Adds q names rows column new (filter is_entry (get_or rows r [])) → Adds q names rows old new (entries_in (take (r + 1) rows))
  adds_rows_more old column new r below so_far adds = subst (λ es. Adds q names rows old new es) (sym (rows_more rows r below)) (adds_both q names rows old column new _ _ so_far adds)

  pub adds_rows_all : (old new : List (Option Spot)) (r : ℕ) → r ≡ length rows → Adds q names rows old new (entries_in (take r rows)) → Adds q names rows old new (entries_in rows)
  adds_rows_all old new r end so_far = subst (λ rs. Adds q names rows old new (entries_in rs)) (ap (λ n. take n rows) end ∙ take-length rows) so_far

  -- the column of no entries
  pub firsts_none : (column : List (Option Spot)) → column ≡ replicate (length names) None → AreFirsts q names rows [] column
  firsts_none column is = record {
    len = ap length is ∙ length-replicate (length names) None;
    at = λ i name here. ap (option_map (symbol_in rows)) (ap (λ c. get_or c i None) is ∙ get_or-replicate (length names) i None None (slice_get_within names i name here));
  }

-- ---- definitions before the others

find_kept : {A : Type 0} (keep test : A → Bool) (xs : List A) → find test (filter keep xs) ≡ find (λ x. keep x && test x) xs
find_kept keep test [] = refl
find_kept {A} keep test (x ∷ xs) = by (keep x) (find_kept keep test xs)
  where
    by : (b : Bool) → find test (filter keep xs) ≡ find (λ x. keep x && test x) xs → find test (cond b (x ∷ filter keep xs) (filter keep xs)) ≡ cond (b && test x) (Some x) (find (λ x. keep x && test x) xs)
    by true rest = ap (λ o. cond (test x) (Some x) o) rest
    by false rest = rest

module _ (names : List (List ℕ)) (rows : List (List InputSymbol)) where
  pub definitions_first : (es : List InputSymbol) (column : List (Option Spot)) → AreFirsts Definitions names rows es column → AreFirsts Judged names rows (filter (λ e. e.defines) es) column
  definitions_first es column are =
      record { len = are.len; at = λ i name here. are.at i name here ∙ ap (option_map (λ x. Some x)) (sym (find_kept (λ (e : InputSymbol). e.defines) (is_named name) es)) }

  pub no_definitions : (q : Question) (column : List (Option Spot)) → AreFirsts q names rows [] column → AreFirsts Definitions names rows [] column
  no_definitions q column are = record { len = are.len; at = are.at }

  -- two questions that count the same
  pub judged_as : (es : List InputSymbol) (column : List (Option Spot)) → AreFirsts Judged names rows es column → AreFirsts Mismatches names rows es column
  judged_as es column are = record { len = are.len; at = are.at }
