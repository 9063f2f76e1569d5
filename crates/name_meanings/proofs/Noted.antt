-- The columns of symbols and one more.
use Rattle.std.proofs.Common.{◌≡◌, ℕ, ◌<◌, Bool, true, false, ◌&&◌, ◌||◌, ◌∙◌, List, [], ◌∷◌, ◌++◌, refl, ap, sym, subst, arith, Option, Some, None, not, length, get_or, set, nat_lt, cond, inl, inr, get_or-set_same, get_or-set_other}
use Rattle.std.specs.Prelude.{filter, map, if◌then◌else◌, ◌==◌, option_map, option_and_then, is_some, bytes_eq}
use Rattle.std.specs.List.{list_any, position_or_len}
use Rattle.std.proofs.lemmas.List.{append-nil, map-append, length-set}
use Rattle.std.proofs.lemmas.List.Elements.{filter-append}
use Rattle.std.proofs.lemmas.List.Folds.{list_any-append}
use Rattle.std.proofs.Math.Bool.{or-false, and-true, and-false}
use Rattle.std.proofs.lemmas.Bool.{eqb-true, eq-eqb, cases_eq}
use Rattle.std.proofs.lemmas.Bool.Decides.{nat_tests}
use Rattle.std.proofs.lemmas.Grind.{common_steps}
use Rattle.name_entries.specs.wl_base.Names.{number_of}
use Rattle.name_entries.specs.wl_base.Choice.{first_some, given}
use Rattle.name_entries.specs.linking_section.Flags.{is_weak, is_explicit}
use Rattle.name_entries.specs.object_file.declared.object.Object.{Object}
use Rattle.name_entries.specs.name_rules.Entries.{InputSymbol, ImportKey, is_entry, name_of}
use Rattle.name_entries.specs.name_rules.Meanings.{least_import}
use Rattle.name_entries.specs.View.{entry_at, entry_number, is_number}
use Rattle.name_entries.specs.declared.entry.EntryRef.{EntryRef}
use Rattle.name_entries.specs.Shown.{Shows, AreShown}
use Rattle.name_entries.specs.object_columns.Seen.{symbol_seen}
use Rattle.name_meanings.specs.declared.columns.At.{At}
use Rattle.name_meanings.specs.declared.columns.Column.{Column}
use Rattle.name_meanings.specs.Columns.{or_else, import_at, StandsOn, is_reference_of, IsColumn, AreColumns, empty_column}
use Rattle.name_meanings.proofs.Filters.{first_append}

-- ---- a filter, and one more item

pub filter_more : {X : Type 0} (p : X → Bool) (xs : List X) (x : X) → p x ≡ true → filter p (xs ++ x ∷ []) ≡ filter p xs ++ x ∷ []
filter_more p xs x is = filter-append p xs (x ∷ []) ∙ ap (λ b. filter p xs ++ (if b then x ∷ [] else [])) is

pub filter_not_more : {X : Type 0} (p : X → Bool) (xs : List X) (x : X) → p x ≡ false → filter p (xs ++ x ∷ []) ≡ filter p xs
filter_not_more p xs x is = filter-append p xs (x ∷ []) ∙ ap (λ b. filter p xs ++ (if b then x ∷ [] else [])) is ∙ append-nil (filter p xs)

-- ---- the least import, and one more reference

pub map_or : {A B : Type 0} (f : A → B) (a b : Option A) → option_map f (or_else a b) ≡ or_else (option_map f a) (option_map f b)
map_or f (Some a) b = refl
map_or f None b = refl

first_one : {A : Type 0} (o : Option A) → first_some (o ∷ []) ≡ o
first_one (Some a) = refl
first_one None = refl

least_more : (es : List InputSymbol) (e : InputSymbol) → least_import (es ++ e ∷ []) ≡ or_else (least_import es) e.import
least_more es e =
    ap first_some (map-append (λ (r : InputSymbol). r.import) es (e ∷ [])) ∙ first_append (map (λ (r : InputSymbol). r.import) es) (e.import ∷ [])
    ∙ ap (or_else (least_import es)) (first_one e.import)

given_stands : (objects : List Object) (at : At) (key : Option ImportKey) (stands : Bool) → import_at objects at ≡ key → stands ≡ is_some key
    → StandsOn objects (given stands at) key
given_stands objects at None stands is standing = rw standing refl
given_stands objects at (Some key) stands is standing = rw standing (ap Some is)

stands_more : (objects : List Object) (first : Option At) (at : At) (es : List InputSymbol) (e : InputSymbol) (stands : Bool) → import_at objects at ≡ e.import → stands ≡ is_some e.import
    → StandsOn objects first (least_import es) → StandsOn objects (or_else first (given stands at)) (least_import (es ++ e ∷ []))
stands_more objects first at es e stands is standing before =
    map_or (import_at objects) first (given stands at)
    ∙ ap (λ o. or_else o (option_map (import_at objects) (given stands at))) before
    ∙ ap (or_else (option_map Some (least_import es))) (given_stands objects at e.import stands is standing)
    ∙ sym (map_or Some (least_import es) e.import) ∙ ap (option_map Some) (sym (least_more es e))

or_nothing : {A : Type 0} (o : Option A) → or_else o None ≡ o
or_nothing (Some a) = refl
or_nothing None = refl

abbrev explicit_in : List InputSymbol → List InputSymbol
explicit_in es = filter (λ r. is_explicit r.symbol) es

explicit_more : (objects : List Object) (first : Option At) (at : At) (es : List InputSymbol) (e : InputSymbol) (stands explicit : Bool) → is_explicit e.symbol ≡ explicit
    → import_at objects at ≡ e.import → stands ≡ is_some e.import
    → StandsOn objects first (least_import (explicit_in es)) → StandsOn objects (or_else first (given (stands && explicit) at)) (least_import (explicit_in (es ++ e ∷ [])))
explicit_more objects first at es e stands true explicit is standing before =
    let more = stands_more objects first at (explicit_in es) e stands is standing before in
    ap (λ b. option_map (import_at objects) (or_else first (given b at))) (and-true stands) ∙ more
    ∙ ap (λ l. option_map Some (least_import l)) (sym (filter_more (λ r. is_explicit r.symbol) es e explicit))
explicit_more objects first at es e true false explicit is standing before =
    ap (option_map (import_at objects)) (or_nothing first) ∙ before
    ∙ ap (λ l. option_map Some (least_import l)) (sym (filter_not_more (λ r. is_explicit r.symbol) es e explicit))
explicit_more objects first at es e false false explicit is standing before =
    ap (option_map (import_at objects)) (or_nothing first) ∙ before
    ∙ ap (λ l. option_map Some (least_import l)) (sym (filter_not_more (λ r. is_explicit r.symbol) es e explicit))

-- ---- the column, and one more reference

pub column_more : (objects : List Object) (es : List InputSymbol) (e : InputSymbol) (at : At) (stands : Bool) (old new : Column)
    → import_at objects at ≡ e.import → stands ≡ is_some e.import
    → new.explicit ≡ or_else old.explicit (given (stands && is_explicit e.symbol) at)
    → new.least ≡ or_else old.least (given stands at)
    → new.strong ≡ (old.strong || not (is_weak e.symbol))
    → IsColumn objects es old → IsColumn objects (es ++ e ∷ []) new
column_more objects es e at stands old new is standing explicit least strong before = record {
  explicit = ap (option_map (import_at objects)) explicit ∙ explicit_more objects old.explicit at es e stands (is_explicit e.symbol) refl is standing before.explicit;
  least = ap (option_map (import_at objects)) least ∙ stands_more objects old.least at es e stands is standing before.least;
  strong = strong ∙ ap (λ b. b || not (is_weak e.symbol)) before.strong
      ∙ ap (λ b. list_any (λ (r : InputSymbol). not (is_weak r.symbol)) es || b) (sym (or-false (not (is_weak e.symbol))))
      ∙ sym (list_any-append (λ (r : InputSymbol). not (is_weak r.symbol)) es (e ∷ []));
}

-- ---- the columns of all names

pub skipped : (names : List (List ℕ)) (objects : List Object) (seen : List InputSymbol) (e : InputSymbol) (columns : List Column)
    → ((i : ℕ) → is_reference_of names i e ≡ false) → AreColumns names objects seen columns → AreColumns names objects (seen ++ e ∷ []) columns
skipped names objects seen e columns none before = record {
  count = before.count;
  each = λ i within. subst (λ es. IsColumn objects es (get_or columns i empty_column)) (sym (filter_not_more (is_reference_of names i) seen e (none i))) (before.each i within);
}

unnumbered : (names : List (List ℕ)) (e : InputSymbol) (i : ℕ) → entry_number names e ≡ None → is_reference_of names i e ≡ false
unnumbered names e i none = ap (λ o. is_number i o && not e.defines) none

abbrev is_at : ℕ → ℕ → Bool
is_at n i = n == i

numbered : (names : List (List ℕ)) (e : InputSymbol) (i n : ℕ) (defines : Bool) → entry_number names e ≡ Some n → e.defines ≡ defines → is_reference_of names i e ≡ (is_at n i && not defines)
numbered names e i n defines at is = ap (λ o. is_number i o && not e.defines) at ∙ ap (λ d. is_at n i && not d) is

defined : (names : List (List ℕ)) (e : InputSymbol) (i : ℕ) → e.defines ≡ true → is_reference_of names i e ≡ false
defined names e i is = ap (λ d. is_number i (entry_number names e) && not d) is ∙ and-false (is_number i (entry_number names e))

-- what is answered for a symbol that is no reference
pub skip_unnumbered : (names : List (List ℕ)) (objects : List Object) (r : EntryRef) (o : Option InputSymbol) (columns : List Column) → AreShown names (Some r) o → r.number ≡ None
    → (seen : List InputSymbol) (e : InputSymbol) → o ≡ Some e → AreColumns names objects seen columns → AreColumns names objects (seen ++ e ∷ []) columns
skip_unnumbered names objects r o columns shown none seen e is before =
    let s : Shows names r e = subst (AreShown names (Some r)) is shown in
    skipped names objects seen e columns (λ i. unnumbered names e i (sym s.number ∙ none)) before

pub skip_defined : (names : List (List ℕ)) (objects : List Object) (r : EntryRef) (o : Option InputSymbol) (columns : List Column) → AreShown names (Some r) o → r.defines ≡ true
    → (seen : List InputSymbol) (e : InputSymbol) → o ≡ Some e → AreColumns names objects seen columns → AreColumns names objects (seen ++ e ∷ []) columns
skip_defined names objects r o columns shown defines seen e is before =
    let s : Shows names r e = subst (AreShown names (Some r)) is shown in
    skipped names objects seen e columns (λ i. defined names e i (sym s.defines ∙ defines)) before

-- ---- the number of an entry is below the count

held_below : (n k len : ℕ) (below : Bool) → nat_lt k len ≡ below → cond below (Some k) None ≡ Some n → n < len
held_below n k len true is at = grind (arith, nat_tests, common_steps)
held_below n k len false is at = absurd cc

pub number_below : (names : List (List ℕ)) (name : List ℕ) (n : ℕ) → number_of names name ≡ Some n → n < length names
number_below names name n at = held_below n (position_or_len (bytes_eq name) names) (length names) (nat_lt (position_or_len (bytes_eq name) names) (length names)) refl at

entry_below : (names : List (List ℕ)) (name : List ℕ) (n : ℕ) (entry : Bool) → (if entry then number_of names name else None) ≡ Some n → n < length names
entry_below names name n true at = number_below names name n at
entry_below names name n false at = absurd cc

pub shown_below : (names : List (List ℕ)) (r : EntryRef) (o : Option InputSymbol) (n : ℕ) → AreShown names (Some r) o → r.number ≡ Some n → n < length names
shown_below names r None n shown at = absurd shown
shown_below names r (Some e) n shown at = entry_below names (name_of e) n (is_entry e) (sym shown.number ∙ at)

-- ---- a reference

noted_at : (names : List (List ℕ)) (objects : List Object) (columns : List Column) (n : ℕ) (new : Column) (seen : List InputSymbol) (e : InputSymbol)
    → n < length columns → is_reference_of names n e ≡ true → IsColumn objects (filter (is_reference_of names n) seen ++ e ∷ []) new
    → IsColumn objects (filter (is_reference_of names n) (seen ++ e ∷ [])) (get_or (set columns n new) n empty_column)
noted_at names objects columns n new seen e within is column =
    let more = filter_more (is_reference_of names n) seen e is in
    let same : get_or (set columns n new) n empty_column ≡ new = get_or-set_same columns n new empty_column within in
    subst (λ c. IsColumn objects (filter (is_reference_of names n) (seen ++ e ∷ [])) c) (sym same) (subst (λ es. IsColumn objects es new) (sym more) column)

noted_else : (names : List (List ℕ)) (objects : List Object) (columns : List Column) (n i : ℕ) (new : Column) (seen : List InputSymbol) (e : InputSymbol)
    → (i ≡ n → ⊥) → is_reference_of names i e ≡ false → IsColumn objects (filter (is_reference_of names i) seen) (get_or columns i empty_column)
    → IsColumn objects (filter (is_reference_of names i) (seen ++ e ∷ [])) (get_or (set columns n new) i empty_column)
noted_else names objects columns n i new seen e other none column =
    let same : get_or (set columns n new) i empty_column ≡ get_or columns i empty_column = get_or-set_other columns n i new empty_column other in
    subst (λ c. IsColumn objects (filter (is_reference_of names i) (seen ++ e ∷ [])) c) (sym same)
    (subst (λ es. IsColumn objects es (get_or columns i empty_column)) (sym (filter_not_more (is_reference_of names i) seen e none)) column)

not_at : (n i : ℕ) → (i ≡ n → ⊥) → (n == i) ≡ false
not_at n i other = by_test (n == i) (λ is. other (sym (eqb-true n i is)))
  where
    by_test : (b : Bool) → (b ≡ true → ⊥) → b ≡ false
    by_test true never = absurd (never refl)
    by_test false never = refl

pub noted : (names : List (List ℕ)) (objects : List Object) (r : EntryRef) (object place n : ℕ) (stands : Bool) (columns : List Column) (new : Column)
    → AreShown names (Some r) (entry_at objects object place) → r.number ≡ Some n → r.defines ≡ false
    → ((e : InputSymbol) → entry_at objects object place ≡ Some e → stands ≡ is_some e.import)
    → new.explicit ≡ or_else (get_or columns n empty_column).explicit (given (stands && is_explicit (symbol_seen r.symbol)) (record { object = object; place = place }))
    → new.least ≡ or_else (get_or columns n empty_column).least (given stands (record { object = object; place = place }))
    → new.strong ≡ ((get_or columns n empty_column).strong || not (is_weak (symbol_seen r.symbol)))
    → (seen : List InputSymbol) (e : InputSymbol) → entry_at objects object place ≡ Some e → AreColumns names objects seen columns → AreColumns names objects (seen ++ e ∷ []) (set columns n new)
noted names objects r object place n stands columns new shown number reference standing explicit least strong seen e is before =
    let s : Shows names r e = subst (AreShown names (Some r)) is shown in
    let at : At = record { object = object; place = place } in
    let old = get_or columns n empty_column in
    let within : n < length names = shown_below names r (entry_at objects object place) n shown number in
    let within_columns : n < length columns = subst (λ m. n < m) (sym before.count) within in
    let has_number : entry_number names e ≡ Some n = sym s.number ∙ number in
    let test : (i : ℕ) → is_reference_of names i e ≡ (is_at n i && not false) = λ i. numbered names e i n false has_number (sym s.defines ∙ reference) in
    let stands_on : import_at objects at ≡ e.import = ap (option_and_then (λ (x : InputSymbol). x.import)) is in
    let column = column_more objects (filter (is_reference_of names n) seen) e at stands old new stands_on (standing e is)
    (explicit ∙ ap (λ t. or_else old.explicit (given (stands && is_explicit t) at)) s.symbol) least (strong ∙ ap (λ t. old.strong || not (is_weak t)) s.symbol) (before.each n within) in
    record {
      count = length-set columns n new ∙ before.count;
      each = λ i below. elim (cases_eq i n) [
        | inl same ↦ subst (λ k. IsColumn objects (filter (is_reference_of names k) (seen ++ e ∷ [])) (get_or (set columns n new) k empty_column)) (sym same)
            (noted_at names objects columns n new seen e within_columns (test n ∙ ap (λ b. b && true) (eq-eqb n n refl)) column)
        | inr other ↦ noted_else names objects columns n i new seen e other (test i ∙ ap (λ b. b && true) (not_at n i other)) (before.each i below)
      ];
    }
