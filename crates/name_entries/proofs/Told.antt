-- What the rows tell of symbols.
use Rattle.std.proofs.Common.{◌≡◌, ℕ, zero, suc, ◌<◌, ◌≤◌, ◌==◌, false, not, List, [], ◌∷◌, length, map, slice_get, if◌then◌else◌, Option, Some, None, Bor, is_some, refl, sym, ap, ◌∙◌, arith}
use Rattle.std.specs.Option.{option_map, option_and_then, option_copied, MatchOption}
use Rattle.std.proofs.lemmas.Option.{same_Some, slice_get_past, slice_get_within}
use Rattle.std.proofs.lemmas.Bool.Decides.{nat_tests}
use Rattle.name_rules.specs.object_file.linking_section.declared.symbol.Symbol.{Symbol}
use Rattle.name_rules.specs.object_file.linking_section.Flags.{is_weak}
use Rattle.name_rules.specs.object_file.object_columns.Seen.{import_seen}
use Rattle.name_rules.specs.object_file.object_columns.declared.imports.ImportRef.{ImportRef}
use Rattle.name_rules.specs.object_file.object_rules.declared.spaces.ImportPlaces.{ImportPlaces}
use Rattle.name_rules.specs.object_file.object_rules.Spaces.{imports_of, places_in, ArePlaces}
use Rattle.name_rules.specs.object_file.declared.object.Object.{Object}
use Rattle.link_names.specs.Numbered.{symbol_number}
use Rattle.name_rules.specs.Entries.{InputSymbol, SymbolType, import_in, key_of, entry_in}
use Rattle.name_entries.specs.View.{entry_at}
use Rattle.name_entries.specs.Rows.{type_told, IsImportAt, AreRows, TellsAt}
use Rattle.name_entries.specs.Shown.{AreShown, IsEntryBy}
use Rattle.name_entries.specs.declared.symbol_rows.EntryRow.{EntryRow}
use Rattle.name_entries.specs.declared.entry.EntryRef.{EntryRef}
use Rattle.name_entries.proofs.Found.{missed, found, one_there}
use Rattle.name_entries.proofs.Indexed.{stands_on}
use Rattle.name_entries.proofs.Rows.{no_entry, no_symbol, the_entry, import_shown, number_at}

-- ---- imports

pub import_found : (o : Object) (s : Symbol) (p : ImportPlaces) (at : ℕ) → ArePlaces o.imports p → length o.imports < 4294967295
    → slice_get (places_in p s.kind) s.index ≡ Some at → IsImportAt o s at
import_found o s p at places few there =
    let ys = imports_of s.kind o.imports in
    let one = one_there o.imports ys (places_in p s.kind) s.index at (places s.kind) there in
    let within : at < length o.imports = slice_get_within o.imports at one.0 one.1 in
    let is : slice_get o.imports at ≡ import_in o s s.kind =
    sym (found o.imports ys (places_in p s.kind) s.index at (places s.kind) there) ∙ stands_on o s s.kind in
    let differs : (at == 4294967295) ≡ false = grind (arith, nat_tests) in
    record { found = is; stands = ap not differs ∙ sym (ap is_some (sym is ∙ one.1)) }

pub no_import : (o : Object) (s : Symbol) (p : ImportPlaces) → ArePlaces o.imports p → length o.imports < 4294967295
    → slice_get (places_in p s.kind) s.index ≡ None → IsImportAt o s 4294967295
no_import o s p places few none =
    let gone : import_in o s s.kind ≡ None =
    sym (stands_on o s s.kind) ∙ missed o.imports (imports_of s.kind o.imports) (places_in p s.kind) s.index (places s.kind) none in
    record { found = slice_get_past o.imports 4294967295 (omega arith) ∙ sym gone; stands = sym (ap is_some gone) }

-- ---- the row of a symbol

past_end : {A : Type 0} (xs : List A) (i : ℕ) → slice_get xs i ≡ None → length xs ≤ i
past_end [] i none = omega arith
past_end (x ∷ xs) zero none = absurd cc
past_end (x ∷ xs) (suc i) none = let rest = past_end xs i none in omega arith

-- there are no rows of an object that isn't there
pub no_rows : (objects : List Object) (names : List (List (Option ℕ))) (rows : List (List EntryRow)) (i k : ℕ) → AreRows objects names rows
    → slice_get rows i ≡ None → entry_at objects i k ≡ None
no_rows objects names rows i k are none =
    let past : length rows ≤ i = past_end rows i none in
    let count : length rows ≡ length objects = are.count in
    no_entry objects i k (slice_get_past objects i (omega arith))

module _ (objects : List Object) (names : List (List (Option ℕ))) (rows : List (List EntryRow)) (i k : ℕ) (rs : List EntryRow)
    (are : AreRows objects names rows) (in_rows : slice_get rows i ≡ Some rs) where
  no_row : slice_get rs k ≡ None → entry_at objects i k ≡ None
  no_row none = by (slice_get objects i) refl
    where
      by : (o : Option Object) → slice_get objects i ≡ o → entry_at objects i k ≡ None
      by None e = no_entry objects i k e
      by (Some o) e =
          let count : length rs ≡ length o.symbols = (are.each i o rs e in_rows).count in
          let past : length rs ≤ k = past_end rs k none in
          no_symbol objects i k o e (sym (slice_get_past o.symbols k (omega arith)))

  the_row : (r : EntryRow) → slice_get rs k ≡ Some r → TellsAt objects names i k r
  the_row r in_row = by (slice_get objects i) refl
    where
      by_symbol : (o : Object) → slice_get objects i ≡ Some o → (s : Option Symbol) → slice_get o.symbols k ≡ s → TellsAt objects names i k r
      by_symbol o there None none =
          let count : length rs ≡ length o.symbols = (are.each i o rs there in_rows).count in
          let past : length o.symbols ≤ k = past_end o.symbols k none in
          let within : k < length rs = slice_get_within rs k r in_row in
          absurd (omega arith)
      by_symbol o there (Some s) here =
          record { from = o; symbol = s; there = there; here = here; tells = (are.each i o rs there in_rows).each k s r here in_row }

      by : (o : Option Object) → slice_get objects i ≡ o → TellsAt objects names i k r
      by None none =
          let count : length rows ≡ length objects = are.count in
          let past : length objects ≤ i = past_end objects i none in
          let within : i < length rows = slice_get_within rows i rs in_rows in
          absurd (omega arith)
      by (Some o) there = by_symbol o there (slice_get o.symbols k) refl

  pub row_told : (found : Option (Bor EntryRow)) → option_copied found ≡ slice_get rs k
      → MatchOption found (entry_at objects i k ≡ None) (λ r. TellsAt objects names i k r.now)
  row_told None e = no_row (sym e)
  row_told (Some r) e = the_row r.now (sym e)

-- ---- what it tells

-- the symbol as its object has it
pub plain_is : (objects : List Object) (names : List (List (Option ℕ))) (i k : ℕ) (row : EntryRow) (t : TellsAt objects names i k row) (s : Option Symbol)
    → s ≡ option_and_then (λ (o : Object). slice_get o.symbols k) (slice_get objects i) → s ≡ Some t.symbol
plain_is objects names i k row t s is = is ∙ ap (option_and_then (λ (o : Object). slice_get o.symbols k)) t.there ∙ t.here

pub entry_shown : (objects : List Object) (names : List (List ℕ)) (numbers : List (List (Option ℕ))) (i k : ℕ) (row : EntryRow) (r : EntryRef)
    → numbers ≡ map (λ (o : Object). map (symbol_number names) o.symbols) objects → (t : TellsAt objects numbers i k row)
    → (s : Symbol) → s ≡ t.symbol → IsEntryBy row k s r → AreShown names (Some r) (entry_at objects i k)
entry_shown objects names numbers i k row r are t s same is =
    rw (the_entry objects i k t.from t.symbol t.there (sym t.here)) (record {
      input = is.input ∙ t.tells.input;
      place = is.place;
      symbol = is.symbol ∙ same;
      number = is.number ∙ t.tells.number ∙ number_at objects names numbers i k t.from t.symbol are t.there t.here;
      defines = is.defines ∙ t.tells.defines;
      class = is.class ∙ ap (λ (s : Symbol). if is_weak s then 1 else 0) same;
      index = is.index ∙ t.tells.index;
    })

pub type_shown : (objects : List Object) (names : List (List (Option ℕ))) (i k : ℕ) (row : EntryRow) (o : Object) (told : SymbolType)
    → (t : TellsAt objects names i k row) → slice_get objects i ≡ Some o → told ≡ type_told o row.type_index row.global row.kind
    → Some told ≡ option_map (λ (e : InputSymbol). e.type) (entry_at objects i k)
type_shown objects names i k row o told t there is =
    let same : o ≡ t.from = same_Some o t.from (sym there ∙ t.there) in
    ap {A = SymbolType} Some (is ∙ ap (λ (o : Object). type_told o row.type_index row.global row.kind) same
    ∙ ap (type_told t.from row.type_index row.global) t.tells.kind ∙ t.tells.type)
    ∙ sym (ap (option_map (λ (e : InputSymbol). e.type)) (the_entry objects i k t.from t.symbol t.there (sym t.here)))

pub import_told : (objects : List Object) (names : List (List (Option ℕ))) (i k : ℕ) (row : EntryRow) (o : Object) (e : InputSymbol) (r : Option ImportRef)
    → (t : TellsAt objects names i k row) → slice_get objects i ≡ Some o → option_map import_seen r ≡ slice_get o.imports row.import
    → entry_at objects i k ≡ Some e → option_map (λ (i : ImportRef). key_of e.type (import_seen i)) r ≡ e.import
import_told objects names i k row o e r t there found is =
    let same : o ≡ t.from = same_Some o t.from (sym there ∙ t.there) in
    import_shown objects i k t.from t.symbol e r t.there (sym t.here)
    (found ∙ ap (λ (o : Object). slice_get o.imports row.import) same ∙ t.tells.import.found) is

map_stands : {A B : Type 0} (f : A → B) (o : Option A) → is_some o ≡ is_some (option_map f o)
map_stands f None = refl
map_stands f (Some a) = refl

pub imported_told : (objects : List Object) (names : List (List (Option ℕ))) (i k : ℕ) (row : EntryRow) (e : InputSymbol) → TellsAt objects names i k row
    → entry_at objects i k ≡ Some e → not (row.import == 4294967295) ≡ is_some e.import
imported_told objects names i k row e t is =
    let entry : InputSymbol = entry_in objects t.from k t.symbol in
    let same : entry ≡ e = same_Some entry e (sym (the_entry objects i k t.from t.symbol t.there (sym t.here)) ∙ is) in
    t.tells.import.stands ∙ map_stands (key_of entry.type) (import_in t.from t.symbol t.symbol.kind) ∙ ap (λ (x : InputSymbol). is_some x.import) same
