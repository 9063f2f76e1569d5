-- What the rules look at, by the numbers of names, and the imports that were found so far.
use Rattle.std.specs.Prelude.{◌≡◌, ℕ, ◌<◌, ◌-◌, Bool, true, false, ◌&&◌, ◌||◌, map, take, drop, List, [], ◌∷◌, length, filter_map, flat_map, Option, Some, None, slice_get, slice_index_or, option_and_then, unwrap_or}
use Rattle.std.specs.List.{All, AllZip}
use Rattle.name_entries.specs.wl_base.Choice.{distinct_onto, given, has_name}
use Rattle.name_entries.specs.object_file.declared.object.Object.{Object}
use Rattle.name_entries.specs.made_symbols.declared.mode.Mode.{Mode}
use Rattle.name_entries.specs.made_symbols.declared.mode.Mode.TheVariants.{Plain, Shared}
use Rattle.name_entries.specs.linking_section.declared.symbol.SymbolKind.TheVariants.{Function, GlobalVar}
use Rattle.name_entries.specs.name_rules.declared.meaning.Meaning.{Meaning as Told}
use Rattle.name_entries.specs.name_rules.Entries.{InputSymbol, ImportKey, name_of, is_kind, same_import, entries}
use Rattle.name_entries.specs.name_rules.Meanings.{Meaning, imported, null, nothing, Resolved, Uses, uses_of, meaning, resolved_in, may_import, may_be_null, is_called, is_address, cell_of}
use Rattle.name_entries.specs.View.{WinnersAre, InputsRise}
use Rattle.name_entries.specs.Fits.{Fits}
use Rattle.name_uses.specs.declared.found.NameUses.{NameUses}
use Rattle.name_uses.specs.Flags.{not_used}
use Rattle.name_meanings.specs.declared.columns.Column.{Column}
use Rattle.name_meanings.specs.declared.naming.Known.{Known}
use Rattle.name_meanings.specs.declared.naming.Found.{Found}
use Rattle.name_meanings.specs.Columns.{or_else, import_at, AreColumnsOf, all_symbols, empty_column}
use Rattle.name_meanings.specs.Kept.{with_import, cell_key}
use Rattle.name_meanings.specs.Means.{Means, import_meant, imports_meant, AreMeant}

-- ---- what is known

-- What is used of each name, by its number. Only a shared output asks.
pub record AreUses (mode : Mode) (names : List (List ℕ)) (objects : List Object) (columns : List NameUses) : Type 0 where
  pub called : (i : ℕ) (name : List ℕ) → slice_get names i ≡ Some name → (slice_index_or columns i not_used).called ≡ has_name (uses_of mode objects).called name
  pub addressed : (i : ℕ) (name : List ℕ) → slice_get names i ≡ Some name → (slice_index_or columns i not_used).addressed ≡ has_name (uses_of mode objects).addressed name

pub record IsKnown (k : Known) : Type 0 where
  pub fits : Fits k.mode k.entries
  pub winners : WinnersAre k.entries.names.now.names (entries k.mode k.entries.objects.now) k.winners.now
  pub uses : AreUses k.mode k.entries.names.now.names k.entries.objects.now k.uses.now
  pub columns : AreColumnsOf k.entries (all_symbols k.entries.objects.now) k.columns.now

abbrev pub meant : Known → InputSymbol → Meaning
meant k e = meaning k.mode (uses_of k.mode k.entries.objects.now) k.allow_undefined (entries k.mode k.entries.objects.now) e

-- ---- a name without a winner

-- Whether a symbol may stand on the least import of its name.
abbrev pub may_stand : Mode → Uses → Bool → List InputSymbol → InputSymbol → Bool
may_stand Plain uses allow es e = allow && may_import es e
may_stand Shared uses allow es e = is_called uses e || is_kind GlobalVar e

-- the same by the column of the name and what is used of it
abbrev pub may_by : Mode → Bool → Bool → Bool → InputSymbol → Bool
may_by Plain allow strong called e = allow && ((is_kind Function e || is_kind GlobalVar e) && strong)
may_by Shared allow strong called e = (is_kind Function e && called) || is_kind GlobalVar e

abbrev pub may_told : Known → Column → NameUses → InputSymbol → Bool
may_told k c uses e = may_by k.mode k.allow_undefined c.strong uses.called e

-- What it means where it stands on no import.
abbrev pub last_rule : Mode → Uses → InputSymbol → Option Meaning
last_rule Plain uses e = given (may_be_null e) null
last_rule Shared uses e = given (is_address uses e) (imported (cell_of e))

abbrev pub lacked : Known → InputSymbol → Meaning
lacked k e = unwrap_or (last_rule k.mode (uses_of k.mode k.entries.objects.now) e) nothing

-- What is used of the symbol's name.
pub record UsesTold (k : Known) (uses : NameUses) (e : InputSymbol) : Type 0 where
  pub called : uses.called ≡ has_name (uses_of k.mode k.entries.objects.now).called (name_of e)
  pub addressed : uses.addressed ≡ has_name (uses_of k.mode k.entries.objects.now).addressed (name_of e)

-- ---- what was found

-- the import of a name, if a symbol means it
abbrev pub name_import : List Object → Column → Option ImportKey
name_import objects c = option_and_then (import_at objects) (or_else c.explicit c.least)

-- A name whose import has a number has it among the imports.
pub record AreFound (objects : List Object) (columns : List Column) (imports : List ImportKey) (numbers : List (Option ℕ)) : Type 0 where
  pub count : length numbers ≡ length columns
  pub each : (i n : ℕ) → slice_index_or numbers i None ≡ Some n
      → (key : ImportKey) × (name_import objects (slice_index_or columns i empty_column) ≡ Some key) × (slice_get imports n ≡ Some key)

-- A name whose cell has a number has the cell among the imports.
abbrev pub AreCells : Bool → List (List ℕ) → List ImportKey → List (Option ℕ) → Type 0
AreCells function names imports numbers = (i n : ℕ) → slice_index_or numbers i None ≡ Some n
    → (name : List ℕ) × (slice_get names i ≡ Some name) × (slice_get imports n ≡ Some (cell_key function name))

pub record FoundBy (k : Known) (f : Found) : Type 0 where
  pub own : AreFound k.entries.objects.now k.columns.now f.imports f.numbers.items
  pub functions : AreCells true k.entries.names.now.names f.imports f.function_cells.items
  pub of_data : AreCells false k.entries.names.now.names f.imports f.data_cells.items

-- The cell of a name has the number, and is among the imports.
pub record IsCell (function : Bool) (names : List (List ℕ)) (name number : ℕ) (old new : List ImportKey) (numbers : List (Option ℕ)) : Type 0 where
  pub at : slice_get new number ≡ Some (cell_key function (slice_index_or names name []))
  pub imports : new ≡ with_import old (cell_key function (slice_index_or names name []))
  pub cells : AreCells function names new numbers

-- the imports, with those that these symbols mean
abbrev pub imports_with : List ImportKey → List Meaning → List ImportKey
imports_with imports meanings = distinct_onto same_import imports (filter_map import_meant meanings)

-- From one state of what is found to the next: the answer tells what the symbol means.
pub record Finds (k : Known) (told : Told) (m : Meaning) (old new : Found) : Type 0 where
  pub means : Means new.imports told m
  pub imports : new.imports ≡ imports_with old.imports (m ∷ [])
  pub found : FoundBy k new

-- The import has the number, and is among the imports.
pub record IsNumbered (k : Known) (number : ℕ) (key : ImportKey) (old new : Found) : Type 0 where
  pub at : slice_get new.imports number ≡ Some key
  pub imports : new.imports ≡ with_import old.imports key
  pub found : FoundBy k new

-- The answers for symbols that mean these, and what is found with them.
pub record IsRow (k : Known) (row : List Told) (meanings : List Meaning) (old : List ImportKey) (new : Found) : Type 0 where
  pub means : AllZip (Means new.imports) row meanings
  pub imports : new.imports ≡ imports_with old meanings
  pub found : FoundBy k new

abbrev pub resolved_of : Known → Object → Resolved
resolved_of k o = resolved_in k.mode (uses_of k.mode k.entries.objects.now) k.allow_undefined (entries k.mode k.entries.objects.now) k.entries.objects.now o

-- The answers for the symbols of these objects, and the imports that they mean.
pub record AreAnswers (rows : List (List Told)) (imports : List ImportKey) (resolved : List Resolved) : Type 0 where
  pub meanings : AreMeant rows imports resolved
  pub imports_are : imports ≡ imports_meant (flat_map (λ (x : Resolved). x.meanings) resolved)

-- The same of these objects, and what was found with them.
pub record SoFar (k : Known) (rows : List (List Told)) (f : Found) (resolved : List Resolved) : Type 0 where
  pub answers : AreAnswers rows f.imports resolved
  pub below : All (λ (x : Resolved). x.object.input < length rows) resolved
  pub found : FoundBy k f

-- The same of the first objects, before others whose inputs are greater.
pub record Resolves (k : Known) (rows : List (List Told)) (f : Found) (count : ℕ) : Type 0 where
  pub done : SoFar k rows f (map (resolved_of k) (take count k.entries.objects.now))
  pub some : 0 < length rows
  pub rise : InputsRise (length rows - 1) (drop count k.entries.objects.now)
