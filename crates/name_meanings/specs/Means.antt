-- What a symbol's answer tells, with imports by number.
use Rattle.std.specs.Prelude.{◌≡◌, ℕ, ◌<◌, Bool, true, false, List, [], filter_map, flat_map, Option, Some, None, slice_get, slice_index_or}
use Rattle.std.specs.List.{All, AllZip}
use Rattle.name_entries.specs.wl_base.Choice.{distinct, distinct_onto}
use Rattle.name_entries.specs.made_symbols.declared.mode.Mode.{Mode}
use Rattle.name_entries.specs.name_rules.declared.meaning.Meaning.{Meaning as Told}
use Rattle.name_entries.specs.name_rules.declared.meaning.Meaning.TheVariants.{Here, Made, Import, Null, Nothing}
use Rattle.name_entries.specs.name_rules.Entries.{InputSymbol, ImportKey, same_import}
use Rattle.name_entries.specs.name_rules.Meanings.{Meaning, here, imported, null, nothing, Resolved}
use Rattle.name_entries.specs.name_rules.Further.{further_imports, cells_in, made_imports}

-- The answer tells what the symbol means: a definition of an object by its input and place, one of the linker by its number, an import by
-- its number among the imports.
abbrev pub Means : List ImportKey → Told → Meaning → Type 0
Means imports (Here input symbol) (here e) = (e.input ≡ input) × (e.place ≡ symbol) × (0 < input)
Means imports (Made number) (here e) = (e.input ≡ 0) × (e.place ≡ number)
Means imports (Import number) (imported key) = slice_get imports number ≡ Some key
Means imports Null null = Unit {0}
Means imports Nothing nothing = Unit {0}
Means imports told meaning = ⊥

-- ---- the imports

abbrev pub import_meant : Meaning → Option ImportKey
import_meant (here e) = None
import_meant (imported key) = Some key
import_meant null = None
import_meant nothing = None

-- The imports that symbols mean, each once, in the order of the symbols: one where module, field and type are equal.
abbrev pub imports_meant : List Meaning → List ImportKey
imports_meant meanings = distinct same_import (filter_map import_meant meanings)

-- ---- the whole

-- The answers for the symbols of each input, by place, where an input that isn't loaded has none; and the imports by number. Of a shared
-- output besides the numbers of cells' imports, for all symbols, one object behind another, and of those of the linker's globals.
pub record Answers : Type 0 where
  pub rows : List (List Told)
  pub imports : List ImportKey
  pub cells : List (Option ℕ)
  pub made : List ℕ

-- the answers for the symbols of an input
abbrev pub row_of : List (List Told) → ℕ → List Told
row_of rows input = slice_index_or rows input []

-- whether the answer is something
abbrev pub means_something : Told → Bool
means_something Nothing = false
means_something m = true

abbrev pub answer_at : Answers → ℕ → ℕ → Option Told
answer_at r input symbol = slice_get (row_of r.rows input) symbol

-- the import has this number
abbrev pub IsNumberOf : List ImportKey → ℕ → ImportKey → Type 0
IsNumberOf imports number key = slice_get imports number ≡ Some key

-- the import has this number, if there is one
abbrev pub TellsCell : List ImportKey → Option ℕ → Option ImportKey → Type 0
TellsCell imports (Some number) (Some key) = IsNumberOf imports number key
TellsCell imports None None = Unit {0}
TellsCell imports told cell = ⊥

-- Each symbol of each object has an answer, which tells what the symbol means.
abbrev pub AreMeant : List (List Told) → List ImportKey → List Resolved → Type 0
AreMeant rows imports resolved = All (λ (x : Resolved). AllZip (Means imports) (row_of rows x.object.input) x.meanings) resolved

-- Of these entries and of what their symbols mean: the imports are those that symbols mean, and behind them what a shared output may
-- import besides.
pub record IsResolution (mode : Mode) (all : List InputSymbol) (r : Answers) (resolved : List Resolved) : Type 0 where
  pub meanings : AreMeant r.rows r.imports resolved
  pub imports : r.imports ≡ distinct_onto same_import (imports_meant (flat_map (λ (x : Resolved). x.meanings) resolved)) (further_imports mode all resolved)
  pub cells : AllZip (TellsCell r.imports) r.cells (cells_in mode resolved)
  pub made : AllZip (IsNumberOf r.imports) r.made (made_imports mode all)
