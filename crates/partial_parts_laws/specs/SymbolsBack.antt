-- What is read of the names and symbols of a program's relocatable object: those that stand in the program.
use Rattle.std.specs.Prelude.{◌≡◌, ℕ, ◌≤◌, ◌^◌, Bool, true, false, List, length, map, All, None}
use Rattle.object_rules.specs.Spaces.{is_table}
use Rattle.object_rules.specs.Symbols.{is_section, import_name}
use Rattle.object_rules.specs.object_parts.Imports.{names_table}
use Rattle.name_rules.specs.object_file.wasm_types.declared.import.Import.{Import}
use Rattle.name_rules.specs.object_file.linking_section.declared.symbol.Symbol.{Symbol}
use Rattle.name_rules.specs.object_file.linking_section.declared.symbol.SymbolKind.{SymbolKind}
use Rattle.name_rules.specs.object_file.linking_section.declared.symbol.SymbolKind.TheVariants.{Function, Datum, GlobalVar, Section, Table}
use Rattle.name_rules.specs.object_file.linking_section.Flags.{is_named}
use Rattle.name_rules.specs.object_file.declared.object.Object.{Object}
use Rattle.object_file.specs.Objects.{object_from}
use Rattle.partial_rules.specs.Partial.{standing, symbol_for, relocatable}
use Rattle.partial_rules.specs.Relocatable.{relocatable_bytes}
use Rattle.partial_rules.specs.WellFormed.{Coded, IsWritable}
use Rattle.partial_rules.specs.Sections.{sections_told}
use Rattle.partial_rules.specs.ReadAs.{parts_told}
use Rattle.partial_laws.specs.Inputs.{Run, Objects}
use Rattle.partial_laws.specs.Joined.{SymbolsRead}
use Rattle.partial_parts_laws.specs.Linked.{Linked, program}
use Rattle.partial_parts_laws.specs.ReadBack.{AreLinked}

-- Whether a symbol has a name of its own where it stands.
abbrev pub has_own_name : SymbolKind → ℕ → Bool
has_own_name Function flags = is_named flags
has_own_name Datum flags = true
has_own_name GlobalVar flags = is_named flags
has_own_name Section flags = true
has_own_name Table flags = is_named flags

-- Names of an object that was read: the symbol of a section has none, one that names an import without EXPLICIT_NAME has the import's, and the one table
-- that may be imported is that of functions.
pub record AreNamed (o : Object) : Type 0 where
  pub sections : All (λ (s : Symbol). is_section s.kind ≡ true → s.name ≡ None) o.symbols
  pub imported : All (λ (s : Symbol). has_own_name s.kind s.flags ≡ false → s.name ≡ import_name o.imports s) o.symbols
  pub tables : All (λ (i : Import). is_table i.kind ≡ true → names_table i.«module» i.field ≡ true) o.imports

-- What is read has the symbols that stand in the program, with the types that they had, on the imports on which they stood, and the open ones on their own.
abbrev pub SymbolsAreRead : Type 0
SymbolsAreRead =
    (l : Linked) (objects : List Object) → AreLinked l objects → All AreNamed objects
    → (codes : List Coded) → IsWritable (relocatable (program l objects)) codes → length (relocatable_bytes (relocatable (program l objects))) ≤ 2 ^ 30
    → (run : Run) (os : Objects) (input : ℕ) → os.joined ≡ object_from input (sections_told (relocatable (program l objects))) (parts_told (relocatable (program l objects)) codes)
    → (os.joined.symbols ≡ map (symbol_for (program l objects)) (standing (program l objects))) × SymbolsRead run os (program l objects)
