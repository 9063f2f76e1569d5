-- Imports of the output.
use Rattle.std.specs.Prelude.{ℕ, Bool, true, if◌then◌else◌, List, [], ◌∷◌, codes}
use Rattle.name_entries.specs.wl_base.Choice.{distinct_onto}
use Rattle.name_entries.specs.wasm_types.declared.value.ValType.TheVariants.{I32}
use Rattle.name_meanings.specs.declared.imports.ImportType.{ImportType}
use Rattle.name_meanings.specs.declared.imports.ImportType.TheVariants.{Function, GlobalVar, Untyped}
use Rattle.name_meanings.specs.declared.imports.OutputImport.{OutputImport}
use Rattle.name_entries.specs.name_rules.Entries.{SymbolType, of_function, of_global, untyped, ImportKey, same_import}

abbrev pub type_kept : ImportType → SymbolType
type_kept (Function t) = of_function t
type_kept (GlobalVar kind var) = of_global (record { kind = kind; var = var })
type_kept Untyped = untyped

abbrev pub import_of : OutputImport → ImportKey
import_of i = record { module_name = i.«module»; field = i.field; type = type_kept i.kind }

-- The cell that holds the address of a name, of a function or of a datum (DynamicLinking.md, "GOT.func" and "GOT.mem").
abbrev pub cell_key : Bool → List ℕ → ImportKey
cell_key function name = record {
  module_name = if function then codes "GOT.func" else codes "GOT.mem";
  field = name;
  type = of_global (record { kind = I32; var = true });
}

-- The import of one of the linker's globals (DynamicLinking.md, "Imports").
abbrev pub made_key : List ℕ → Bool → ImportKey
made_key name changes = record { module_name = codes "env"; field = name; type = of_global (record { kind = I32; var = changes }) }

-- Imports and one more, which goes last where it is new.
abbrev pub with_import : List ImportKey → ImportKey → List ImportKey
with_import imports key = distinct_onto same_import imports (key ∷ [])
