-- The index spaces of a shared output's module (Core 2.5.1), by the keys that number them.
use Rattle.std.specs.Prelude.{◌≡◌, ℕ, List, [], ◌∷◌, map, true, None}
use Rattle.wasm_types.specs.declared.table.TableType.{TableType}
use Rattle.made_symbols.specs.declared.mode.Mode.TheVariants.{Shared}
use Rattle.name_rules.specs.Entries.{InputSymbol, ImportKey}
use Rattle.link_rules.specs.Program.{Program}
use Rattle.link_rules.specs.Marks.{live}
use Rattle.link_rules.specs.Keys.{FunctionKey, global_imports_in, type_of, type_place}
use Rattle.link_rules.specs.Values.{slot_count}
use Rattle.link_rules.specs.Output.{memory}
use Rattle.shared_module.specs.Outputs.{shared_lay, shared_module}
use Rattle.wasm_valid.specs.Spaces.{functions_of, tables_of, memories_of, imported_globals, globals_of}
use Rattle.output_types.specs.Types.{symbol_cell}
use Rattle.shared_types.specs.Types.{shared_cell}

-- The index of the type of a function.
abbrev pub shared_type_index : Program → List InputSymbol → FunctionKey → ℕ
shared_type_index p exports k = type_place (shared_lay p exports).numbers (type_of p (live p exports) k)

-- The table is imported, with the output's own slots as its least size.
abbrev pub shared_table : Program → List InputSymbol → TableType
shared_table p exports = record { funcref = true; limits = record { min = slot_count (shared_lay p exports); max = None } }

-- Functions and globals have the types of their keys, in the keys' order. There are one table and one memory.
pub record HasSpaces (p : Program) (exports : List InputSymbol) : Type 0 where
  pub types : (shared_module p exports).types ≡ (shared_lay p exports).numbers.types
  pub functions : functions_of (shared_module p exports) ≡ map (shared_type_index p exports) (shared_lay p exports).numbers.functions
  pub globals : globals_of (shared_module p exports) ≡ map (shared_cell (live p exports)) (shared_lay p exports).numbers.globals
  pub imported : imported_globals (shared_module p exports) ≡ map (λ (k : ImportKey). symbol_cell k.type) (global_imports_in Shared p (live p exports))
  pub tables : tables_of (shared_module p exports) ≡ shared_table p exports ∷ []
  pub memories : memories_of (shared_module p exports) ≡ memory Shared p (live p exports) exports (shared_lay p exports) ∷ []
