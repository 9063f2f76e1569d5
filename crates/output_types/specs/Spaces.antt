-- The index spaces of the output's module (Core 2.5.1), by the keys that number them.
use Rattle.std.specs.Prelude.{◌≡◌, ℕ, List, [], ◌∷◌, map}
use Rattle.made_symbols.specs.declared.mode.Mode.TheVariants.{Plain}
use Rattle.link_worlds.specs.link_rules.name_rules.Entries.{InputSymbol}
use Rattle.link_worlds.specs.link_rules.Program.{Program}
use Rattle.link_worlds.specs.link_rules.Marks.{live}
use Rattle.link_worlds.specs.link_rules.Keys.{FunctionKey, type_of, type_place}
use Rattle.link_worlds.specs.link_rules.Output.{table, memory}
use Rattle.link_worlds.specs.Worlds.{layout_of, linked_module}
use Rattle.wasm_valid.specs.Spaces.{functions_of, tables_of, memories_of, globals_of}
use Rattle.output_types.specs.Types.{cell_type}

-- The index of the type of a function.
abbrev pub type_index : Program → List InputSymbol → FunctionKey → ℕ
type_index p exports k = type_place (layout_of p exports).numbers (type_of p (live p exports) k)

-- Functions and globals have the types of their keys, in the keys' order. There are one table and one memory.
pub record HasSpaces (p : Program) (exports : List InputSymbol) : Type 0 where
  pub types : (linked_module p exports).types ≡ (layout_of p exports).numbers.types
  pub functions : functions_of (linked_module p exports) ≡ map (type_index p exports) (layout_of p exports).numbers.functions
  pub globals : globals_of (linked_module p exports) ≡ map (cell_type (live p exports)) (layout_of p exports).numbers.globals
  pub tables : tables_of (linked_module p exports) ≡ table Plain p (live p exports) exports (layout_of p exports) ∷ []
  pub memories : memories_of (linked_module p exports) ≡ memory Plain p (live p exports) exports (layout_of p exports) ∷ []
