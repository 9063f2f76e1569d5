-- What a link that gives a shared output makes sure of for the rules outside bodies and for the function that makes addresses right, and what
-- is asked of the globals of objects.
use Rattle.std.specs.Prelude.{◌≡◌, ℕ, ◌<◌, ◌^◌, List, [], slice_get, true, Some, None}
use Rattle.list_places.specs.Has.{Has}
use Rattle.object_parts.specs.declared.parts.GlobalDef.{GlobalDef}
use Rattle.made_symbols.specs.declared.mode.Mode.TheVariants.{Shared}
use Rattle.name_rules.specs.Entries.{InputSymbol, ImportKey, of_global}
use Rattle.name_rules.specs.Meanings.{cell_of}
use Rattle.link_rules.specs.Program.{Program, Part, Ref, refs, global}
use Rattle.link_rules.specs.Marks.{live, repeated_export, is_foreign}
use Rattle.link_rules.specs.Keys.{outside_global, global_imports_in}
use Rattle.link_rules.specs.Loader.{cell_number}
use Rattle.shared_module.specs.Outputs.{shared_lay}
use Rattle.wasm_valid.specs.Rules.{has_type}
use Rattle.output_types.specs.Types.{constant_cell}

-- An import of a constant i32, as a base that the loader gives (DynamicLinking.md).
abbrev pub IsBase : Program → List InputSymbol → ℕ → Type 0
IsBase p exports n = (k : ImportKey) × (slice_get (global_imports_in Shared p (live p exports)) n ≡ Some k) × (k.type ≡ of_global constant_cell)

pub record IsChecked (p : Program) (exports : List InputSymbol) : Type 0 where
  -- the data ends within 32 bits
  pub ends : (shared_lay p exports).places.data_end < 2 ^ 32
  pub names : repeated_export Shared p exports ≡ None
  -- the first value of each global of an object has its type
  pub globals : (part : Part) (g : GlobalDef) → Has (live p exports) part → part.content ≡ global g → has_type [] g.kind.kind g.value ≡ true
  -- global 1 is `__memory_base`, and global 2 `__table_base`
  pub memory_base : IsBase p exports 1
  pub table_base : IsBase p exports 2
  -- what is read for a window of live data that names a foreign symbol is the symbol's cell; a chunk's kind is 1 for a segment
  pub foreign : (part : Part) (ref : Ref) → Has (live p exports) part → part.chunk.kind ≡ 1 → Has (refs part) ref → is_foreign ref ≡ true
      → slice_get (shared_lay p exports).numbers.globals (cell_number Shared p (live p exports) (shared_lay p exports) ref) ≡ Some (outside_global (cell_of ref.entry))
