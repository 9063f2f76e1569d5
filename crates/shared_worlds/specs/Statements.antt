-- What is proved of the two worlds. `IsLoadable` and `Holds` are premises here; what a link that gives bytes makes sure of, and bases that agree with its
-- section, give them.
use Rattle.std.specs.Prelude.{◌≡◌, ◌⊎◌, ℕ, ◌<◌, ◌^◌, ◌*◌, List, map, slice_get, true, false, Some, None}
use Rattle.list_places.specs.Has.{Has}
use Rattle.image_emit.specs.Stored.{Rise}
use Rattle.linking_section.specs.declared.symbol.SymbolKind.TheVariants.{Function, Datum, GlobalVar}
use Rattle.made_symbols.specs.declared.mode.Mode.TheVariants.{Shared}
use Rattle.name_rules.specs.Entries.{InputSymbol, is_kind}
use Rattle.name_rules.specs.Meanings.{cell_of}
use Rattle.run_rules.specs.declared.session.Session.{Session}
use Rattle.wasm_module.specs.declared.structure.Module.{Module}
use Rattle.run_rules.specs.Modules.{module_start, module_trace}
use Rattle.sim_laws.specs.Pairs.{WorldPairs, Alike}
use Rattle.link_rules.specs.Program.{Program, Part, Ref, refs, a_symbol}
use Rattle.link_rules.specs.Marks.{live, is_foreign}
use Rattle.link_rules.specs.Keys.{outside_global}
use Rattle.link_rules.specs.Values.{Layout, solid_segments, address_of}
use Rattle.link_rules.specs.Loader.{cell_number}
use Rattle.link_rules.specs.Output.{first_address}
use Rattle.link_worlds.specs.Sound.{AllZero}
use Rattle.link_worlds.specs.Worlds.{zero_segments}
use Rattle.shared_module.specs.Outputs.{shared_lay, shared_module}
use Rattle.shared_types.specs.Linked.{SharedLinkedBy}
use Rattle.shared_worlds.specs.Placing.{Placing, memory_base_name, table_base_name, memory_base, placed_world, placed_trace}
use Rattle.shared_worlds.specs.Names.{renaming, base_key}
use Rattle.shared_worlds.specs.Worlds.{block_at, blocks_of, pages_given, objects_world, objects_start, objects_trace}

-- What an accepted link makes sure of, under the output's layout.
pub record IsLoadable (p : Program) (exports : List InputSymbol) : Type 0 where
  pub linked : SharedLinkedBy p exports
  -- global 1 is the memory's base, and global 2 the table's base
  pub memory_base : slice_get (shared_lay p exports).numbers.globals 1 ≡ Some (base_key memory_base_name)
  pub table_base : slice_get (shared_lay p exports).numbers.globals 2 ≡ Some (base_key table_base_name)
  -- what is read for a window of live data that names a foreign symbol is the symbol's cell; a chunk's kind is 1 for a segment
  pub foreign : (part : Part) (ref : Ref) → Has (live p exports) part → part.chunk.kind ≡ 1 → Has (refs part) ref → is_foreign ref ≡ true
      → slice_get (shared_lay p exports).numbers.globals (cell_number Shared p (live p exports) (shared_lay p exports) ref) ≡ Some (outside_global (cell_of ref.entry))
  -- what live code reads by `global.get` and is no global is the address of a function or datum; a reference's kind 7 is a global's index
  pub addressed : (part : Part) (ref : Ref) → Has (live p exports) part → part.chunk.kind ≡ 0 → (part.chunk.input ≡ 0 → ⊥) → Has part.named (a_symbol ref) → ref.kind ≡ 7 → is_kind GlobalVar ref.entry ≡ false
      → (ref.entry.symbol.kind ≡ Function) ⊎ (ref.entry.symbol.kind ≡ Datum)
  -- the offset of an exported datum has 32 bits
  pub small : (e : InputSymbol) → Has exports e → is_kind Datum e ≡ true → address_of Shared (shared_lay p exports) e < 2 ^ 32
  -- the data begin at the memory's base
  pub starts : first_address Shared p (live p exports) exports (shared_lay p exports) (solid_segments p (live p exports)) ≡ 0

-- What is asked of a session: from the memory's base on, the memory holds all segments.
pub record Holds (s : Session) (p : Program) (exports : List InputSymbol) : Type 0 where
  pub rises : Rise 0 (65536 * pages_given s (shared_lay p exports)) (blocks_of s p (live p exports) (shared_lay p exports))
  pub zeros : AllZero (map (block_at (memory_base s) p (shared_lay p exports)) (zero_segments p (live p exports)))

-- The output's module, as a loader places it, is the program of loaded objects, renamed.
abbrev pub SharedWorldsPair : Type 0
SharedWorldsPair = (x : Placing) (p : Program) (exports : List InputSymbol) → IsLoadable p exports
    → WorldPairs (renaming p (shared_lay p exports)) (objects_world x p exports) (placed_world x (shared_module p exports))

-- They begin alike.
abbrev pub SharedStartsPair : Type 0
SharedStartsPair = (s : Session) (p : Program) (exports : List InputSymbol) → IsLoadable p exports → Holds s p exports
    → Alike (renaming p (shared_lay p exports)) (objects_start s p exports) (module_start s (shared_module p exports))

-- So each session has one trace.
abbrev pub SharedRunsAgree : Type 0
SharedRunsAgree = (x : Placing) (p : Program) (exports : List InputSymbol) (n : ℕ) → IsLoadable p exports → Holds x.session p exports
    → objects_trace x p exports n ≡ placed_trace x (shared_module p exports) n

-- Where a loader gives a table of the least size, a module runs as it does alone.
abbrev pub LeastTablesRunAlone : Type 0
LeastTablesRunAlone = (s : Session) (m : Module) (n : ℕ) → placed_trace (record { session = s; entries = None }) m n ≡ module_trace s m n
