-- A shared module as a loader places it (DynamicLinking.md): its memory and its table are imported, and imported globals tell it from where on
-- its data and its slots stand in them.
use Rattle.std.specs.Prelude.{◌≡◌, ℕ, ◌+◌, ◌*◌, ◌%◌, ◌^◌, ◌≤◌, List, [], ◌∷◌, replicate, Option, Some, None, option_map, unwrap_or, codes}
use Rattle.wasm_types.specs.declared.value.ValType.TheVariants.{I32}
use Rattle.wasm_types.specs.declared.table.TableType.{TableType}
use Rattle.wasm_module.specs.declared.structure.Module.{Module}
use Rattle.run_rules.specs.declared.world.World.{World}
use Rattle.run_rules.specs.declared.session.Session.{Session}
use Rattle.run_rules.specs.declared.trace.Trace.{Trace}
use Rattle.run_rules.specs.Runs.{trace_of}
use Rattle.run_rules.specs.Modules.{first_value, imported_tables, offset_in, with_elements, module_firsts, module_world, module_start}
use Rattle.dylink_out.specs.declared.dylink.Dylink.{Dylink}

-- What a loader gives: a session, which has the pages of the memory, all zeros, and the values of imported globals, the bases among them; and how
-- many entries the table has, all null. `None` stands for the least that is stated.
pub record Placing : Type 0 where
  pub session : Session
  pub entries : Option ℕ

-- ---- the bases

abbrev pub memory_base_name : List ℕ
memory_base_name = codes "__memory_base"

abbrev pub table_base_name : List ℕ
table_base_name = codes "__table_base"

-- The number in an i32 that is imported from `env`.
abbrev pub number_given : Session → List ℕ → ℕ
number_given s name = unwrap_or (offset_in (Some (first_value s (codes "env") name I32))) 0

abbrev pub memory_base : Session → ℕ
memory_base s = number_given s memory_base_name

abbrev pub table_base : Session → ℕ
table_base s = number_given s table_base_name

-- ---- a module that is placed so

-- The entries of the table at first: as many as are given for an imported one, or the least number.
abbrev pub first_entries : Option ℕ → List TableType → List TableType → Option ℕ
first_entries given [] [] = None
first_entries given [] (t ∷ ts) = Some t.limits.min
first_entries given (t ∷ ts) own = Some (unwrap_or given t.limits.min)

unfoldable pub placed_world : Placing → Module → World
placed_world x m = record (module_world x.session m) {
  table = option_map (λ n. with_elements (module_firsts x.session m) m.elements (replicate n None)) (first_entries x.entries (imported_tables m.imports) m.tables);
}

-- The trace of a session on a module that is placed so.
unfoldable pub placed_trace : Placing → Module → ℕ → Trace
placed_trace x m n = trace_of (placed_world x m) x.session (module_start x.session m) n

-- ---- what a loader is asked for (DynamicLinking.md, "The dylink.0 Section")

-- The memory's base is aligned, and memory and table reach as far as the sizes ask from their bases on; a memory of so many pages is the least. Memory
-- has at most 2^32 bytes.
pub record BasesAgree (x : Placing) (d : Dylink) (least : ℕ) : Type 0 where
  pub aligned : memory_base x.session % 2 ^ d.memory_align ≡ 0
  pub memory : memory_base x.session + d.memory_size ≤ 65536 * unwrap_or x.session.pages least
  pub slots : table_base x.session + d.table_size ≤ unwrap_or x.entries d.table_size
  pub small : 65536 * unwrap_or x.session.pages least ≤ 2 ^ 32
