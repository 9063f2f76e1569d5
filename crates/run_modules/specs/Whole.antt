-- The world of a module, by the first values of its imported globals and the cells of its globals.
use Rattle.std.specs.Prelude.{ℕ, List, ◌++◌, map, option_map, Option, Some, None}
use Rattle.wasm_instr.specs.declared.instr.Instr.{Instr}
use Rattle.wasm_instr.specs.declared.body.Body.{Body}
use Rattle.wasm_module.specs.declared.structure.Module.{Module}
use Rattle.run_rules.specs.declared.value.Value.{Value}
use Rattle.run_rules.specs.declared.op.Op.{Op}
use Rattle.run_rules.specs.declared.world.Source.{Source}
use Rattle.run_rules.specs.declared.world.Source.TheVariants.{Nowhere}
use Rattle.run_rules.specs.declared.world.World.{World}
use Rattle.run_rules.specs.Ops.{op_of}
use Rattle.run_rules.specs.Modules.{first, imported_functions, imported_memories, defined_functions, coded, table_of, export_of, most_pages}
use Rattle.run_modules.specs.Fits.{table_in}

-- what a function runs that has this body
abbrev pub source_of : (Instr → Op) → Option Body → Source
source_of op None = Nowhere
source_of op (Some b) = coded op b

abbrev pub world_with : Module → List Value → (ℕ → ℕ) → World
world_with m firsts cell = record {
  functions = imported_functions m.types m.imports ++ defined_functions (op_of m.types cell) m.types m.functions m.bodies;
  table = table_of firsts m.elements (table_in m);
  exports = map (export_of cell) m.exports;
  memory = option_map most_pages (first (imported_memories m.imports ++ m.memories));
}
