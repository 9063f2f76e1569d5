-- What a session on a module comes to.
use Rattle.std.specs.Prelude.{ℕ, List, Option, Some, None, Result, Ok, Err}
use Rattle.wasm_instr.specs.wasm_grammar.declared.fault.Stop.{Stop}
use Rattle.wasm_module.specs.declared.structure.Module.{Module}
use Rattle.wasm_module.specs.ModuleReading.{module_of}
use Rattle.run_rules.specs.declared.session.Session.{Session}
use Rattle.run_rules.specs.declared.trace.Trace.{Trace}
use Rattle.run_rules.specs.Modules.{module_trace}
use Rattle.run_modules.specs.Fits.{first_outside}
use Rattle.run_machines.specs.declared.outcome.Run.{Run}
use Rattle.run_machines.specs.declared.outcome.Run.TheVariants.{NoModule, Outside, Traced}

-- A trace, where no segment lies outside.
abbrev pub if_all_fit : Option ℕ → Trace → Run
if_all_fit None trace = Traced trace
if_all_fit (Some segment) trace = Outside segment

unfoldable pub run_of_module : Session → Module → ℕ → Run
run_of_module s m n = if_all_fit (first_outside s m) (module_trace s m n)

abbrev pub run_of_read : Session → Result Module Stop → ℕ → Run
run_of_read s (Ok m) n = run_of_module s m n
run_of_read s (Err stop) n = NoModule

-- The bytes are read by the grammar of modules (Core 5.5).
unfoldable pub run_of_bytes : Session → List ℕ → ℕ → Run
run_of_bytes s bytes n = run_of_read s (module_of bytes) n
