-- What runs come to, by the calls that are made for them.
use Rattle.std.proofs.Common.{◌≡◌, ℕ, List, map, Option, Some, None, Ok, Err, sym, ap, ◌∙◌}
use Rattle.wasm_instr.specs.wasm_grammar.declared.fault.Stop.{Stop}
use Rattle.wasm_module.specs.declared.structure.Module.{Module}
use Rattle.wasm_module.specs.ModuleReading.{module_of}
use Rattle.run_rules.specs.declared.value.Value.{Value}
use Rattle.run_rules.specs.declared.world.World.{World}
use Rattle.run_rules.specs.declared.state.State.{State}
use Rattle.run_rules.specs.declared.session.Session.{Session}
use Rattle.run_rules.specs.declared.trace.Trace.{Trace}
use Rattle.run_rules.specs.Memory.{zeros}
use Rattle.run_rules.specs.Modules.{module_world, module_start, module_trace, at_first}
use Rattle.run_rules.specs.Runs.{trace_of}
use Rattle.run_modules.specs.Fits.{first_outside}
use Rattle.run_machines.specs.declared.outcome.Run.{Run}
use Rattle.run_machines.specs.declared.outcome.Run.TheVariants.{NoModule, Outside, Traced}
use Rattle.run_machines.specs.declared.sym.SymWorld.{SymWorld}
use Rattle.run_machines.specs.Runs.{if_all_fit, run_of_module, run_of_read, run_of_bytes}
use Rattle.run_machines.specs.Sym.{sym_value, sym_pages, sym_outside, sym_start, sym_trace, with_segments, run_of_sym}

-- ---- of a module

trace_is : (s : Session) (m : Module) (n : ℕ) (world : World) (start : State) → world ≡ module_world s m → start ≡ module_start s m → trace_of world s start n ≡ module_trace s m n
unfolding module_trace
trace_is s m n world start w b = ap (λ v. trace_of v s start n) w ∙ ap (λ t. trace_of (module_world s m) s t n) b

pub module_traced : (s : Session) (m : Module) (n : ℕ) (world : World) (cells : List (Option Value)) (memory : List ℕ) (trace : Trace)
    → None ≡ first_outside s m → world ≡ module_world s m → at_first cells memory ≡ module_start s m → trace ≡ trace_of world s (at_first cells memory) n → Traced trace ≡ run_of_module s m n
unfolding run_of_module
module_traced s m n world cells memory trace fits w b t =
    ap Traced (t ∙ trace_is s m n world (at_first cells memory) w b) ∙ ap (λ o. if_all_fit o (module_trace s m n)) fits

pub module_refused : (s : Session) (m : Module) (n segment : ℕ) → Some segment ≡ first_outside s m → Outside segment ≡ run_of_module s m n
unfolding run_of_module
module_refused s m n segment o = ap (λ p. if_all_fit p (module_trace s m n)) o

pub ruleset of_module = (module_traced, module_refused)

-- ---- of bytes

pub bytes_run : (s : Session) (bytes : List ℕ) (m : Module) (n : ℕ) (run : Run) → module_of bytes ≡ Ok m → run ≡ run_of_module s m n → run ≡ run_of_bytes s bytes n
unfolding run_of_bytes
bytes_run s bytes m n run read is = is ∙ ap (λ r. run_of_read s r n) (sym read)

pub bytes_refused : (s : Session) (bytes : List ℕ) (n : ℕ) (stop : Stop) → module_of bytes ≡ Err stop → NoModule ≡ run_of_bytes s bytes n
unfolding run_of_bytes
bytes_refused s bytes n stop read = ap (λ r. run_of_read s r n) (sym read)

pub ruleset of_bytes = (bytes_run, bytes_refused)

-- ---- of loaded objects

pub sym_traced : (s : Session) (w : SymWorld) (n pages : ℕ) (cells : List (Option Value)) (memory : List ℕ) (trace : Trace)
    → None ≡ sym_outside pages w.segments → pages ≡ sym_pages s w → cells ≡ map (sym_value s) w.cells → memory ≡ with_segments w.segments (zeros pages) → trace ≡ trace_of w.world s (at_first cells memory) n → Traced trace ≡ run_of_sym s w n
unfolding run_of_sym sym_trace sym_start
sym_traced s w n pages cells memory trace fits count cs ms t =
    let memory_is : memory ≡ with_segments w.segments (zeros (sym_pages s w)) = ms ∙ ap (λ k. with_segments w.segments (zeros k)) count in
    ap Traced (t ∙ ap (λ vs. trace_of w.world s (at_first vs memory) n) cs ∙ ap (λ bs. trace_of w.world s (at_first (map (sym_value s) w.cells) bs) n) memory_is)
    ∙ ap (λ o. if_all_fit o (sym_trace s w n)) (fits ∙ ap (λ k. sym_outside k w.segments) count)

pub sym_refused : (s : Session) (w : SymWorld) (n pages segment : ℕ) → Some segment ≡ sym_outside pages w.segments → pages ≡ sym_pages s w → Outside segment ≡ run_of_sym s w n
unfolding run_of_sym
sym_refused s w n pages segment o count = ap (λ p. if_all_fit p (sym_trace s w n)) (o ∙ ap (λ k. sym_outside k w.segments) count)

pub ruleset of_sym = (sym_traced, sym_refused)
