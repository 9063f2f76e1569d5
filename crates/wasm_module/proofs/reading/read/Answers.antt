use Rattle.std.proofs.Common.{◌≡◌, length, Result, Ok, Err, sym, ◌∙◌}
use Rattle.std.proofs.lemmas.Result.{err_from_is_err_and}
use Rattle.wasm_instr.specs.wasm_grammar.declared.fault.Stop.{Stop}
use Rattle.wasm_instr.specs.wasm_grammar.declared.fault.ReadFault.{ReadFault}
use Rattle.wasm_instr.specs.wasm_grammar.declared.fault.ReadFault.TheVariants.{Stopped, OutOfMemory}
use Rattle.wasm_instr.specs.wasm_grammar.Fault.{Fails}
use Rattle.wasm_module.specs.declared.structure.Module.{Module}
use Rattle.wasm_module.specs.ModuleReading.{module_at, module_fault, Tells}
use Rattle.wasm_module.proofs.ModuleLaws.{module_found, module_again}
use Rattle.wasm_module.proofs.reading.read.Goals as goal

-- bytes that are read have no fault
no_fault : (e : ReadFault) (read : Result Module Stop) (m : Module) → Fails e read → read ≡ Ok m → Tells (Err (module_fault e)) (Ok m)
no_fault (Stopped s) read m fails is = absurd cc
no_fault OutOfMemory read m fails is = tt

pub returns-in_err-module_at-clause-only : goal.returns-in_err-module_at-clause-only
returns-in_err-module_at-clause-only c = λ m s.
    let p = err_from_is_err_and c.from_residual.result c.from_residual.ensures.1 in
    rw (p.1, p.2) (no_fault c.in_err-module_at.field-0.0 (module_at (length c.args.bytes.now) c.args.bytes.now) m c.in_err-module_at.ensures (module_again (length c.args.bytes.now) c.args.bytes.now m s))

pub returns-clause-found : goal.returns-clause-found
returns-clause-found c = module_found (length c.args.bytes.now) c.args.bytes.now c.in_ok-module_at.field-0 c.in_ok-module_at.ensures

pub returns-clause-only : goal.returns-clause-only
returns-clause-only c = λ m s. sym (module_again (length c.args.bytes.now) c.args.bytes.now m s) ∙ c.in_ok-module_at.ensures
