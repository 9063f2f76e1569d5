-- What passes the check is a valid output, and a valid output passes it, whether a plan asks for it or not.
use Rattle.std.proofs.Common.{◌≡◌, ℕ, List, Bool, true, false, if◌then◌else◌, length, Option, Some, None, Result, Ok, Err, refl, ap, sym, ◌∙◌}
use Rattle.std.specs.Prelude.{option_map, IfOk}
use Rattle.wl_base.specs.declared.fault.Fault.TheVariants.{Invalid as InvalidFault}
use Rattle.wl_base.specs.declared.fault.InvalidAt.{InvalidAt}
use Rattle.wasm_module.specs.wasm_instr.wasm_grammar.declared.fault.Stop.{Stop}
use Rattle.wasm_module.specs.declared.structure.Module.{Module}
use Rattle.wasm_module.specs.ModuleReading.{module_of}
use Rattle.wasm_module.proofs.ModuleLaws.{module_found}
use Rattle.wasm_valid.specs.declared.fault.ValidError.{ValidError}
use Rattle.wasm_valid.specs.declared.fault.ValidError.TheVariants.{Invalid, OutOfMemory}
use Rattle.wasm_valid.specs.Computed.{Tells}
use Rattle.wasm_valid.proofs.Computed.{judged_is_computed}
use Rattle.link_plan.specs.declared.plan.Plan.{Plan}
use Rattle.output_check.specs.Check.{judged, invalid_at, invalid_fault, IsValidOutput}
use Rattle.output_check.specs.Verdicts.{JudgesRead}

-- ---- what is answered of what is read

told : (answer : Result (Unit {0}) ValidError) (read : Result Module Stop) → JudgesRead answer read → Tells answer (judged read)
told answer (Ok m) j = judged_is_computed m answer j
told (Ok passed) (Err stop) j = absurd j
told (Err (Invalid at)) (Err stop) j = ap Some (sym j)
told (Err OutOfMemory) (Err stop) j = tt

pub is_told : (bytes : List ℕ) (answer : Result (Unit {0}) ValidError) → JudgesRead answer (module_of bytes) → Tells answer (judged (module_of bytes))
is_told bytes answer j = told answer (module_of bytes) j

passed_is : (bytes : List ℕ) (passed : Unit {0}) (read : Result Module Stop) → module_of bytes ≡ read → JudgesRead (Ok passed) read → IsValidOutput bytes
passed_is bytes passed (Ok m) e valid = record {
  is = m;
  read = e;
  spelled = module_found (length bytes) bytes m e;
  valid = valid;
  no_fault = judged_is_computed m (Ok passed) valid;
}
passed_is bytes passed (Err stop) e valid = absurd valid

pub is_valid : (bytes : List ℕ) (answer : Result (Unit {0}) ValidError) → JudgesRead answer (module_of bytes) → IfOk answer (λ passed. IsValidOutput bytes)
is_valid bytes (Ok passed) j = passed_is bytes passed (module_of bytes) refl j
is_valid bytes (Err e) j = tt

-- ---- what a valid output passes

either : (asked : Bool) (at : Option InvalidAt) → at ≡ None → (if asked then at else None) ≡ None
either true at none = none
either false at none = refl

pub passes : (plan : Plan) (bytes : List ℕ) → IsValidOutput bytes → invalid_fault plan bytes ≡ None
unfolding invalid_at
passes plan bytes v = ap (option_map InvalidFault) (either plan.validate (judged (module_of bytes)) (ap judged v.read ∙ v.no_fault))
