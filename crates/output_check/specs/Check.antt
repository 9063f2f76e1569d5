-- What a check of a link's output finds (Core 3), where the plan asks for one.
use Rattle.std.specs.Prelude.{◌≡◌, ℕ, List, if◌then◌else◌, Option, Some, None, option_map, Result, Ok, Err}
use Rattle.wl_base.specs.declared.fault.Fault.{Fault}
use Rattle.wl_base.specs.declared.fault.Fault.TheVariants.{Invalid}
use Rattle.wl_base.specs.declared.fault.InvalidAt.{InvalidAt}
use Rattle.wl_base.specs.declared.fault.InvalidAt.TheVariants as places
use Rattle.wasm_module.specs.wasm_instr.wasm_grammar.declared.fault.Stop.{Stop}
use Rattle.wasm_module.specs.declared.structure.Module.{Module}
use Rattle.wasm_module.specs.Modules.{IsModule}
use Rattle.wasm_module.specs.ModuleReading.{module_of}
use Rattle.wasm_valid.specs.Valid.{IsValid}
use Rattle.wasm_valid.specs.Computed.{module_fault}
use Rattle.link_plan.specs.declared.plan.Plan.{Plan}

-- The first part that isn't valid of what bytes are read as. Bytes that are no module aren't valid as a whole.
abbrev pub judged : Result Module Stop → Option InvalidAt
judged (Ok m) = module_fault m
judged (Err stop) = Some places.Module

-- The first part of an output that isn't valid, where the plan asks for the check.
unfoldable pub invalid_at : Plan → List ℕ → Option InvalidAt
invalid_at plan bytes = if plan.validate then judged (module_of bytes) else None

-- The same as the fault that refuses the link.
abbrev pub invalid_fault : Plan → List ℕ → Option Fault
invalid_fault plan bytes = option_map Invalid (invalid_at plan bytes)

-- The bytes spell one module (Core 5.5), and it is valid: validation finds no fault in it.
pub record IsValidOutput (bytes : List ℕ) : Type 0 where
  pub is : Module
  pub read : module_of bytes ≡ Ok is
  pub spelled : IsModule is bytes
  pub valid : IsValid is
  pub no_fault : module_fault is ≡ None
