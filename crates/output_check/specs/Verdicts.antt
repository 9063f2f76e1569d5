-- What is answered of the module that bytes are read as.
use Rattle.std.specs.Prelude.{◌≡◌, Result, Ok, Err}
use Rattle.wasm_module.specs.wasm_instr.wasm_grammar.declared.fault.Stop.{Stop}
use Rattle.wasm_module.specs.declared.structure.Module.{Module}
use Rattle.wasm_module.specs.declared.fault.ModuleFault.{ModuleFault}
use Rattle.wasm_module.specs.declared.fault.ModuleFault.TheVariants.{NotModule, OutOfMemory as WantOfMemory}
use Rattle.wl_base.specs.declared.fault.InvalidAt.TheVariants as places
use Rattle.wasm_valid.specs.declared.fault.ValidError.{ValidError}
use Rattle.wasm_valid.specs.declared.fault.ValidError.TheVariants.{Invalid, OutOfMemory}
use Rattle.wasm_valid.specs.Valid.{Judges}

-- The answer is true of the module, or refuses as a whole what is none.
abbrev pub JudgesRead : Result (Unit {0}) ValidError → Result Module Stop → Type 0
JudgesRead answer (Ok m) = Judges answer m
JudgesRead (Ok passed) (Err stop) = ⊥
JudgesRead (Err (Invalid at)) (Err stop) = at ≡ places.Module
JudgesRead (Err OutOfMemory) (Err stop) = Unit {0}

-- What is told of bytes that are no module.
abbrev pub refused : ModuleFault → ValidError
refused NotModule = Invalid places.Module
refused WantOfMemory = OutOfMemory
