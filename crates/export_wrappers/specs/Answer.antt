-- What the call answers.
use Rattle.std.specs.Prelude.{◌≡◌, ℕ, ◌≤◌, ◌<◌, ◌^◌, List, length, Result, Ok, Err}
use Rattle.wasm_module.specs.wasm_instr.wasm_grammar.declared.fault.ReadFault.{ReadFault}
use Rattle.wasm_module.specs.wasm_instr.wasm_grammar.declared.fault.ReadFault.TheVariants as reads
use Rattle.wasm_module.specs.declared.structure.Module.{Module}
use Rattle.wasm_module.specs.ModuleReading.{module_of}
use Rattle.export_wrappers.specs.declared.fault.WrapFault.{WrapFault}
use Rattle.export_wrappers.specs.declared.fault.WrapFault.TheVariants.{NotModule, TooLong, OutOfMemory}
use Rattle.export_wrappers.specs.declared.wrapper.Asked.{Asked}
use Rattle.export_wrappers.specs.Wrapped.{wrapped}

abbrev pub wrap_fault : ReadFault → WrapFault
wrap_fault (reads.Stopped s) = NotModule
wrap_fault reads.OutOfMemory = OutOfMemory

-- If the bytes are a module, the others are read as the wrapped one.
abbrev pub IsWrapped : Asked → List ℕ → List ℕ → Type 0
IsWrapped asked bytes out = (m : Module) → module_of bytes ≡ Ok m → module_of out ≡ Ok (wrapped asked m)

-- Wrapped bytes, however many; or the bytes are no module. Want of memory says nothing.
abbrev pub WrapsAny : Asked → List ℕ → Result (List ℕ) ReadFault → Type 0
WrapsAny asked bytes (Ok out) = IsWrapped asked bytes out
WrapsAny asked bytes (Err (reads.Stopped s)) = (m : Module) → module_of bytes ≡ Ok m → ⊥
WrapsAny asked bytes (Err reads.OutOfMemory) = Unit {0}

-- The bytes, where they are few enough; or how many they are.
abbrev pub Shortens : List ℕ → Result (List ℕ) WrapFault → Type 0
Shortens all (Ok out) = (out ≡ all) × (length out < 2 ^ 31)
Shortens all (Err (TooLong n)) = (length all ≡ n) × (2 ^ 31 ≤ n)
Shortens all (Err NotModule) = ⊥
Shortens all (Err OutOfMemory) = ⊥

-- Wrapped bytes, which are fewer than 2^31; or the bytes are no module; or the wrapped bytes would be so many, which are more. Want of
-- memory says nothing.
abbrev pub Wraps : Asked → List ℕ → Result (List ℕ) WrapFault → Type 0
Wraps asked bytes (Ok out) = IsWrapped asked bytes out × (length out < 2 ^ 31)
Wraps asked bytes (Err NotModule) = (m : Module) → module_of bytes ≡ Ok m → ⊥
Wraps asked bytes (Err (TooLong n)) = (out : List ℕ) × IsWrapped asked bytes out × (length out ≡ n) × (2 ^ 31 ≤ n)
Wraps asked bytes (Err OutOfMemory) = Unit {0}
