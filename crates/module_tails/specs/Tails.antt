-- What custom sections behind a module change: nothing (WebAssembly Core 2.0, 5.5.3).
use Rattle.std.specs.Prelude.{◌≡◌, ℕ, List, ◌++◌, Ok}
use Rattle.wasm_module.specs.declared.structure.Module.{Module}
use Rattle.wasm_module.specs.Modules.{IsModule}
use Rattle.wasm_module.specs.ModuleReading.{module_of}
use Rattle.wasm_module.specs.Sections.{AreCustoms}

-- Bytes that spell a module spell it with custom sections behind them, and are read as it.
abbrev pub CustomsSayNothing : Type 0
CustomsSayNothing = (m : Module) (bytes tail : List ℕ) → IsModule m bytes → AreCustoms tail → IsModule m (bytes ++ tail) × (module_of (bytes ++ tail) ≡ Ok m)
