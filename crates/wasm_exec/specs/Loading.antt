-- What is loaded, and why not.
use Rattle.std.specs.Prelude.{◌≡◌, ◌⊎◌, IsTrue, Some}
use Rattle.wl_outside.specs.Shelf.{Shown, LoadFailed}
use Rattle.run_words.specs.declared.reading.RunWords.{RunWords}
use Rattle.wasm_exec.specs.declared.loading.Loaded.{Loaded}
use Rattle.wasm_exec.specs.declared.loading.ReadError.{ReadError}
use Rattle.wasm_exec.specs.declared.loading.ReadError.TheVariants.{Failed, OutOfMemory}
use Rattle.wasm_exec.specs.Command.{name_of}

-- The shelf held these, where it tells.
abbrev pub AreHeld : Shown → RunWords → Loaded → Type 0
AreHeld before w x = IsTrue before.tells → (before.held w.«module» ≡ Some x.bytes) × (before.held w.script ≡ Some x.lines)

abbrev pub Cause : ReadError → Shown → Shown → RunWords → Type 0
Cause (Failed k) before after w = LoadFailed before after (name_of w k) × ((k ≡ 0) ⊎ (k ≡ 1))
Cause OutOfMemory before after w = Unit {0}
