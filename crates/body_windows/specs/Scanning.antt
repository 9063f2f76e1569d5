-- The operands of a body that is read from its bytes.
use Rattle.std.specs.Prelude.{ℕ, List, Result, Ok}
use Rattle.wasm_instr.specs.wasm_grammar.declared.fault.Stop.{Stop}
use Rattle.wasm_instr.specs.wasm_grammar.Reading.{◌>>=◌}
use Rattle.wasm_instr.specs.Bodies.{body_at}
use Rattle.reloc_section.specs.declared.entry.Reloc.{Reloc}
use Rattle.body_windows.specs.declared.operand.Operand.{Operand}
use Rattle.body_windows.specs.declared.fault.Mismatch.{Mismatch}
use Rattle.body_windows.specs.Windows.{windows_of}

-- The operands of the body that these bytes are, or how it and the relocations disagree. A fault of
-- the body comes before.
unfoldable pub scan_of : ℕ → List Reloc → List ℕ → Result (Result (List Operand) Mismatch) Stop
scan_of base relocs bytes = do
  body ← body_at bytes
  Ok (windows_of base relocs body)
