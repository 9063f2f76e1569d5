-- A body reads addresses and never sets them.
--
-- An instruction whose window is for a global may name a function or a datum, in place of a global:
-- its address then stands in a cell that the linker makes, and `global.get` reads it (Linking.md,
-- "Relocation Sections"; DynamicLinking.md, on the global offset table).
use Rattle.std.specs.Prelude.{◌≡◌, ℕ, false, List, All, slice_get}
use Rattle.object_rules.specs.wasm_instr.declared.opcodes.TheConstants.{GLOBAL_GET}
use Rattle.object_rules.specs.wasm_instr.declared.instr.Instr.{Instr}
use Rattle.object_rules.specs.wasm_instr.declared.instr.Instr.TheVariants.{GlobalAt}
use Rattle.object_rules.specs.wasm_instr.declared.body.Body.{Body}
use Rattle.object_rules.specs.wasm_instr.declared.body.Placed.{Placed}
use Rattle.object_rules.specs.wasm_instr.Bodies.{SpellsBody}
use Rattle.object_rules.specs.body_windows.declared.operand.Operand.{Operand}
use Rattle.object_rules.specs.body_windows.declared.operand.Operand.TheVariants.{Symbol}
use Rattle.object_rules.specs.object_parts.Sections.{bytes_in}
use Rattle.object_rules.specs.Windows.{is_global_symbol}
use Rattle.object_columns.specs.declared.functions.FunctionDef.{FunctionDef}
use Rattle.object_file.specs.declared.object.Object.{Object}

-- Where the operand is at this place and names no global, this is the opcode of `global.get`.
abbrev pub IsRead : Object → ℕ → ℕ → Operand → Type 0
IsRead o mid op (Symbol kind place symbol addend) = place ≡ mid → is_global_symbol (slice_get o.symbols symbol) ≡ false → op ≡ GLOBAL_GET
IsRead o mid op _ = Unit {0}

-- An instruction of a global, of all operands of its body.
abbrev pub ReadsAt : Object → List Operand → Placed → Instr → Type 0
ReadsAt o operands x (GlobalAt op global) = All (IsRead o x.mid op) operands
ReadsAt o operands x _ = Unit {0}

-- Each instruction of the body that a function's bytes spell.
abbrev pub ReadsAddresses : List ℕ → Object → FunctionDef → Type 0
ReadsAddresses bytes o f = (body : Body) → SpellsBody body (bytes_in bytes f.span) → All (λ x. ReadsAt o f.operands x x.instr) body.code
