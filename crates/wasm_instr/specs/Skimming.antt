-- Reading with nothing kept: the outline of an instruction, which is what a scanner of bodies has to
-- know of it, and the bytes behind the locals.
use Rattle.std.specs.Prelude.{ℕ, Bool, true, false, List, [], ◌∷◌, ◌++◌, Option, Some, None, Result, Ok, ◌==◌, if◌then◌else◌}
use Rattle.wasm_grammar.specs.declared.fault.Stop.{Stop}
use Rattle.wasm_grammar.specs.Reading.{◌>>=◌}
use Rattle.wasm_instr.specs.declared.instr.BlockKind.{BlockKind}
use Rattle.wasm_instr.specs.declared.instr.BlockKind.TheVariants as blocks
use Rattle.wasm_instr.specs.declared.instr.Instr.{Instr}
use Rattle.wasm_instr.specs.declared.instr.Instr.TheVariants as instrs
use Rattle.wasm_instr.specs.declared.outline.Outline.{Outline}
use Rattle.wasm_instr.specs.declared.outline.Outline.TheVariants.{Other, End, Else, Block, Call, CallIndirect, Global, Access, I32Const}
use Rattle.wasm_instr.specs.Reading.{instr_at}
use Rattle.wasm_instr.specs.Bodies.{Nest, closed, may_else, locals_at}

-- Whether a block's type is an index (Core 5.4.1).
abbrev pub is_index : BlockKind → Bool
is_index (blocks.Index n) = true
is_index _ = false

-- What a scanner has to know of an instruction: whether it opens, turns or closes a block (Core
-- 5.4.1), and whether its last immediate can be a reference.
abbrev pub outline_of : Instr → Outline
outline_of (instrs.Plain op) = if op == 0x0b then End else (if op == 0x05 then Else else Other)
outline_of (instrs.Block op kind) = Block (op == 0x04) (is_index kind)
outline_of (instrs.Call function) = Call
outline_of (instrs.CallIndirect kind table) = CallIndirect table
outline_of (instrs.GlobalAt op global) = Global
outline_of (instrs.Access op align offset) = Access
outline_of (instrs.I32Const n) = I32Const
outline_of _ = Other

-- The outline in place of the instruction, with the bytes from the last immediate on and those after
-- it.
abbrev pub outlined : Result (Instr × List ℕ × List ℕ) Stop → Result (Outline × List ℕ × List ℕ) Stop
outlined read = read >>= λ x. Ok (outline_of x.0, x.1, x.2)

unfoldable pub skim_at : ℕ → List ℕ → Result (Outline × List ℕ × List ℕ) Stop
skim_at end bytes = outlined (instr_at end bytes)

-- The blocks that are open behind an instruction of this outline; none where it is an `else` at a
-- wrong place.
abbrev pub outline_step : Nest → Outline → Option Nest
outline_step nest End = Some (closed nest)
outline_step nest Else = if may_else nest then Some (closed nest ++ false ∷ []) else None
outline_step nest (Block may index) = Some (nest ++ may ∷ [])
outline_step nest _ = Some nest

-- The bytes after a value that was read.
abbrev pub rest_of : {A : Type 0} → Result (A × List ℕ) Stop → Result (List ℕ) Stop
rest_of read = read >>= λ x. Ok x.1

-- The bytes behind the locals of a body.
unfoldable pub skip_locals_at : ℕ → List ℕ → Result (List ℕ) Stop
skip_locals_at end bytes = rest_of (locals_at end bytes)
