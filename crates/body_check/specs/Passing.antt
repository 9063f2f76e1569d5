-- The words of the pass over instructions that are quick to type. Contracts of private functions alone cite them.
use Rattle.std.specs.Prelude.{◌≡◌, ℕ, ◌<◌, ◌≤◌, List, length, Some, Ok}
use Rattle.wasm_types.specs.declared.function.FuncType.{FuncType}
use Rattle.wasm_instr.specs.declared.instr.Instr.{Instr}
use Rattle.wasm_instr.specs.declared.body.LocalRun.{LocalRun}
use Rattle.wasm_instr.specs.Reading.{instr_at}
use Rattle.wasm_instr.specs.Bodies.{Nest, code_at}
use Rattle.wasm_instr.specs.Skimming.{outline_of, outline_step}
use Rattle.valid_rules.specs.declared.types.Frame.{Frame}
use Rattle.valid_rules.specs.declared.types.Shape.{Shape}
use Rattle.valid_bodies.specs.declared.types.Context.{Context}
use Rattle.valid_bodies.specs.Shapes.{shape}
use Rattle.body_check.specs.Judging.{is_read, unfit, judged}

module _ (c : Context) (t : FuncType) (ls : List LocalRun) (end : ℕ) where
  -- An instruction of this shape stands at the front, and does nothing to blocks.
  pub record Does (bytes : List ℕ) (s : Shape) (rest : List ℕ) : Type 0 where
    pub is : Instr
    pub mid : List ℕ
    pub reads : instr_at end bytes ≡ Ok (is, mid, rest)
    pub shaped : shape c t ls is ≡ s
    pub stays : (nest : Nest) → outline_step nest (outline_of is) ≡ Some nest

  -- The code goes on from one place to another, with these blocks open, and what is told of it all stays the same.
  pub record Passes (old : List Frame) (bytes : List ℕ) (new : List Frame) (rest : List ℕ) : Type 0 where
    pub less : length rest ≤ length bytes
    pub read : (nest : Nest) → 0 < length nest → is_read (code_at (length bytes) end nest bytes) ≡ is_read (code_at (length rest) end nest rest)
    pub same : (nest : Nest) → 0 < length nest → judged c t ls old (code_at (length bytes) end nest bytes) ≡ judged c t ls new (code_at (length rest) end nest rest)

  -- The code has no typing.
  abbrev pub IsUnfit : List Frame → List ℕ → Type 0
  IsUnfit old bytes = (nest : Nest) → 0 < length nest → judged c t ls old (code_at (length bytes) end nest bytes) ≡ unfit (is_read (code_at (length bytes) end nest bytes))
