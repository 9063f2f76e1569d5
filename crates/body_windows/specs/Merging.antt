-- The words of the pass that the code makes over immediates and relocations: what it keeps, and its
-- steps. Contracts of private functions alone cite them. What they come to is `operands_at` (Windows).
use Rattle.std.specs.Prelude.{ℕ, ◌+◌, nat_le, if◌then◌else◌, ◌<◌, ◌^◌, true, List, [], ◌∷◌, ◌++◌, length, Option, Some, None, Result, Ok}
use Rattle.wasm_instr.specs.wl_base.Choice.{first_some, unless}
use Rattle.wasm_instr.specs.wasm_grammar.declared.fault.Stop.{Stop}
use Rattle.wasm_instr.specs.wasm_grammar.Reading.{◌>>=◌}
use Rattle.wasm_instr.specs.Bodies.{Nest, code_at}
use Rattle.wasm_instr.specs.declared.outline.Outline.{Outline}
use Rattle.wasm_instr.specs.declared.outline.Outline.TheVariants as outlines
use Rattle.reloc_section.specs.declared.entry.Reloc.{Reloc}
use Rattle.body_windows.specs.declared.operand.Operand.{Operand}
use Rattle.body_windows.specs.declared.immediate.Immediate.{Immediate}
use Rattle.body_windows.specs.declared.immediate.ImmediateKind.TheVariants as kinds
use Rattle.body_windows.specs.declared.fault.Mismatch.{Mismatch}
use Rattle.body_windows.specs.declared.fault.Mismatch.TheVariants.{Overlap, OffImmediate, BareIndex}
use Rattle.body_windows.specs.Windows.{fault_with}
use Rattle.body_windows.specs.Immediates.{immediates, between, needs_window, plain_operand, fills, operand_of}

-- What is known behind some immediates: the relocations that are left, the operands so far, the first
-- window that is off, and the first bare place.
pub record State : Type 0 where
  pub base : ℕ
  pub left : List Reloc
  pub operands : List Operand
  pub off : Option ℕ
  pub bare : Option ℕ

-- The first bare place, where the next immediate has no relocation.
abbrev pub bare_with : Option ℕ → ℕ → Immediate → Option ℕ
bare_with (Some place) base i = Some place
bare_with None base i = if needs_window i.kind then Some (base + i.place) else None

-- The next immediate has no relocation.
abbrev pub left_bare : State → Immediate → State
left_bare s i = record s { operands = s.operands ++ plain_operand i.kind ∷ []; bare = bare_with s.bare s.base i }

-- The next immediate, where a relocation stands at it or before it: it is its window, or the window is
-- off.
abbrev pub met : State → Immediate → Reloc → List Reloc → State
met s i r rs =
    if fills s.base r i then record s { left = rs; operands = s.operands ++ operand_of i r ∷ [] }
    else record s { off = Some r.offset }

abbrev pub offered_to : State → Immediate → Option ℕ → List Reloc → State
offered_to s i (Some place) left = s
offered_to s i None [] = left_bare s i
offered_to s i None (r ∷ rs) = if nat_le r.offset (s.base + i.place) then met s i r rs else left_bare s i

-- The next immediate. Where a window is off, nothing else is looked at.
abbrev pub offered : State → Immediate → State
offered s i = offered_to s i s.off s.left

abbrev pub offered_all : State → List Immediate → State
offered_all s [] = s
offered_all s (i ∷ is) = offered_all (offered s i) is

-- What one pass knows behind the code that these bytes are, where these blocks are open.
unfoldable pub walked : State → ℕ → Nest → List ℕ → Result State Stop
walked s end nest bytes = do
  code ← code_at (length bytes) end nest bytes
  Ok (offered_all s (immediates code))

-- The immediates of an instruction, by its outline.
abbrev pub outlined_immediates : Outline → ℕ → ℕ → ℕ → List Immediate
outlined_immediates (outlines.Block may true) at mid end = between kinds.TypeIndex mid end ∷ []
outlined_immediates outlines.Call at mid end = between kinds.FunctionIndex mid end ∷ []
outlined_immediates (outlines.CallIndirect table) at mid end = between kinds.TypeIndex (at + 1) mid ∷ between (kinds.TableIndex table) mid end ∷ []
outlined_immediates outlines.Global at mid end = between kinds.GlobalIndex mid end ∷ []
outlined_immediates outlines.Access at mid end = between kinds.MemoryOffset mid end ∷ []
outlined_immediates outlines.I32Const at mid end = between kinds.Constant mid end ∷ []
outlined_immediates _ at mid end = []

-- The places of immediates are below 2 ^ 32 in the code section too.
abbrev pub Fit : ℕ → List Immediate → Type 0
Fit base [] = Unit {0}
Fit base (i ∷ is) = (base + i.place < 2 ^ 32) × Fit base is

-- The first window that is off, where no immediate is left: what is left of the relocations stands on
-- none.
abbrev pub off_at_last : Option ℕ → List Reloc → Option ℕ
off_at_last (Some place) left = Some place
off_at_last None [] = None
off_at_last None (r ∷ rs) = Some r.offset

-- What the pass gives, where this is the least overlap.
abbrev pub finished : State → Option ℕ → Result (List Operand) Mismatch
finished s overlap =
    unless (first_some (fault_with Overlap overlap ∷ fault_with OffImmediate (off_at_last s.off s.left) ∷ fault_with BareIndex s.bare ∷ [])) s.operands
