-- The words of the pass over instructions that are quick to tell. Contracts of private functions alone cite them.
use Rattle.std.specs.Prelude.{◌≡◌, ℕ, ◌+◌, ◌-◌, ◌<◌, ◌≤◌, Bool, true, false, List, [], ◌∷◌, ◌++◌, length, take, drop, replicate, None, Result, Ok}
use Rattle.wasm_instr.specs.leb_codec.Spelling.{IsSpelling}
use Rattle.wasm_instr.specs.leb_codec.declared.form.Form.TheVariants.{U32, S32, S64}
use Rattle.wasm_instr.specs.wasm_grammar.declared.fault.Stop.{Stop}
use Rattle.wasm_instr.specs.declared.outline.Outline.{Outline}
use Rattle.wasm_instr.specs.declared.outline.Outline.TheVariants as outlines
use Rattle.wasm_instr.specs.Bodies.{Nest}
use Rattle.wasm_instr.specs.Skimming.{skim_at}
use Rattle.reloc_section.specs.declared.entry.Reloc.{Reloc}
use Rattle.body_windows.specs.declared.operand.Operand.TheVariants.{Number}
use Rattle.body_windows.specs.declared.immediate.Immediate.{Immediate}
use Rattle.body_windows.specs.declared.immediate.ImmediateKind.{ImmediateKind}
use Rattle.body_windows.specs.declared.immediate.ImmediateKind.TheVariants as kinds
use Rattle.body_windows.specs.declared.course.Course.{Course}
use Rattle.body_windows.specs.Merging.{State, offered, walked, outlined_immediates}

-- ---- bytes

-- A number of so many bytes stands at a place, whether it is read with a sign or without, and as a long one.
pub record IsNumber (bytes : List ℕ) (at len : ℕ) : Type 0 where
  pub within : at + len ≤ length bytes
  pub unsigned : IsSpelling U32 (take len (drop at bytes))
  pub signed : IsSpelling S32 (take len (drop at bytes))
  pub long : IsSpelling S64 (take len (drop at bytes))

-- An instruction of this outline stands between two places, and no immediate of it can be a reference.
pub record IsFree (bytes : List ℕ) (at : ℕ) (outline : Outline) (to : ℕ) : Type 0 where
  pub onward : at < to
  pub within : to ≤ length bytes
  pub free : (at mid end : ℕ) → outlined_immediates outline at mid end ≡ []
  pub skims : (end : ℕ) → skim_at end (drop at bytes) ≡ Ok (outline, drop (at + 1) bytes, drop to bytes)

-- The outline of an instruction whose last immediate is of this kind, where it does nothing to blocks.
abbrev pub outline_for : ImmediateKind → Outline
outline_for kinds.FunctionIndex = outlines.Call
outline_for kinds.GlobalIndex = outlines.Global
outline_for kinds.MemoryOffset = outlines.Access
outline_for kinds.Constant = outlines.I32Const
outline_for _ = outlines.Other

-- An instruction that begins at the first place ends in the number at the second, an immediate of this kind.
abbrev pub EndsIn : List ℕ → ℕ → ℕ → ImmediateKind → Type 0
EndsIn bytes at mid kind = (len end : ℕ) → IsNumber bytes mid len → skim_at end (drop at bytes) ≡ Ok (outline_for kind, drop mid bytes, drop (mid + len) bytes)

-- Immediates that are the only one of their instruction that can be a reference, and stand for a symbol.
abbrev pub IsNamed : ImmediateKind → Type 0
IsNamed kinds.FunctionIndex = Unit {0}
IsNamed kinds.GlobalIndex = Unit {0}
IsNamed kinds.MemoryOffset = Unit {0}
IsNamed kinds.Constant = Unit {0}
IsNamed _ = ⊥

-- Those of them that are numbers where no relocation stands.
abbrev pub IsCounted : ImmediateKind → Type 0
IsCounted kinds.MemoryOffset = Unit {0}
IsCounted kinds.Constant = Unit {0}
IsCounted _ = ⊥

-- ---- the pass

-- The state behind so many numbers more, on which no relocation stands.
abbrev pub numbered : State → ℕ → State
numbered s n = record s { operands = s.operands ++ replicate n Number }

-- No window begins in so many bytes from this place on.
abbrev pub IsClear : List Reloc → ℕ → ℕ → Type 0
IsClear [] place n = Unit {0}
IsClear (r ∷ rs) place n = n ≤ r.offset - place

-- What is known where the next immediate was taken, behind so many numbers, or was not.
abbrev pub Takes : Bool → State → ℕ → Immediate → State → Type 0
Takes true s n i t = (t ≡ offered (numbered s n) i) × (t.off ≡ None)
Takes false s n i t = t ≡ s

-- The pass may be there, in code that begins at the place from: no window is off, and none begins before the
-- place that the course tells.
pub record Stands (s : State) (from : ℕ) (bytes : List ℕ) (c : Course) : Type 0 where
  pub on : s.off ≡ None
  pub clear : IsClear s.left (s.base + from) c.next
  pub within : c.at ≤ length bytes
  pub counted : c.numbers ≤ c.at

-- What is known behind the code from there on.
abbrev pub walked_from : State → ℕ → Nest → List ℕ → Course → Result State Stop
walked_from s from nest bytes c = walked (numbered s c.numbers) (from + length bytes) nest (drop c.at bytes)

-- The pass goes on from one place to another, and what is known behind all the code stays the same.
pub record Goes (from : ℕ) (bytes : List ℕ) (s : State) (nest : Nest) (c : Course) (t : State) (next : Nest) (d : Course) : Type 0 where
  pub stands : Stands t from bytes d
  pub base : t.base ≡ s.base
  pub onward : c.at ≤ d.at
  pub opened : 0 < length next
  pub same : walked_from s from nest bytes c ≡ walked_from t from next bytes d
