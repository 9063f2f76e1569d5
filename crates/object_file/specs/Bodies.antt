-- How the bodies of an object that was read stand in its bytes, and their operands on their
-- immediates (Linking.md, "Relocation Sections").
use Rattle.std.specs.Prelude.{◌≡◌, ℕ, false, List, [], ◌∷◌, IsTrue}
use Rattle.object_rules.specs.wasm_instr.declared.body.Body.{Body}
use Rattle.object_rules.specs.wasm_instr.Bodies.{SpellsBody}
use Rattle.object_rules.specs.body_windows.declared.operand.Operand.{Operand}
use Rattle.object_rules.specs.body_windows.declared.operand.Operand.TheVariants.{Number, Symbol, TypeRef, TableZero}
use Rattle.object_rules.specs.body_windows.declared.immediate.Immediate.{Immediate}
use Rattle.object_rules.specs.body_windows.declared.immediate.ImmediateKind.TheVariants.{TypeIndex, TableIndex}
use Rattle.object_rules.specs.body_windows.Immediates.{immediates, may_stand, needs_window}
use Rattle.object_columns.specs.declared.functions.FunctionDef.{FunctionDef}
use Rattle.object_rules.specs.object_parts.Sections.{bytes_in}

-- The operand of an immediate. A window stands on all of an immediate, which has five bytes, and its
-- type may stand there; where there is none, none is needed.
abbrev pub IsOperandOf : Immediate → Operand → Type 0
IsOperandOf i Number = needs_window i.kind ≡ false
IsOperandOf i (Symbol kind place symbol addend) = (place ≡ i.place) × (i.len ≡ 5) × IsTrue (may_stand kind i.kind)
IsOperandOf i (TypeRef place index) = (place ≡ i.place) × (i.len ≡ 5) × (i.kind ≡ TypeIndex)
IsOperandOf i TableZero = i.kind ≡ TableIndex 0

-- One operand for each immediate, in order.
abbrev pub AreOperandsOf : List Immediate → List Operand → Type 0
AreOperandsOf [] [] = Unit {0}
AreOperandsOf [] (operand ∷ operands) = ⊥
AreOperandsOf (i ∷ is) [] = ⊥
AreOperandsOf (i ∷ is) (operand ∷ operands) = IsOperandOf i operand × AreOperandsOf is operands

-- The body that a function's bytes spell, and its operands.
pub record BodyStands (bytes : List ℕ) (f : FunctionDef) : Type 0 where
  pub body : Body
  pub spelled : SpellsBody body (bytes_in bytes f.span)
  pub operands : AreOperandsOf (immediates body.code) f.operands
