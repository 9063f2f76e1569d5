-- The operands of a body, and how their list is kept short.
use Rattle.std.specs.Prelude.{ℕ, ◌+◌, ◌≤◌, Bool, true, false, List, [], ◌∷◌, ◌++◌, replicate}
use Rattle.body_windows.specs.declared.operand.Operand.{Operand}
use Rattle.body_windows.specs.declared.operands.Shape.{Shape}
use Rattle.body_windows.specs.declared.operands.Shape.TheVariants as shapes
use Rattle.body_windows.specs.declared.operands.Reference.{Reference}
use Rattle.body_windows.specs.declared.operands.OperandsRef.{OperandsRef}
use Rattle.body_windows.specs.declared.operand.Operand.TheVariants.{Number, Symbol, TypeRef, TableZero}

-- Whether an operand is more than the number that stands there.
abbrev pub is_reference : Operand → Bool
is_reference Number = false
is_reference (Symbol kind place symbol addend) = true
is_reference (TypeRef place index) = true
is_reference TableZero = true

abbrev pub shaped : Reference → Shape → Operand
shaped r shapes.Number = Number
shaped r shapes.Symbol = Symbol r.kind r.place r.index r.addend
shaped r shapes.TypeRef = TypeRef r.place r.index
shaped r shapes.TableZero = TableZero

-- The operand that is kept.
abbrev pub operand_of : Reference → Operand
operand_of r = shaped r r.shape

-- The list that references stand for, with as many numbers before each as it says, and some behind
-- the last.
abbrev pub spread : List Reference → ℕ → List Operand
spread [] behind = replicate behind Number
spread (r ∷ rs) behind = replicate r.numbers Number ++ (operand_of r ∷ spread rs behind)

-- What a lent list tells: the list.
abbrev pub operands_seen : OperandsRef → List Operand
operands_seen o = spread o.references.now o.behind

-- The windows of references stand one behind another, each of five bytes, from a place on and up to
-- an end.
abbrev pub StandIn : ℕ → ℕ → List Operand → Type 0
StandIn from end [] = from ≤ end
StandIn from end (Number ∷ others) = StandIn from end others
StandIn from end (Symbol kind place symbol addend ∷ others) = (from ≤ place) × StandIn (place + 5) end others
StandIn from end (TypeRef place index ∷ others) = (from ≤ place) × StandIn (place + 5) end others
StandIn from end (TableZero ∷ others) = StandIn from end others
