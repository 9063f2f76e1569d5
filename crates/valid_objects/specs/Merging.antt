-- A body's references as its instructions come to them, one behind another, and what the indexes of an object name:
-- as the code has it, beside looking each up by its place.
use Rattle.std.specs.Prelude.{◌≡◌, ℕ, ◌+◌, nat_lt, Bool, true, false, List, [], ◌∷◌, ◌++◌, map, filter_map, slice_get, if◌then◌else◌, Option, Some, None}
use Rattle.wasm_types.specs.declared.value.ValType.TheVariants.{I32}
use Rattle.wasm_types.specs.declared.function.FuncType.{FuncType}
use Rattle.wasm_types.specs.declared.table.GlobalType.{GlobalType}
use Rattle.object_file.specs.linking_section.declared.symbol.SymbolKind.{SymbolKind}
use Rattle.object_file.specs.linking_section.declared.symbol.SymbolKind.TheVariants.{Function, Datum, GlobalVar, Section, Table}
use Rattle.object_file.specs.body_windows.declared.operand.Operand.{Operand}
use Rattle.object_file.specs.body_windows.declared.operand.Operand.TheVariants as operands
use Rattle.object_file.specs.body_windows.declared.operands.Reference.{Reference}
use Rattle.object_file.specs.body_windows.Operands.{operand_of}
use Rattle.object_file.specs.declared.object.Object.{Object}
use Rattle.object_file.specs.Spaces.{global_types}
use Rattle.wasm_instr.specs.declared.instr.Instr.{Instr}
use Rattle.wasm_instr.specs.declared.instr.Instr.TheVariants.{Block, Call, CallIndirect, GlobalAt}
use Rattle.wasm_instr.specs.declared.instr.BlockKind.TheVariants.{Index}
use Rattle.wasm_instr.specs.declared.body.LocalRun.{LocalRun}
use Rattle.wasm_instr.specs.declared.body.Placed.{Placed}
use Rattle.valid_rules.specs.declared.types.Shape.{Shape}
use Rattle.valid_bodies.specs.declared.types.Meaning.{Meaning}
use Rattle.valid_bodies.specs.declared.types.Meaning.TheVariants.{Nothing, OfGlobal}
use Rattle.valid_bodies.specs.Meanings.{typed_as, global_as, block_type}
use Rattle.valid_bodies.specs.Shapes.{shape_as}
use Rattle.wasm_valid.specs.Spaces.{a_function}
use Rattle.valid_objects.specs.declared.names.Names.{Names}
use Rattle.valid_objects.specs.Objects.{is_at, type_named, function_named, cell_named}

-- ---- references

-- An operand stands before a place, or at none.
abbrev pub stands_before : ℕ → Operand → Bool
stands_before place operands.Number = true
stands_before place (operands.Symbol kind at symbol addend) = nat_lt at place
stands_before place (operands.TypeRef at index) = nat_lt at place
stands_before place operands.TableZero = true

-- Those from the first on that doesn't.
abbrev pub behind : ℕ → List Reference → List Reference
behind place [] = []
behind place (r ∷ rs) = if stands_before place (operand_of r) then behind place rs else r ∷ rs

-- The first, where it stands at a place.
abbrev pub first_at : ℕ → List Reference → Option Operand
first_at place [] = None
first_at place (r ∷ rs) = if is_at place (operand_of r) then Some (operand_of r) else None

-- The place of the immediate that says what an instruction names.
abbrev pub named_place : Placed → Instr → Option ℕ
named_place x (Block op (Index n)) = Some x.mid
named_place x (Call f) = Some x.mid
named_place x (CallIndirect kind table) = Some (x.at + 1)
named_place x (GlobalAt op g) = Some x.mid
named_place x i = None

abbrev pub left_at : Option ℕ → List Reference → List Reference
left_at None left = left
left_at (Some place) left = behind place left

abbrev pub operand_in : Option ℕ → List Reference → Option Operand
operand_in None left = None
operand_in (Some place) left = first_at place left

-- ---- shapes

-- What an instruction names, by what stands at that immediate.
abbrev pub meaning_by : Object → Option Operand → Instr → Meaning
meaning_by o x (Block op (Index n)) = type_named o x
meaning_by o x (Block op kind) = typed_as (block_type [] kind)
meaning_by o x (Call f) = function_named o x
meaning_by o x (CallIndirect kind table) = type_named o x
meaning_by o x (GlobalAt op g) = cell_named o x
meaning_by o x i = Nothing

-- An instruction, where these references are left.
abbrev pub merged_shape : Object → FuncType → List LocalRun → List Reference → Placed → Shape
merged_shape o t locals left x = shape_as true t locals (meaning_by o (operand_in (named_place x x.instr) left) x.instr) x.instr

-- One instruction after another, each where those references are left that don't stand before it.
abbrev pub merged : Object → FuncType → List LocalRun → List Reference → List Placed → List Shape
merged o t locals left [] = []
merged o t locals left (x ∷ xs) =
    merged_shape o t locals (left_at (named_place x x.instr) left) x ∷ merged o t locals (left_at (named_place x x.instr) left) xs

-- ---- indexes

-- Of each function the index of its type, imported ones first.
abbrev pub function_indexes : Object → List ℕ
function_indexes o = filter_map (λ i. a_function i.kind) o.imports ++ map (λ f. f.type_index) o.functions

-- What a symbol is under an instruction for a global, by its kind and index, where globals have these types.
abbrev pub cell_of : List GlobalType → SymbolKind → ℕ → Meaning
cell_of globals GlobalVar index = global_as (slice_get globals index)
cell_of globals Function index = OfGlobal (record { kind = I32; var = false })
cell_of globals Datum index = OfGlobal (record { kind = I32; var = false })
cell_of globals Section index = Nothing
cell_of globals Table index = Nothing

-- These are what the indexes of the object name.
pub record AreNames (n : Names) (o : Object) : Type 0 where
  pub functions : n.functions ≡ function_indexes o
  pub globals : n.globals ≡ global_types o
