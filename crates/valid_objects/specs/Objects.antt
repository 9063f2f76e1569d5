-- Which objects are valid. Each body has a typing (Core 3.3) in a context with one memory and one table of funcref,
-- as the linked module has, where a reference has the type of what its symbol names (Linking.md, "Symbol table"
-- and "Relocation sections"); and each defined global's expression has its type (Core 3.4.4).
use Rattle.std.specs.Prelude.{◌≡◌, ◌<◌, ℕ, ◌+◌, ◌==◌, Bool, true, false, List, [], ◌∷◌, map, length, take, drop, find, slice_get, if◌then◌else◌, Option, Some, None, option_map, Result, Ok, Err}
use Rattle.std.specs.List.{list_all}
use Rattle.object_file.specs.wl_base.declared.fault.InvalidAt.{InvalidAt}
use Rattle.object_file.specs.wl_base.declared.fault.InvalidAt.TheVariants as places
use Rattle.object_file.specs.wl_base.declared.span.Span.{Span}
use Rattle.wasm_types.specs.declared.value.ValType.TheVariants.{I32}
use Rattle.wasm_types.specs.declared.function.FuncType.{FuncType}
use Rattle.object_file.specs.linking_section.declared.symbol.Symbol.{Symbol}
use Rattle.object_file.specs.linking_section.declared.symbol.SymbolKind.{SymbolKind}
use Rattle.object_file.specs.linking_section.declared.symbol.SymbolKind.TheVariants.{Function, Datum, GlobalVar, Section, Table}
use Rattle.object_file.specs.body_windows.declared.operand.Operand.{Operand}
use Rattle.object_file.specs.body_windows.declared.operand.Operand.TheVariants as operands
use Rattle.object_file.specs.object_columns.declared.functions.FunctionDef.{FunctionDef}
use Rattle.object_file.specs.declared.object.Object.{Object}
use Rattle.object_file.specs.Spaces.{function_imports, defined_type, function_types, global_types}
use Rattle.wasm_instr.specs.wasm_grammar.declared.fault.Stop.{Stop}
use Rattle.wasm_instr.specs.declared.instr.Instr.{Instr}
use Rattle.wasm_instr.specs.declared.instr.Instr.TheVariants.{Block, Call, CallIndirect, GlobalAt}
use Rattle.wasm_instr.specs.declared.instr.BlockKind.TheVariants.{Index}
use Rattle.wasm_instr.specs.declared.body.LocalRun.{LocalRun}
use Rattle.wasm_instr.specs.declared.body.Placed.{Placed}
use Rattle.wasm_instr.specs.declared.body.Body.{Body}
use Rattle.wasm_instr.specs.Bodies.{body_at}
use Rattle.valid_rules.specs.declared.types.Shape.{Shape}
use Rattle.valid_rules.specs.Leads.{IsTyped}
use Rattle.valid_bodies.specs.declared.types.Meaning.{Meaning}
use Rattle.valid_bodies.specs.declared.types.Meaning.TheVariants.{Nothing, OfGlobal}
use Rattle.valid_bodies.specs.Meanings.{typed_as, global_as, block_type}
use Rattle.valid_bodies.specs.Shapes.{shape_as}
use Rattle.valid_bodies.specs.Went.{accepts}
use Rattle.wasm_valid.specs.Rules.{has_type}

-- ---- references, by the places of their immediates

-- A reference stands at this place of the body.
abbrev pub is_at : ℕ → Operand → Bool
is_at place operands.Number = false
is_at place (operands.Symbol kind at symbol addend) = at == place
is_at place (operands.TypeRef at index) = at == place
is_at place operands.TableZero = false

abbrev pub operand_at : List Operand → ℕ → Option Operand
operand_at all place = find (is_at place) all

-- ---- what they mean

-- A type by its index.
abbrev pub type_named : Object → Option Operand → Meaning
type_named o (Some (operands.TypeRef place index)) = typed_as (slice_get o.types index)
type_named o _ = Nothing

-- A function by its symbol.
abbrev pub function_by : Object → Option Symbol → Meaning
function_by o None = Nothing
function_by o (Some s) = typed_as (slice_get (function_types o) s.index)

-- What a symbol under `global.get` or `global.set` is: a global has its type, and the address of a function or of a
-- datum is an i32 that can't be set.
abbrev pub cell_of_kind : Object → Symbol → SymbolKind → Meaning
cell_of_kind o s GlobalVar = global_as (slice_get (global_types o) s.index)
cell_of_kind o s Function = OfGlobal (record { kind = I32; var = false })
cell_of_kind o s Datum = OfGlobal (record { kind = I32; var = false })
cell_of_kind o s Section = Nothing
cell_of_kind o s Table = Nothing

abbrev pub cell_by : Object → Option Symbol → Meaning
cell_by o None = Nothing
cell_by o (Some s) = cell_of_kind o s s.kind

abbrev pub function_named : Object → Option Operand → Meaning
function_named o (Some (operands.Symbol kind place symbol addend)) = function_by o (slice_get o.symbols symbol)
function_named o _ = Nothing

abbrev pub cell_named : Object → Option Operand → Meaning
cell_named o (Some (operands.Symbol kind place symbol addend)) = cell_by o (slice_get o.symbols symbol)
cell_named o _ = Nothing

-- What an instruction names, by the reference at its last immediate, or at its first for a call through the table.
-- A block whose type isn't an index names nothing.
abbrev pub object_meaning : Object → List Operand → Placed → Instr → Meaning
object_meaning o all x (Block op (Index n)) = type_named o (operand_at all x.mid)
object_meaning o all x (Block op kind) = typed_as (block_type [] kind)
object_meaning o all x (Call f) = function_named o (operand_at all x.mid)
object_meaning o all x (CallIndirect kind table) = type_named o (operand_at all (x.at + 1))
object_meaning o all x (GlobalAt op g) = cell_named o (operand_at all x.mid)
object_meaning o all x i = Nothing

-- ---- bodies

abbrev pub object_shape : Object → List Operand → FuncType → List LocalRun → Placed → Shape
object_shape o all t locals x = shape_as true t locals (object_meaning o all x x.instr) x.instr

abbrev pub object_shapes : Object → FunctionDef → Body → List Shape
object_shapes o f b = map (object_shape o f.operands (defined_type o f) b.locals) b.code

abbrev pub body_bytes : List ℕ → Span → List ℕ
body_bytes bytes s = take s.len (drop s.start bytes)

abbrev pub HasTyping : Object → FunctionDef → Result Body Stop → Type 0
HasTyping o f (Err stop) = ⊥
HasTyping o f (Ok b) = IsTyped (defined_type o f).results (object_shapes o f b)

abbrev pub TypedIn : Object → List ℕ → Option FunctionDef → Type 0
TypedIn o bytes None = ⊥
TypedIn o bytes (Some f) = HasTyping o f (body_at (body_bytes bytes f.span))

-- ---- objects

-- Each defined global's expression has its type. None reads another global.
abbrev pub globals_stand : Object → Bool
globals_stand o = list_all (λ g. has_type [] g.kind.kind g.value) o.globals

-- Its bodies stand in these bytes.
pub record IsValidObject (o : Object) (bytes : List ℕ) : Type 0 where
  pub globals : globals_stand o ≡ true
  pub bodies : (k : ℕ) → k < length o.functions → TypedIn o bytes (slice_get o.functions k)

-- ---- the same as it is computed

-- The reading of a body ends well.
abbrev pub accepted : Object → FunctionDef → Result Body Stop → Bool
accepted o f (Err stop) = false
accepted o f (Ok b) = accepts (defined_type o f).results (object_shapes o f b)

-- The number of the first of these functions whose body has no typing; this is the first one's number.
abbrev pub first_refused : Object → List ℕ → ℕ → List FunctionDef → Option ℕ
first_refused o bytes n [] = None
first_refused o bytes n (f ∷ fs) = if accepted o f (body_at (body_bytes bytes f.span)) then first_refused o bytes (n + 1) fs else Some n

-- Where an object isn't valid: outside its bodies, or in the first body without a typing, by its number among all
-- functions, imported ones first.
abbrev pub object_fault : Object → List ℕ → Option InvalidAt
object_fault o bytes = if globals_stand o then option_map places.Body (first_refused o bytes (length (function_imports o)) o.functions) else Some places.Module
