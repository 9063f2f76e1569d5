-- Which relocation of live code a shared output can't have, by the objects and what their symbols mean.
use Rattle.std.specs.Prelude.{ℕ, ◌==◌, Bool, true, false, not, ◌&&◌, ◌||◌, List, map, slice_get, if◌then◌else◌, is_some, Option, Some, None}
use Rattle.std.specs.List.{find}
use Rattle.link_program.specs.wl_base.Choice.{first_some}
use Rattle.link_program.specs.wl_base.declared.fault.Fault.{Fault}
use Rattle.link_program.specs.wl_base.declared.fault.Fault.TheVariants.{NotPic}
use Rattle.link_program.specs.linking_section.declared.symbol.Symbol.{Symbol}
use Rattle.link_program.specs.linking_section.declared.symbol.SymbolKind.TheVariants.{Function, Datum, GlobalVar}
use Rattle.link_program.specs.linking_section.Flags.{kind_code, is_local_definition}
use Rattle.link_program.specs.body_windows.declared.operand.Operand.{Operand}
use Rattle.link_program.specs.body_windows.declared.operand.Operand.TheVariants as operands
use Rattle.link_program.specs.object_columns.declared.functions.FunctionDef.{FunctionDef}
use Rattle.link_program.specs.object_file.declared.object.Object.{Object}
use Rattle.link_program.specs.mark_bits.declared.chunk.Chunk.{Chunk}
use Rattle.link_program.specs.mark_bits.declared.kinds.TheConstants as chunks
use Rattle.link_program.specs.name_rules.declared.meaning.Meaning.{Meaning}
use Rattle.link_program.specs.name_rules.declared.meaning.Meaning.TheVariants.{Here, Made, Import, Null, Nothing}
use Rattle.link_program.specs.name_meanings.Means.{row_of}
use Rattle.link_program.specs.link_rules.Marks.{is_absolute, is_relative}
use Rattle.link_program.specs.declared.program.Tables.{Tables}
use Rattle.link_program.specs.Look.{part_at}

-- A relocation: the input of its object, its symbol and its type.
abbrev pub Fixed : Type 0
Fixed = ℕ × ℕ × ℕ

-- the first of what the items give
abbrev pub first_by : {A B : Type 0} → (A → Option B) → List A → Option B
first_by f xs = first_some (map f xs)

-- whether the answer is a definition of the link
abbrev pub is_told_here : Option Meaning → Bool
is_told_here None = false
is_told_here (Some (Here input symbol)) = true
is_told_here (Some (Made number)) = true
is_told_here (Some (Import number)) = false
is_told_here (Some Null) = false
is_told_here (Some Nothing) = false

abbrev pub has_value : Symbol → Bool
has_value s = (kind_code s.kind == kind_code Function) || (kind_code s.kind == kind_code Datum) || (kind_code s.kind == kind_code GlobalVar)

-- A function, datum or global that the link doesn't define.
abbrev pub is_foreign_told : Symbol → Option Meaning → Bool
is_foreign_told s m = not (is_told_here m) && (is_some s.name && not (is_local_definition s)) && has_value s

-- ---- operands

-- The relocation of a type with a symbol of the object, if there is the symbol and a shared output can't have it.
abbrev pub fixed_by : ℕ → ℕ → ℕ → Option Meaning → Option Symbol → Option Fixed
fixed_by input symbol kind m None = None
fixed_by input symbol kind m (Some s) = if is_absolute kind || (is_relative kind && is_foreign_told s m) then Some (input, symbol, kind) else None

abbrev pub fixed_symbol : Object → List Meaning → ℕ → ℕ → Option Fixed
fixed_symbol o row kind symbol = fixed_by o.input symbol kind (slice_get row symbol) (slice_get o.symbols symbol)

abbrev pub fixed_operand : Object → List Meaning → Operand → Option Fixed
fixed_operand o row operands.Number = None
fixed_operand o row (operands.Symbol kind place symbol addend) = fixed_symbol o row kind symbol
fixed_operand o row (operands.TypeRef place index) = None
fixed_operand o row operands.TableZero = None

-- ---- functions

abbrev pub fixed_in : Object → List Meaning → Option FunctionDef → Option Fixed
fixed_in o row None = None
fixed_in o row (Some f) = first_by (fixed_operand o row) f.operands

abbrev pub fixed_of : List (List Meaning) → ℕ → Option Object → Option Fixed
fixed_of rows index None = None
fixed_of rows index (Some o) = fixed_in o (row_of rows o.input) (slice_get o.functions index)

-- The first of a chunk, which is a function.
abbrev pub fixed_at : List Object → List (List Meaning) → Chunk → Option Fixed
fixed_at objects rows c = if c.kind == chunks.FUNCTION then fixed_of rows c.index (find (λ (o : Object). o.input == c.input) objects) else None

-- The first of the parts of these numbers.
abbrev pub first_fixed : List Object → List (List Meaning) → Tables → List ℕ → Option Fixed
first_fixed objects rows t numbers = first_by (λ n. fixed_at objects rows (part_at t n).chunk) numbers

abbrev pub told_fault : Fixed → Fault
told_fault f = NotPic f.0 f.1 f.2
