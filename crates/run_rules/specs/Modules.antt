-- A module as a world, and how a run of it begins (WebAssembly Core Specification 2.0, section 4.5.4).
use Rattle.std.specs.Prelude.{ℕ, ◌+◌, ◌*◌, ◌==◌, Bool, true, false, ◌&&◌, nat_le, List, [], ◌∷◌, ◌++◌, map, filter_map, take, drop, length, position, replicate, slice_get, bytes_eq, if◌then◌else◌, Option, Some, None, option_map, unwrap_or}
use Rattle.std.specs.List.{list_all}
use Rattle.std.specs.Int.{cast_unsigned, w32, w64}
use Rattle.wasm_types.specs.declared.value.ValType.{ValType}
use Rattle.wasm_types.specs.declared.function.FuncType.{FuncType}
use Rattle.wasm_types.specs.declared.table.Limits.{Limits}
use Rattle.wasm_types.specs.declared.table.TableType.{TableType}
use Rattle.wasm_types.specs.declared.table.GlobalType.{GlobalType}
use Rattle.wasm_types.specs.declared.import.Import.{Import}
use Rattle.wasm_types.specs.declared.import.ImportKind.{ImportKind}
use Rattle.wasm_types.specs.declared.import.ImportKind.TheVariants as kinds
use Rattle.wasm_types.specs.declared.const_expr.ConstExpr.{ConstExpr}
use Rattle.wasm_types.specs.declared.const_expr.ConstExpr.TheVariants as exprs
use Rattle.wasm_types.specs.Same.{same_val, same_global_type}
use Rattle.wasm_instr.specs.declared.instr.Instr.{Instr}
use Rattle.wasm_instr.specs.declared.body.Body.{Body}
use Rattle.wasm_instr.specs.Placeless.{instrs_of}
use Rattle.wasm_module.specs.declared.structure.Module.{Module}
use Rattle.wasm_module.specs.declared.parts.Export.{Export}
use Rattle.wasm_module.specs.declared.parts.ModuleGlobal.{ModuleGlobal}
use Rattle.wasm_module.specs.declared.parts.Element.{Element}
use Rattle.wasm_module.specs.declared.parts.DataSegment.{DataSegment}
use Rattle.run_rules.specs.declared.value.Value.{Value}
use Rattle.run_rules.specs.declared.value.Value.TheVariants.{I32, I64}
use Rattle.run_rules.specs.declared.op.Op.{Op}
use Rattle.run_rules.specs.declared.world.Source.{Source}
use Rattle.run_rules.specs.declared.world.Source.TheVariants.{Nowhere, Host, Code}
use Rattle.run_rules.specs.declared.world.Function.{Function}
use Rattle.run_rules.specs.declared.world.Target.{Target}
use Rattle.run_rules.specs.declared.world.Target.TheVariants.{ToFunction, ToCell, Elsewhere}
use Rattle.run_rules.specs.declared.world.Exported.{Exported}
use Rattle.run_rules.specs.declared.world.World.{World}
use Rattle.run_rules.specs.declared.state.State.{State}
use Rattle.run_rules.specs.declared.session.GivenGlobal.{GivenGlobal}
use Rattle.run_rules.specs.declared.session.Session.{Session}
use Rattle.run_rules.specs.declared.trace.Trace.{Trace}
use Rattle.run_rules.specs.Numbers.{type_of, value_of}
use Rattle.run_rules.specs.Memory.{zeros, written}
use Rattle.run_rules.specs.Ops.{op_of}
use Rattle.run_rules.specs.Steps.{Cells, blank}
use Rattle.run_rules.specs.Runs.{trace_of}

abbrev pub first : {A : Type 0} → List A → Option A
first [] = None
first (x ∷ xs) = Some x

-- ---- imported globals

-- An imported global: what it is imported from, and its type. Two of one triple are one cell.
pub record GlobalImport : Type 0 where
  pub from : List ℕ
  pub field : List ℕ
  pub kind : GlobalType

abbrev pub same_cell : GlobalImport → GlobalImport → Bool
same_cell a b = bytes_eq a.from b.from && bytes_eq a.field b.field && same_global_type a.kind b.kind

-- whether a global is given a first value that an import has
abbrev pub is_for : List ℕ → List ℕ → ValType → GivenGlobal → Bool
is_for from field kind g = bytes_eq g.«module» from && bytes_eq g.field field && same_val (type_of g.value) kind

abbrev pub found_in : List GivenGlobal → List ℕ → List ℕ → ValType → Option Value
found_in [] from field kind = None
found_in (g ∷ gs) from field kind = if is_for from field kind g then Some g.value else found_in gs from field kind

-- The first value of an imported global: the first that is given for it, else 0.
abbrev pub first_value : Session → List ℕ → List ℕ → ValType → Value
first_value s from field kind = unwrap_or (found_in s.globals from field kind) (value_of kind 0)

-- ---- what is imported, by kind (Core 2.5.11)

-- an imported function, by its type
abbrev pub imported_function : List FuncType → Import → ImportKind → Option (Option Function)
imported_function types x (kinds.Function n) = Some (option_map (λ t. record { kind = t; source = Host x.«module» x.field }) (slice_get types n))
imported_function types x (kinds.Table t) = None
imported_function types x (kinds.Memory l) = None
imported_function types x (kinds.GlobalVar g) = None

abbrev pub imported_global : Import → ImportKind → Option GlobalImport
imported_global x (kinds.Function n) = None
imported_global x (kinds.Table t) = None
imported_global x (kinds.Memory l) = None
imported_global x (kinds.GlobalVar g) = Some (record { from = x.«module»; field = x.field; kind = g })

abbrev pub imported_table : ImportKind → Option TableType
imported_table (kinds.Function n) = None
imported_table (kinds.Table t) = Some t
imported_table (kinds.Memory l) = None
imported_table (kinds.GlobalVar g) = None

abbrev pub imported_memory : ImportKind → Option Limits
imported_memory (kinds.Function n) = None
imported_memory (kinds.Table t) = None
imported_memory (kinds.Memory l) = Some l
imported_memory (kinds.GlobalVar g) = None

abbrev pub imported_functions : List FuncType → List Import → List (Option Function)
imported_functions types imports = filter_map (λ x. imported_function types x x.kind) imports

abbrev pub imported_globals : List Import → List GlobalImport
imported_globals imports = filter_map (λ (x : Import). imported_global x x.kind) imports

abbrev pub imported_tables : List Import → List TableType
imported_tables imports = filter_map (λ (x : Import). imported_table x.kind) imports

abbrev pub imported_memories : List Import → List Limits
imported_memories imports = filter_map (λ (x : Import). imported_memory x.kind) imports

-- ---- cells

abbrev pub cell_at : List GlobalImport → ℕ → Option GlobalImport → ℕ
cell_at imports n None = n
cell_at imports n (Some k) = unwrap_or (position (same_cell k) imports) n

-- The cell that a global is: its index, but for an import that an earlier one is the same as.
abbrev pub cell_of : List GlobalImport → ℕ → ℕ
cell_of imports n = cell_at imports n (slice_get imports n)

-- The first values of imported globals.
abbrev pub first_values : Session → List GlobalImport → List Value
first_values s imports = map (λ (k : GlobalImport). first_value s k.from k.field k.kind.kind) imports

-- The value of a constant expression; only imported globals have one there (Core 3.3.9).
abbrev pub expr_value : List Value → ConstExpr → Option Value
expr_value firsts (exprs.I32 n) = Some (I32 (cast_unsigned w32 n))
expr_value firsts (exprs.I64 n) = Some (I64 (cast_unsigned w64 n))
expr_value firsts (exprs.Get k) = slice_get firsts k

-- The cells at first: imports, then the module's own globals.
abbrev pub cells_of : List Value → List ModuleGlobal → Cells
cells_of firsts globals = map Some firsts ++ map (λ (g : ModuleGlobal). expr_value firsts g.value) globals

-- ---- functions

-- what a body is, with its instructions by this translation
abbrev pub coded : (Instr → Op) → Body → Source
coded op b = Code b.locals (map op (instrs_of b.code))

abbrev pub typed : Source → Option FuncType → Option Function
typed source t = option_map (λ t. record { kind = t; source = source }) t

-- Each function that is defined, by the index of its type and its body.
abbrev pub defined_functions : (Instr → Op) → List FuncType → List ℕ → List Body → List (Option Function)
defined_functions op types [] bodies = []
defined_functions op types (n ∷ ns) [] = typed Nowhere (slice_get types n) ∷ defined_functions op types ns []
defined_functions op types (n ∷ ns) (b ∷ bs) = typed (coded op b) (slice_get types n) ∷ defined_functions op types ns bs

-- ---- table

-- the number that an offset is
abbrev pub offset_in : Option Value → Option ℕ
offset_in (Some (I32 n)) = Some n
offset_in _ = None

-- whether a segment is one of the first memory or table, which is the only one
abbrev pub is_first : Option ℕ → Bool
is_first None = true
is_first (Some n) = n == 0

abbrev pub slots_at : Option ℕ → List ℕ → List (Option ℕ) → List (Option ℕ)
slots_at None fs slots = slots
slots_at (Some at) fs slots = take at slots ++ map Some fs ++ drop (at + length fs) slots

abbrev pub with_element : List Value → Element → List (Option ℕ) → List (Option ℕ)
with_element firsts e slots = if is_first e.table then slots_at (offset_in (expr_value firsts e.offset)) e.functions slots else slots

-- the table, with one segment after another
abbrev pub with_elements : List Value → List Element → List (Option ℕ) → List (Option ℕ)
with_elements firsts [] slots = slots
with_elements firsts (e ∷ es) slots = with_elements firsts es (with_element firsts e slots)

abbrev pub table_of : List Value → List Element → Option TableType → Option (List (Option ℕ))
table_of firsts elements t = option_map (λ (t : TableType). with_elements firsts elements (replicate t.limits.min None)) t

-- ---- exports (Core 5.5.10: 0 is a function, 1 a table, 2 a memory, 3 a global)

abbrev pub target_of : (ℕ → ℕ) → ℕ → ℕ → Target
target_of cell kind index = if kind == 0 then ToFunction index else if kind == 3 then ToCell (cell index) else Elsewhere

abbrev pub export_of : (ℕ → ℕ) → Export → Exported
export_of cell e = record { name = e.name; target = target_of cell e.kind e.index }

-- ---- memory

-- how many pages a memory may have
abbrev pub most_pages : Limits → ℕ
most_pages l = unwrap_or l.max 65536

abbrev pub data_at : Option ℕ → List ℕ → List ℕ → List ℕ
data_at None bytes memory = memory
data_at (Some at) bytes memory = written at bytes memory

abbrev pub with_segment : List Value → DataSegment → List ℕ → List ℕ
with_segment firsts d memory = if is_first d.memory then data_at (offset_in (expr_value firsts d.offset)) d.bytes memory else memory

abbrev pub with_segments : List Value → List DataSegment → List ℕ → List ℕ
with_segments firsts [] memory = memory
with_segments firsts (d ∷ ds) memory = with_segments firsts ds (with_segment firsts d memory)

-- The pages at first: as many as the session gives an imported memory, or the least number.
abbrev pub first_pages : Session → List Limits → List Limits → ℕ
first_pages s [] [] = 0
first_pages s [] (l ∷ ls) = l.min
first_pages s (l ∷ ls) own = unwrap_or s.pages l.min

-- ---- the module as a world

-- The module's globals are the cells of the world, by index.
abbrev pub module_cells : Module → ℕ → ℕ
module_cells m = cell_of (imported_globals m.imports)

abbrev pub module_firsts : Session → Module → List Value
module_firsts s m = first_values s (imported_globals m.imports)

unfoldable pub module_world : Session → Module → World
module_world s m = record {
  functions = imported_functions m.types m.imports ++ defined_functions (op_of m.types (module_cells m)) m.types m.functions m.bodies;
  table = table_of (module_firsts s m) m.elements (first (imported_tables m.imports ++ m.tables));
  exports = map (export_of (module_cells m)) m.exports;
  memory = option_map most_pages (first (imported_memories m.imports ++ m.memories));
}

-- How each call begins: nothing runs.
abbrev pub at_first : Cells → List ℕ → State
at_first cells memory = record { names = []; cells = cells; inner = record { frame = blank; below = []; memory = memory; answered = 0; events = [] } }

unfoldable pub module_start : Session → Module → State
module_start s m = at_first
    (cells_of (module_firsts s m) m.globals)
    (with_segments (module_firsts s m) m.data_segments (zeros (first_pages s (imported_memories m.imports) m.memories)))

-- What is asked of a session: each segment's offset has a value, and the segment fits the memory or the table.
abbrev pub fits_at : ℕ → Option ℕ → ℕ → Bool
fits_at room None count = false
fits_at room (Some at) count = nat_le (at + count) room

abbrev pub element_fits : List Value → ℕ → Element → Bool
element_fits firsts room e = is_first e.table && fits_at room (offset_in (expr_value firsts e.offset)) (length e.functions)

abbrev pub segment_fits : List Value → ℕ → DataSegment → Bool
segment_fits firsts room d = is_first d.memory && fits_at room (offset_in (expr_value firsts d.offset)) (length d.bytes)

abbrev pub least_of : Option TableType → ℕ
least_of None = 0
least_of (Some t) = t.limits.min

unfoldable pub fits_session : Session → Module → Bool
fits_session s m =
    list_all (element_fits (module_firsts s m) (least_of (first (imported_tables m.imports ++ m.tables)))) m.elements
    && list_all (segment_fits (module_firsts s m) (65536 * first_pages s (imported_memories m.imports) m.memories)) m.data_segments

-- The trace of a session on a module, with a bound on steps.
unfoldable pub module_trace : Session → Module → ℕ → Trace
module_trace s m n = trace_of (module_world s m) s (module_start s m) n
