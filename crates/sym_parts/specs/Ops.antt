-- The instructions of bodies, with what their references mean, by the data. There is no answer where the data can't tell.
use Rattle.std.specs.Prelude.{ℕ, ◌+◌, ◌==◌, List, [], position, slice_index_or, if◌then◌else◌, Option, Some, None, option_map}
use Rattle.link_program.specs.wasm_types.declared.function.FuncType.{FuncType}
use Rattle.link_program.specs.object_file.Spaces.{no_type}
use Rattle.link_program.specs.linking_section.Flags.{kind_code}
use Rattle.link_program.specs.linking_section.declared.symbol.SymbolKind.TheVariants.{GlobalVar}
use Rattle.link_program.specs.reloc_apply.Windows.{signed32}
use Rattle.link_program.specs.declared.symbol.Symbol.{Symbol}
use Rattle.link_program.specs.declared.symbol.Lead.{Lead}
use Rattle.link_program.specs.declared.symbol.Lead.TheVariants as leads
use Rattle.link_program.specs.declared.keys.FunctionKey.{FunctionKey}
use Rattle.link_program.specs.declared.keys.FunctionKey.TheVariants as functions
use Rattle.link_program.specs.declared.keys.GlobalKey.{GlobalKey}
use Rattle.link_program.specs.declared.keys.GlobalKey.TheVariants as globals
use Rattle.link_program.specs.declared.named.Named.{Named}
use Rattle.link_program.specs.declared.named.Named.TheVariants as names
use Rattle.link_program.specs.Keys.{same_function_key, same_global_key}
use Rattle.link_program.specs.Meant.{index_of, function_of}
use Rattle.wasm_instr.specs.declared.instr.Instr.{Instr}
use Rattle.wasm_instr.specs.declared.instr.Instr.TheVariants as instrs
use Rattle.wasm_instr.specs.declared.instr.BlockKind.{BlockKind}
use Rattle.wasm_instr.specs.declared.instr.BlockKind.TheVariants as blocks
use Rattle.wasm_instr.specs.declared.body.Placed.{Placed}
use Rattle.run_rules.specs.declared.op.Op.{Op}
use Rattle.run_rules.specs.declared.op.Op.TheVariants.{Own, OpenBlock, CallTo, CallThrough, Number, Absent}
use Rattle.run_rules.specs.Ops.{block_type, opening, cell_op}
use Rattle.link_worlds.specs.Bodies.{to_name}
use Rattle.sym_parts.specs.Sought.{Known, named_at, symbol_of, base_of, number_named}

-- ---- functions and cells that are meant

-- The stub of a name.
abbrev pub stub_place : List FunctionKey → Option ℕ → Option ℕ
stub_place fs None = None
stub_place fs (Some n) = position (same_function_key (functions.Stub n)) fs

-- A symbol that leads nowhere, as that of a dropped part, names no function.
abbrev pub function_place : List FunctionKey → Option ℕ → Lead → Option ℕ
function_place fs name (leads.Here d) = position (same_function_key (function_of d)) fs
function_place fs name (leads.Import n) = position (same_function_key (functions.Import n)) fs
function_place fs name leads.Null = stub_place fs name
function_place fs name leads.Nothing = None

abbrev pub cell_place : List GlobalKey → Lead → Option ℕ
cell_place gs (leads.Here d) = position (same_global_key (globals.Own d.input (index_of d))) gs
cell_place gs (leads.Import n) = position (same_global_key (globals.Import n)) gs
cell_place gs leads.Null = None
cell_place gs leads.Nothing = None

-- ---- instructions

abbrev pub call_symbol : List FunctionKey → Symbol → Op
call_symbol fs s = to_name CallTo (function_place fs s.name s.lead)

abbrev pub call_seen : Known → Option Named → Op
call_seen k None = Absent
call_seen k (Some (names.Symbol kind place addend symbol)) = call_symbol k.functions (symbol_of k symbol)
call_seen k (Some (names.Type place number)) = Absent

abbrev pub through_seen : List FuncType → Option Named → Op
through_seen types None = Absent
through_seen types (Some (names.Symbol kind place addend symbol)) = Absent
through_seen types (Some (names.Type place number)) = CallThrough (slice_index_or types number no_type)

abbrev pub opened_seen : List FuncType → ℕ → Option Named → Op
opened_seen types op None = Absent
opened_seen types op (Some (names.Symbol kind place addend symbol)) = Absent
opened_seen types op (Some (names.Type place number)) = OpenBlock op (slice_index_or types number no_type)

-- `global.get` of a number.
abbrev pub number_op : ℕ → ℕ → Op
number_op op n = if op == 0x23 then Number n else Absent

abbrev pub at_symbol : List GlobalKey → ℕ → Symbol → ℕ → Op
at_symbol gs op s base = if kind_code s.kind == kind_code GlobalVar then to_name (cell_op op) (cell_place gs s.lead) else number_op op base

abbrev pub at_cell : Known → ℕ → Option Named → Op
at_cell k op None = Absent
at_cell k op (Some (names.Symbol kind place addend symbol)) = at_symbol k.cells op (symbol_of k symbol) (base_of k symbol)
at_cell k op (Some (names.Type place number)) = Absent

abbrev pub number_or : Known → ℕ → Option Named → Option ℕ
number_or k n None = Some n
number_or k n (Some named) = number_named k named

abbrev pub constant_or : Known → Instr → Option Named → Option Instr
constant_or k x None = Some x
constant_or k x (Some named) = option_map (λ n. instrs.I32Const (signed32 n)) (number_named k named)

abbrev pub opened_by : List FuncType → ℕ → BlockKind → Option Named → Op
opened_by types op (blocks.Index n) named = opened_seen types op named
opened_by types op kind named = opening op (block_type [] kind)

-- An instruction, with the item that stands at its first immediate and the one at its last.
abbrev pub op_by : Known → Option Named → Option Named → Instr → Option Op
op_by k first last (instrs.Block op kind) = Some (opened_by k.tables.types op kind last)
op_by k first last (instrs.Call f) = Some (call_seen k last)
op_by k first last (instrs.CallIndirect kind table) = Some (through_seen k.tables.types first)
op_by k first last (instrs.GlobalAt op g) = Some (at_cell k op last)
op_by k first last (instrs.Access op align offset) = option_map (λ n. Own (instrs.Access op align n)) (number_or k offset last)
op_by k first last (instrs.I32Const n) = option_map Own (constant_or k (instrs.I32Const n) last)
op_by k first last x = Some (Own x)

-- An instruction of a part that names these.
abbrev pub op_seen : Known → List Named → Placed → Option Op
op_seen k row x = op_by k (named_at row (x.at + 1)) (named_at row x.mid) x.instr
