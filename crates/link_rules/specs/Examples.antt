-- Small links, as words for worked rows: plans, and objects as the reader gives them.
use Rattle.std.specs.Prelude.{ℕ, ◌+◌, ◌-◌, ◌*◌, nat_lt, true, false, List, [], ◌∷◌, ◌++◌, map, slice_get, replicate, if◌then◌else◌, Option, Some, None, Result, Ok, Err, pos}
use Rattle.name_rules.specs.object_file.wl_base.declared.fault.Fault.{Fault}
use Rattle.name_rules.specs.object_file.wl_base.declared.fault.Fault.TheVariants.{TooManyNames}
use Rattle.name_rules.specs.object_file.wl_base.declared.fault.LibFault.TheVariants.{NotLibrary}
use Rattle.name_rules.specs.object_file.wl_base.declared.span.Span.{Span}
use Rattle.name_rules.specs.object_file.wasm_types.declared.function.FuncType.{FuncType}
use Rattle.name_rules.specs.object_file.wasm_types.declared.value.ValType.TheVariants.{I32}
use Rattle.name_rules.specs.object_file.wasm_types.declared.import.Import.{Import}
use Rattle.name_rules.specs.object_file.wasm_types.declared.import.ImportKind.TheVariants as kinds
use Rattle.name_rules.specs.object_file.linking_section.declared.symbol.Symbol.{Symbol}
use Rattle.name_rules.specs.object_file.linking_section.declared.symbol.SymbolKind.TheVariants.{Function, Datum}
use Rattle.name_rules.specs.object_file.linking_section.declared.group.Group.{Group}
use Rattle.name_rules.specs.object_file.reloc_section.declared.entry.Reloc.{Reloc}
use Rattle.name_rules.specs.object_file.body_windows.declared.operand.Operand.{Operand}
use Rattle.name_rules.specs.object_file.body_windows.declared.operand.Operand.TheVariants as operands
use Rattle.name_rules.specs.object_file.object_columns.declared.functions.FunctionDef.{FunctionDef}
use Rattle.name_rules.specs.object_file.object_columns.declared.segments.SegmentDef.{SegmentDef}
use Rattle.name_rules.specs.object_file.declared.object.Object.{Object}
use Rattle.lib_index.specs.Library.{Contents}
use Rattle.link_plan.specs.declared.plan.Plan.{Plan}
use Rattle.link_rules.specs.Candidates.{Readers, plain_word}

-- ---- bytes in hexadecimal, with a space between two

abbrev pub digit : ℕ → ℕ
digit c = if nat_lt c 0x41 then c - 0x30 else c - 0x37

abbrev pub hex : List ℕ → List ℕ
hex [] = []
hex (a ∷ []) = []
hex (a ∷ b ∷ []) = (16 * digit a + digit b) ∷ []
hex (a ∷ b ∷ space ∷ rest) = (16 * digit a + digit b) ∷ hex rest

-- A link and what it has to answer.
pub record Row : Type 0 where
  pub link : Result (List ℕ) Fault
  pub answer : Result (List ℕ) Fault

abbrev pub links : List Row → List (Result (List ℕ) Fault)
links rows = map (λ row. row.link) rows

abbrev pub answers : List Row → List (Result (List ℕ) Fault)
answers rows = map (λ row. row.answer) rows

-- ---- plans

-- `-o out --no-entry` and so many inputs
abbrev pub plan_of : ℕ → Plan
plan_of inputs = record {
  inputs = replicate inputs plain_word;
  output = None;
  entry = None;
  exports = [];
  exports_if = [];
  wanted = [];
  export_dynamic = false;
  allow_undefined = false;
  import_memory = false;
  gc = true;
  stack_first = false;
  global_base = None;
  stack_size = 65536;
  initial_memory = 0;
  max_memory = None;
  threads = 1;
  make_case = None;
  shared = false;
  partial = false;
  validate = false;
  keep_debug = false;
  like_lld = false;
  loose_calls = false;
  names = false;
  features = None;
}

-- the same with `--export` of each of these names
abbrev pub exporting : ℕ → List (List ℕ) → Plan
exporting inputs names = record (plan_of inputs) { exports = names }

-- ---- readers that give these objects, by input

abbrev pub found : Option Object → Result Object Fault
found (Some o) = Ok o
found None = Err TooManyNames

abbrev pub read_as : List Object → Readers
read_as objects = record { object = λ input bytes. found (slice_get objects (input - 1)); library = λ bytes. Err NotLibrary }

-- and this library for each file that is one
abbrev pub read_with : List Object → Contents → Readers
read_with objects library = record { object = λ input bytes. found (slice_get objects (input - 1)); library = λ bytes. Ok library }

-- ---- types

-- () to (), () to i32
abbrev pub plain_type : FuncType
plain_type = record { params = []; results = [] }

abbrev pub int_type : FuncType
int_type = record { params = []; results = I32 ∷ [] }

-- ---- objects

-- an input with nothing
abbrev pub empty_object : ℕ → Object
empty_object input = record { input = input; types = []; imports = []; functions = []; globals = []; segments = []; symbols = []; inits = []; groups = [] }

abbrev pub span : ℕ → ℕ → Span
span start len = record { start = start; len = len }

abbrev pub function_symbol : ℕ → List ℕ → ℕ → Symbol
function_symbol flags name index = record { kind = Function; flags = flags; name = Some name; index = index; offset = 0; size = 0 }

abbrev pub datum_symbol : ℕ → List ℕ → ℕ → ℕ → ℕ → Symbol
datum_symbol flags name segment offset size = record { kind = Datum; flags = flags; name = Some name; index = segment; offset = offset; size = size }

-- a function of the type at an index, with its body
abbrev pub body_at : ℕ → Span → List Operand → FunctionDef
body_at type s operands = record { type_index = type; span = s; operands = operands; export_name = None }

-- a window at a place of a body: the relocation's type, and the symbol
abbrev pub names : ℕ → ℕ → ℕ → Operand
names kind place symbol = operands.Symbol kind place symbol (pos 0)

-- a function import
abbrev pub function_import : List ℕ → List ℕ → ℕ → Import
function_import from field type = record { «module» = from; field = field; kind = kinds.Function type }

-- a group of this name: functions by their indexes, and segments
abbrev pub group_of : List ℕ → List ℕ → List ℕ → Group
group_of name functions segments = record { name = name; members = map (λ i. record { kind = 1; index = i }) functions ++ map (λ i. record { kind = 0; index = i }) segments }

-- a window of data: its offset, type and symbol
abbrev pub word_at : ℕ → ℕ → ℕ → Reloc
word_at offset kind symbol = record { kind = kind; offset = offset; index = symbol; addend = pos 0 }

-- a data segment of this alignment
abbrev pub segment_at : Span → ℕ → List Reloc → SegmentDef
segment_at s align windows = record { span = s; info = record { name = []; align = align; flags = 0 }; windows = windows }
