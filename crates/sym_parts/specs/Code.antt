-- What functions are, by the data.
use Rattle.std.specs.Prelude.{ℕ, ◌==◌, List, [], ◌∷◌, ◌++◌, map, filter_map, length, slice_get, if◌then◌else◌, Option, Some, None, option_map, Result, Ok, Err}
use Rattle.wasm_grammar.specs.declared.fault.Stop.{Stop}
use Rattle.wasm_instr.specs.declared.instr.Instr.TheVariants as instrs
use Rattle.wasm_instr.specs.declared.body.Body.{Body}
use Rattle.wasm_instr.specs.Bodies.{body_at}
use Rattle.run_rules.specs.declared.op.Op.{Op}
use Rattle.run_rules.specs.declared.op.Op.TheVariants.{Own}
use Rattle.run_rules.specs.declared.world.Source.{Source}
use Rattle.run_rules.specs.declared.world.Source.TheVariants.{Nowhere, Host, Code}
use Rattle.run_rules.specs.declared.world.Function.{Function as Runs}
use Rattle.link_program.specs.wasm_types.declared.function.FuncType.{FuncType}
use Rattle.link_program.specs.object_file.Spaces.{no_type}
use Rattle.link_program.specs.object_file.declared.object.Object.{Object}
use Rattle.link_program.specs.name_rules.Entries.{ImportKey}
use Rattle.link_program.specs.image_emit.Bytes.{file_part}
use Rattle.link_program.specs.link_rules.Program.{chunk_at}
use Rattle.link_program.specs.declared.keys.FunctionKey.{FunctionKey}
use Rattle.link_program.specs.declared.keys.FunctionKey.TheVariants as functions
use Rattle.link_program.specs.declared.named.Named.{Named}
use Rattle.link_program.specs.declared.named.Named.TheVariants as names
use Rattle.link_program.specs.declared.program.Tables.{Tables}
use Rattle.link_program.specs.Look.{part_at, row_at, chunk_number}
use Rattle.link_keys.specs.declared.firsts.At.{At}
use Rattle.link_keys.specs.Types.{StubTypes, kept_type, content_type_at, stub_type}
use Rattle.sym_parts.specs.Sought.{Known, symbol_of}
use Rattle.sym_parts.specs.Ops.{call_symbol, op_seen}

-- All of them, where each is there.
abbrev pub all_of : {A : Type 0} → List (Option A) → Option (List A)
all_of [] = Some []
all_of (None ∷ xs) = None
all_of (Some x ∷ xs) = option_map (λ rest. x ∷ rest) (all_of xs)

-- ---- sources

abbrev pub body_seen : Known → List Named → Result Body Stop → Option Source
body_seen k row (Err stop) = Some Nowhere
body_seen k row (Ok b) = option_map (Code b.locals) (all_of (map (op_seen k row) b.code))

-- A part of an object: its bytes as a body.
abbrev pub part_source : Known → List (List ℕ) → Option ℕ → Option Source
part_source k files None = Some Nowhere
part_source k files (Some n) = body_seen k (row_at k.tables n) (body_at (file_part files (part_at k.tables n).source))

abbrev pub call_named : Known → Named → Option Op
call_named k (names.Symbol kind place addend symbol) = Some (call_symbol k.functions (symbol_of k symbol))
call_named k (names.Type place number) = None

-- What the linker's function calls, and the end.
abbrev pub calling : Known → List Named → Source
calling k row = Code [] (filter_map (call_named k) row ++ Own (instrs.Plain 0x0B) ∷ [])

abbrev pub calls_seen : Known → Option ℕ → Source
calls_seen k None = Nowhere
calls_seen k (Some n) = calling k (row_at k.tables n)

abbrev pub host_seen : Option ImportKey → Option Source
host_seen None = None
host_seen (Some key) = Some (Host key.module_name key.field)

abbrev pub source_seen : Known → List (List ℕ) → List ImportKey → FunctionKey → Option Source
source_seen k files imports (functions.Import n) = host_seen (slice_get imports n)
source_seen k files imports (functions.Own input index) =
    if input == 0 then Some (calls_seen k (chunk_number k.tables.chunks (chunk_at 0 0 index)))
    else part_source k files (chunk_number k.tables.chunks (chunk_at input 0 index))
source_seen k files imports (functions.Stub n) = Some (Code [] (Own (instrs.Plain 0x00) ∷ Own (instrs.Plain 0x0B) ∷ []))

-- ---- types

abbrev pub part_kind : Tables → Option ℕ → FuncType
part_kind t None = no_type
part_kind t (Some n) = content_type_at t.types (part_at t n).content

-- By what the types of stubs are found.
abbrev pub stub_types : Tables → List Object → List (Option At) → StubTypes
stub_types t objects firsts = record { objects = objects; firsts = firsts; types = t.types; variants = t.variants }

-- The type of a function; a stub has that of the least entry of its name, or of the variant that has the name.
abbrev pub kind_seen : List ImportKey → Tables → List Object → List (Option At) → FunctionKey → FuncType
kind_seen imports t objects firsts (functions.Import n) = kept_type (slice_get imports n)
kind_seen imports t objects firsts (functions.Own input index) = if input == 0 then no_type else part_kind t (chunk_number t.chunks (chunk_at input 0 index))
kind_seen imports t objects firsts (functions.Stub n) = stub_type (stub_types t objects firsts) (length firsts) n

-- ---- functions

abbrev pub run_by : FuncType → Option Source → Option (Option Runs)
run_by kind source = option_map (λ s. Some (record { kind = kind; source = s })) source

abbrev pub function_seen : Known → List (List ℕ) → List ImportKey → List Object → List (Option At) → FunctionKey → Option (Option Runs)
function_seen k files imports objects firsts key = run_by (kind_seen imports k.tables objects firsts key) (source_seen k files imports key)
