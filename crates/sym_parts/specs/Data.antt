-- What cells hold at first, what the memory holds at first, the table and the exports, by the data.
use Rattle.std.specs.Prelude.{ℕ, ◌==◌, Bool, false, not, ◌&&◌, ◌||◌, List, [], ◌∷◌, length, filter, position, slice_get, slice_index_or, if◌then◌else◌, Option, Some, None, option_map, option_and_then}
use Rattle.std.specs.List.{list_all}
use Rattle.link_program.specs.linking_section.declared.symbol.SymbolKind.{SymbolKind}
use Rattle.link_program.specs.linking_section.declared.symbol.SymbolKind.TheVariants.{Function, Datum, GlobalVar, Section, Table}
use Rattle.link_program.specs.name_rules.Entries.{ImportKey}
use Rattle.link_program.specs.reloc_apply.Windows.{over, little}
use Rattle.link_program.specs.image_emit.Bytes.{file_part}
use Rattle.made_symbols.specs.Made.{stack_pointer}
use Rattle.link_program.specs.link_rules.Program.{chunk_at}
use Rattle.link_program.specs.declared.symbol.Definition.{Definition}
use Rattle.link_program.specs.declared.keys.FunctionKey.{FunctionKey}
use Rattle.link_program.specs.declared.keys.FunctionKey.TheVariants as functions
use Rattle.link_program.specs.declared.keys.GlobalKey.{GlobalKey}
use Rattle.link_program.specs.declared.keys.GlobalKey.TheVariants as globals
use Rattle.link_program.specs.declared.named.Named.{Named}
use Rattle.link_program.specs.declared.named.Named.TheVariants as names
use Rattle.link_program.specs.declared.part.Content.{Content}
use Rattle.link_program.specs.declared.part.Content.TheVariants as contents
use Rattle.link_program.specs.declared.program.Tables.{Tables}
use Rattle.link_program.specs.Keys.{same_function_key, same_global_key}
use Rattle.link_program.specs.Look.{part_at, row_at, chunk_number}
use Rattle.link_program.specs.Meant.{index_of, function_of}
use Rattle.run_rules.specs.declared.value.Value.{Value}
use Rattle.run_rules.specs.declared.value.Value.TheVariants.{I32}
use Rattle.run_rules.specs.declared.world.Target.{Target}
use Rattle.run_rules.specs.declared.world.Target.TheVariants.{ToFunction, ToCell, ToNumber, Elsewhere}
use Rattle.run_rules.specs.Modules.{expr_value}
use Rattle.run_machines.specs.declared.sym.SymCell.{SymCell}
use Rattle.run_machines.specs.declared.sym.SymCell.TheVariants.{Import, Holds}
use Rattle.run_machines.specs.declared.sym.SymSegment.{SymSegment}
use Rattle.link_worlds.specs.Worlds.{global_kind, target_by}
use Rattle.sym_parts.specs.Sought.{Known, named_place, number_named}

-- ---- cells

abbrev pub import_cell : Option ImportKey → Option SymCell
import_cell None = None
import_cell (Some key) = Some (Import key.module_name key.field (global_kind key.type))

abbrev pub content_value : Content → Option Value
content_value (contents.Function number) = None
content_value (contents.Segment align flags) = None
content_value (contents.Global kind value) = expr_value [] value
content_value contents.Made = None

abbrev pub part_value : Tables → Option ℕ → Option Value
part_value t None = None
part_value t (Some n) = content_value (part_at t n).content

-- The linker's own globals are 0, but that the pointer of the stack begins at its top.
abbrev pub cell_seen : Tables → List ImportKey → ℕ → GlobalKey → Option SymCell
cell_seen t imports top (globals.Import n) = import_cell (slice_get imports n)
cell_seen t imports top (globals.Own input index) =
    if input == 0 then Some (Holds (Some (I32 (if index == stack_pointer then top else 0))))
    else Some (Holds (part_value t (chunk_number t.chunks (chunk_at input 2 index))))
cell_seen t imports top (globals.Got key) = None
cell_seen t imports top (globals.Datum d) = None

-- ---- segments

-- A window of data holds a slot or an address as a word (Linking.md, "Relocation Sections": TABLE_INDEX_I32 is 2, MEMORY_ADDR_I32 is 5).
abbrev pub is_word : Named → Bool
is_word (names.Symbol kind place addend symbol) = (kind == 2) || (kind == 5)
is_word (names.Type place number) = false

abbrev pub word_named : Known → Named → Option ℕ
word_named k named = if is_word named then number_named k named else None

-- The bytes with each word written, one after another.
abbrev pub words_on : Known → List Named → List ℕ → Option (List ℕ)
words_on k [] bytes = Some bytes
words_on k (named ∷ row) bytes = option_and_then (λ n. words_on k row (over (named_place named) (little n) bytes)) (word_named k named)

abbrev pub segment_by : ℕ → Option (List ℕ) → Option SymSegment
segment_by address bytes = option_map (λ bytes. record { address = address; bytes = bytes }) bytes

-- The segment of a number, by the address of each part.
abbrev pub segment_seen : Known → List (List ℕ) → List ℕ → ℕ → Option SymSegment
segment_seen k files addresses n =
    segment_by (slice_index_or addresses n 0) (words_on k (row_at k.tables n) (file_part files (part_at k.tables n).source))

-- The numbers of the data segments among these parts.
abbrev pub segment_numbers : Tables → List ℕ → List ℕ
segment_numbers t live = filter (λ n. (part_at t n).chunk.kind == 1) live

-- whether it is zero: all its bytes are 0, and no window lies in it
abbrev pub is_zero : Tables → List (List ℕ) → ℕ → Bool
is_zero t files n = (length (row_at t n) == 0) && list_all (λ b. b == 0) (file_part files (part_at t n).source)

-- whether it is zero, or whether it isn't
abbrev pub is_so : Tables → List (List ℕ) → Bool → ℕ → Bool
is_so t files zero n = if zero then is_zero t files n else not (is_zero t files n)

-- ---- the table

abbrev pub no_function : FunctionKey
no_function = functions.Import 0

-- The place of the function of a number of the output.
abbrev pub taker_place : List FunctionKey → List FunctionKey → ℕ → Option ℕ
taker_place all output n = position (same_function_key (slice_index_or output n no_function)) all

-- ---- exports

abbrev pub target_seen : List FunctionKey → List GlobalKey → ℕ → Definition → SymbolKind → Target
target_seen fs gs address d Function = target_by ToFunction (position (same_function_key (function_of d)) fs)
target_seen fs gs address d Datum = ToNumber address
target_seen fs gs address d GlobalVar = target_by ToCell (position (same_global_key (globals.Own d.input (index_of d))) gs)
target_seen fs gs address d Section = Elsewhere
target_seen fs gs address d Table = Elsewhere
