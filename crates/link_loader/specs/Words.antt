-- The words that are stored when a shared output is loaded, as the data tell them.
use Rattle.std.specs.Prelude.{ℕ, ◌+◌, ◌==◌, Bool, true, false, not, ◌||◌, List, ◌++◌, filter, filter_map, flat_map, slice_index_or, if◌then◌else◌, Option, Some, None, ℤ, pos, ◌+ℤ◌}
use Rattle.std.specs.List.{list_all}
use Rattle.link_program.specs.linking_section.declared.symbol.SymbolKind.TheVariants.{Function, Datum}
use Rattle.link_program.specs.linking_section.Flags.{kind_code}
use Rattle.link_program.specs.reloc_section.declared.kinds.TheConstants as relocs
use Rattle.link_program.specs.reloc_apply.Windows.{bits32}
use Rattle.link_program.specs.index_layout.Numbers.{number_by}
use Rattle.link_program.specs.made_symbols.declared.mode.Mode.{Mode}
use Rattle.link_program.specs.name_rules.Entries.{InputSymbol, untyped}
use Rattle.link_program.specs.link_rules.Values as values
use Rattle.dylink_out.specs.declared.word.WordReloc.{WordReloc}
use Rattle.dylink_out.specs.declared.word.WordPlace.TheVariants.{Window as WindowAt, Got as GotAt}
use Rattle.dylink_out.specs.declared.word.WordValue.{WordValue}
use Rattle.dylink_out.specs.declared.word.WordValue.TheVariants.{OwnDatum, OwnFunction, ForeignDatum, ForeignFunction}
use Rattle.link_program.specs.declared.symbol.Definition.{Definition}
use Rattle.link_program.specs.declared.symbol.Lead.{Lead}
use Rattle.link_program.specs.declared.symbol.Lead.TheVariants as leads
use Rattle.link_program.specs.declared.symbol.Symbol.{Symbol}
use Rattle.link_program.specs.declared.named.Named.{Named}
use Rattle.link_program.specs.declared.named.Named.TheVariants as names
use Rattle.link_program.specs.declared.keys.FunctionKey.{FunctionKey}
use Rattle.link_program.specs.declared.keys.FunctionKey.TheVariants as functions
use Rattle.link_program.specs.declared.keys.GotKey.{GotKey}
use Rattle.link_program.specs.declared.keys.GotKey.TheVariants as cells
use Rattle.link_program.specs.declared.keys.GlobalKey.{GlobalKey}
use Rattle.link_program.specs.declared.keys.GlobalKey.TheVariants as globals
use Rattle.link_program.specs.Keys.{same_function_key, same_global_key}
use Rattle.link_program.specs.Look.{row_at}
use Rattle.link_program.specs.Meant.{function_of}
use Rattle.link_program.specs.Seen.{no_symbol}
use Rattle.link_layout.specs.link_numbers.Numbered.{Numbered}
use Rattle.link_layout.specs.Seen.{Looked, is_solid_at}
use Rattle.link_loader.specs.Cells.{is_addressed, cell_at}

-- An entry of which a definition tells.
abbrev pub entry_told : Definition → InputSymbol
entry_told d = record {
  input = d.input;
  place = d.place;
  index = d.index;
  symbol = record { kind = d.kind; flags = 0; name = None; index = 0; offset = d.offset; size = 0 };
  type = untyped;
  import = None;
  defines = false;
  class = 0;
}

-- What is looked up: the mode and the layout of addresses, all numbers, the tables and places, and the cells of foreign functions.
pub record Loading : Type 0 where
  pub mode : Mode
  pub layout : values.Layout
  pub at : Looked
  pub cells : List (Option ℕ)

abbrev pub slot : Numbered → FunctionKey → ℕ
slot n f = n.first_slot + number_by same_function_key n.slots f

-- ---- windows of data

-- A slot of the link's own function, or an address of its own datum and the addend.
abbrev pub own_value : Loading → ℕ → ℤ → Definition → WordValue
own_value k kind addend d =
    if kind == relocs.TABLE_INDEX_I32 then OwnFunction (slot k.at.numbers (function_of d))
    else OwnDatum (bits32 (pos (values.address_of k.mode k.layout (entry_told d)) +ℤ addend))

-- What the cell of this import holds, and for an address the addend.
abbrev pub foreign_value : Loading → ℕ → ℤ → ℕ → WordValue
foreign_value k kind addend cell =
    if kind == relocs.TABLE_INDEX_I32 then ForeignFunction (number_by same_global_key k.at.numbers.globals (globals.Import cell))
    else ForeignDatum (number_by same_global_key k.at.numbers.globals (globals.Import cell)) addend

abbrev pub value_by : Loading → ℕ → ℤ → ℕ → Symbol → Lead → WordValue
value_by k kind addend at s (leads.Here d) = own_value k kind addend d
value_by k kind addend at s (leads.Import n) = foreign_value k kind addend (cell_at k.cells at s)
value_by k kind addend at s leads.Null = OwnDatum 0
value_by k kind addend at s leads.Nothing = OwnDatum 0

abbrev pub symbol_value : Loading → ℕ → ℤ → ℕ → Symbol → WordValue
symbol_value k kind addend at s = value_by k kind addend at s s.lead

-- The word of a window in a segment that stands at an address.
abbrev pub window_word : Loading → ℕ → Named → Option WordReloc
window_word k address (names.Symbol kind place addend symbol) =
    Some (record { to = WindowAt (address + place); value = symbol_value k kind addend symbol (slice_index_or k.at.tables.symbols symbol no_symbol) })
window_word k address (names.Type place number) = None

abbrev pub segment_words : Loading → ℕ → List WordReloc
segment_words k n = filter_map (window_word k (slice_index_or k.at.placed.addresses n 0)) (row_at k.at.tables n)

-- ---- what windows of data may name: a definition of the link, or a foreign function or datum

abbrev pub is_told_by : Symbol → Lead → Bool
is_told_by s (leads.Here d) = true
is_told_by s (leads.Import n) = is_addressed s
is_told_by s leads.Null = false
is_told_by s leads.Nothing = false

abbrev pub is_told : List Symbol → Named → Bool
is_told symbols (names.Symbol kind place addend symbol) = is_told_by (slice_index_or symbols symbol no_symbol) (slice_index_or symbols symbol no_symbol).lead
is_told symbols (names.Type place number) = true

-- the same of all windows of the part of a number, if it is placed
abbrev pub told_part : Looked → ℕ → Bool
told_part k n = not (is_solid_at k n) || list_all (is_told k.tables.symbols) (row_at k.tables n)

-- ---- own cells

abbrev pub is_function_cell : GotKey → Bool
is_function_cell (cells.Here d) = kind_code d.kind == kind_code Function
is_function_cell (cells.Import n) = true
is_function_cell (cells.Null kind) = false

abbrev pub cell_value : Loading → GotKey → ℕ
cell_value k (cells.Here d) = if kind_code d.kind == kind_code Datum then values.address_of k.mode k.layout (entry_told d) else slot k.at.numbers (function_of d)
cell_value k (cells.Import n) = slot k.at.numbers (functions.Import n)
cell_value k (cells.Null kind) = 0

abbrev pub cell_word : Loading → GlobalKey → Option WordReloc
cell_word k (globals.Import n) = None
cell_word k (globals.Own input index) = None
cell_word k (globals.Got key) =
    Some (record { to = GotAt (number_by same_global_key k.at.numbers.globals (globals.Got key)); value = if is_function_cell key then OwnFunction (cell_value k key) else OwnDatum (cell_value k key) })
cell_word k (globals.Datum d) = None

-- ---- all words

abbrev pub words_seen : Loading → List ℕ → List WordReloc
words_seen k live = flat_map (segment_words k) (filter (is_solid_at k.at) live) ++ filter_map (cell_word k) k.at.numbers.globals
