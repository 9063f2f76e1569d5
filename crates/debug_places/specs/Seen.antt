-- Where the things are that symbols mean, as the data of a link show it.
use Rattle.std.specs.Prelude.{ℕ, ◌+◌, ◌==◌, Bool, false, List, [], ◌∷◌, map, take, drop, length, position, slice_get, slice_index_or, if◌then◌else◌, Option, Some, None, option_and_then}
use Rattle.link_program.specs.object_file.declared.object.Object.{Object}
use Rattle.link_program.specs.linking_section.declared.symbol.SymbolKind.TheVariants.{Function, Datum, GlobalVar}
use Rattle.link_program.specs.linking_section.Flags.{kind_code}
use Rattle.link_program.specs.made_symbols.declared.mode.Mode.{Mode}
use Rattle.link_program.specs.made_symbols.declared.mode.Mode.TheVariants.{Plain, Shared}
use Rattle.link_program.specs.mark_bits.declared.chunk.Chunk.{Chunk}
use Rattle.link_program.specs.link_rules.ModeOf.{mode_of}
use Rattle.link_program.specs.link_rules.Program.{chunk_at}
use Rattle.link_program.specs.declared.symbol.Definition.{Definition}
use Rattle.link_program.specs.declared.symbol.Symbol.{Symbol}
use Rattle.link_program.specs.declared.symbol.Lead.{Lead}
use Rattle.link_program.specs.declared.symbol.Lead.TheVariants as leads
use Rattle.link_program.specs.declared.keys.FunctionKey.TheVariants as functions
use Rattle.link_program.specs.declared.keys.GlobalKey.{GlobalKey}
use Rattle.link_program.specs.declared.keys.GlobalKey.TheVariants as globals
use Rattle.link_program.specs.Keys.{same_global_key}
use Rattle.link_program.specs.Look.{chunk_number}
use Rattle.link_program.specs.Meant.{function_of}
use Rattle.link_layout.specs.declared.values.Layout.{Layout}
use Rattle.link_layout.specs.link_numbers.Numbered.{Numbered}
use Rattle.link_layout.specs.Cells.{made_place}
use Rattle.debug_places.specs.declared.rows.View.{View}
use Rattle.debug_places.specs.declared.rows.Asked.{Asked}
use Rattle.debug_places.specs.declared.rows.Asked.TheVariants.{Address, Slot, Global}
use Rattle.found_numbers.specs.Found.{slot_among}

-- What is looked up: which output is made, the numbers of the imports of the linker's globals, all numbers, the chunks of the parts, the
-- addresses of the parts that are live segments, those of the linker's own data, and of each part whether it is live.
pub record Sight : Type 0 where
  pub mode : Mode
  pub imported : List ℕ
  pub numbers : Numbered
  pub chunks : List Chunk
  pub addresses : List ℕ
  pub made : List ℕ
  pub live : List Bool

-- what a layout shows, with the addresses of the linker's own data and a flag for each part
abbrev pub sight_of : Layout → List ℕ → List Bool → Sight
sight_of l made live = record {
  mode = mode_of l.program.plan.now;
  imported = l.program.resolution.now.made;
  numbers = l.numbering.now;
  chunks = l.program.tables.now.chunks;
  addresses = l.placed.now.addresses;
  made = made;
  live = live;
}

abbrev pub seen : View → Sight
seen v = sight_of v.layout v.made.now v.live.now

-- ---- addresses

-- the address of the part of a number, where it is live, and an offset
abbrev pub segment_address : Sight → ℕ → Option ℕ → Option ℕ
segment_address k offset None = None
segment_address k offset (Some n) = if slice_index_or k.live n false then Some (slice_index_or k.addresses n 0 + offset) else None

-- The address of a datum: of the linker's own, or in a live segment.
abbrev pub address_at : Sight → Definition → Option ℕ
address_at k d =
    if d.input == 0 then Some (slice_index_or k.made d.place 0)
    else segment_address k d.offset (chunk_number k.chunks (chunk_at d.input 1 d.index))

abbrev pub address_meant : Sight → Lead → Option ℕ
address_meant k (leads.Here d) = if kind_code d.kind == kind_code Datum then address_at k d else None
address_meant k (leads.Import n) = None
address_meant k leads.Null = None
address_meant k leads.Nothing = None

-- ---- slots and globals

abbrev pub slot_meant : Numbered → Lead → Option ℕ
slot_meant n (leads.Here d) = if kind_code d.kind == kind_code Function then slot_among n (function_of d) else None
slot_meant n (leads.Import k) = slot_among n (functions.Import k)
slot_meant n leads.Null = None
slot_meant n leads.Nothing = None

abbrev pub global_among : Numbered → GlobalKey → Option ℕ
global_among n g = position (same_global_key g) n.globals

abbrev pub import_among : Numbered → Option ℕ → Option ℕ
import_among n None = None
import_among n (Some number) = global_among n (globals.Import number)

-- A global of the linker, by the number of its symbol. In a shared output it is an import.
abbrev pub linkers_global : Sight → Mode → ℕ → Option ℕ
linkers_global k Plain number = global_among k.numbers (globals.Own 0 number)
linkers_global k Shared number = import_among k.numbers (option_and_then (slice_get k.imported) (made_place number))

abbrev pub global_here : Sight → Definition → Option ℕ
global_here k d = if d.input == 0 then linkers_global k k.mode d.place else global_among k.numbers (globals.Own d.input d.index)

abbrev pub global_meant : Sight → Lead → Option ℕ
global_meant k (leads.Here d) = if kind_code d.kind == kind_code GlobalVar then global_here k d else None
global_meant k (leads.Import number) = global_among k.numbers (globals.Import number)
global_meant k leads.Null = None
global_meant k leads.Nothing = None

-- ---- lists

abbrev pub place_meant : Sight → Asked → Lead → Option ℕ
place_meant k Address lead = address_meant k lead
place_meant k Slot lead = slot_meant k.numbers lead
place_meant k Global lead = global_meant k lead

abbrev pub row_by : (Lead → Option ℕ) → List Symbol → List (Option ℕ)
row_by f symbols = map (λ s. f s.lead) symbols

-- A list for each object: the symbols stand one object behind another, as many as each has.
abbrev pub rows_by : (Lead → Option ℕ) → List Object → List Symbol → List (List (Option ℕ))
rows_by f [] symbols = []
rows_by f (o ∷ os) symbols = row_by f (take (length o.symbols) symbols) ∷ rows_by f os (drop (length o.symbols) symbols)
