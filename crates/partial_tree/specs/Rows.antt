-- The symbols of the object as small records, one after another.
use Rattle.std.specs.Prelude.{ℕ, ◌+◌, Bool, true, false, not, List, [], ◌∷◌, ◌++◌, bit_and, slice_index_or, if◌then◌else◌, Option, Some, None, option_map}
use Rattle.partial_symbols.specs.link_program.linking_section.declared.symbol.Symbol.{Symbol}
use Rattle.partial_symbols.specs.link_program.linking_section.declared.symbol.SymbolKind.{SymbolKind}
use Rattle.partial_symbols.specs.link_program.linking_section.declared.symbol.SymbolKind.TheVariants.{Function, Datum, GlobalVar, Section, Table}
use Rattle.partial_symbols.specs.link_program.mark_bits.declared.chunk.Chunk.{Chunk}
use Rattle.partial_symbols.specs.link_program.object_file.declared.object.Object.{Object}
use Rattle.partial_symbols.specs.link_program.name_rules.Entries.{InputSymbol, name_of}
use Rattle.partial_symbols.specs.link_program.name_entries.View.{entry_number}
use Rattle.partial_symbols.specs.link_program.link_rules.Program.{chunk_at}
use Rattle.partial_symbols.specs.declared.facts.At.{At}
use Rattle.partial_symbols.specs.declared.facts.Spot.{Spot}
use Rattle.partial_symbols.specs.declared.columns.Column.{Column}
use Rattle.partial_symbols.specs.Standing.{Sight, column_at}
use Rattle.partial_symbols.specs.Known.{symbol_there}
use Rattle.partial_parts.specs.Kept.{Kept, place_in}
use Rattle.partial_tree.specs.declared.symbols.Row.{Row}
use Rattle.partial_tree.specs.declared.symbols.Known.{Known}

-- What is looked up: what is known of names, the kept parts, the chunks of all parts, and how many functions and globals are imported.
pub record Look : Type 0 where
  pub sight : Sight
  pub kept : Kept
  pub chunks : List Chunk
  pub functions : ℕ
  pub globals : ℕ

-- A symbol of the loaded objects, as it is looked at.
abbrev pub known_of : List (List ℕ) → At → InputSymbol → Known
known_of names at e = record { at = at; input = e.input; index = e.index; flags = e.symbol.flags; kind = e.symbol.kind; number = entry_number names e }

-- The records so far, and how many of them are open functions and open globals.
pub record Made : Type 0 where
  pub rows : List Row
  pub functions : ℕ
  pub globals : ℕ

abbrev pub nothing_made : Made
nothing_made = record { rows = []; functions = 0; globals = 0 }

-- ---- open symbols

abbrev pub bit_where : ℕ → Bool → ℕ
bit_where bit test = if test then bit else 0

abbrev pub open_flags : Column → ℕ → ℕ
open_flags c flags = bit_and flags 0xAE + 0x10 + bit_where 0x01 (not c.strong) + bit_where 0x40 c.explicit

abbrev pub one_if : Bool → ℕ
one_if b = if b then 1 else 0

abbrev pub is_function : SymbolKind → Bool
is_function Function = true
is_function Datum = false
is_function GlobalVar = false
is_function Section = false
is_function Table = false

abbrev pub is_global : SymbolKind → Bool
is_global Function = false
is_global Datum = false
is_global GlobalVar = true
is_global Section = false
is_global Table = false

-- Functions and globals are numbered, each for itself.
abbrev pub open_index : Made → SymbolKind → ℕ
open_index m kind = if is_function kind then m.functions else if is_global kind then m.globals else 0

abbrev pub with_open : Made → At → ℕ → SymbolKind → Made
with_open m at flags kind = record {
  rows = m.rows ++ (record { at = at; is_open = true; flags = flags; index = open_index m kind }) ∷ [];
  functions = m.functions + one_if (is_function kind);
  globals = m.globals + one_if (is_global kind);
}

-- ---- defined symbols

abbrev pub index_of : Look → Known → SymbolKind → ℕ
index_of l k Function = l.functions + place_in l.kept l.chunks (chunk_at k.input 0 k.index)
index_of l k Datum = place_in l.kept l.chunks (chunk_at k.input 1 k.index)
index_of l k GlobalVar = l.globals + place_in l.kept l.chunks (chunk_at k.input 2 k.index)
index_of l k Section = 0
index_of l k Table = 0

abbrev pub with_defined : Look → Made → Known → Made
with_defined l m k = record {
  rows = m.rows ++ (record { at = k.at; is_open = false; flags = k.flags; index = index_of l k k.kind }) ∷ [];
  functions = m.functions;
  globals = m.globals;
}

-- ---- all of them

abbrev pub with_name : Look → Made → Known → ℕ → Option Spot → Made
with_name l m k n (Some w) = with_defined l m k
with_name l m k n None = with_open m k.at (open_flags (column_at l.sight n) k.flags) k.kind

abbrev pub with_number : Look → Made → Known → Option ℕ → Made
with_number l m k None = with_defined l m k
with_number l m k (Some n) = with_name l m k n (slice_index_or l.sight.winners n None)

abbrev pub with_known : Look → Made → Known → Made
with_known l m k = with_number l m k k.number

abbrev pub with_one : Look → Made → Option Known → Made
with_one l m None = m
with_one l m (Some k) = with_known l m k

abbrev pub with_at : Look → List (List ℕ) → List Object → Made → At → Made
with_at l names objects m at = with_one l m (option_map (known_of names at) (symbol_there objects at))

-- ---- what they tell

-- The symbol of a record, by the symbol that stands for it.
abbrev pub row_symbol : Row → InputSymbol → Symbol
row_symbol row e =
    if row.is_open then record { kind = e.symbol.kind; flags = row.flags; name = Some (name_of e); index = row.index; offset = 0; size = 0 }
    else record e.symbol { index = row.index }

abbrev pub row_seen : List Object → Row → Option Symbol
row_seen objects row = option_map (row_symbol row) (symbol_there objects row.at)
