-- What the data tell of winners, symbols and parts when live parts are looked for.
use Rattle.std.specs.Prelude.{ℕ, ◌+◌, ◌==◌, Bool, true, false, not, ◌&&◌, ◌||◌, List, [], ◌∷◌, ◌++◌, map, filter_map, position, slice_index_or, if◌then◌else◌, Option, Some, None, option_and_then}
use Rattle.link_program.specs.linking_section.declared.symbol.SymbolKind.{SymbolKind}
use Rattle.link_program.specs.linking_section.declared.symbol.SymbolKind.TheVariants as kinds
use Rattle.link_program.specs.linking_section.Flags.{has_bit}
use Rattle.link_program.specs.mark_bits.declared.chunk.Chunk.{Chunk}
use Rattle.link_program.specs.link_rules.Program.{chunk_at, same_chunk}
use Rattle.link_program.specs.declared.symbol.Definition.{Definition}
use Rattle.link_program.specs.declared.symbol.Lead.{Lead}
use Rattle.link_program.specs.declared.symbol.Lead.TheVariants as leads
use Rattle.link_program.specs.declared.symbol.Symbol.{Symbol}
use Rattle.link_program.specs.declared.symbol.Winner.{Winner}
use Rattle.link_program.specs.declared.named.Named.{Named}
use Rattle.link_program.specs.declared.named.Named.TheVariants as names
use Rattle.link_program.specs.declared.part.Content.{Content}
use Rattle.link_program.specs.declared.part.Content.TheVariants as contents
use Rattle.link_program.specs.declared.part.Part.{Part}

-- ---- winners

-- A winner is exported where its name is asked for, by number; where an object's symbol has EXPORTED; and with `--export-dynamic` where
-- an object's symbol isn't HIDDEN.
abbrev pub is_export : List Bool → Bool → Winner → Bool
is_export asked dynamic w =
    slice_index_or asked w.name false
    || (not (w.definition.input == 0) && (has_bit 0x20 w.flags || (dynamic && not (has_bit 0x04 w.flags))))

-- A winner of an object that has NO_STRIP.
abbrev pub is_not_stripped : Winner → Bool
is_not_stripped w = not (w.definition.input == 0) && has_bit 0x80 w.flags

-- ---- chunks

abbrev pub chunk_by : Definition → SymbolKind → Option Chunk
chunk_by d kinds.Function = Some (chunk_at d.input 0 d.index)
chunk_by d kinds.Datum = if d.input == 0 then None else Some (chunk_at d.input 1 d.index)
chunk_by d kinds.GlobalVar = Some (chunk_at d.input 2 d.index)
chunk_by d kinds.Section = None
chunk_by d kinds.Table = None

-- The chunk of a definition. The linker's data and its table are no chunks.
abbrev pub defined_chunk : Definition → Option Chunk
defined_chunk d = chunk_by d d.kind

-- The number of a chunk: its place in the table.
abbrev pub number_in : List Chunk → Option Chunk → Option ℕ
number_in table chunk = option_and_then (λ c. position (same_chunk c) table) chunk

-- The number of the chunk to which a symbol leads.
abbrev pub led_number : List Chunk → Lead → Option ℕ
led_number table (leads.Here d) = number_in table (defined_chunk d)
led_number table (leads.Import number) = None
led_number table leads.Null = None
led_number table leads.Nothing = None

-- The same for each symbol.
abbrev pub led_numbers : List Chunk → List Symbol → List (Option ℕ)
led_numbers table symbols = map (λ s. led_number table s.lead) symbols

-- The number of the chunk to which an item leads, by those of the symbols.
abbrev pub named_number : List (Option ℕ) → Named → Option ℕ
named_number led (names.Symbol kind place addend symbol) = slice_index_or led symbol None
named_number led (names.Type place number) = None

abbrev pub targets_seen : List (Option ℕ) → List (List Named) → List (List ℕ)
targets_seen led rows = map (filter_map (named_number led)) rows

-- ---- roots

-- A segment that has RETAIN.
abbrev pub is_retained_content : Content → Bool
is_retained_content (contents.Function number) = false
is_retained_content (contents.Segment align flags) = has_bit 0x04 flags
is_retained_content (contents.Global kind value) = false
is_retained_content contents.Made = false

abbrev pub is_retained_part : Part → Bool
is_retained_part part = is_retained_content part.content

abbrev pub is_of_object : Part → Bool
is_of_object part = not (part.chunk.input == 0)

-- A part that is a root by itself, also where all parts of objects are.
abbrev pub is_root : Bool → Part → Bool
is_root all part = if all then is_of_object part else is_retained_part part

-- The places of those that pass a test, from a place on.
abbrev pub places_from : {A : Type 0} → (A → Bool) → ℕ → List A → List ℕ
places_from test at [] = []
places_from test at (x ∷ xs) = if test x then at ∷ places_from test (at + 1) xs else places_from test (at + 1) xs

abbrev pub winner_numbers : List Chunk → List Winner → List ℕ
winner_numbers table ws = filter_map (λ w. number_in table (defined_chunk w.definition)) ws

-- The number of the chunk of a winner that isn't stripped.
abbrev pub number_not_stripped : List Chunk → Winner → Option ℕ
number_not_stripped table w = if is_not_stripped w then number_in table (defined_chunk w.definition) else None

-- The exports, the winners that aren't stripped, the segments that are retained, and without garbage collection all parts of objects.
abbrev pub roots_seen : List Chunk → Bool → List Winner → List Winner → List Part → List ℕ
roots_seen table gc exports winners parts =
    winner_numbers table exports
    ++ filter_map (number_not_stripped table) winners
    ++ places_from (is_root false) 0 parts
    ++ (if gc then [] else places_from (is_root true) 0 parts)
