-- What a shared output exports, as the data tell it.
use Rattle.std.specs.Prelude.{ℕ, ◌==◌, Bool, false, true, not, ◌&&◌, ◌||◌, List, length, slice_index_or}
use Rattle.std.specs.List.{list_any}
use Rattle.link_program.specs.linking_section.declared.symbol.SymbolKind.TheVariants.{GlobalVar}
use Rattle.link_program.specs.linking_section.Flags.{kind_code}
use Rattle.link_program.specs.reloc_section.declared.kinds.TheConstants as relocs
use Rattle.link_program.specs.made_symbols.Made.{call_ctors, apply_data_relocs}
use Rattle.link_program.specs.mark_bits.declared.kinds.TheConstants as chunks
use Rattle.link_program.specs.declared.symbol.Lead.{Lead}
use Rattle.link_program.specs.declared.symbol.Lead.TheVariants as leads
use Rattle.link_program.specs.declared.symbol.Symbol.{Symbol}
use Rattle.link_program.specs.declared.symbol.Winner.{Winner}
use Rattle.link_program.specs.declared.named.Named.{Named}
use Rattle.link_program.specs.declared.named.Named.TheVariants as names
use Rattle.link_program.specs.declared.part.Part.{Part}
use Rattle.link_program.specs.declared.program.Tables.{Tables}
use Rattle.link_program.specs.Look.{part_at, row_at}
use Rattle.link_program.specs.Seen.{no_symbol}
use Rattle.link_marks.specs.Seen.{is_export}

-- ---- winners

-- the linker's own symbol of a number
abbrev pub is_made_winner : ℕ → Winner → Bool
is_made_winner number w = (w.definition.input == 0) && (w.definition.place == number)

-- What the words and flags ask for; `__wasm_call_ctors`, where it calls; and the function that makes addresses right, where it has work.
abbrev pub is_due : List Bool → Bool → Bool → Bool → Winner → Bool
is_due asked dynamic calls work w = is_export asked dynamic w || (is_made_winner call_ctors w && calls) || (is_made_winner apply_data_relocs w && work)

-- ---- calls

-- The first part is `__wasm_call_ctors`, and its row are the calls.
abbrev pub calls_seen : Tables → Bool
calls_seen t = not (length (row_at t 0) == 0)

-- ---- work

abbrev pub leads_here : Lead → Bool
leads_here (leads.Here d) = true
leads_here (leads.Import number) = false
leads_here leads.Null = false
leads_here leads.Nothing = false

-- A function or datum of the link.
abbrev pub is_own_address : Symbol → Bool
is_own_address s = not (kind_code s.kind == kind_code GlobalVar) && leads_here s.lead

-- A window that takes the address of one from a cell.
abbrev pub reads_own_cell : List Symbol → Named → Bool
reads_own_cell symbols (names.Symbol kind place addend symbol) = (kind == relocs.GLOBAL_INDEX_LEB) && is_own_address (slice_index_or symbols symbol no_symbol)
reads_own_cell symbols (names.Type place number) = false

-- A segment with windows, or code with such a window.
abbrev pub has_work_in : List Symbol → Part → List Named → Bool
has_work_in symbols part row =
    ((part.chunk.kind == chunks.SEGMENT) && not (length row == 0))
    || ((part.chunk.kind == chunks.FUNCTION) && list_any (reads_own_cell symbols) row)

abbrev pub has_work_at : Tables → ℕ → Bool
has_work_at t n = has_work_in t.symbols (part_at t n) (row_at t n)

abbrev pub any_work : Tables → List ℕ → Bool
any_work t numbers = list_any (has_work_at t) numbers
