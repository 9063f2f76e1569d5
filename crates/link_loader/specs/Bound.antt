-- Windows of live parts that ask for nothing that a shared output doesn't have, as the data tell them.
use Rattle.std.specs.Prelude.{ℕ, ◌==◌, Bool, true, false, not, ◌||◌, List, slice_index_or, Option, Some, None}
use Rattle.std.specs.List.{list_all}
use Rattle.link_program.specs.reloc_section.declared.kinds.TheConstants as relocs
use Rattle.link_program.specs.declared.symbol.Lead.{Lead}
use Rattle.link_program.specs.declared.symbol.Lead.TheVariants as leads
use Rattle.link_program.specs.declared.symbol.Symbol.{Symbol}
use Rattle.link_program.specs.declared.named.Named.{Named}
use Rattle.link_program.specs.declared.named.Named.TheVariants as names
use Rattle.link_program.specs.declared.program.Tables.{Tables}
use Rattle.link_program.specs.Look.{row_at}
use Rattle.link_program.specs.Seen.{no_symbol}
use Rattle.link_loader.specs.Cells.{is_addressed}

-- whether there is a name
abbrev pub has_name : Option ℕ → Bool
has_name None = false
has_name (Some n) = true

-- Whether a window calls, or names no function or datum, or one that is of the link, or by its name imported.
abbrev pub is_bound_by : ℕ → Symbol → Lead → Bool
is_bound_by kind s (leads.Here d) = true
is_bound_by kind s (leads.Import n) = has_name s.name
is_bound_by kind s leads.Null = (kind == relocs.FUNCTION_INDEX_LEB) || not (is_addressed s)
is_bound_by kind s leads.Nothing = (kind == relocs.FUNCTION_INDEX_LEB) || not (is_addressed s)

abbrev pub is_bound : List Symbol → Named → Bool
is_bound symbols (names.Symbol kind place addend symbol) = is_bound_by kind (slice_index_or symbols symbol no_symbol) (slice_index_or symbols symbol no_symbol).lead
is_bound symbols (names.Type place number) = true

abbrev pub bound_part : Tables → ℕ → Bool
bound_part t n = list_all (is_bound t.symbols) (row_at t n)

-- ---- symbols

-- Whether each window that names a symbol does so, of whatever type it is.
abbrev pub is_always_bound : Symbol → Lead → Bool
is_always_bound s (leads.Here d) = true
is_always_bound s (leads.Import n) = has_name s.name
is_always_bound s leads.Null = not (is_addressed s)
is_always_bound s leads.Nothing = not (is_addressed s)
