-- The imports that references of a shared output name.
use Rattle.std.specs.Prelude.{ℕ, ◌==◌, Bool, ◌||◌, List, fold, slice_index_or, Option}
use Rattle.link_keys.specs.link_program.linking_section.declared.symbol.SymbolKind.TheVariants.{GlobalVar}
use Rattle.link_keys.specs.link_program.linking_section.Flags.{kind_code}
use Rattle.link_keys.specs.link_program.declared.symbol.Symbol.{Symbol}
use Rattle.link_keys.specs.link_program.declared.named.Named.{Named}
use Rattle.link_keys.specs.link_program.declared.named.Named.TheVariants as names
use Rattle.link_keys.specs.link_program.declared.program.Tables.{Tables}
use Rattle.link_keys.specs.link_program.Look.{row_at}
use Rattle.link_keys.specs.link_program.Seen.{no_symbol}
use Rattle.link_keys.specs.Noted.{where_so, import_named, flagged}

-- A function is imported to be called, and other imports are of globals.
abbrev pub import_called : ℕ → Symbol → Option ℕ
import_called kind s = where_so ((kind == 0) || (kind_code s.kind == kind_code GlobalVar)) (import_named s.lead)

-- The flags by the numbers of imports, with that of what a window names.
abbrev pub flag_named : List Symbol → List Bool → Named → List Bool
flag_named symbols flags (names.Symbol kind place addend symbol) = flagged flags (import_called kind (slice_index_or symbols symbol no_symbol))
flag_named symbols flags (names.Type place number) = flags

abbrev pub flag_part : Tables → List Bool → ℕ → List Bool
flag_part t flags n = fold (flag_named t.symbols) flags (row_at t n)

-- With those of what live parts name.
abbrev pub flag_parts : Tables → List Bool → List ℕ → List Bool
flag_parts t flags live = fold (flag_part t) flags live
