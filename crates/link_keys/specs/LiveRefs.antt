-- The references of the live parts, as the data show them.
use Rattle.std.specs.Prelude.{ℕ, ◌==◌, Bool, List, filter_map, flat_map, slice_index_or, Option, Some, None}
use Rattle.link_program.specs.wasm_types.declared.function.FuncType.{FuncType}
use Rattle.link_program.specs.declared.symbol.Symbol.{Symbol}
use Rattle.link_program.specs.declared.named.Named.{Named}
use Rattle.link_program.specs.declared.named.Named.TheVariants as names
use Rattle.link_program.specs.declared.part.Part.{Part}
use Rattle.link_program.specs.declared.program.Tables.{Tables}
use Rattle.link_program.specs.Look.{part_at, row_at}
use Rattle.link_program.specs.Seen.{no_symbol}

-- A reference: whether it stands in code, its relocation's type, and its symbol.
pub record LiveRef : Type 0 where
  pub code : Bool
  pub kind : ℕ
  pub symbol : Symbol

abbrev pub named_ref : List Symbol → Bool → Named → Option LiveRef
named_ref symbols code (names.Symbol kind place addend symbol) = Some (record { code = code; kind = kind; symbol = slice_index_or symbols symbol no_symbol })
named_ref symbols code (names.Type place number) = None

abbrev pub named_number : Named → Option ℕ
named_number (names.Symbol kind place addend symbol) = None
named_number (names.Type place number) = Some number

-- Functions are of kind 0.
abbrev pub is_code : Part → Bool
is_code part = part.chunk.kind == 0

abbrev pub refs_at : Tables → ℕ → List LiveRef
refs_at t n = filter_map (named_ref t.symbols (is_code (part_at t n))) (row_at t n)

-- The references of the live parts.
abbrev pub live_refs : Tables → List ℕ → List LiveRef
live_refs t live = flat_map (refs_at t) live

-- The numbers of the types that the live parts name.
abbrev pub window_numbers : Tables → List ℕ → List ℕ
window_numbers t live = flat_map (λ n. filter_map named_number (row_at t n)) live
