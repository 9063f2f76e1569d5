-- The cells that live parts ask for, one after another. There are none where a symbol's cell isn't known.
use Rattle.std.specs.Prelude.{ℕ, ◌==◌, nat_eq, Bool, List, fold, slice_index_or, if◌then◌else◌, Option, Some, None}
use Rattle.indexmap.specs.IndexSet.{insert_key}
use Rattle.link_keys.specs.link_program.name_rules.Entries.{ImportKey}
use Rattle.link_keys.specs.link_program.declared.symbol.Symbol.{Symbol}
use Rattle.link_keys.specs.link_program.declared.named.Named.{Named}
use Rattle.link_keys.specs.link_program.declared.named.Named.TheVariants as names
use Rattle.link_keys.specs.link_program.declared.program.Tables.{Tables}
use Rattle.link_keys.specs.link_program.Look.{part_at, row_at}
use Rattle.link_keys.specs.link_program.Seen.{no_symbol}
use Rattle.shared_keys.specs.Cells.{asks_cell, is_known, cell_number}

-- One cell more, where it is asked for.
abbrev pub put_by : Bool → Bool → ℕ → List ℕ → Option (List ℕ)
put_by asks known n cells = if asks then (if known then Some (insert_key nat_eq cells n) else None) else Some cells

module _ (all : List (List ℕ)) (imports : List ImportKey) where
  abbrev pub put_cell : ℕ → Symbol → Option (List ℕ) → Option (List ℕ)
  put_cell kind s None = None
  put_cell kind s (Some cells) = put_by (asks_cell kind s) (is_known all imports s) (cell_number all imports s) cells

  -- the cell of what a window names, by the symbols
  abbrev pub put_named : List Symbol → Option (List ℕ) → Named → Option (List ℕ)
  put_named symbols cells (names.Symbol kind place addend symbol) = put_cell kind (slice_index_or symbols symbol no_symbol) cells
  put_named symbols cells (names.Type place number) = cells

  abbrev pub put_row : List Symbol → Option (List ℕ) → List Named → Option (List ℕ)
  put_row symbols cells row = fold (put_named symbols) cells row

  -- those of a part, if it is of a kind
  abbrev pub put_part : Tables → ℕ → Option (List ℕ) → ℕ → Option (List ℕ)
  put_part t kind cells n = if (part_at t n).chunk.kind == kind then put_row t.symbols cells (row_at t n) else cells

  -- those of live parts of a kind
  abbrev pub put_parts : Tables → ℕ → Option (List ℕ) → List ℕ → Option (List ℕ)
  put_parts t kind cells live = fold (put_part t kind) cells live
