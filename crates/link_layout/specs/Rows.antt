-- The windows of parts, as the data show them.
use Rattle.std.specs.Prelude.{ℕ, ◌==◌, Bool, true, not, ◌||◌, List, [], ◌++◌, map, filter, drop, length, slice_index_or, if◌then◌else◌, Option, Some, None, ℤ}
use Rattle.std.specs.List.{list_all}
use Rattle.link_program.specs.index_layout.Numbers.{number_by}
use Rattle.link_program.specs.made_symbols.declared.mode.Mode.{Mode}
use Rattle.link_program.specs.reloc_section.declared.kinds.TheConstants as relocs
use Rattle.link_program.specs.reloc_apply.declared.window.Window.{Window}
use Rattle.link_program.specs.link_rules.Marks.{by_mode}
use Rattle.link_program.specs.declared.symbol.Symbol.{Symbol}
use Rattle.link_program.specs.declared.keys.FunctionKey.{FunctionKey}
use Rattle.link_program.specs.declared.named.Named.{Named}
use Rattle.link_program.specs.declared.named.Named.TheVariants as names
use Rattle.link_program.specs.Keys.{same_global_key}
use Rattle.link_program.specs.Look.{row_at}
use Rattle.link_program.specs.Seen.{no_symbol}
use Rattle.link_program.specs.Moved.{moved_windows}
use Rattle.link_layout.specs.Seen.{Looked, window_to, symbol_window, window_of, body_number, is_solid_at, defined}
use Rattle.link_layout.specs.Cells.{global_or_cell, is_told}

-- ---- windows of a shared output: a window of GLOBAL_INDEX_LEB may name a cell

abbrev pub cell_number : Looked → ℕ → Symbol → ℕ
cell_number k at s = number_by same_global_key k.numbers.globals (global_or_cell k at s.kind s.lead)

abbrev pub shared_symbol : Looked → ℕ → ℕ → ℤ → ℕ → Symbol → Window
shared_symbol k place kind addend at s =
    if kind == relocs.GLOBAL_INDEX_LEB then window_to place kind addend s.lead (cell_number k at s) else symbol_window k place kind addend s

abbrev pub shared_window : Looked → Named → Window
shared_window k (names.Symbol kind place addend symbol) = shared_symbol k place kind addend symbol (slice_index_or k.tables.symbols symbol no_symbol)
shared_window k (names.Type place number) = window_of k (names.Type place number)

-- whether the global that it names can be told
abbrev pub is_named_told : Looked → Named → Bool
is_named_told k (names.Symbol kind place addend symbol) = not (kind == relocs.GLOBAL_INDEX_LEB) || is_told k symbol (slice_index_or k.tables.symbols symbol no_symbol)
is_named_told k (names.Type place number) = true

-- whether that of each window of these parts can be told
abbrev pub are_rows_told : Looked → List ℕ → Bool
are_rows_told k live = list_all (λ n. list_all (is_named_told k) (row_at k.tables n)) live

abbrev pub are_told : Looked → List ℕ → Bool
are_told k live = by_mode k.mode true (are_rows_told k live)

-- ---- windows of both

abbrev pub window_by : Mode → Looked → Named → Window
window_by mode k named = by_mode mode (window_of k named) (shared_window k named)

abbrev pub row_windows : Looked → ℕ → List Window
row_windows k n = map (window_by k.mode k) (row_at k.tables n)

abbrev pub part_windows : Looked → Option ℕ → List Window
part_windows k None = []
part_windows k (Some n) = row_windows k n

abbrev pub body_windows : Looked → FunctionKey → List Window
body_windows k f = part_windows k (body_number k.tables.chunks f)

-- The windows of the bodies of functions behind the imports, then of the live segments that aren't zero, each as much later as the place of
-- its source says.
abbrev pub moved_sources : Looked → List ℕ → List ℕ → List Window
moved_sources k live places =
    moved_windows places (map (body_windows k) (defined k.numbers.functions))
    ++ moved_windows (drop (length (defined k.numbers.functions)) places) (map (row_windows k) (filter (is_solid_at k) live))
