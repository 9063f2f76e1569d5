-- All symbols of a link in rows, by place: the linker's own first, then those of each object.
use Rattle.std.specs.Prelude.{ℕ, List, [], ◌∷◌, filter, flat_map, slice_get, slice_index_or, Option}
use Rattle.name_entries.specs.object_file.declared.object.Object.{Object}
use Rattle.name_entries.specs.made_symbols.declared.mode.Mode.{Mode}
use Rattle.name_entries.specs.made_symbols.Made.{made}
use Rattle.name_entries.specs.name_rules.Entries.{InputSymbol, made_from, is_entry}
use Rattle.name_entries.specs.Fits.{Fits}
use Rattle.name_entries.specs.View.{rows_of}
use Rattle.name_cases.specs.declared.rows.Rows.{Rows}
use Rattle.name_cases.specs.declared.rows.Spot.{Spot}

abbrev pub all_rows : Mode → List Object → List (List InputSymbol)
all_rows mode objects = made_from 0 (made mode) ∷ rows_of objects

abbrev pub symbol_in : List (List InputSymbol) → Spot → Option InputSymbol
symbol_in rows s = slice_get (slice_index_or rows s.row []) s.place

-- The entries of all rows.
abbrev pub entries_in : List (List InputSymbol) → List InputSymbol
entries_in rows = filter is_entry (flat_map (λ row. row) rows)

-- ---- what the code's rows show

unfoldable pub rows_shown : Rows → List (List InputSymbol)
rows_shown r = all_rows r.mode r.view.objects.now

abbrev pub names_shown : Rows → List (List ℕ)
names_shown r = r.view.names.now.names

abbrev pub RowsFit : Rows → Type 0
RowsFit r = Fits r.mode r.view
