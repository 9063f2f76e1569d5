-- The cells of imported globals, as a list.
use Rattle.std.specs.Prelude.{ℕ, ◌+◌, List, [], ◌∷◌, Some, slice_get, unwrap_or}
use Rattle.wasm_types.specs.declared.table.GlobalType.{GlobalType}
use Rattle.wasm_types.specs.declared.import.Import.{Import}
use Rattle.run_rules.specs.Modules.{GlobalImport, cell_at}

abbrev pub global_of : Import → GlobalType → GlobalImport
global_of x g = record { from = x.«module»; field = x.field; kind = g }

-- of these, the first of which has this index
abbrev pub cells_from : List GlobalImport → ℕ → List GlobalImport → List ℕ
cells_from imports n [] = []
cells_from imports n (k ∷ ks) = cell_at imports n (Some k) ∷ cells_from imports (n + 1) ks

-- the cell of a global, by the cells of imported ones
abbrev pub cell_seen : List ℕ → ℕ → ℕ
cell_seen cells n = unwrap_or (slice_get cells n) n
