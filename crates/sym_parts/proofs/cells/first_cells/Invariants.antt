use Rattle.std.proofs.Common.{◌≡◌, map, take, Some}
use Rattle.sym_parts.specs.Data.{cell_seen}
use Rattle.sym_parts.proofs.cells.first_cells.Given as goal

abbrev pub invariant-loop-key : goal.invariant-loop-key
invariant-loop-key l = map (cell_seen l.tables l.resolution.imports l.top) (take l.key-index l.keys) ≡ map Some l.cells
