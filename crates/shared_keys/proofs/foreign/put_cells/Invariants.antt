use Rattle.std.proofs.Common.{◌≡◌, Some, take}
use Rattle.shared_keys.specs.Foreign.{put_parts}
use Rattle.shared_keys.proofs.foreign.put_cells.Given as goal

abbrev pub invariant-loop-number : goal.invariant-loop-number
invariant-loop-number l = put_parts l.program.names.now.names l.program.resolution.now.imports l.program.tables.now l.kind (Some l.fn.cells.keys) (take l.number-index l.live) ≡ Some l.cells.keys
