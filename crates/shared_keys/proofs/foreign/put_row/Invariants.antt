use Rattle.std.proofs.Common.{◌≡◌, Some, take}
use Rattle.shared_keys.specs.Foreign.{put_row}
use Rattle.shared_keys.proofs.foreign.put_row.Given as goal

abbrev pub invariant-loop-named : goal.invariant-loop-named
invariant-loop-named l = put_row l.names.names l.resolution.imports l.symbols (Some l.fn.cells.keys) (take l.named-index l.row) ≡ Some l.cells.keys
