use Rattle.std.proofs.Common.{◌≡◌, [], drop, get_or}
use Rattle.wl_rows.proofs.Reading.{flat}
use Rattle.wl_rows.proofs.rows.row_in.Given as goal

abbrev pub invariant-loop-rows : goal.invariant-loop-rows
invariant-loop-rows g l = get_or (flat (drop l.rows-index l.pieces)) l.left [] ≡ get_or (flat l.pieces) l.at []
