use Rattle.std.proofs.Common.{◌≡◌, map, take}
use Rattle.sym_parts.specs.Sought.{place_code}
use Rattle.sym_parts.proofs.rows.row_places.Given as goal

abbrev pub invariant-loop-named : goal.invariant-loop-named
invariant-loop-named l = l.codes.items ≡ map place_code (take l.named-index l.row)
