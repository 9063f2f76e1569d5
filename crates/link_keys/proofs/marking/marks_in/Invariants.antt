use Rattle.std.proofs.Common.{◌≡◌, take}
use Rattle.link_keys.specs.Noted.{noted_parts, nothing_noted}
use Rattle.link_keys.proofs.marking.marks_in.Given as goal

abbrev pub invariant-loop-number : goal.invariant-loop-number
invariant-loop-number l = l.marks ≡ noted_parts l.tables (nothing_noted l.imports l.names) (take l.number-index l.live)
