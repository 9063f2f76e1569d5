use Rattle.std.proofs.Common.{◌≡◌, take, fold}
use Rattle.link_keys.specs.Noted.{noted}
use Rattle.link_keys.proofs.marking.note_row.Given as goal

abbrev pub invariant-loop-named : goal.invariant-loop-named
invariant-loop-named l = l.marks ≡ fold (noted l.symbols l.code) l.fn.marks (take l.named-index l.row)
