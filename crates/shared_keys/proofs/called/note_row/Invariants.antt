use Rattle.std.proofs.Common.{◌≡◌, take, fold}
use Rattle.shared_keys.specs.Called.{flag_named}
use Rattle.shared_keys.proofs.called.note_row.Given as goal

abbrev pub invariant-loop-named : goal.invariant-loop-named
invariant-loop-named l = l.flags ≡ fold (flag_named l.symbols) l.fn.flags (take l.named-index l.row)
