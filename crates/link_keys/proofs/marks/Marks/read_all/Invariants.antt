use Rattle.std.proofs.Common.{◌≡◌, take}
use Rattle.link_keys.specs.Joined.{with_all_read}
use Rattle.link_keys.proofs.marks.Marks.read_all.Given as goal

abbrev pub invariant-loop-key : goal.invariant-loop-key
invariant-loop-key l = l.self ≡ with_all_read l.fn.self (take l.key-index l.keys)
