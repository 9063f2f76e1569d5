use Rattle.std.proofs.Common.{◌≡◌, take}
use Rattle.link_keys.specs.Joined.{either_flag}
use Rattle.link_keys.proofs.marks.join_flags.Given as goal

abbrev pub invariant-loop-at : goal.invariant-loop-at
invariant-loop-at l = l.flags ≡ either_flag l.fn.flags (take l.at l.more)
