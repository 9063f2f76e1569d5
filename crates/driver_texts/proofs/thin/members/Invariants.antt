use Rattle.std.proofs.Common.{◌≡◌, ◌++◌, ◌-◌, length}
use Rattle.driver_texts.specs.Thin.{members_from, members_of}
use Rattle.driver_texts.proofs.thin.members.Given as goal

abbrev pub invariant-loop : goal.invariant-loop
invariant-loop l = l.names ++ members_from (length l.text - l.counter) l.longs l.left ≡ members_of l.text
