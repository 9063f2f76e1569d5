use Rattle.std.proofs.Common.{◌≡◌, filter, take}
use Rattle.shared_keys.specs.Lists.{is_own_function}
use Rattle.shared_keys.proofs.slots.own_functions_of.Given as goal

abbrev pub invariant-loop-key : goal.invariant-loop-key
invariant-loop-key l = l.own.items ≡ filter is_own_function (take l.key-index l.keys)
