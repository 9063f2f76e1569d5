use Rattle.std.proofs.Common.{◌≡◌, take}
use Rattle.link_command.proofs.asked.copied_names.Given as goal

abbrev pub invariant-loop-name : goal.invariant-loop-name
invariant-loop-name l = l.all ≡ take l.name-index l.names
