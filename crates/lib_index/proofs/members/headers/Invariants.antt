use Rattle.std.proofs.Common.{◌≡◌, ◌++◌, drop}
use Rattle.lib_index.specs.Library.{headers}
use Rattle.lib_index.proofs.members.headers.Given as goal

abbrev pub invariant-loop-member : goal.invariant-loop-member
invariant-loop-member l = l.places ++ headers (drop l.member-index l.members) ≡ headers l.members
