use Rattle.std.proofs.Common.{◌≡◌, ◌++◌, drop}
use Rattle.lib_index.specs.Library.{spans}
use Rattle.lib_index.proofs.members.spans.Given as goal

abbrev pub invariant-loop-member : goal.invariant-loop-member
invariant-loop-member l = l.found ++ spans (drop l.member-index l.members) ≡ spans l.members
