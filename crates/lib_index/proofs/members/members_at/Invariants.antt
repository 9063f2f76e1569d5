use Rattle.std.proofs.Common.{◌≡◌, ◌≤◌, length}
use Rattle.lib_index.specs.Reading.{members_at}
use Rattle.lib_index.proofs.MemberSteps.{with_front}
use Rattle.lib_index.proofs.members.members_at.Given as goal

abbrev pub invariant-loop-rest : goal.invariant-loop-rest
invariant-loop-rest l = record {
  so_far : with_front l.members (members_at (length l.rest) l.end l.rest) ≡ members_at (length l.bytes) l.end l.bytes;
  within : length l.rest ≤ l.end;
}

abbrev pub decreases-loop-rest : goal.decreases-loop-rest
decreases-loop-rest l = length l.rest
