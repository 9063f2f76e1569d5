use Rattle.std.proofs.Common.{◌≡◌, ◌+◌, drop}
use Rattle.link_program.specs.round_rules.Inputs.{members_from, members_of}
use Rattle.link_inputs.specs.Reading.{fault_of, file_at}
use Rattle.link_inputs.proofs.whole.read_members.Given as goal

abbrev pub invariant-loop-member : goal.invariant-loop-member
invariant-loop-member l =
    fault_of (members_from l.library (file_at l.files l.library.file) (l.library.first + l.member) l.member (drop l.member l.library.library.members))
    ≡ fault_of (members_of l.files l.library)
