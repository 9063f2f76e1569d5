use Rattle.std.proofs.Common.{◌≡◌, ◌++◌, drop, map}
use Rattle.driver_lines.specs.Members.{name_in, long_names}
use Rattle.driver_lines.proofs.inputs.add_members.Given as goal

abbrev pub invariant-loop-k : goal.invariant-loop-k
invariant-loop-k l =
    l.names ++ map (name_in l.name l.bytes (long_names l.bytes)) (drop l.k l.library.members)
    ≡ l.initial.names ++ map (name_in l.name l.bytes (long_names l.bytes)) l.library.members
