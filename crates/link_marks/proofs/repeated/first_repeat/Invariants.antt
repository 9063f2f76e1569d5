use Rattle.std.proofs.Common.{◌≡◌, ◌++◌, [], map, take, drop}
use Rattle.link_program.specs.link_rules.Marks.{first_repeat}
use Rattle.link_marks.specs.Names.{given_seen, memory_given, AreGiven}
use Rattle.link_marks.proofs.repeated.first_repeat.Given as goal

abbrev pub invariant-loop-winner : goal.invariant-loop-winner
invariant-loop-winner l =
    let see = given_seen l.objects l.names.names in
    let first = memory_given l.imports_memory in
    record {
      given : AreGiven (first ++ map see (take l.winner-index l.exports)) l.given.names.names l.given.inputs;
      rest : first_repeat (first ++ map see (take l.winner-index l.exports)) (map see (drop l.winner-index l.exports)) ≡ first_repeat [] (first ++ map see l.exports);
    }
