use Rattle.std.proofs.Common.{◌≡◌, ◌++◌, map, drop}
use Rattle.driver_texts.specs.Paths.{member_path}
use Rattle.driver_words.proofs.inputs.put_members.Given as goal

abbrev pub invariant-loop-name : goal.invariant-loop-name
invariant-loop-name l = l.words ++ map (member_path l.path) (drop l.name-index l.names) ≡ l.initial.words ++ map (member_path l.path) l.names
