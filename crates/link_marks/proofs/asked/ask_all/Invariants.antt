use Rattle.std.proofs.Common.{ℕ, List, ◌++◌, take}
use Rattle.link_marks.specs.Asked.{IsAsked}
use Rattle.link_marks.proofs.asked.ask_all.Given as goal

abbrev pub invariant-loop-word : goal.invariant-loop-word
invariant-loop-word l = (words : List (List ℕ)) → IsAsked l.names.names words l.fn.asked → IsAsked l.names.names (words ++ take l.word-index l.more) l.asked
