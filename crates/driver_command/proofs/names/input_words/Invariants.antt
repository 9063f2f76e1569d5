use Rattle.std.proofs.Common.{◌≡◌, ◌++◌, drop, map}
use Rattle.link_words.specs.Words.{word}
use Rattle.driver_command.proofs.names.input_words.Given as goal

abbrev pub invariant-loop-input : goal.invariant-loop-input
invariant-loop-input l =
    l.names ++ map (word l.own) (map (λ i. i.place) (drop l.input-index l.input-items)) ≡ map (word l.own) (map (λ i. i.place) l.input-items)
