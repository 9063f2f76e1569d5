use Rattle.std.proofs.Common.{take}
use Rattle.std.specs.Prelude.{flat_map}
use Rattle.link_names.specs.Interning.{Gains, one}
use Rattle.link_names.proofs.build.add_words.Given as goal

abbrev pub invariant-loop-word : goal.invariant-loop-word
invariant-loop-word l = Gains l.fn.table l.table (flat_map one (take l.word-index l.words))
