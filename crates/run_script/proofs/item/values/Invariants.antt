use Rattle.std.proofs.Common.{◌≡◌, map, drop}
use Rattle.run_script.specs.Items.{values_onto, values_in}
use Rattle.run_script.proofs.item.values.Given as goal

abbrev pub invariant-loop-word : goal.invariant-loop-word
invariant-loop-word l = values_onto l.values (map (λ w. w.now) (drop l.word-index l.words)) ≡ values_in (map (λ w. w.now) l.words)
