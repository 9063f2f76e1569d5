use Rattle.std.proofs.Common.{◌≡◌, ◌++◌, drop, reverse}
use Rattle.run_numbers.proofs.layers.Layered.push_all.Given as goal

abbrev pub invariant-loop-v : goal.invariant-loop-v
invariant-loop-v l = record {
  labels : l.self.labels ≡ l.fn.self.labels;
  values : reverse (drop l.v-index l.values) ++ l.self.values ≡ reverse l.values ++ l.fn.self.values;
}
