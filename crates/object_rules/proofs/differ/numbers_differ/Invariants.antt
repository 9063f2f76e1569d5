use Rattle.std.proofs.Common.{◌≡◌, drop, nat_eq}
use Rattle.object_rules.specs.Differ.{all_differ}
use Rattle.object_rules.proofs.Seen.{differ_behind}
use Rattle.object_rules.proofs.differ.numbers_differ.Given as goal

abbrev pub invariant-loop-number : goal.invariant-loop-number
invariant-loop-number l = differ_behind nat_eq (λ key. key) l.seen.keys (drop l.number-index l.numbers) ≡ all_differ nat_eq l.numbers
