use Rattle.std.proofs.Common.{◌≡◌, ◌+◌, length}
use Rattle.partial_rules.specs.PartialLink.{first_not_plain}
use Rattle.partial_inputs.proofs.plain.first_not_plain.Given as goal

abbrev pub invariant-loop-left : goal.invariant-loop-left
invariant-loop-left l = (first_not_plain l.file l.left l.behind ≡ first_not_plain 0 l.words l.files) × (l.file + length l.left ≡ length l.words)

abbrev pub decreases-loop-left : goal.decreases-loop-left
decreases-loop-left l = length l.left
