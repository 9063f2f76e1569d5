use Rattle.std.proofs.Common.{◌≡◌, ◌++◌, drop}
use Rattle.link_image.specs.Sections.{types_seen}
use Rattle.link_image.proofs.functions.defined_types.Given as goal

abbrev pub invariant-loop-at : goal.invariant-loop-at
invariant-loop-at l = l.numbers ++ types_seen (drop l.at l.types) (drop l.at l.keys) ≡ types_seen l.types l.keys
