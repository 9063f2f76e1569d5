use Rattle.std.proofs.Common.{drop}
use Rattle.reloc_apply.specs.Apart.{AreApart}
use Rattle.layout_tests.proofs.apart.are_apart.Given as goal

abbrev pub invariant-loop-patch : goal.invariant-loop-patch
invariant-loop-patch l = AreApart l.at l.end (drop l.patch-index l.patches) → AreApart 0 l.end l.patches
