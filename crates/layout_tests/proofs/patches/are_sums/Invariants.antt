use Rattle.std.proofs.Common.{take}
use Rattle.std.specs.List.{All}
use Rattle.reloc_apply.specs.Windows.{IsSum}
use Rattle.layout_tests.proofs.patches.are_sums.Given as goal

abbrev pub invariant-loop-window : goal.invariant-loop-window
invariant-loop-window l = All IsSum (take l.window-index l.windows)
