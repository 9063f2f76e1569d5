use Rattle.std.proofs.Common.{◌≡◌, take, fold}
use Rattle.partial_open.specs.Steps.{by_window}
use Rattle.partial_open.proofs.flags.mark_windows.Given as goal

abbrev pub invariant-loop-window : goal.invariant-loop-window
invariant-loop-window l = l.flags ≡ fold by_window l.fn.flags (take l.window-index l.windows)
