use Rattle.std.proofs.Common.{◌≡◌, take}
use Rattle.std.specs.Prelude.{filter_map}
use Rattle.program_tables.specs.Views.{view_seen}
use Rattle.program_tables.specs.Rows.{window_named}
use Rattle.program_tables.proofs.view.ObjectView.name_windows.Given as goal

abbrev pub invariant-loop-window : goal.invariant-loop-window
invariant-loop-window l = l.row ≡ filter_map (window_named (view_seen l.self)) (take l.window-index l.windows)
