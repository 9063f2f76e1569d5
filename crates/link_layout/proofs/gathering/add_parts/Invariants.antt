use Rattle.std.proofs.Common.{◌≡◌, ◌++◌, map, drop}
use Rattle.link_program.specs.Moved.{moved_windows}
use Rattle.link_layout.specs.Rows.{part_windows}
use Rattle.link_layout.specs.Sources.{windows_of}
use Rattle.link_layout.specs.Layout.{looked}
use Rattle.link_layout.proofs.gathering.add_parts.Given as goal

abbrev pub invariant-loop-i : goal.invariant-loop-i
invariant-loop-i l =
    windows_of (looked l.layout) l.sources.items ++ moved_windows (drop l.i l.places) (map (part_windows (looked l.layout)) (drop l.i l.numbers))
    ≡ windows_of (looked l.layout) l.fn.sources.items ++ moved_windows l.places (map (part_windows (looked l.layout)) l.numbers)
