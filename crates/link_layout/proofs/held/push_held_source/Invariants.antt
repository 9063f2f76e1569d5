use Rattle.std.proofs.Common.{◌≡◌, map, drop}
use Rattle.link_program.specs.made_symbols.declared.mode.Mode.TheVariants.{Shared}
use Rattle.link_program.specs.Moved.{moved_window}
use Rattle.link_layout.specs.Rows.{shared_window}
use Rattle.link_layout.specs.Put.{written_on}
use Rattle.link_layout.specs.Layout.{looked}
use Rattle.link_layout.proofs.held.push_held_source.Given as goal

abbrev pub invariant-loop-named : goal.invariant-loop-named
invariant-loop-named l =
    written_on Shared l.patches.patches (map (moved_window l.source.place) (map (shared_window (looked l.layout)) (drop l.named-index l.row)))
    ≡ written_on Shared l.fn.patches.patches (map (moved_window l.source.place) (map (shared_window (looked l.layout)) l.row))
