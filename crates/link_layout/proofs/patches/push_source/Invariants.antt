use Rattle.std.proofs.Common.{◌≡◌, map, drop}
use Rattle.link_program.specs.made_symbols.declared.mode.Mode.TheVariants.{Plain}
use Rattle.link_program.specs.Moved.{moved_window}
use Rattle.link_layout.specs.Seen.{window_of}
use Rattle.link_layout.specs.Put.{written_on}
use Rattle.link_layout.specs.Layout.{looked}
use Rattle.link_layout.proofs.patches.push_source.Given as goal

abbrev pub invariant-loop-named : goal.invariant-loop-named
invariant-loop-named l =
    written_on Plain l.patches.patches (map (moved_window l.source.place) (map (window_of (looked l.layout)) (drop l.named-index l.row)))
    ≡ written_on Plain l.fn.patches.patches (map (moved_window l.source.place) (map (window_of (looked l.layout)) l.row))
