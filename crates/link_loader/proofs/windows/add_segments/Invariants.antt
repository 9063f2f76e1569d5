use Rattle.std.proofs.Common.{◌≡◌, ◌++◌, filter, flat_map, drop}
use Rattle.link_layout.specs.Seen.{is_solid_at}
use Rattle.link_layout.specs.Layout.{looked}
use Rattle.link_loader.specs.Words.{segment_words}
use Rattle.link_loader.specs.Layout.{loading}
use Rattle.link_loader.proofs.windows.add_segments.Given as goal

abbrev pub ghost-add_segment : goal.ghost-add_segment
ghost-add_segment g a = g.s

abbrev pub invariant-loop-number : goal.invariant-loop-number
invariant-loop-number g l =
    l.words ++ flat_map (segment_words (loading g.s l.layout)) (filter (is_solid_at (looked l.layout)) (drop l.number-index l.live))
    ≡ l.initial.words ++ flat_map (segment_words (loading g.s l.layout)) (filter (is_solid_at (looked l.layout)) l.live)
