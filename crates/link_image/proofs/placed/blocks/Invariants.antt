use Rattle.std.proofs.Common.{◌≡◌, ◌++◌, map, filter, drop}
use Rattle.link_layout.specs.Seen.{is_solid_at}
use Rattle.link_layout.specs.Layout.{looked}
use Rattle.link_image.specs.Sections.{block_at}
use Rattle.link_image.proofs.placed.blocks.Given as goal

abbrev pub invariant-loop-number : goal.invariant-loop-number
invariant-loop-number l =
    l.blocks ++ map (block_at (looked l.layout)) (filter (is_solid_at (looked l.layout)) (drop l.number-index l.live)) ≡ map (block_at (looked l.layout)) (filter (is_solid_at (looked l.layout)) l.live)
