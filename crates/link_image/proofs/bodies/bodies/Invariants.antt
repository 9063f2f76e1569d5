use Rattle.std.proofs.Common.{◌≡◌, ◌++◌, filter_map, drop}
use Rattle.link_layout.specs.Layout.{looked}
use Rattle.link_image.specs.Sections.{apply_bytes, body_seen}
use Rattle.link_image.proofs.bodies.bodies.Given as goal

abbrev pub ghost-body : goal.ghost-body
ghost-body g a = g.s

abbrev pub invariant-loop-key : goal.invariant-loop-key
invariant-loop-key g l =
    l.bodies ++ filter_map (body_seen (apply_bytes g.s) (looked l.layout)) (drop l.key-index l.keys) ≡ filter_map (body_seen (apply_bytes g.s) (looked l.layout)) l.keys
