use Rattle.std.proofs.Common.{◌≡◌, ◌++◌, filter_map, drop}
use Rattle.link_program.specs.link_rules.ModeOf.{mode_of}
use Rattle.link_program.specs.link_rules.Values.{address_of}
use Rattle.link_program.specs.link_rules.Output.{layout}
use Rattle.link_layout.specs.Layout.{looked}
use Rattle.link_image.specs.Sections.{global_made}
use Rattle.link_image.proofs.made_globals.globals.Given as goal

abbrev pub ghost-global : goal.ghost-global
ghost-global g a = g.s

abbrev pub invariant-loop-key : goal.invariant-loop-key
invariant-loop-key g l =
    l.globals ++ filter_map (global_made l.mode (address_of (mode_of g.s.program.plan) (layout (mode_of g.s.program.plan) g.s.program g.s.parts g.s.exports)) (looked l.layout)) (drop l.key-index l.keys)
    ≡ filter_map (global_made l.mode (address_of (mode_of g.s.program.plan) (layout (mode_of g.s.program.plan) g.s.program g.s.parts g.s.exports)) (looked l.layout)) l.keys
