use Rattle.link_program.specs.made_symbols.declared.mode.Mode.TheVariants.{Plain}
use Rattle.sym_world.proofs.steps.placed_world.Given as goal

abbrev pub ghost-place_segments : goal.ghost-place_segments
ghost-place_segments g a = g.s

abbrev pub ghost-number : goal.ghost-number
ghost-number g a = record { mode = Plain; program = g.s.program; exports = g.s.exports; parts = g.s.parts }

abbrev pub ghost-objects : goal.ghost-objects
ghost-objects g a = g.s
