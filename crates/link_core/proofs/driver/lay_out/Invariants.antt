use Rattle.link_output.specs.link_program.link_rules.ModeOf.{mode_of}
use Rattle.link_core.proofs.driver.lay_out.Given as goal

abbrev pub ghost-place_segments : goal.ghost-place_segments
ghost-place_segments g a = g.s.stage

abbrev pub ghost-number : goal.ghost-number
ghost-number g a = record { mode = mode_of g.s.stage.program.plan; program = g.s.stage.program; exports = g.s.stage.exports; parts = g.s.stage.parts }

abbrev pub ghost-make_ready : goal.ghost-make_ready
ghost-make_ready g a = g.s
