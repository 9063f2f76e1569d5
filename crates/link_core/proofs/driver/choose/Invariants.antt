use Rattle.link_output.specs.link_program.link_rules.Marks.{live}
use Rattle.link_core.specs.Chosen.{exports_of}
use Rattle.link_core.proofs.driver.choose.Given as goal

abbrev pub ghost-exports : goal.ghost-exports
ghost-exports g a = g.p

abbrev pub ghost-repeated_export : goal.ghost-repeated_export
ghost-repeated_export g a = record { program = g.p; exports = exports_of g.p }

abbrev pub ghost-live_parts : goal.ghost-live_parts
ghost-live_parts g a = record { program = g.p; exports = exports_of g.p }

abbrev pub ghost-first_fixed : goal.ghost-first_fixed
ghost-first_fixed g a = record { program = g.p; parts = live g.p (exports_of g.p) }

abbrev pub ghost-unresolved : goal.ghost-unresolved
ghost-unresolved g a = record { program = g.p; parts = live g.p (exports_of g.p) }

abbrev pub ghost-uncalled : goal.ghost-uncalled
ghost-uncalled g a = record { program = g.p; parts = live g.p (exports_of g.p) }
