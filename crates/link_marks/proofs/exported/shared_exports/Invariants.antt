use Rattle.link_program.specs.link_rules.Marks.{exports_without, has_calls}
use Rattle.link_marks.proofs.exported.shared_exports.Given as goal

abbrev pub ghost-due_exports : goal.ghost-due_exports
ghost-due_exports g a = g.p

abbrev pub ghost-has_work : goal.ghost-has_work
ghost-has_work g a = record { program = g.p; exports = exports_without g.p (has_calls g.p) }
