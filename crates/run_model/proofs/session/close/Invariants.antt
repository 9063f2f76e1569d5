use Rattle.std.proofs.Common.{◌≡◌, drop, ◌++◌}
use Rattle.run_rules.specs.Runs.{export_values}
use Rattle.run_model.proofs.session.close.Given as goal

abbrev pub invariant-loop-e : goal.invariant-loop-e
invariant-loop-e l = l.globals ++ export_values l.cells.items (drop l.e-index l.world.exports) ≡ export_values l.cells.items l.world.exports
