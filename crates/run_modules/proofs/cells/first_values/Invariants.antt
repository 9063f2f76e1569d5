use Rattle.std.proofs.Common.{◌≡◌, ◌++◌, drop}
use Rattle.run_rules.specs.Modules.{imported_globals, first_values}
use Rattle.run_modules.proofs.cells.first_values.Given as goal

abbrev pub invariant-loop-import : goal.invariant-loop-import
invariant-loop-import l = l.firsts ++ first_values l.session (imported_globals (drop l.import-index l.imports)) ≡ first_values l.session (imported_globals l.imports)
