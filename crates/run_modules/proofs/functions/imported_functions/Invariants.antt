use Rattle.std.proofs.Common.{◌≡◌, ◌++◌, drop}
use Rattle.run_rules.specs.Modules.{imported_functions}
use Rattle.run_modules.proofs.functions.imported_functions.Given as goal

abbrev pub invariant-loop-import : goal.invariant-loop-import
invariant-loop-import l = l.functions ++ imported_functions l.types (drop l.import-index l.imports) ≡ imported_functions l.types l.imports
