use Rattle.std.proofs.Common.{◌≡◌, ◌++◌, drop, map, Some}
use Rattle.run_modules.proofs.starts.write_functions.Given as goal

abbrev pub invariant-loop-function : goal.invariant-loop-function
invariant-loop-function l = l.entries.items ++ map Some (drop l.function-index l.functions) ≡ map Some l.functions
