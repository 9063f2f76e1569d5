use Rattle.std.proofs.Common.{◌≡◌, ◌++◌, drop}
use Rattle.std.specs.Prelude.{filter_map}
use Rattle.export_wrappers.specs.Wrapped.{wrapper_in}
use Rattle.export_wrappers.proofs.finding.wrappers.Given as goal

abbrev pub invariant-loop-e : goal.invariant-loop-e
invariant-loop-e l = l.all ++ filter_map (wrapper_in l.types l.imports l.functions) (drop l.e-index l.exports) ≡ filter_map (wrapper_in l.types l.imports l.functions) l.exports
