use Rattle.std.proofs.Common.{◌≡◌, ◌++◌, drop, map}
use Rattle.run_rules.specs.Modules.{export_of}
use Rattle.run_modules.specs.Cells.{cell_seen}
use Rattle.run_modules.proofs.world.exports_of.Given as goal

abbrev pub invariant-loop-export : goal.invariant-loop-export
invariant-loop-export l = l.all ++ map (export_of (cell_seen l.cells)) (drop l.export-index l.exports) ≡ map (export_of (cell_seen l.cells)) l.exports
