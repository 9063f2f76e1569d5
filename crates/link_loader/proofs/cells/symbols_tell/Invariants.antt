use Rattle.std.proofs.Common.{◌≡◌, drop}
use Rattle.link_loader.specs.Cells.{all_tell}
use Rattle.link_loader.proofs.cells.symbols_tell.Given as goal

abbrev pub invariant-loop-at : goal.invariant-loop-at
invariant-loop-at l =
    all_tell l.program.names.now.names l.program.resolution.now.imports l.program.resolution.now.cells l.at (drop l.at l.program.tables.now.symbols)
    ≡ all_tell l.program.names.now.names l.program.resolution.now.imports l.program.resolution.now.cells 0 l.program.tables.now.symbols
