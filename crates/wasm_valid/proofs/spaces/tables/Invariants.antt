use Rattle.std.proofs.Common.{◌≡◌, ◌++◌}
use Rattle.std.specs.Prelude.{take}
use Rattle.wasm_valid.specs.Spaces.{a_table, imported}
use Rattle.wasm_valid.proofs.spaces.tables.Given as goal

abbrev pub invariant-loop-table : goal.invariant-loop-table
invariant-loop-table l = l.found ≡ imported a_table l.m.imports ++ take l.table-index l.m.tables
