use Rattle.std.proofs.Common.{◌≡◌, take}
use Rattle.object_columns.proofs.imports.Imports.of.Given as goal

abbrev pub invariant-loop-import : goal.invariant-loop-import
invariant-loop-import l = l.list ≡ take l.import-index l.imports
