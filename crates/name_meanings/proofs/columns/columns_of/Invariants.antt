use Rattle.std.proofs.Common.{take}
use Rattle.std.specs.Prelude.{flat_map}
use Rattle.name_entries.specs.View.{rows_of}
use Rattle.name_meanings.specs.Columns.{AreColumnsOf}
use Rattle.name_meanings.proofs.columns.columns_of.Given as goal

abbrev pub invariant-loop-object : goal.invariant-loop-object
invariant-loop-object l = AreColumnsOf l.entries (flat_map (λ r. r) (take l.object (rows_of l.entries.objects.now))) l.columns.items
