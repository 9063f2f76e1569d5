use Rattle.std.proofs.Common.{◌≡◌, fold, drop}
use Rattle.std.specs.Prelude.{length, replicate}
use Rattle.link_program.specs.name_entries.View.{rows_of}
use Rattle.partial_symbols.specs.Facts.{facts_of, facts_rows}
use Rattle.partial_symbols.specs.Columns.{noted, empty_column}
use Rattle.partial_symbols.proofs.columns.columns_of.Given as goal

abbrev pub invariant-loop-object : goal.invariant-loop-object
invariant-loop-object l = fold noted l.columns.items (facts_rows l.entries.names.now.names l.object (drop l.object (rows_of l.entries.objects.now)))
    ≡ fold noted (replicate (length l.entries.names.now.names) empty_column) (facts_of l.entries.names.now.names l.entries.objects.now)
