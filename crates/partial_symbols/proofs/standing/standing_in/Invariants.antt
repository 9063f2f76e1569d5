use Rattle.std.proofs.Common.{◌≡◌, fold, drop}
use Rattle.std.specs.Prelude.{length}
use Rattle.link_program.specs.name_entries.View.{rows_of}
use Rattle.partial_symbols.specs.Facts.{facts_of, facts_rows}
use Rattle.partial_symbols.specs.Standing.{stood, all_stood}
use Rattle.partial_symbols.proofs.standing.standing_in.Given as goal

abbrev pub invariant-loop-object : goal.invariant-loop-object
invariant-loop-object l = fold (stood l.sight) l.standing (facts_rows l.entries.names.now.names l.object (drop l.object (rows_of l.entries.objects.now)))
    ≡ all_stood l.sight (length l.entries.names.now.names) (facts_of l.entries.names.now.names l.entries.objects.now)
