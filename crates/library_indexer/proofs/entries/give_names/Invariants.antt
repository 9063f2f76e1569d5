use Rattle.std.proofs.Common.{◌≡◌, drop}
use Rattle.std.specs.Prelude.{filter_map}
use Rattle.round_rules.specs.Rounds.{defined_names}
use Rattle.library_indexer.specs.Steps.{defined_by, with_names}
use Rattle.library_indexer.proofs.entries.give_names.Given as goal

abbrev pub invariant-loop-at : goal.invariant-loop-at
invariant-loop-at l = with_names l.entries l.fn.place (filter_map defined_by (drop l.at l.object.symbols)) ≡ with_names l.fn.entries l.fn.place (defined_names l.object)
