-- What the tables of a program tell of its names.
use Rattle.std.specs.Prelude.{ℕ, false, List, length, replicate, fold, None}
use Rattle.link_program.specs.object_file.declared.object.Object.{Object}
use Rattle.link_program.specs.declared.program.Tables.{Tables}
use Rattle.partial_symbols.specs.Facts.{facts_of}
use Rattle.partial_symbols.specs.Columns.{empty_column, noted, won, flagged}
use Rattle.partial_symbols.specs.Standing.{Sight}

abbrev pub sight_of : Tables → List (List ℕ) → List Object → Sight
sight_of t names objects = record {
  winners = fold won (replicate (length names) None) t.winners;
  columns = fold noted (replicate (length names) empty_column) (facts_of names objects);
  named = fold (fold (flagged t.symbols)) (replicate (length names) false) t.named;
}
