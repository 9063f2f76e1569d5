-- The symbols of the loaded objects, as the passes look at them.
use Rattle.std.specs.Prelude.{ℕ, ◌+◌, List, [], ◌∷◌, ◌++◌, map, is_some}
use Rattle.link_program.specs.linking_section.Flags.{is_weak, is_explicit}
use Rattle.link_program.specs.object_file.declared.object.Object.{Object}
use Rattle.link_program.specs.name_rules.Entries.{InputSymbol}
use Rattle.link_program.specs.name_entries.View.{rows_of, entry_number}
use Rattle.partial_symbols.specs.declared.facts.Fact.{Fact}
use Rattle.partial_symbols.specs.declared.facts.At.{At}
use Rattle.partial_symbols.specs.declared.facts.Spot.{Spot}

-- A symbol of the object that has this place among the objects, by the numbers of names.
abbrev pub fact_of : List (List ℕ) → ℕ → InputSymbol → Fact
fact_of names object e = record {
  object = object;
  input = e.input;
  place = e.place;
  number = entry_number names e;
  kind = e.symbol.kind;
  defines = e.defines;
  weak = is_weak e.symbol;
  explicit = is_explicit e.symbol;
  imported = is_some e.import;
}

abbrev pub at_of : Fact → At
at_of f = record { object = f.object; place = f.place }

abbrev pub spot_of : Fact → Spot
spot_of f = record { input = f.input; place = f.place }

-- The symbols of objects that stand one behind another, from a place on.
abbrev pub facts_rows : List (List ℕ) → ℕ → List (List InputSymbol) → List Fact
facts_rows names object [] = []
facts_rows names object (row ∷ rows) = map (fact_of names object) row ++ facts_rows names (object + 1) rows

-- The symbols of all objects.
abbrev pub facts_of : List (List ℕ) → List Object → List Fact
facts_of names objects = facts_rows names 0 (rows_of objects)
