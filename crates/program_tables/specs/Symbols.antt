-- The symbols of all objects, by the answers of a resolution.
use Rattle.std.specs.Prelude.{ℕ, ◌+◌, List, [], ◌∷◌, map, flat_map, length}
use Rattle.link_program.specs.name_rules.Entries.{InputSymbol}
use Rattle.link_program.specs.name_entries.View.{rows_of, entry_number}
use Rattle.link_program.specs.name_entries.Fits.{FitsObjects}
use Rattle.link_program.specs.name_meanings.Means.{answer_at}
use Rattle.link_program.specs.declared.symbol.Symbol.{Symbol}
use Rattle.program_tables.specs.declared.symbols.Sources.{Sources}
use Rattle.program_tables.specs.Objects.{ArePlaces}
use Rattle.program_tables.specs.Leads.{lead_at, AreAnswered}

-- What symbols can be looked up in.
pub record AreSources (s : Sources) : Type 0 where
  pub fits : FitsObjects s.entries
  pub places : ArePlaces s.entries.objects.now s.places.now
  pub answers : AreAnswered s.mode s.entries.objects.now s.resolution.now

abbrev pub symbol_of : Sources → InputSymbol → Symbol
symbol_of s e = record {
  kind = e.symbol.kind;
  name = entry_number s.entries.names.now.names e;
  lead = lead_at s.mode s.entries.objects.now (answer_at s.resolution.now e.input e.place);
}

-- The symbols of all objects, one object behind another.
abbrev pub symbols_of : Sources → List Symbol
symbols_of s = flat_map (λ row. map (symbol_of s) row) (rows_of s.entries.objects.now)

-- Where each row begins, if the rows stand one behind another from a place on.
abbrev pub starts : {A : Type 0} → ℕ → List (List A) → List ℕ
starts at [] = []
starts at (row ∷ rows) = at ∷ starts (at + length row) rows
