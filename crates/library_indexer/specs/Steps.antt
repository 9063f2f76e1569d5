-- What is given symbol by symbol, and member by member; and where members lay before an index that gives nothing was put in.
use Rattle.std.specs.Prelude.{ℕ, ◌&&◌, List, [], ◌∷◌, ◌++◌, ◌-◌, map, Option, Some, None, if◌then◌else◌, slice_get, option_and_then}
use Rattle.std.specs.List.{flat_map, list_all}
use Rattle.wl_base.specs.declared.span.Span.{Span}
use Rattle.linking_section.specs.declared.symbol.Symbol.{Symbol}
use Rattle.linking_section.specs.Flags.{is_definition}
use Rattle.library_indexer.specs.declared.entries.Entries.{Entries}
use Rattle.library_indexer.specs.Index.{moved_by}
use Rattle.library_indexer.specs.Indexed.{ended, can_be_told, text_in, places_in, tells}

-- The name that a symbol defines for other objects.
abbrev pub defined_by : Symbol → Option (List ℕ)
defined_by s = if is_definition s then s.name else None

-- The same for the symbol at a place.
abbrev pub defined_at : List Symbol → ℕ → Option (List ℕ)
defined_at symbols at = option_and_then defined_by (slice_get symbols at)

abbrev pub listed : Option (List ℕ) → List (List ℕ)
listed None = []
listed (Some name) = name ∷ []

-- What is given with these names too, for the member whose header stands at this place.
abbrev pub with_names : Entries → ℕ → List (List ℕ) → Entries
with_names e place names = record {
  text = e.text ++ flat_map ended names;
  places = e.places ++ map (λ name. place) names;
  told = e.told && list_all can_be_told names;
}

-- What is given with a member too.
abbrev pub with_member : List ℕ → Entries → Span → Entries
with_member bytes e member = record {
  text = e.text ++ text_in bytes member;
  places = e.places ++ places_in bytes member;
  told = e.told && tells bytes member;
}

-- The data of an index that gives nothing are 4 bytes.
abbrev pub moved_back : Span → Span
moved_back m = record { start = m.start - moved_by 4; len = m.len }
