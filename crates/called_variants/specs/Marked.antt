-- The names that calls name, as the data show them.
use Rattle.std.specs.Prelude.{◌≡◌, ℕ, ◌==◌, Bool, false, List, map, fold, replicate, slice_index_or, Option, Some, None}
use Rattle.std.specs.List.{list_any}
use Rattle.link_keys.specs.link_program.wl_base.Names.{number_of}
use Rattle.link_keys.specs.link_program.name_rules.Entries.{ImportKey}
use Rattle.link_keys.specs.link_program.link_rules.Program.{Program}
use Rattle.link_keys.specs.link_program.link_rules.Marks.{refs_of}
use Rattle.link_keys.specs.link_program.declared.symbol.Symbol.{Symbol}
use Rattle.link_keys.specs.link_program.declared.named.Named.{Named}
use Rattle.link_keys.specs.link_program.declared.named.Named.TheVariants as names
use Rattle.link_keys.specs.link_program.declared.program.Tables.{Tables}
use Rattle.link_keys.specs.link_program.Seen.{no_symbol, seen_named, told_named}
use Rattle.link_keys.specs.Noted.{where_so, flagged}
use Rattle.called_variants.specs.Called.{calls}

-- The number of the name that a reference calls.
abbrev pub name_called : ℕ → Symbol → Option ℕ
name_called kind s = where_so (kind == 0) s.name

abbrev pub number_called : List Symbol → Named → Option ℕ
number_called symbols (names.Symbol kind place addend symbol) = name_called kind (slice_index_or symbols symbol no_symbol)
number_called symbols (names.Type place number) = None

-- It is marked.
abbrev pub marking : List Symbol → List Bool → Named → List Bool
marking symbols flags named = flagged flags (number_called symbols named)

-- All that parts call is marked, where there are so many names.
abbrev pub marked : ℕ → Tables → List Bool
marked count t = fold (λ flags row. fold (marking t.symbols) flags row) (replicate count false) t.named

-- The flags tell which names the calls of a program name.
abbrev pub AreMarks : List (List ℕ) → List Bool → Program → Type 0
AreMarks names flags p = (name : List ℕ) (i : ℕ) → number_of names name ≡ Some i → slice_index_or flags i false ≡ list_any (calls name) (refs_of p.parts)

-- What the tables name is what the parts of the program name, by the numbers of names.
pub record NameThese (names : List (List ℕ)) (t : Tables) (p : Program) : Type 0 where
  pub imports : List ImportKey
  pub named : map (map (seen_named t.symbols t.types)) t.named ≡ map (λ part. map (told_named names imports) part.named) p.parts
