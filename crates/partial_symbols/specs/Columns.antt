-- The columns by the numbers of names, as they are filled.
use Rattle.std.specs.Prelude.{ℕ, ◌==◌, Bool, true, false, not, ◌&&◌, ◌||◌, List, slice_set, slice_index_or, if◌then◌else◌, Option, Some, None}
use Rattle.std.specs.Option.{option_or}
use Rattle.link_program.specs.wl_base.Choice.{given}
use Rattle.link_program.specs.declared.symbol.Symbol.{Symbol}
use Rattle.link_program.specs.declared.symbol.Winner.{Winner}
use Rattle.link_program.specs.declared.named.Named.{Named}
use Rattle.link_program.specs.declared.named.Named.TheVariants as names
use Rattle.link_program.specs.Seen.{no_symbol}
use Rattle.partial_symbols.specs.declared.facts.Fact.{Fact}
use Rattle.partial_symbols.specs.declared.facts.Spot.{Spot}
use Rattle.partial_symbols.specs.declared.columns.Column.{Column}
use Rattle.partial_symbols.specs.Facts.{at_of, spot_of}

-- ---- entries

abbrev pub empty_column : Column
empty_column = record { least = None; import = None; explicit_import = None; referenced = false; strong = false; explicit = false }

-- whether it is a reference, and whether one that stands on an import
abbrev pub refers : Fact → Bool
refers f = not f.defines

abbrev pub stands_on_import : Fact → Bool
stands_on_import f = refers f && f.imported

-- The column with one entry more.
abbrev pub with : Column → Fact → Column
with c f = record {
  least = option_or c.least (Some (spot_of f));
  import = option_or c.import (given (stands_on_import f) (at_of f));
  explicit_import = option_or c.explicit_import (given (stands_on_import f && f.explicit) (at_of f));
  referenced = c.referenced || refers f;
  strong = c.strong || (refers f && not f.weak);
  explicit = c.explicit || (refers f && f.explicit);
}

-- A list by the numbers of names, of which the place of a number is changed.
abbrev pub changed_at : {C : Type 0} → C → (C → C) → List C → Option ℕ → List C
changed_at empty step columns None = columns
changed_at empty step columns (Some n) = slice_set columns n (step (slice_index_or columns n empty))

abbrev pub noted : List Column → Fact → List Column
noted columns f = changed_at empty_column (λ c. with c f) columns f.number

-- ---- winners

-- The number of a winner's name, where an object defines it.
abbrev pub winner_number : Winner → Option ℕ
winner_number w = if w.definition.input == 0 then None else Some w.name

abbrev pub winner_spot : Winner → Spot
winner_spot w = record { input = w.definition.input; place = w.definition.place }

abbrev pub won : List (Option Spot) → Winner → List (Option Spot)
won column w = changed_at None (λ c. option_or c (Some (winner_spot w))) column (winner_number w)

-- ---- windows

-- The number of the name that a window or an init entry names.
abbrev pub named_number : List Symbol → Named → Option ℕ
named_number symbols (names.Symbol kind place addend symbol) = (slice_index_or symbols symbol no_symbol).name
named_number symbols (names.Type place number) = None

abbrev pub flagged : List Symbol → List Bool → Named → List Bool
flagged symbols flags n = changed_at false (λ b. true) flags (named_number symbols n)
