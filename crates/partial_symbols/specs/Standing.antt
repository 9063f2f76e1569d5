-- The symbols that stand in the object, and their numbers, as they are found.
use Rattle.std.specs.Prelude.{ℕ, ◌==◌, Bool, false, not, ◌&&◌, ◌||◌, List, [], ◌∷◌, ◌++◌, length, replicate, fold, slice_index_or, if◌then◌else◌, Option, Some, None}
use Rattle.std.specs.Option.{option_or}
use Rattle.link_program.specs.linking_section.declared.symbol.SymbolKind.TheVariants.{Section}
use Rattle.link_program.specs.linking_section.Flags.{kind_code}
use Rattle.partial_symbols.specs.declared.facts.Fact.{Fact}
use Rattle.partial_symbols.specs.declared.facts.At.{At}
use Rattle.partial_symbols.specs.declared.facts.Spot.{Spot}
use Rattle.partial_symbols.specs.declared.columns.Column.{Column}
use Rattle.partial_symbols.specs.Facts.{at_of}
use Rattle.partial_symbols.specs.Columns.{empty_column, changed_at}

-- What is known of names, by number: the winner that an object defines, what their entries tell, and whether a window names them.
pub record Sight : Type 0 where
  pub winners : List (Option Spot)
  pub columns : List Column
  pub named : List Bool

-- ---- which symbols stand

abbrev pub is_at : Fact → Option Spot → Bool
is_at f None = false
is_at f (Some s) = (f.input == s.input) && (f.place == s.place)

abbrev pub column_at : Sight → ℕ → Column
column_at v n = slice_index_or v.columns n empty_column

abbrev pub is_referenced : Sight → ℕ → Bool
is_referenced v n = (column_at v n).referenced || slice_index_or v.named n false

-- An entry stands where it is the winner, or without one the least entry of a name that is referenced.
abbrev pub stands_for : Sight → Fact → ℕ → Option Spot → Bool
stands_for v f n (Some w) = is_at f (Some w)
stands_for v f n None = is_at f (column_at v n).least && is_referenced v n

abbrev pub stands_by : Sight → Fact → Option ℕ → Bool
stands_by v f None = f.defines && not (kind_code f.kind == kind_code Section)
stands_by v f (Some n) = stands_for v f n (slice_index_or v.winners n None)

abbrev pub stands : Sight → Fact → Bool
stands v f = stands_by v f f.number

-- ---- their numbers

-- The symbols that stand, of each symbol of the objects its number there, and the number of the symbol that stands for a name.
pub record Stood : Type 0 where
  pub symbols : List At
  pub of_symbols : List (Option ℕ)
  pub of_names : List (Option ℕ)

abbrev pub none_stood : ℕ → Stood
none_stood names = record { symbols = []; of_symbols = []; of_names = replicate names None }

abbrev pub with_number : Stood → Fact → ℕ → Stood
with_number s f number = record {
  symbols = s.symbols ++ at_of f ∷ [];
  of_symbols = s.of_symbols ++ Some number ∷ [];
  of_names = changed_at None (λ o. option_or o (Some number)) s.of_names f.number;
}

abbrev pub without_number : Stood → Stood
without_number s = record { symbols = s.symbols; of_symbols = s.of_symbols ++ None ∷ []; of_names = s.of_names }

abbrev pub stood : Sight → Stood → Fact → Stood
stood v s f = if stands v f then with_number s f (length s.symbols) else without_number s

abbrev pub all_stood : Sight → ℕ → List Fact → Stood
all_stood v names facts = fold (stood v) (none_stood names) facts
