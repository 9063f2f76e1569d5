-- The column of the least entries, by the numbers of their names.
use Rattle.std.specs.Prelude.{◌≡◌, ℕ, List, ◌++◌, length, slice_get, slice_set, slice_index_or, Option, Some, None, option_map}
use Rattle.name_entries.specs.name_rules.Entries.{InputSymbol}
use Rattle.name_cases.specs.declared.rows.Spot.{Spot}
use Rattle.name_cases.specs.declared.question.Question.{Question}
use Rattle.name_cases.specs.Rows.{symbol_in}
use Rattle.name_cases.specs.Search.{least_of}

-- At the number of each name is told where the least of these entries stands that counts.
pub record AreFirsts (q : Question) (names : List (List ℕ)) (rows : List (List InputSymbol)) (es : List InputSymbol) (column : List (Option Spot)) : Type 0 where
  pub len : length column ≡ length names
  pub at : (i : ℕ) (name : List ℕ) → slice_get names i ≡ Some name → option_map (symbol_in rows) (slice_index_or column i None) ≡ option_map Some (least_of q es name)

-- A column of any entries becomes that of these and more.
abbrev pub Adds : Question → List (List ℕ) → List (List InputSymbol) → List (Option Spot) → List (Option Spot) → List InputSymbol → Type 0
Adds q names rows old new more = (es : List InputSymbol) → AreFirsts q names rows es old → AreFirsts q names rows (es ++ more) new

-- the column with a symbol where there was none
abbrev pub noted_at : List (Option Spot) → Spot → ℕ → Option Spot → List (Option Spot)
noted_at column s n None = slice_set column n (Some s)
noted_at column s n (Some f) = column

-- The column with a symbol that counts, by its name's number.
abbrev pub noted : List (Option Spot) → Spot → Option ℕ → List (Option Spot)
noted column s None = column
noted column s (Some n) = noted_at column s n (slice_index_or column n None)
