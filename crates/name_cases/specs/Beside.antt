-- A symbol beside the one that the column tells for its name.
use Rattle.std.specs.Prelude.{ℕ, Bool, false, ◌&&◌, ◌==◌, List, slice_index_or, if◌then◌else◌, Option, Some, None, option_and_then}
use Rattle.name_entries.specs.wl_base.Choice.{given}
use Rattle.name_entries.specs.name_rules.declared.case.PairCase.{PairCase}
use Rattle.name_entries.specs.name_rules.Entries.{InputSymbol}
use Rattle.name_cases.specs.declared.rows.Spot.{Spot}
use Rattle.name_cases.specs.declared.question.Question.{Question}
use Rattle.name_cases.specs.Rows.{symbol_in}
use Rattle.name_cases.specs.Search.{contradicts, counted_number}

abbrev pub same_spot : Spot → Spot → Bool
same_spot a b = (a.row == b.row) && (a.place == b.place)

abbrev pub input_of : Option InputSymbol → ℕ
input_of None = 0
input_of (Some e) = e.input

-- whether both are there and can't stand together
abbrev pub both_contradict : Question → Option InputSymbol → Option InputSymbol → Bool
both_contradict q None e = false
both_contradict q (Some a) None = false
both_contradict q (Some a) (Some e) = contradicts q a e

abbrev pub spot_beside : Question → List (List InputSymbol) → Spot → ℕ → Spot → Option PairCase
spot_beside q rows s n f =
    if same_spot f s then None
    else given (both_contradict q (symbol_in rows f) (symbol_in rows s)) (record { name = n; first = input_of (symbol_in rows f); other = input_of (symbol_in rows s) })

-- the number of the name of a symbol that counts
abbrev pub number_at : Question → List (List ℕ) → List (List InputSymbol) → Spot → Option ℕ
number_at q names rows s = option_and_then (counted_number q names) (symbol_in rows s)

-- The case that a symbol is, by the column.
abbrev pub spot_case : Question → List (List ℕ) → List (List InputSymbol) → List (Option Spot) → Spot → Option PairCase
spot_case q names rows column s = option_and_then (λ n. option_and_then (spot_beside q rows s n) (slice_index_or column n None)) (number_at q names rows s)
