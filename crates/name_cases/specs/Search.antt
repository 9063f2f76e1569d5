-- All questions in one form: an entry that counts is a case where the least one of its name that counts can't stand beside it.
use Rattle.std.specs.Prelude.{ℕ, Bool, true, not, ◌&&◌, List, [], ◌++◌, map, filter, find, if◌then◌else◌, Option, None, option_and_then}
use Rattle.name_entries.specs.wl_base.Choice.{first_some, given}
use Rattle.name_entries.specs.name_rules.declared.case.PairCase.{PairCase}
use Rattle.name_entries.specs.name_rules.Entries.{InputSymbol, name_of, is_named, same_entry}
use Rattle.name_entries.specs.name_rules.Cases.{clashes_with, is_strong, differs, breaks, mismatches}
use Rattle.name_entries.specs.View.{entry_number}
use Rattle.name_cases.specs.declared.question.Question.{Question}
use Rattle.name_cases.specs.declared.question.Question.TheVariants.{Clashes, Duplicates, Imports, Judged, Mismatches, Definitions}

abbrev pub counts : Question → InputSymbol → Bool
counts Clashes e = true
counts Duplicates e = is_strong e
counts Imports e = true
counts Judged e = true
counts Mismatches e = true
counts Definitions e = e.defines

-- whether the entry can't stand beside the first one
abbrev pub contradicts : Question → InputSymbol → InputSymbol → Bool
contradicts Clashes a e = clashes_with a e
contradicts Duplicates a e = not (same_entry a e)
contradicts Imports a e = differs a e
contradicts Judged a e = breaks a e
contradicts Mismatches a e = mismatches a e
contradicts Definitions a e = breaks a e

-- The entries among which the least of a name is looked up: definitions come before the others where these are judged by them.
abbrev pub before : Question → List InputSymbol → List InputSymbol
before Clashes es = []
before Duplicates es = []
before Imports es = []
before Judged es = filter (λ e. e.defines) es
before Mismatches es = filter (λ e. e.defines) es
before Definitions es = []

abbrev pub compared : Question → List InputSymbol → List InputSymbol
compared q es = before q es ++ es

-- The least entry of a name that counts.
abbrev pub least_of : Question → List InputSymbol → List ℕ → Option InputSymbol
least_of q all name = find (λ e. counts q e && is_named name e) all

-- The number of the name of an entry that counts.
abbrev pub counted_number : Question → List (List ℕ) → InputSymbol → Option ℕ
counted_number q names e = if counts q e then entry_number names e else None

-- the case that an entry is beside the least one, by its name's number
abbrev pub case_beside : Question → InputSymbol → ℕ → InputSymbol → Option PairCase
case_beside q e n a = given (contradicts q a e) (record { name = n; first = a.input; other = e.input })

abbrev pub case_numbered : Question → List InputSymbol → InputSymbol → ℕ → Option PairCase
case_numbered q all e n = option_and_then (case_beside q e n) (least_of q all (name_of e))

-- The case that a symbol is. One that is no entry of a name, or doesn't count, is none.
abbrev pub case_at : Question → List (List ℕ) → List InputSymbol → InputSymbol → Option PairCase
case_at q names all e = option_and_then (case_numbered q all e) (counted_number q names e)

-- The least case of a row, by place.
abbrev pub case_in : Question → List (List ℕ) → List InputSymbol → List InputSymbol → Option PairCase
case_in q names all row = first_some (map (case_at q names all) row)
