-- The number of a case is that of a name.
use Rattle.std.proofs.Common.{ℕ, Bool, true, false, cond, List, [], ◌∷◌, map, Option, Some, None, sym, subst}
use Rattle.std.specs.List.{AllByRecursion}
use Rattle.std.specs.Option.{option_and_then}
use Rattle.std.proofs.lemmas.Option.{slice_get_within}
use Rattle.name_entries.specs.wl_base.Choice.{first_some, given}
use Rattle.name_entries.specs.object_file.declared.object.Object.{Object}
use Rattle.name_entries.specs.made_symbols.declared.mode.Mode.{Mode}
use Rattle.name_entries.specs.link_names.Numbered.{Numbered, AreNumbers}
use Rattle.name_entries.specs.name_rules.declared.case.PairCase.{PairCase}
use Rattle.name_entries.specs.name_rules.Entries.{InputSymbol, name_of}
use Rattle.name_entries.specs.View.{entry_number}
use Rattle.name_cases.specs.declared.question.Question.{Question}
use Rattle.name_cases.specs.Rows.{all_rows, entries_in}
use Rattle.name_cases.specs.Search.{counts, contradicts, least_of, case_beside, case_numbered, case_at, case_in, compared}
use Rattle.name_cases.specs.Told.{IsNamed}
use Rattle.name_cases.proofs.Found.{IsNumbered, by_rows}
use Rattle.name_cases.proofs.Held.{entries_held}

module _ (q : Question) (names : List (List ℕ)) (all : List InputSymbol) where
  case_named : (e : InputSymbol) → IsNumbered names e → IsNamed names (case_at q names all e)
  case_named e numbered = by (counts q e)
    where
      judged : (a : InputSymbol) (r : Bool) → IsNamed names (given r (record { name = numbered.0; first = a.input; other = e.input }))
      judged a true = slice_get_within names numbered.0 (name_of e) numbered.2
      judged a false = tt

      beside : (o : Option InputSymbol) → IsNamed names (option_and_then (case_beside q e numbered.0) o)
      beside None = tt
      beside (Some a) = judged a (contradicts q a e)

      by : (r : Bool) → IsNamed names (option_and_then (case_numbered q all e) (cond r (entry_number names e) None))
      by false = tt
      by true = subst (λ (o : Option ℕ). IsNamed names (option_and_then (case_numbered q all e) o)) (sym numbered.1) (beside (least_of q all (name_of e)))

  first_named : (xs : List InputSymbol) → AllByRecursion (IsNumbered names) xs → IsNamed names (first_some (map (case_at q names all) xs))
  first_named [] numbered = tt
  first_named (e ∷ xs) numbered = by (case_at q names all e) (case_named e numbered.0) (first_named xs numbered.1)
    where
      by : (o : Option PairCase) → IsNamed names o → IsNamed names (first_some (map (case_at q names all) xs)) → IsNamed names (first_some (o ∷ map (case_at q names all) xs))
      by None is rest = rest
      by (Some c) is rest = is

pub least_named : (q : Question) (mode : Mode) (objects : List Object) (n : Numbered) → AreNumbers mode objects n
    → IsNamed n.names (first_some (map (case_in q n.names (compared q (entries_in (all_rows mode objects)))) (all_rows mode objects)))
least_named q mode objects n numbers =
    subst (IsNamed n.names) (sym (by_rows q n.names (compared q (entries_in (all_rows mode objects))) (all_rows mode objects)))
    (first_named q n.names (compared q (entries_in (all_rows mode objects))) (entries_in (all_rows mode objects)) (entries_held mode objects n numbers))
