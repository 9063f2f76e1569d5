-- What the first case tells is the definition's least clash, or its least duplicate.
use Rattle.std.proofs.Common.{◌≡◌, List, [], ◌∷◌, map, Option, Some, None, refl, ap, ◌∙◌}
use Rattle.std.specs.Option.{option_map}
use Rattle.name_entries.specs.wl_base.Choice.{first_some}
use Rattle.name_entries.specs.wl_base.declared.fault.Fault.{Fault}
use Rattle.name_entries.specs.wl_base.declared.fault.Fault.TheVariants.{Clash, Duplicate}
use Rattle.name_entries.specs.name_rules.declared.case.PairCase.{PairCase}
use Rattle.name_entries.specs.object_file.declared.object.Object.{Object}
use Rattle.name_entries.specs.made_symbols.declared.mode.Mode.{Mode}
use Rattle.name_entries.specs.link_names.Numbered.{Numbered, AreNumbers}
use Rattle.name_entries.specs.name_rules.Entries.{InputSymbol, entries}
use Rattle.name_entries.specs.name_rules.Cases.{clash, duplicate, other_import, broken}
use Rattle.name_cases.specs.declared.question.Question.TheVariants.{Clashes, Duplicates, Imports, Judged}
use Rattle.name_cases.specs.Rows.{all_rows, entries_in}
use Rattle.name_cases.specs.Search.{case_in, compared}
use Rattle.name_cases.specs.Told.{clash_told, duplicate_told}
use Rattle.name_cases.proofs.Found.{found, by_rows}
use Rattle.name_cases.proofs.Held.{entries_are, entries_held}

module _ (mode : Mode) (objects : List Object) (n : Numbered) (numbers : AreNumbers mode objects n) where
  pub clash_found : option_map (clash_told n.names) (first_some (map (case_in Clashes n.names (entries_in (all_rows mode objects))) (all_rows mode objects))) ≡ clash (entries mode objects)
  unfolding clash
  clash_found =
      ap (option_map (clash_told n.names)) (by_rows Clashes n.names (entries_in (all_rows mode objects)) (all_rows mode objects))
      ∙ found Clash Clashes n.names (entries_in (all_rows mode objects)) (entries_in (all_rows mode objects)) (entries_held mode objects n numbers)
      ∙ ap clash (entries_are mode objects)

  pub import_found : option_map (clash_told n.names) (first_some (map (case_in Imports n.names (entries_in (all_rows mode objects))) (all_rows mode objects))) ≡ other_import (entries mode objects)
  import_found =
      ap (option_map (clash_told n.names)) (by_rows Imports n.names (entries_in (all_rows mode objects)) (all_rows mode objects))
      ∙ found Clash Imports n.names (entries_in (all_rows mode objects)) (entries_in (all_rows mode objects)) (entries_held mode objects n numbers)
      ∙ ap other_import (entries_are mode objects)

  abbrev judging : List InputSymbol
  judging = compared Judged (entries_in (all_rows mode objects))

  pub broken_found : option_map (clash_told n.names) (first_some (map (case_in Judged n.names judging) (all_rows mode objects))) ≡ broken (entries mode objects)
  broken_found =
      ap (option_map (clash_told n.names)) (by_rows Judged n.names judging (all_rows mode objects))
      ∙ found Clash Judged n.names judging (entries_in (all_rows mode objects)) (entries_held mode objects n numbers)
      ∙ ap broken (entries_are mode objects)

  pub duplicate_found : option_map (duplicate_told n.names) (first_some (map (case_in Duplicates n.names (entries_in (all_rows mode objects))) (all_rows mode objects))) ≡ duplicate (entries mode objects)
  unfolding duplicate
  duplicate_found =
      ap (option_map (duplicate_told n.names)) (by_rows Duplicates n.names (entries_in (all_rows mode objects)) (all_rows mode objects))
      ∙ found Duplicate Duplicates n.names (entries_in (all_rows mode objects)) (entries_in (all_rows mode objects)) (entries_held mode objects n numbers)
      ∙ ap duplicate (entries_are mode objects)

-- the one fault, or where there is none the other
pub first_is : (tell : PairCase → Fault) (c : PairCase) (o p : Option Fault) → option_map tell (Some c) ≡ o → option_map tell (Some c) ≡ first_some (o ∷ p ∷ [])
first_is tell c o p is = ap (λ o. first_some (o ∷ p ∷ [])) is

pub then_is : (tell : PairCase → Fault) (c : Option PairCase) (o p : Option Fault) → option_map tell None ≡ o → option_map tell c ≡ p → option_map tell c ≡ first_some (o ∷ p ∷ [])
then_is tell c o p none is = is ∙ last p ∙ ap (λ o. first_some (o ∷ p ∷ [])) none
  where
    last : (p : Option Fault) → p ≡ first_some (p ∷ [])
    last None = refl
    last (Some f) = refl
