use Rattle.std.proofs.Common.{◌∙◌, ap, sym, subst}
use Rattle.std.specs.Option.{option_map}
use Rattle.rayon.proofs.ListFacts.{IfOk-then}
use Rattle.name_cases.specs.declared.question.Question.TheVariants.{Imports}
use Rattle.name_cases.specs.Rows.{rows_shown}
use Rattle.name_cases.specs.Told.{clash_told, IsNamed}
use Rattle.name_cases.proofs.Clash.{import_found}
use Rattle.name_cases.proofs.Named.{least_named}
use Rattle.name_cases.proofs.cases.first_other_import.Goals as goal

pub returns-clause-is : goal.returns-clause-is
unfolding rows_shown
returns-clause-is g c =
    let names = c.args.view.names.now in
    IfOk-then c.first_case.result _ _ c.first_case.ensures (λ r h. ap (option_map (clash_told names.names)) h ∙ import_found c.args.mode c.args.view.objects.now names c.requires.numbers)

pub returns-clause-named : goal.returns-clause-named
unfolding rows_shown
returns-clause-named g c =
    let names = c.args.view.names.now in
    IfOk-then c.first_case.result _ _ c.first_case.ensures (λ r h. subst (IsNamed names.names) (sym h) (least_named Imports c.args.mode c.args.view.objects.now names c.requires.numbers))
