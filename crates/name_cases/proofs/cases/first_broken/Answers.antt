use Rattle.std.proofs.Common.{◌∙◌, ap, sym, subst}
use Rattle.std.specs.Option.{option_map}
use Rattle.rayon.proofs.ListFacts.{IfOk-then}
use Rattle.name_cases.specs.declared.question.Question.TheVariants.{Judged}
use Rattle.name_cases.specs.Rows.{rows_shown}
use Rattle.name_cases.specs.Told.{clash_told, IsNamed}
use Rattle.name_cases.proofs.Clash.{broken_found}
use Rattle.name_cases.proofs.Named.{least_named}
use Rattle.name_cases.proofs.cases.first_broken.Goals as goal

pub returns-clause-is : goal.returns-clause-is
unfolding rows_shown
returns-clause-is g c =
    let names = c.args.view.names.now in
    IfOk-then c.first_case.result _ _ c.first_case.ensures (λ r h. ap (option_map (clash_told names.names)) h ∙ broken_found c.args.mode c.args.view.objects.now names c.requires.numbers)

pub returns-clause-named : goal.returns-clause-named
unfolding rows_shown
returns-clause-named g c =
    let names = c.args.view.names.now in
    IfOk-then c.first_case.result _ _ c.first_case.ensures (λ r h. subst (IsNamed names.names) (sym h) (least_named Judged c.args.mode c.args.view.objects.now names c.requires.numbers))
