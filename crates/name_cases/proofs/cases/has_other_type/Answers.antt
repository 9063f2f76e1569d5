use Rattle.std.proofs.Common.{◌+◌, ap, sym, subst, ◌∙◌, is_some, arith}
use Rattle.std.specs.Option.{option_and_then}
use Rattle.name_entries.specs.name_rules.Cases.{has_other_type}
use Rattle.name_cases.specs.declared.question.Question.TheVariants.{Mismatches}
use Rattle.name_cases.specs.Firsts.{AreFirsts}
use Rattle.name_cases.specs.Rows.{all_rows, entries_in, rows_shown}
use Rattle.name_cases.specs.Search.{case_at, compared}
use Rattle.name_cases.proofs.Beside.{spot_case_is}
use Rattle.name_cases.proofs.Held.{entries_are}
use Rattle.name_cases.proofs.Made.{few}
use Rattle.name_cases.proofs.Other.{is_case, stands_at, numbered_at}
use Rattle.name_cases.proofs.cases.has_other_type.Goals as goal

pub overflow_add-row : goal.overflow_add-row
overflow_add-row c = omega (arith, few 0 c.args.view.objects.now (omega arith) c.requires.fits.objects.inputs, c.requires.there)

pub case_at-requires : goal.case_at-requires
unfolding rows_shown
case_at-requires c =
    let names = c.args.view.names.now in
    let rows = all_rows c.args.mode c.args.view.objects.now in
    record {
      fits = c.requires.fits;
      firsts = subst (AreFirsts Mismatches names.names rows (compared Mismatches (entries_in rows))) (sym c.as_slice.ensures) c.requires.judges;
    }

pub returns : goal.returns
unfolding rows_shown
returns c = λ e there.
    let mode = c.args.mode in
    let objects = c.args.view.objects.now in
    let names = c.args.view.names.now in
    let rows = all_rows mode objects in
    let all = compared Mismatches (entries_in rows) in
    let firsts = subst (AreFirsts Mismatches names.names rows all) (sym c.as_slice.ensures) c.requires.judges in
    c.is_some.ensures
    ∙ ap is_some (c.case_at.ensures ∙ spot_case_is Mismatches names.names rows all c.as_slice.result.now firsts (record { row = c.args.object + 1; place = c.args.place })
    ∙ ap (option_and_then (case_at Mismatches names.names all)) (stands_at mode objects c.args.object c.args.place ∙ there))
    ∙ is_case names.names all e (numbered_at mode objects names c.requires.fits.numbers c.args.object c.args.place e there)
    ∙ ap (λ es. has_other_type es e) (entries_are mode objects)
