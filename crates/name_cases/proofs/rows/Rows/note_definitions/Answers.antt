use Rattle.std.proofs.Common.{[], sym, subst, ⊎_elim}
use Rattle.name_cases.specs.declared.question.Question.TheVariants.{Judged, Mismatches}
use Rattle.name_cases.specs.Firsts.{AreFirsts}
use Rattle.name_cases.specs.Rows.{entries_in, names_shown, rows_shown}
use Rattle.name_cases.specs.Search.{before}
use Rattle.name_cases.proofs.Column.{no_definitions, definitions_first, judged_as}
use Rattle.name_cases.proofs.rows.Rows.note_definitions.Goals as goal

pub returns-in-Judged-clause-are : goal.returns-in-Judged-clause-are
returns-in-Judged-clause-are c =
    let names = names_shown c.args.self.now in
    let rows = rows_shown c.args.self.now in
    let old = c.args.firsts.now in
    let new = c.note_rows.new.firsts in
    ⊎_elim
    (λ is. subst (λ q. AreFirsts q names rows [] old → AreFirsts q names rows (before q (entries_in rows)) new) (sym is)
    (λ none. definitions_first names rows (entries_in rows) new (c.note_rows.ensures [] (no_definitions names rows Judged old none))))
    (λ is. subst (λ q. AreFirsts q names rows [] old → AreFirsts q names rows (before q (entries_in rows)) new) (sym is)
    (λ none. judged_as names rows (before Mismatches (entries_in rows)) new (definitions_first names rows (entries_in rows) new (c.note_rows.ensures [] (no_definitions names rows Mismatches old none)))))
    c.in-Judged.is
