use Rattle.std.proofs.Common.{rules, ◌∙◌, sym, subst}
use Rattle.std.proofs.lemmas.Result.{err_from_is_err_and}
use Rattle.link_program.specs.Answers.{Passes}
use Rattle.link_program.specs.Program.{IsProgram}
use Rattle.link_marks.specs.Alive.{IsLive}
use Rattle.link_marks.proofs.Whole.{missing_stops, open_next}
use Rattle.link_marks.proofs.open.unresolved.Goals as goal

pub returns-in_err-refuse : goal.returns-in_err-refuse
returns-in_err-refuse g c =
    let is : IsProgram c.args.program g.w.program = search rules in
    let p = err_from_is_err_and c.from_residual-in_err-refuse.result c.from_residual-in_err-refuse.ensures.1 in
    rw (p.1) (missing_stops c.args.program g.w.program g.w.parts c.in_ok-demanded.demanded c.in_err-refuse.field-0.0 p.0 p.2 is c.in_err-refuse.ensures c.in_ok-demanded.ensures)

pub returns : goal.returns
returns g c =
    let is : IsProgram c.args.program g.w.program = search rules in
    let live : IsLive g.w.program c.args.live.now g.w.parts = search rules in
    subst (Passes c.refuse-2.result)
    (open_next c.args.program g.w.program c.args.live.now g.w.parts c.in_ok-open.open is live (sym c.in_ok-refuse.ensures ∙ c.in_ok-demanded.ensures) c.in_ok-open.ensures)
    c.refuse-2.ensures
