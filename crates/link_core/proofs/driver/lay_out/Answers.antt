use Rattle.std.proofs.Common.{ℕ, ap, rules}
use Rattle.std.proofs.lemmas.Result.{err_from_is_err_and}
use Rattle.link_output.specs.link_program.link_rules.ModeOf.{mode_of}
use Rattle.link_core.specs.Chosen.{IsChosen}
use Rattle.link_core.specs.Linking.{IsLinking}
use Rattle.link_core.specs.Prepared.{outputs}
use Rattle.link_core.proofs.Answering.{place_failed, number_failed, goes_on_placed, layout_is}
use Rattle.link_core.proofs.driver.lay_out.Goals as goal

pub place_segments-requires : goal.place_segments-requires
place_segments-requires g c =
    let is : IsLinking g.s.stage.program c.args.program c.args.entries c.args.files.now = c.requires.1.1.0 in
    let chosen : IsChosen g.s.stage c.args.program c.args.exports.now c.args.live.now = c.requires.1.1.1.0 in
    (is.program, (is.stand, (chosen.live, (is.files, is.plan))))

pub returns-in_err-placed-clause-exact : goal.returns-in_err-placed-clause-exact
returns-in_err-placed-clause-exact g c =
    let p = err_from_is_err_and c.from_residual.result c.from_residual.ensures.1 in
    rw (p.1) (place_failed (mode_of g.s.stage.program.plan) g.s.stage.program g.s.stage.exports g.s.stage.parts c.in_err-placed.field-0.0 p.0 p.2 c.in_err-placed.ensures)

pub number-requires : goal.number-requires
number-requires g c κs within =
    let is : IsLinking g.s.stage.program c.args.program c.args.entries c.args.files.now = c.requires.1.1.0 in
    let chosen : IsChosen g.s.stage c.args.program c.args.exports.now c.args.live.now = c.requires.1.1.1.0 in
    let mode = ap mode_of is.program.plan in
    (search rules, (search rules, (mode, (is.fits, (is.objects, (is.names, (is.program, (is.stand, (chosen.live, (chosen.meant, chosen.exports))))))))))

pub returns-in_err-numbering-clause-exact : goal.returns-in_err-numbering-clause-exact
returns-in_err-numbering-clause-exact g c =
    let p = err_from_is_err_and c.from_residual-in_err-numbering.result c.from_residual-in_err-numbering.ensures.1 in
    rw (p.1) (number_failed (mode_of g.s.stage.program.plan) g.s.stage.program g.s.stage.exports g.s.stage.parts ℕ c.in_err-numbering.field-0.0 p.0 p.2 c.in_ok-placed.ensures.0 c.in_err-numbering.ensures.table)

pub make_ready-prepared-requires : goal.make_ready-prepared-requires
make_ready-prepared-requires g c κs within =
    let is : IsLinking g.s.stage.program c.args.program c.args.entries c.args.files.now = c.requires.1.1.0 in
    let chosen : IsChosen g.s.stage c.args.program c.args.exports.now c.args.live.now = c.requires.1.1.1.0 in (
      search rules,
      (
        search rules,
        (
          layout_is g.s.stage.program g.s.stage.parts g.s.stage.exports _ c.args.live.now is.program is.stand chosen.live chosen.meant c.in_ok-numbering.ensures.numbers c.in_ok-numbering.ensures.imported c.in_ok-placed.ensures.1,
          (chosen, (is.files, c.requires.1.1.1.1)),
        ),
      ),
    )

pub returns-clause-exact : goal.returns-clause-exact
returns-clause-exact g c =
    goes_on_placed (mode_of g.s.stage.program.plan) g.s.stage.program g.s.stage.exports g.s.stage.parts (outputs c.args.files.now c.make_ready-prepared.result) c.in_ok-placed.ensures.0 c.in_ok-numbering.ensures.table
    c.make_ready-prepared.ensures.exact
