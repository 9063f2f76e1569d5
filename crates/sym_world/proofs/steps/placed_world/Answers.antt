use Rattle.std.proofs.Common.{◌≡◌, ◌∙◌, ℕ, Ok, Err, rules, ap, sym, subst}
use Rattle.std.proofs.lemmas.Result.{err_from_is_err_and}
use Rattle.link_program.specs.made_symbols.declared.mode.Mode.TheVariants.{Plain}
use Rattle.link_program.specs.name_entries.Fits.{Fits}
use Rattle.link_program.specs.link_rules.ModeOf.{mode_of}
use Rattle.link_program.specs.Program.{IsProgramOf}
use Rattle.link_layout.specs.Placed.{AnswersPlacedIn, IsPlacedIn}
use Rattle.link_core.specs.Chosen.{IsChosen}
use Rattle.link_core.specs.Linking.{IsLinking}
use Rattle.sym_world.specs.Choosing.{IsStage}
use Rattle.sym_world.proofs.SymAnswering.{place_failed, number_failed, goes_on_placed, layout_is}
use Rattle.sym_world.proofs.steps.placed_world.Goals as goal

pub place_segments-requires : goal.place_segments-requires
place_segments-requires g c =
    let is : IsLinking g.s.program c.args.program c.args.entries c.args.files.now = search rules in
    let chosen : IsChosen g.s c.args.program c.args.exports.now c.args.live.now = search rules in
    (is.program, (is.stand, (chosen.live, (is.files, is.plan))))

pub returns-in_err-placed : goal.returns-in_err-placed
returns-in_err-placed g c =
    let plain : mode_of g.s.program.plan ≡ Plain = search rules in
    let p = err_from_is_err_and c.from_residual.result c.from_residual.ensures.1 in
    rw (p.1) (place_failed g.s.program g.s.exports g.s.parts c.in_err-placed.field-0.0 p.0 p.2 (subst (λ m. AnswersPlacedIn m g.s.program g.s.parts (Err c.in_err-placed.field-0.0)) plain c.in_err-placed.ensures))

pub number-requires : goal.number-requires
number-requires g c κs within =
    let is : IsLinking g.s.program c.args.program c.args.entries c.args.files.now = search rules in
    let chosen : IsChosen g.s c.args.program c.args.exports.now c.args.live.now = search rules in
    let plain : mode_of g.s.program.plan ≡ Plain = search rules in
    let mode = ap mode_of is.program.plan ∙ plain in
    let fits = subst (λ m. Fits m c.args.entries) plain is.fits in
    let program = subst (λ m. IsProgramOf m c.args.program g.s.program) plain is.program in
    (search rules, (search rules, (mode, (fits, (is.objects, (is.names, (program, (is.stand, (chosen.live, (chosen.meant, chosen.exports))))))))))

pub returns-in_err-numbering : goal.returns-in_err-numbering
returns-in_err-numbering g c =
    let plain : mode_of g.s.program.plan ≡ Plain = search rules in
    let placed = subst (λ m. AnswersPlacedIn m g.s.program g.s.parts (Ok c.in_ok-placed.placed)) plain c.in_ok-placed.ensures in
    let p = err_from_is_err_and c.from_residual-in_err-numbering.result c.from_residual-in_err-numbering.ensures.1 in
    rw (p.1) (number_failed g.s.program g.s.exports g.s.parts ℕ c.in_err-numbering.field-0.0 p.0 p.2 placed.0 c.in_err-numbering.ensures.table)

pub objects-requires : goal.objects-requires
objects-requires g c =
    let is : IsLinking g.s.program c.args.program c.args.entries c.args.files.now = search rules in
    let chosen : IsChosen g.s c.args.program c.args.exports.now c.args.live.now = search rules in
    let stage : IsStage g.s = search rules in
    let plain : mode_of g.s.program.plan ≡ Plain = search rules in
    let program = subst (λ m. IsProgramOf m c.args.program g.s.program) plain is.program in
    let placed = subst (λ m. IsPlacedIn m g.s.program g.s.parts c.in_ok-placed.placed) plain c.in_ok-placed.ensures.1 in (
      layout_is g.s.program g.s.parts g.s.exports _ c.args.live.now plain program is.stand chosen.live chosen.meant c.in_ok-numbering.ensures.numbers placed,
      (is.fits.objects, (is.objects, (is.names, (is.files, (chosen.live, (chosen.among, (chosen.exports, stage))))))),
    )

pub returns-in_err-world : goal.returns-in_err-world
returns-in_err-world g c =
    let p = err_from_is_err_and c.from_residual-in_err-world.result c.from_residual-in_err-world.ensures.1 in
    rw (p.1, p.2) tt

pub returns : goal.returns
returns g c =
    let plain : mode_of g.s.program.plan ≡ Plain = search rules in
    let placed = subst (λ m. AnswersPlacedIn m g.s.program g.s.parts (Ok c.in_ok-placed.placed)) plain c.in_ok-placed.ensures in
    goes_on_placed g.s.program g.s.exports g.s.parts (Ok c.in_ok-world.world) placed.0 c.in_ok-numbering.ensures.table
    (ap (λ w. Ok w) (sym c.in_ok-world.ensures))
