use Rattle.std.proofs.Common.{rules, sym, subst, Err}
use Rattle.std.proofs.lemmas.Result.{err_from_is_err_and}
use Rattle.link_output.specs.link_program.link_rules.ModeOf.{mode_of}
use Rattle.link_output.specs.link_program.Loaded.{IsLoaded}
use Rattle.program_build.specs.Found.{Finds}
use Rattle.relink_out.specs.Made.{made_of}
use Rattle.link_core.specs.Linking.{IsLinking}
use Rattle.link_core.specs.Loading.{program_in}
use Rattle.link_core.proofs.Joined.{strict_in, plainly_in, find_refuses, goes_on_made, answer_of, short_of}
use Rattle.link_core.proofs.Loading.{program_is, all_found, found_is_linked}
use Rattle.link_core.proofs.joining.join_loaded.Goals as goal

pub find-requires : goal.find-requires
find-requires g c κs within =
    let loaded =
    subst (λ hs. IsLoaded g.l.origin.files g.l.origin.all c.objects-objects.result.now hs) (sym c.homes-homes.ensures)
    (subst (λ os. IsLoaded g.l.origin.files g.l.origin.all os c.args.inputs.now.homes) (sym c.objects-objects.ensures) c.requires.1.1.1.1.1.1.1.1.1) in
    (search rules, (search rules, (search rules, (search rules, (c.requires.1.1.1.1.0, (c.requires.1.1.1.1.1.1.0, loaded))))))

pub returns-in_err-found-clause-exact : goal.returns-in_err-found-clause-exact
returns-in_err-found-clause-exact g c =
    let p = err_from_is_err_and c.from_residual.result c.from_residual.ensures.1 in
    let plan = c.args.plan.now in
    let objects = c.objects-objects.result.now in
    let e = c.in_err-found.field-0.0 in
    let bare = c.requires.1.1.1.1.1.0 in
    let same = c.requires.1.1.1.1.1.1.0 in
    let is = program_is g.l plan c.args.inputs.now.loaded objects same c.requires.1.1.1.1.1.1.1.1.0 c.objects-objects.ensures in
    let found = subst (λ q. Finds (mode_of plan) (Err e) plan objects q) is c.in_err-found.ensures in
    rw (p.1) (find_refuses c.partial_is_made.ensures (program_in g.l) (strict_in g.l plan same bare.strict) (mode_of plan) plan objects e p.0 p.2 found)

pub partial-answer-requires-sync-R : goal.partial-answer-requires-sync-R
partial-answer-requires-sync-R g c κs within =
    let plan = c.args.plan.now in
    let objects = c.objects-objects.result.now in
    let bare = c.requires.1.1.1.1.1.0 in
    let same = c.requires.1.1.1.1.1.1.0 in
    let is : IsLinking (program_in g.l) c.program-program.result c.view-entries.result c.args.files.now =
    found_is_linked g.l plan c.args.inputs.now.loaded objects same c.requires.1.1.1.1.1.1.1.1.0 c.objects-objects.ensures c.args.files.now
    c.args.inputs.now.homes c.in_ok-found.found c.program-program.result c.view-entries.result c.requires.1.1.1.1.0 c.requires.1.1.1.1.1.1.1.0 c.requires.1.1.1.1.1.1.1.1.1 c.parts_stand.ensures c.in_ok-found.ensures.1
    (c.program-program.ensures.is (mode_of plan)) c.view-entries.ensures.fits c.view-entries.ensures.objects c.program-program.ensures.objects c.view-entries.ensures.names c.program-program.ensures.names in
    let plain = plainly_in g.l plan same bare.plain in
    let strict = strict_in g.l plan same bare.strict in
    (search rules, (search rules, (is.program, (plain, (strict, (is.stand, (is.fits.objects, (is.objects, (is.names, is.files)))))))))

pub returns-clause-exact : goal.returns-clause-exact
returns-clause-exact g c =
    let plan = c.args.plan.now in
    let objects = c.objects-objects.result.now in
    let bare = c.requires.1.1.1.1.1.0 in
    let same = c.requires.1.1.1.1.1.1.0 in
    let all = all_found g.l plan c.args.inputs.now.loaded objects same c.requires.1.1.1.1.1.1.1.1.0 c.objects-objects.ensures c.in_ok-found.ensures.0 in
    goes_on_made c.partial_is_made.ensures (program_in g.l) (strict_in g.l plan same bare.strict) c.partial-answer.result all (answer_of c.partial-answer.result (made_of (program_in g.l)) c.partial-answer.ensures.exact)

pub returns-clause-short : goal.returns-clause-short
returns-clause-short g c = short_of c.partial-answer.result c.partial-answer.ensures.short
