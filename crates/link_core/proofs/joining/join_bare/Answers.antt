use Rattle.std.proofs.lemmas.Result.{err_from_is_err_and}
use Rattle.link_core.proofs.Joined.{load_stops, goes_on_joined}
use Rattle.link_core.proofs.joining.join_bare.Goals as goal

pub returns-in_err-inputs-clause-exact : goal.returns-in_err-inputs-clause-exact
returns-in_err-inputs-clause-exact g c =
    let p = err_from_is_err_and c.from_residual.result c.from_residual.ensures.1 in
    rw (p.1) (load_stops c.args.plan.now c.args.files.now c.requires.bare c.in_err-inputs.field-0.0 p.0 p.2 c.in_err-inputs.ensures.exact)

pub returns-clause-exact : goal.returns-clause-exact
returns-clause-exact g c =
    goes_on_joined c.args.plan.now c.args.files.now c.requires.bare c.in_ok-inputs.inputs c.join_loaded-answer.result c.in_ok-inputs.ensures.found c.join_loaded-answer.ensures.exact
