use Rattle.std.proofs.lemmas.Result.{err_from_is_err_and}
use Rattle.lib_rounds.proofs.call.load_rounds.Goals as goal

pub returns-in_err-begun : goal.returns-in_err-begun
returns-in_err-begun g c =
    let p = err_from_is_err_and c.from_residual-in_err-begun.result c.from_residual-in_err-begun.ensures.1 in
    let f = c.in_err-begun.ensures in
    rw (p.1, p.2) f
