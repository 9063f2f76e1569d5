use Rattle.std.proofs.lemmas.Result.{err_from_is_err_and}
use Rattle.link_numbers.proofs.shared.own_slots.Goals as goal

pub returns-in_err-own-clause-table : goal.returns-in_err-own-clause-table
returns-in_err-own-clause-table c =
    let p = err_from_is_err_and c.from_residual.result c.from_residual.ensures.1 in
    rw (p.1, p.2) tt
