use Rattle.std.proofs.lemmas.Result.{err_from_is_err_and}
use Rattle.export_wrappers.proofs.Answering.{passed_on, in_all}
use Rattle.export_wrappers.proofs.wrapping.wrap.Goals as goal

pub returns-in_err-out : goal.returns-in_err-out
returns-in_err-out c =
    let p = err_from_is_err_and c.from_residual.result c.from_residual.ensures.1 in
    rw (p.1, p.2) (passed_on c.args.asked c.args.bytes.now c.in_err-out.field-0.0 c.in_err-out.ensures)

pub returns : goal.returns
returns c = in_all c.args.asked c.args.bytes.now c.in_ok-out.out c.short.result c.in_ok-out.ensures c.short.ensures
