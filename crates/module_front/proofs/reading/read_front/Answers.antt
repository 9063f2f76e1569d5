use Rattle.std.proofs.Common.{length, map}
use Rattle.std.proofs.lemmas.Result.{err_from_is_err_and}
use Rattle.module_front.proofs.Opening.{opens, fails}
use Rattle.module_front.proofs.reading.read_front.Goals as goal

pub returns-in_err-front_at-clause-opens : goal.returns-in_err-front_at-clause-opens
returns-in_err-front_at-clause-opens c =
    let p = err_from_is_err_and c.from_residual.result c.from_residual.ensures.1 in
    rw (p.1, p.2) (fails c.in_err-front_at.field-0.0 (length c.args.bytes.now) c.args.bytes.now c.in_err-front_at.ensures.exact)

pub returns-clause-opens : goal.returns-clause-opens
returns-clause-opens c = opens (λ f. (f.outside, map (λ p. p.now) f.parts)) c.in_ok-front_at.field-0 (length c.args.bytes.now) c.args.bytes.now c.in_ok-front_at.ensures.exact
