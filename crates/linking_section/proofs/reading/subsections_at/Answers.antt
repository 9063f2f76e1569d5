use Rattle.std.proofs.Common.{length, arith}
use Rattle.std.proofs.lemmas.Result.{err_from_is_err_and}
use Rattle.linking_section.specs.Reading.{none_found, subsections_at}
use Rattle.linking_section.specs.LinkingLaws.{shorter}
use Rattle.linking_section.proofs.Loop.{goes_on, ends, is_done}
use Rattle.linking_section.proofs.reading.subsections_at.Goals as goal

pub returns-in_err-next : goal.returns-in_err-next
returns-in_err-next c =
    let p = err_from_is_err_and c.from_residual.result c.from_residual.ensures.1 in
    rw (p.1, p.2) (ends c.in_err-next.field-0.0 c.loop-rest.found c.args.end c.loop-rest.rest.now _ (omega arith) c.in_err-next.ensures c.loop-rest.invariant)

pub loop-rest-smaller : goal.loop-rest-smaller
loop-rest-smaller c = shorter c.loop-rest.found c.args.end c.loop-rest.rest.now c.in_ok-next.next c.in_ok-next.after.now c.in_ok-next.ensures

pub loop-rest-preserved : goal.loop-rest-preserved
loop-rest-preserved c = goes_on c.loop-rest.found c.args.end c.loop-rest.rest.now c.in_ok-next.next c.in_ok-next.after.now (subsections_at (length c.args.bytes.now) none_found c.args.end c.args.bytes.now) (omega arith) c.in_ok-next.ensures c.loop-rest.invariant

pub returns : goal.returns
returns c = is_done c.loop-rest.found c.args.end c.loop-rest.rest.now _ (omega arith) c.loop-rest.invariant
