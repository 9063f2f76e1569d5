use Rattle.std.proofs.Common.{arith}
use Rattle.std.proofs.lemmas.Result.{err_from_is_err_and}
use Rattle.object_parts.specs.Turns.{turns_at}
use Rattle.object_parts.specs.Code.{code_body_at, left_behind}
use Rattle.object_parts.proofs.Loop.{goes_on, ends, is_done}
use Rattle.object_parts.proofs.code.many_bodies.Goals as goal

pub returns-in_err-body : goal.returns-in_err-body
returns-in_err-body c =
    let p = err_from_is_err_and c.from_residual.result c.from_residual.ensures.1 in
    rw (p.1, p.2) (ends (code_body_at c.args.start) (left_behind c.args.start) c.in_err-body.field-0.0 c.loop.bodies c.loop.left.now c.args.count c.loop.counter c.args.end c.loop.rest.now (turns_at (code_body_at c.args.start) (left_behind c.args.start) c.args.count c.args.relocs.now c.args.end c.args.bytes.now) c.loop-test.true c.in_err-body.ensures.value c.loop.invariant.so_far)

pub loop-preserved : goal.loop-preserved
loop-preserved c = record {
  so_far = rw (c.in_ok-push.ensures.ok, c.in_ok-body.ensures.left) (goes_on (code_body_at c.args.start) (left_behind c.args.start) c.loop.bodies c.loop.left.now c.args.count c.loop.counter c.args.end c.loop.rest.now c.in_ok-body.body c.in_ok-body.after.now (turns_at (code_body_at c.args.start) (left_behind c.args.start) c.args.count c.args.relocs.now c.args.end c.args.bytes.now) c.loop-test.true c.in_ok-body.ensures.value c.loop.invariant.so_far);
  within = omega (arith, c.in_ok-body.ensures.shorter, c.loop.invariant.within);
}

pub returns : goal.returns
returns c = is_done (code_body_at c.args.start) (left_behind c.args.start) c.loop.bodies c.loop.left.now c.args.count c.loop.counter c.args.end c.loop.rest.now (turns_at (code_body_at c.args.start) (left_behind c.args.start) c.args.count c.args.relocs.now c.args.end c.args.bytes.now) c.loop-test.false c.loop.invariant.so_far
