use Rattle.std.proofs.Common.{◌≡◌, Some, rules}
use Rattle.valid_bodies.specs.Effects.{shape_of}
use Rattle.valid_bodies.specs.Steps.{step_on}
use Rattle.body_check.proofs.Doing.{does_shorter, passes_on}
use Rattle.body_check.proofs.quick.types_quickly.Goals as goal

pub loop-effect-smaller : goal.loop-effect-smaller
loop-effect-smaller c = does_shorter c.args.context.now c.args.kind.now c.args.locals.now c.args.end c.loop-effect.rest.now (shape_of c.in-Some.effect) c.in-Some.after.now c.in-Some.ensures

pub loop-effect-preserved : goal.loop-effect-preserved
loop-effect-preserved c =
    let went : step_on c.loop-effect.blocks (shape_of c.in-Some.effect) ≡ Some c.reads_effect.new.blocks = search rules in
    passes_on c.args.context.now c.args.kind.now c.args.locals.now c.args.end c.args.blocks.now c.args.bytes.now c.loop-effect.blocks c.loop-effect.rest.now
    (shape_of c.in-Some.effect) c.in-Some.after.now c.loop-effect.invariant c.in-Some.ensures c.reads_effect.new.blocks went
