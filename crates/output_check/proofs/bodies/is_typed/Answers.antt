use Rattle.std.specs.Prelude.{slice_get, option_and_then}
use Rattle.output_check.proofs.OneByOne.{when_typed, when_untyped}
use Rattle.output_check.proofs.bodies.is_typed.Goals as goal

pub returns-in-Ok-Typed : goal.returns-in-Ok-Typed
returns-in-Ok-Typed c =
    when_typed c.args.context.now c.args.part.now (option_and_then (slice_get c.args.context.now.types) (slice_get c.args.functions.now c.args.at)) c.in-Some.kind.now c.in-Ok-Typed.field-0 c.in-Some.ensures c.in-Ok-Typed.ensures c.in-Ok-Typed.field-0-is

pub returns-in-Ok-Untyped : goal.returns-in-Ok-Untyped
returns-in-Ok-Untyped c =
    when_untyped c.args.context.now c.args.part.now (option_and_then (slice_get c.args.context.now.types) (slice_get c.args.functions.now c.args.at)) c.in-Some.kind.now c.in-Ok-Untyped.field-0 c.in-Some.ensures c.in-Ok-Untyped.ensures c.in-Ok-Untyped.field-0-is
