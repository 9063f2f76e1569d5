use Rattle.std.proofs.Common.{◌+◌, ◌∙◌, ap, sym, arith}
use Rattle.std.specs.Prelude.{option_copied}
use Rattle.object_file.specs.Exports.{name_at}
use Rattle.object_file.proofs.Made.{function_more, bodies_end, types_end}
use Rattle.object_file.proofs.functions.named_functions.Goals as goal

pub returns-in_default : goal.returns-in_default
returns-in_default c = bodies_end c.args.exports.now c.args.first c.loop-at.at c.args.types.now c.args.bodies.now c.loop-at.functions _ (sym c.body_at.ensures ∙ ap option_copied c.in_default.is) c.loop-at.invariant

pub loop-at-preserved : goal.loop-at-preserved
loop-at-preserved c =
    let name = c.name_at.ensures ∙ ap (name_at c.args.exports.now) c.place_of.ensures ∙ c.requires.named (c.args.first + c.loop-at.at) (omega arith) in
    rw (c.in_ok-push.ensures.ok, c.operands_of.ensures, name)
    (function_more c.args.exports.now c.args.first c.loop-at.at c.args.types.now c.args.bodies.now c.in-Some.body.now c.loop-at.functions _ c.loop-at-test.true (sym c.body_at.ensures ∙ ap option_copied c.in-Some.is) c.loop-at.invariant)

pub returns : goal.returns
returns c = types_end c.args.exports.now c.args.first c.loop-at.at c.args.types.now c.args.bodies.now c.loop-at.functions _ c.loop-at-test.false c.loop-at.invariant
