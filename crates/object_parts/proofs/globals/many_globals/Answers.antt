use Rattle.std.proofs.lemmas.Result.{err_from_is_err_and}
use Rattle.wasm_instr.specs.wasm_grammar.declared.fault.ReadFault.TheVariants.{Stopped}
use Rattle.object_parts.specs.Turns.{turns_at}
use Rattle.object_parts.specs.Placed.{stays, global_def_at}
use Rattle.object_parts.proofs.Loop.{goes_on, ends, is_done}
use Rattle.object_parts.proofs.globals.many_globals.Goals as goal

pub returns-in_err-global : goal.returns-in_err-global
returns-in_err-global c =
    let p = err_from_is_err_and c.from_residual.result c.from_residual.ensures.1 in
    rw (p.1, p.2) (ends global_def_at stays (Stopped c.in_err-global.field-0.0) c.loop.globals tt c.args.count c.loop.counter c.args.end c.loop.rest.now (turns_at global_def_at stays c.args.count tt c.args.end c.args.bytes.now) c.loop-test.true c.in_err-global.ensures c.loop.invariant)

pub loop-preserved : goal.loop-preserved
loop-preserved c =
    rw c.in_ok-push.ensures.ok (goes_on global_def_at stays c.loop.globals tt c.args.count c.loop.counter c.args.end c.loop.rest.now c.in_ok-global.global c.in_ok-global.after.now (turns_at global_def_at stays c.args.count tt c.args.end c.args.bytes.now) c.loop-test.true c.in_ok-global.ensures c.loop.invariant)

pub returns : goal.returns
returns c = is_done global_def_at stays c.loop.globals tt c.args.count c.loop.counter c.args.end c.loop.rest.now (turns_at global_def_at stays c.args.count tt c.args.end c.args.bytes.now) c.loop-test.false c.loop.invariant
