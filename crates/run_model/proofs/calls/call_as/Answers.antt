use Rattle.std.proofs.Common.{IfOk, sym, subst, arith}
use Rattle.run_rules.specs.Steps.{Step}
use Rattle.run_model.specs.Views.{Steps}
use Rattle.run_model.proofs.calls.call_as.Goals as goal
use Rattle.run_model.proofs.Asking.{host_called}

pub returns-in_ok-after-in-Host : goal.returns-in_ok-after-in-Host
returns-in_ok-after-in-Host c =
    subst (λ (s : Step). IfOk c.turn.result (λ next. Steps s next c.turn.new.state))
    (sym
    (host_called c.args.session.now c.args.g c.args.state.now.names c.args.state.now.cells.items c.args.state.now.inner c.ask.new.inner c.reply.new.inner c.args.kind.now c.args.source.now c.in-Host.module c.in-Host.field c.in_ok-after-in-Host.after c.len-count.result c.in_ok-place-in-Host.place c.in_ok-take_top.field-0 c.into_seq-args.result c.in_ok-event-in-Host.event c.take_top.new.self c.in-Host.is c.len-count.ensures (omega (arith, c.count.ensures)) c.in_ok-take_top.ensures.taken c.into_seq-args.ensures c.in_ok-event-in-Host.ensures c.in_ok-take_top.ensures.left c.in_ok-place-in-Host.ensures.place c.in_ok-place-in-Host.ensures.told c.in_ok-after-in-Host.ensures))
    c.turn.ensures
