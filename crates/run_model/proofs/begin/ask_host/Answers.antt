use Rattle.std.proofs.Common.{◌≡◌, sym, ap, subst, arith, IfOk}
use Rattle.run_rules.specs.declared.state.Frame.{Frame}
use Rattle.run_rules.specs.Steps.{Step}
use Rattle.run_model.specs.Views.{Steps}
use Rattle.run_model.proofs.begin.ask_host.Goals as goal
use Rattle.run_model.proofs.Asking.{host_gives, host_leaves, host_traps, host_ends}

pub reply-requires : goal.reply-requires
reply-requires c = let first : c.blank.result.place ≡ 0 = ap (λ (f : Frame). f.place) c.blank.ensures in omega arith

pub returns-in_ok-values-in-Goes : goal.returns-in_ok-values-in-Goes
returns-in_ok-values-in-Goes c =
    subst (λ (s : Step). IfOk c.finish.result (λ next. Steps s next c.finish.new.state))
    (sym
    (host_gives c.args.session.now c.args.state.now.cells.items c.args.state.now.inner c.ask.new.inner c.reply.new.inner c.args.kind.now c.args.event c.blank.result c.in_ok-place.place c.in_ok-reply.field-0 c.blank.ensures c.in_ok-place.ensures.place c.in_ok-place.ensures.told c.in_ok-reply.ensures c.in_ok-values-in-Goes.values c.into_seq.result c.in-Goes.is c.in_ok-values-in-Goes.ensures.taken c.into_seq.ensures))
    c.finish.ensures

pub returns-in-Leaves : goal.returns-in-Leaves
returns-in-Leaves c =
    subst (λ (s : Step). Steps s c.end.result c.end.new.state)
    (sym
    (host_leaves c.args.session.now c.args.state.now.cells.items c.args.state.now.inner c.ask.new.inner c.reply.new.inner c.args.kind.now c.args.event c.blank.result c.in_ok-place.place c.in_ok-reply.field-0 c.blank.ensures c.in_ok-place.ensures.place c.in_ok-place.ensures.told c.in_ok-reply.ensures c.in-Leaves.is))
    c.end.ensures

pub returns-in-Traps : goal.returns-in-Traps
returns-in-Traps c =
    subst (λ (s : Step). IfOk c.trap.result (λ next. Steps s next c.trap.new.state))
    (sym
    (host_traps c.args.session.now c.args.state.now.cells.items c.args.state.now.inner c.ask.new.inner c.reply.new.inner c.args.kind.now c.args.event c.blank.result c.in_ok-place.place c.in_ok-reply.field-0 c.blank.ensures c.in_ok-place.ensures.place c.in_ok-place.ensures.told c.in_ok-reply.ensures c.in-Traps.kind c.in-Traps.is))
    c.trap.ensures

pub returns-in-Ends : goal.returns-in-Ends
returns-in-Ends c =
    subst (λ (s : Step). Steps s c.end-in-Ends.result c.end-in-Ends.new.state)
    (sym
    (host_ends c.args.session.now c.args.state.now.cells.items c.args.state.now.inner c.ask.new.inner c.reply.new.inner c.args.kind.now c.args.event c.blank.result c.in_ok-place.place c.in_ok-reply.field-0 c.blank.ensures c.in_ok-place.ensures.place c.in_ok-place.ensures.told c.in_ok-reply.ensures c.in-Ends.stop c.in-Ends.is))
    c.end-in-Ends.ensures
