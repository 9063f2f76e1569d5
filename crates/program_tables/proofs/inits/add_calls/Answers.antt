use Rattle.std.proofs.Common.{arith, length, get_or, ap, ◌∙◌}
use Rattle.std.proofs.lemmas.Option.{get_or_from_slice_get}
use Rattle.link_program.specs.linking_section.declared.init.InitFunc.{InitFunc}
use Rattle.program_tables.specs.Views.{view_seen}
use Rattle.program_tables.specs.Inits.{call_of}
use Rattle.program_tables.proofs.Steps.{kept_more}
use Rattle.program_tables.proofs.inits.add_calls.Goals as goal

pub loop-init-preserved : goal.loop-init-preserved
loop-init-preserved c =
    let g = call_of c.args.lookups.entries.objects.now (view_seen c.in_ok-view.view) in
    let inits = c.in_ok-view.view.from.now.inits in
    let d : InitFunc = record { priority = 0; symbol = 0 } in
    kept_more g inits c.loop-init.init-index c.args.calls.now c.loop-init.calls c.push_some.new.items c.call_of.result (omega (arith, ap length c.as_slice-init-items.ensures)) c.loop-init.invariant
    (λ x at. c.call_of.ensures ∙ ap g (ap (λ l. get_or l c.loop-init.init-index d) c.as_slice-init-items.ensures ∙ get_or_from_slice_get inits c.loop-init.init-index x d at)) c.in_ok-push_some.ensures
