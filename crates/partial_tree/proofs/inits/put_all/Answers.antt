use Rattle.std.proofs.Common.{[], ◌++◌, ap, ◌∙◌}
use Rattle.std.specs.Prelude.{Option}
use Rattle.std.specs.List.{cons_option}
use Rattle.partial_symbols.specs.link_program.linking_section.declared.init.InitFunc.{InitFunc}
use Rattle.partial_tree.specs.Inits.{init_at}
use Rattle.partial_tree.proofs.Initial.{found_more}
use Rattle.partial_tree.proofs.inits.put_all.Goals as goal

pub loop-init-preserved : goal.loop-init-preserved
loop-init-preserved c =
    found_more (init_at c.args.standing.now c.args.entries.names.now.names c.args.entries.objects.now c.args.object c.args.start) c.args.more.now c.loop-init.init-index _ c.loop-init-test.true _ _ _
    (c.in_ok-put.ensures ∙ ap (λ (o : Option InitFunc). c.loop-init.inits ++ cons_option o []) c.in_ok-found.ensures) c.loop-init.invariant
