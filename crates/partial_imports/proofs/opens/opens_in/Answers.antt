use Rattle.std.proofs.Common.{[], ◌++◌, ap, ◌∙◌}
use Rattle.std.specs.List.{cons_option}
use Rattle.partial_imports.specs.declared.opens.Open.{Open}
use Rattle.partial_imports.specs.Opens.{open_at}
use Rattle.partial_imports.proofs.Opened.{found_more}
use Rattle.partial_imports.proofs.opens.opens_in.Goals as goal
use Rattle.std.specs.Prelude.{Option}

pub loop-at-preserved : goal.loop-at-preserved
loop-at-preserved c =
    found_more (open_at c.args.sight.now c.args.entries.names.now.names c.args.entries.objects.now) c.args.symbols.now c.loop-at.at-index _ c.loop-at-test.true _ _
    (c.in_ok-put.ensures ∙ ap (λ (o : Option Open). c.loop-at.opens ++ cons_option o []) c.open_at.ensures) c.loop-at.invariant
