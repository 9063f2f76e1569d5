use Rattle.std.proofs.Common.{◌++◌, [], ap, ◌∙◌}
use Rattle.std.specs.List.{cons_option}
use Rattle.link_program.specs.declared.part.Part.{Part}
use Rattle.link_keys.specs.Lists.{own_global_in, chunk_at}
use Rattle.link_keys.proofs.Steps.{items_more, items_folded, filters_more, folds_more}
use Rattle.link_keys.proofs.lists.push_own_globals.Goals as goal

pub loop-number-preserved : goal.loop-number-preserved
loop-number-preserved c =
    items_more (λ n. own_global_in c.args.linkers (chunk_at c.args.tables.now n)) c.args.live.now c.loop-number.number-index 0 c.loop-number-test.true _ _ _ c.loop-number.invariant
    (c.in_ok-push_own_global.ensures ∙ ap (λ (q : Part). c.loop-number.keys.items ++ cons_option (own_global_in c.args.linkers q.chunk) []) c.part_at-part.ensures)
