use Rattle.std.proofs.Common.{length, take, ap, sym, ◌∙◌}
use Rattle.link_program.specs.type_merge.Types.{with_type, type_number}
use Rattle.link_keys.proofs.TypesFolded.{numbers_more, front_stays}
use Rattle.link_keys.proofs.Steps.{items_more, items_folded, filters_more, folds_more}
use Rattle.link_keys.proofs.types.numbers_in.Goals as goal

pub loop-t-preserved : goal.loop-t-preserved
loop-t-preserved c =
    let item = c.t-item.is in
    let table = c.in_ok-number.ensures.types ∙ ap (with_type c.loop-t.table) item ∙ folds_more with_type c.args.table.now c.loop-t.table c.args.types.now c.loop-t.t-index c.t-item.result c.loop-t-test.true c.loop-t.invariant.0 in (
      table,
      c.in_ok-push.ensures.items
          ∙ numbers_more c.args.table.now c.args.types.now c.loop-t.t-index c.t-item.result c.loop-t-test.true _ _ _ _ _ c.loop-t.invariant.1
          (ap (λ t. type_number c.add.new.table t) (sym item) ∙ c.in_ok-number.ensures.number) table c.below_or_first.ensures (ap length c.types-count.ensures),
    )

pub returns-clause-same : goal.returns-clause-same
returns-clause-same c = ap (take (length c.args.table.now)) c.loop-t.invariant.0 ∙ front_stays c.args.table.now (take c.loop-t.t-index c.args.types.now)
