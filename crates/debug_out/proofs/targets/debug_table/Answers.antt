use Rattle.std.proofs.Common.{◌∙◌, sym, refl, rules}
use Rattle.debug_out.proofs.ByPlace.{marked_more, unmarked_more, all_marked}
use Rattle.debug_out.proofs.targets.debug_table.Goals as goal
use Rattle.debug_out.proofs.targets.debug_table.Goals.{then-is_debug+in_ok-mark, else-is_debug}

pub loop-c-preserved : goal.loop-c-preserved
loop-c-preserved c = elim c.if-is_debug.branch [
  | then-is_debug+in_ok-mark w ↦
      marked_more c.args.all.now c.loop-c.c-index _ c.loop-c-test.true c.loop-c.table.items _ _ (sym c.is_debug.ensures ∙ w.if-is_debug.true)
      (λ k. rw w.table-is (w.in_ok-mark.ensures k)) c.loop-c.invariant
  | else-is_debug w ↦
      unmarked_more c.args.all.now c.loop-c.c-index _ c.loop-c-test.true c.loop-c.table.items _ _ (sym c.is_debug.ensures ∙ w.if-is_debug.false)
      (rw w.table-is refl) c.loop-c.invariant
]

pub returns : goal.returns
returns c = all_marked c.loop-c.table.items c.args.all.now c.loop-c.c-index (search rules) c.loop-c.invariant
