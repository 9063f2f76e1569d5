use Rattle.std.proofs.Common.{◌≡◌, ◌∙◌, ℕ, sym, ap, refl, rules}
use Rattle.debug_out.proofs.ByPlace.{noted_more, passed_more, all_noted}
use Rattle.debug_out.specs.Targets.{targets}
use Rattle.debug_out.proofs.targets.relocs_table.Goals as goal
use Rattle.debug_out.proofs.targets.relocs_table.Goals.{in-Some, in-None}

pub loop-c-preserved : goal.loop-c-preserved
loop-c-preserved c = elim c.match-target_of.branch [
  | in-Some w ↦
      noted_more c.args.all.now c.loop-c.c-index _ c.loop-c-test.true c.loop-c.table.items _ _ w.in-Some.at
      (λ at. ap (targets at) (sym w.in-Some.is) ∙ c.target_of.ensures at) (rw w.table-is w.note.ensures.len)
      (λ k more lt. rw w.table-is (w.note.ensures.noted k more lt)) c.loop-c.invariant
  | in-None w ↦
      passed_more c.args.all.now c.loop-c.c-index _ c.loop-c-test.true c.loop-c.table.items _ _
      (λ at. ap (targets at) (sym w.in-None.is) ∙ c.target_of.ensures at) (rw w.table-is refl) c.loop-c.invariant
]

pub returns : goal.returns
returns c = all_noted c.loop-c.table.items c.args.all.now c.loop-c.c-index (search rules) c.loop-c.invariant
