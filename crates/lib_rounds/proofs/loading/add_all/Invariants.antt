use Rattle.std.proofs.Common.{length}
use Rattle.lib_index.specs.Table.{shown}
use Rattle.lib_rounds.specs.State.{candidate_at}
use Rattle.lib_rounds.proofs.Adding.{Going}
use Rattle.lib_rounds.proofs.loading.add_all.Given as goal

abbrev pub ghost-add : goal.ghost-add
ghost-add g a = candidate_at g.w.all a.wanted.now.offer.input

abbrev pub invariant-loop-input : goal.invariant-loop-input
invariant-loop-input g l = Going g.w l.inputs.libraries.now l.inputs.files.now l.fn.slots.items l.fn.adds l.slots.items
    (shown l.definers) l.adds l.new

abbrev pub decreases-loop-input : goal.decreases-loop-input
decreases-loop-input g l = length l.adds.entries
