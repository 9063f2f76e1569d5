use Rattle.std.proofs.Common.{◌-◌}
use Rattle.lib_index.specs.Table.{shown}
use Rattle.lib_rounds.proofs.Round.{Running}
use Rattle.lib_rounds.proofs.running.run.Given as goal

abbrev pub ghost-round : goal.ghost-round
ghost-round g a = g.w

abbrev pub invariant-loop : goal.invariant-loop
invariant-loop g l = Running g.w l.inputs.libraries.now l.inputs.files.now l.fn.slots.items l.fn.adds l.rounds
    (l.rounds - l.counter) l.slots.items (shown l.definers) l.adds
