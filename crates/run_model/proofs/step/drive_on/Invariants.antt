use Rattle.std.proofs.Common.{◌≡◌}
use Rattle.run_rules.specs.Runs.{drive}
use Rattle.run_model.specs.Views.{how_of, state_of}
use Rattle.run_model.proofs.step.drive_on.Given as goal

-- what is left of the run gives what the whole of it gives
abbrev pub invariant-loop-next : goal.invariant-loop-next
invariant-loop-next l = drive l.world l.session l.left (state_of l.state) (how_of l.next) ≡ drive l.fn.world l.fn.session l.fn.left (state_of l.fn.state) (how_of l.fn.first)

abbrev pub decreases-loop-next : goal.decreases-loop-next
decreases-loop-next l = l.left
