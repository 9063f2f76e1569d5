use Rattle.std.proofs.Common.{◌≡◌, drop}
use Rattle.run_rules.specs.Runs.{play, Over}
use Rattle.run_model.specs.Views.{state_of}
use Rattle.run_model.proofs.session.run_from.Given as goal

-- the trace of what is left is the trace of the whole
abbrev pub invariant-loop-call : goal.invariant-loop-call
invariant-loop-call l =
    play l.world l.session (drop l.call-index l.session.calls) (Over (state_of l.state) l.left) ≡ play l.world l.session l.session.calls (Over (state_of l.fn.start) l.fn.steps)
