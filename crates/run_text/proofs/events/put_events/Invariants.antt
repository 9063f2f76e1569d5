use Rattle.std.proofs.Common.{◌≡◌, ◌++◌, drop}
use Rattle.std.specs.List.{flat_map}
use Rattle.run_text.specs.Text.{line, event_text}
use Rattle.run_text.proofs.events.put_events.Given as goal

abbrev pub invariant-loop-event : goal.invariant-loop-event
invariant-loop-event l = l.to ++ flat_map (λ e. line (event_text e)) (drop l.event-index l.events) ≡ l.initial.to ++ flat_map (λ e. line (event_text e)) l.events
