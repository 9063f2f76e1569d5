use Rattle.std.proofs.Common.{◌≡◌, ◌-◌}
use Rattle.object_parts.specs.Turns.{turns_at}
use Rattle.object_parts.specs.Placed.{stays, global_def_at}
use Rattle.object_parts.proofs.Loop.{with_front}
use Rattle.object_parts.proofs.globals.many_globals.Given as goal

abbrev pub invariant-loop : goal.invariant-loop
invariant-loop l = with_front l.globals (turns_at global_def_at stays (l.count - l.counter) tt l.end l.rest) ≡ turns_at global_def_at stays l.count tt l.end l.bytes
