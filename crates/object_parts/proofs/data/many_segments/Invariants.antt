use Rattle.std.proofs.Common.{◌≡◌, ◌-◌}
use Rattle.object_parts.specs.Turns.{turns_at}
use Rattle.object_parts.specs.Placed.{stays, data_part_at}
use Rattle.object_parts.proofs.Loop.{with_front}
use Rattle.object_parts.proofs.data.many_segments.Given as goal

abbrev pub invariant-loop : goal.invariant-loop
invariant-loop l = with_front l.segments (turns_at data_part_at stays (l.count - l.counter) tt l.end l.rest) ≡ turns_at data_part_at stays l.count tt l.end l.bytes
