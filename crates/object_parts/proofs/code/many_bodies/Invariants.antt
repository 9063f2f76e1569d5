use Rattle.std.proofs.Common.{◌≡◌, ◌-◌, ◌≤◌, length}
use Rattle.object_parts.specs.Turns.{turns_at}
use Rattle.object_parts.specs.Code.{code_body_at, left_behind}
use Rattle.object_parts.proofs.Loop.{with_front}
use Rattle.object_parts.proofs.code.many_bodies.Given as goal

abbrev pub invariant-loop : goal.invariant-loop
invariant-loop l = record {
  so_far : with_front l.bodies (turns_at (code_body_at l.start) (left_behind l.start) (l.count - l.counter) l.left l.end l.rest) ≡ turns_at (code_body_at l.start) (left_behind l.start) l.count l.relocs l.end l.bytes;
  within : length l.rest ≤ l.end;
}
