use Rattle.std.proofs.Common.{◌≡◌, ◌≤◌, take, filter_map}
use Rattle.std.specs.Prelude.{slice_range}
use Rattle.mark_bits.specs.Seats.{IsSeatOf}
use Rattle.live_mark.specs.Asks.{asks}
use Rattle.live_mark.specs.Shares.{Adds}
use Rattle.live_mark.proofs.share.MarkShareShare.work.Given as goal

abbrev pub invariant-loop-place : goal.invariant-loop-place
invariant-loop-place g l = record {
  plan : l.self-inside.plan ≡ l.initial.self-inside.plan;
  parts : l.self-inside.parts ≡ l.initial.self-inside.parts;
  edges : l.self-inside.edges ≡ l.initial.self-inside.edges;
  first : l.self-inside.first ≡ l.initial.self-inside.first;
  width : l.self-inside.width ≡ l.initial.self-inside.width;
  own : IsSeatOf l.bits l.self-inside.seat;
  from : l.from ≤ l.place;
  adds : Adds l.initial.self-inside.seat l.self-inside.seat (asks l.rooting (g.E.Edges.targets l.edges) (slice_range l.places l.from l.place)) l.initial.self-inside.found.chunks.items l.self-inside.found.chunks.items l.initial.self-inside.found.refused l.self-inside.found.refused;
}

abbrev pub invariant-loop-item : goal.invariant-loop-item
invariant-loop-item g l = record {
  plan : l.self-inside.plan ≡ l.initial.self-inside.plan;
  parts : l.self-inside.parts ≡ l.initial.self-inside.parts;
  edges : l.self-inside.edges ≡ l.initial.self-inside.edges;
  first : l.self-inside.first ≡ l.initial.self-inside.first;
  width : l.self-inside.width ≡ l.initial.self-inside.width;
  own : IsSeatOf l.bits l.self-inside.seat;
  adds : Adds l.initial.self-inside.seat l.self-inside.seat (filter_map (g.E.Edges.target l.edges) (take l.item-index l.row)) l.initial.self-inside.found.chunks.items l.self-inside.found.chunks.items l.initial.self-inside.found.refused l.self-inside.found.refused;
}
