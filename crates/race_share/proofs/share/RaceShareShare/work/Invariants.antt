use Rattle.std.proofs.Common.{◌≡◌, ◌-◌, ◌≤◌, false, length}
use Rattle.least_race.specs.Jobs.{offers_from}
use Rattle.least_race.specs.Seats.{IsSeatOf}
use Rattle.race_share.proofs.share.RaceShareShare.work.Given as goal

abbrev pub invariant-loop-job : goal.invariant-loop-job
invariant-loop-job g l = record {
  race : l.self-inside.race ≡ l.initial.self-inside.race;
  first : l.self-inside.first ≡ l.initial.self-inside.first;
  breadth : l.self-inside.width ≡ l.initial.self-inside.width;
  own : IsSeatOf l.self-inside.race.now l.self-inside.seat;
  width : l.self-inside.seat.party.width ≡ l.initial.self-inside.seat.party.width;
  passes : l.self-inside.seat.party.passes ≡ 0;
  ended : l.self-inside.seat.party.ended ≡ false;
  exact : l.self-inside.seat.party.proposals ≡ offers_from l.self-inside.race.now.jobs l.self-inside.seat.party.claims;
  few : length l.self-inside.seat.party.claims ≤ length l.self-inside.race.now.jobs;
}

abbrev pub decreases-loop-job : goal.decreases-loop-job
decreases-loop-job g l = length l.self-inside.race.now.jobs - length l.self-inside.seat.party.claims
