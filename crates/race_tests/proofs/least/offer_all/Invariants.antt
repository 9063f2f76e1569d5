use Rattle.std.proofs.Common.{◌≡◌, ◌<◌}
use Rattle.least_race.specs.Race.{times}
use Rattle.least_race.specs.Seats.{IsSeatOf}
use Rattle.race_tests.proofs.least.offer_all.Given as goal

abbrev pub invariant-loop-item : goal.invariant-loop-item
invariant-loop-item g l = record {
  own : IsSeatOf l.race l.seat;
  claimed : 0 < times l.job l.seat.party.claims;
  ended : l.seat.party.ended ≡ l.initial.seat.party.ended;
  width : l.seat.party.width ≡ l.initial.seat.party.width;
}
