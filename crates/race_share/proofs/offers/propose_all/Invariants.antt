use Rattle.std.proofs.Common.{[], get_or, take}
use Rattle.least_race.specs.Jobs.{offers_in}
use Rattle.least_race.specs.Seats.{IsSeatOf}
use Rattle.race_share.specs.Shares.{Adds}
use Rattle.race_share.proofs.offers.propose_all.Given as goal

abbrev pub invariant-loop-item : goal.invariant-loop-item
invariant-loop-item g l = record {
  own : IsSeatOf l.race l.seat;
  adds : Adds l.initial.seat.party l.seat.party (offers_in (take l.item (get_or l.race.jobs l.job [])));
}
