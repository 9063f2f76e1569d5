use Rattle.std.proofs.Common.{◌<◌, sym, subst}
use Rattle.least_race.specs.declared.party.Party.{Party}
use Rattle.least_race.specs.Race.{times}
use Rattle.least_race.proofs.Parties.{times_last}
use Rattle.race_tests.proofs.least.step.Goals as goal

pub offer_all-requires-clause-claimed : goal.offer_all-requires-clause-claimed
offer_all-requires-clause-claimed g c =
    let some = c.in-Some.ensures.some in
    (some.1, subst (λ (v : Party). 0 < times c.in-Some.job v.claims) (sym some.2) (times_last c.in-Some.job c.args.seat.now.party.claims))
