use Rattle.std.proofs.Common.{ℕ, ◌<◌, ◌≤◌, List, length, sym, ap, ◌∙◌, subst}
use Rattle.least_race.specs.declared.party.Party.{Party}
use Rattle.least_race.specs.Race.{times}
use Rattle.least_race.proofs.Parties.{times_last}
use Rattle.race_share.proofs.Works.{exact_more}
use Rattle.race_share.proofs.share.RaceShareShare.work.Goals as goal

pub propose_all-requires-clause-claimed : goal.propose_all-requires-clause-claimed
propose_all-requires-clause-claimed g c =
    let some = c.in-Some.ensures.some in
    (some.1, subst (λ (v : Party). 0 < times c.in-Some.job v.claims) (sym some.2) (times_last c.in-Some.job c.loop-job.self-inside.seat.party.claims))

pub loop-job-preserved : goal.loop-job-preserved
loop-job-preserved g c =
    let some = c.in-Some.ensures.some in
    let v = c.loop-job.self-inside.seat.party in
    let adds = c.propose_all.ensures.all in
    record {
      race = c.loop-job.invariant.race;
      first = c.loop-job.invariant.first;
      breadth = c.loop-job.invariant.breadth;
      own = c.propose_all.ensures.own;
      width = adds.width ∙ (ap (λ (z : Party). z.width) some.2 ∙ c.loop-job.invariant.width);
      passes = adds.passes ∙ (ap (λ (z : Party). z.passes) some.2 ∙ c.loop-job.invariant.passes);
      ended = adds.ended ∙ (ap (λ (z : Party). z.ended) some.2 ∙ c.loop-job.invariant.ended);
      exact = exact_more c.loop-job.self-inside.race.now.jobs v c.claim.new.seat.party c.propose_all.new.seat.party c.in-Some.job c.loop-job.invariant.exact some.2 adds;
      few = subst (λ (cs : List ℕ). length cs ≤ length c.loop-job.self-inside.race.now.jobs) (sym adds.claims) c.in-Some.ensures.few;
    }
