use Rattle.std.proofs.Common.{◌≡◌, ℕ, ◌+◌, ◌<◌, take, List, [], get_or, length, sym, ap, ◌∙◌, subst, arith, Some, None}
use Rattle.least_race.specs.Race.{times}
use Rattle.least_race.specs.Jobs.{Job, offers_in}
use Rattle.least_race.specs.Seats.{SeatView, IsSeatOf}
use Rattle.race_share.specs.Shares.{Adds}
use Rattle.race_share.proofs.Works.{adds_one, adds_none}
use Rattle.race_share.proofs.offers.propose_all.Goals as goal
use Rattle.race_share.proofs.offers.propose_all.Goals.{in-Some, in_default}

pub propose-requires-clause-offered : goal.propose-requires-clause-offered
propose-requires-clause-offered g c =
    let list = c.jobs-jobs.ensures in
    let read : c.offer.result ≡ get_or (get_or c.args.race.now.jobs c.args.job []) c.loop-item.item None = c.offer.ensures ∙ ap (λ (js : List Job). get_or (get_or js c.args.job []) c.loop-item.item None) list in
    let item : get_or (get_or c.args.race.now.jobs c.args.job []) c.loop-item.item None ≡ Some c.in-Some.offer = sym read ∙ c.in-Some.is in
    let long = c.items-item-end.ensures ∙ ap (λ (js : List Job). length (get_or js c.args.job [])) list in
    let within = c.loop-item-test.true in
    let claimed = subst (λ (cs : List ℕ). 0 < times c.args.job cs) (sym c.loop-item.invariant.adds.claims) c.requires.claimed.1 in
    (c.args.job, c.loop-item.item, claimed, (c.requires.claimed.0, omega arith, item))

pub loop-item-preserved : goal.loop-item-preserved
loop-item-preserved g c =
    let xs = get_or c.args.race.now.jobs c.args.job [] in
    let list = c.jobs-jobs.ensures in
    let item : c.offer.result ≡ get_or xs c.loop-item.item None = c.offer.ensures ∙ ap (λ (js : List Job). get_or (get_or js c.args.job []) c.loop-item.item None) list in
    let long = c.items-item-end.ensures ∙ ap (λ (js : List Job). length (get_or js c.args.job [])) list in
    let within = c.loop-item-test.true in
    let inside : c.loop-item.item < length xs = omega arith in
    let R : SeatView → Type 0 = λ s. Adds c.args.seat.now.party s.party (offers_in (take (c.loop-item.item + 1) xs)) in
    elim c.match-offer.branch [
      | in-Some w ↦ let one = adds_one c.args.seat.now.party c.loop-item.seat.party w.propose.new.seat.party xs c.loop-item.item w.in-Some.offer w.propose.result inside (sym w.in-Some.is ∙ item) w.propose.ensures.added c.loop-item.invariant.adds in
          record { own = subst (IsSeatOf c.args.race.now) (sym w.seat-is) w.propose.ensures.own; adds = subst R (sym w.seat-is) one }
      | in_default w ↦ let none = adds_none c.args.seat.now.party c.loop-item.seat.party xs c.loop-item.item inside (sym w.in_default.is ∙ item) c.loop-item.invariant.adds in
          record { own = subst (IsSeatOf c.args.race.now) (sym w.seat-is) c.loop-item.invariant.own; adds = subst R (sym w.seat-is) none }
    ]
