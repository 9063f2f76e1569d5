use Rattle.std.proofs.Common.{◌≡◌, ◌<◌, ℕ, List, length, get_or, replicate, sym, ap, ◌∙◌, subst, arith, rules}
use Rattle.std.proofs.lemmas.List.{get_or-replicate}
use Rattle.least_race.specs.Race.{times, once_below, least}
use Rattle.least_race.specs.Jobs.{Job, IsLeastOf, offers_from}
use Rattle.race_share.proofs.All.{all_offers}
use Rattle.race_share.proofs.Answered.{leasts}
use Rattle.race_share.proofs.runs.least_ranks.Goals as goal

pub returns : goal.returns
returns g c =
    let jobs = g.J.Jobs.list c.args.jobs in
    let race = c.in_ok-race.ensures.race in
    let seat = c.run-seat.result in
    let whole = c.run-seat.ensures.whole in
    let workers = c.useful_workers-width.ensures in
    let some_pass : 0 < seat.party.passes = omega arith in
    let all : (x : ℕ) → times x seat.party.claims ≡ once_below x (length jobs) = λ x. c.finish.ensures.all some_pass x ∙ ap (λ (js : List Job). once_below x (length js)) race.1 in
    let exact : seat.party.proposals ≡ offers_from jobs seat.party.claims = c.run-seat.ensures.exact ∙ ap (λ (js : List Job). offers_from js seat.party.claims) race.1 in
    let long : length c.in_ok-race.race.base ≡ c.args.words = search rules in
    let full : c.in_ok-base.base.items ≡ replicate c.args.words 18446744073709551615 = search rules in
    leasts jobs c.finish.result c.args.words (c.finish.ensures.length ∙ long) c.requires.words c.requires.ranks
    (λ i inside. let top : get_or c.in_ok-race.race.base i 0 ≡ 18446744073709551615 = ap (λ (l : List ℕ). get_or l i 0) (race.0 ∙ (c.as_slice.ensures.value ∙ full)) ∙ get_or-replicate c.args.words i 18446744073709551615 0 inside in
    let end = c.finish.ensures.least i (omega arith) in
    subst (IsLeastOf jobs i 18446744073709551615) (sym (end ∙ (λ k. least i (top k) (exact k)))) (all_offers jobs seat.party.claims i 18446744073709551615 all))
