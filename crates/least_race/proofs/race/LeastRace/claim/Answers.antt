use Rattle.std.proofs.Common.{ap, sym, ◌∙◌, arith}
use Rattle.least_race.proofs.Moves.{claims}
use Rattle.least_race.proofs.race.LeastRace.claim.Goals as goal

pub fetch_add-n-requires : goal.fetch_add-n-requires
fetch_add-n-requires g c =
    let own = ap (λ s. s.race) c.seat.view_is ∙ (c.requires.own.0 ∙ sym (ap (λ r. r.race) c.self.view_is)) in
    let running = ap (λ s. s.party.ended) c.seat.view_is ∙ c.requires.running in
    let wide = c.self.invariant.words in
    (own, omega arith, claims _ _ _ _ _ _ running c.seat.invariant.1)
