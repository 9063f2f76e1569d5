use Rattle.std.proofs.Common.{◌<◌, length, ap, sym, ◌∙◌, subst, arith}
use Rattle.least_race.specs.Jobs.{IsItem}
use Rattle.least_race.proofs.Moves.{proposes}
use Rattle.least_race.proofs.race.LeastRace.propose.Goals as goal

pub fetch_min-requires : goal.fetch_min-requires
fetch_min-requires g c =
    let own = ap (λ s. s.race) c.seat.view_is ∙ (c.requires.own.0 ∙ sym (ap (λ r. r.race) c.self.view_is)) in
    let same = ap (λ s. s.party.base) c.seat.view_is ∙ (c.requires.own.2 ∙ sym (ap (λ r. r.base) c.self.view_is)) in
    let wide = c.self.invariant.words in
    let m = c.requires.offered in
    let item = subst (λ r. IsItem r.jobs m.0 m.1 c.args.offer) (sym c.self.view_is) m.3 in
    let low : c.args.offer.word < length c.self.inside.table.shared.key.base.value.items = c.self.invariant.below m.0 m.1 c.args.offer item in
    (own, omega arith, proposes _ _ _ _ _ _ _ _ (omega arith) (omega arith) c.seat.invariant.1 same)
