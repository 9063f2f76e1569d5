use Rattle.std.proofs.Common.{◌<◌, ap, sym, ◌∙◌, subst, arith}
use Rattle.least_race.proofs.Moves.{splits}
use Rattle.least_race.proofs.race.LeastRace.split_by.Goals as goal

pub split_seat-part-requires : goal.split_seat-part-requires
split_seat-part-requires g c =
    let own = ap (λ s. s.race) c.seat.view_is ∙ (c.requires.own.0 ∙ sym (ap (λ r. r.race) c.self.view_is)) in
    let less = subst (λ s. c.args.width < s.party.width) (sym c.seat.view_is) c.requires.width.1 in
    let part = c.requires.part in
    let wide = c.self.invariant.words in
    (own, omega arith, splits _ _ _ _ _ _ (omega arith) (omega arith))
