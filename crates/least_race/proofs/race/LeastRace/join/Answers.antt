use Rattle.std.proofs.Common.{ap, sym, ◌∙◌, arith}
use Rattle.least_race.proofs.Moves.{joins}
use Rattle.least_race.proofs.race.LeastRace.join.Goals as goal

pub join_seat-requires : goal.join_seat-requires
join_seat-requires g c =
    let race = sym (ap (λ r. r.race) c.self.view_is) in
    let own = ap (λ s. s.race) c.seat.view_is ∙ (c.requires.own.0.0 ∙ race) in
    let theirs = ap (λ s. s.race) c.other.view_is ∙ (c.requires.own.1.0 ∙ race) in
    let wide = c.self.invariant.words in
    (own, theirs, c.other.invariant.0, omega arith, joins _ _ _ _ _ _ _ c.seat.invariant.1 c.other.invariant.1)
