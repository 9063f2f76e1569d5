use Rattle.std.proofs.Common.{ℕ, true, List, sym, ◌∙◌, subst}
use Rattle.live_mark.specs.Asks.{asks, RoundDone}
use Rattle.live_mark.proofs.Reaches.{roots_plan, going_first, end_whole}
use Rattle.live_mark.proofs.rounds.live.Goals as goal

pub round-seat-requires-clause-plan : goal.round-seat-requires-clause-plan
round-seat-requires-clause-plan g c κs within =
    roots_plan c.in_ok-bits.bits (g.E.Edges.targets c.args.edges.now) c.args.roots.now (c.in_ok-bits.ensures.marks.0 ∙ c.count-chunks.ensures) c.requires.count.1 c.requires.roots

pub spread-requires-clause-going : goal.spread-requires-clause-going
spread-requires-clause-going g c κs within =
    let b = c.in_ok-bits.bits in
    let v = c.in_ok-bits.seat.party in
    let t = c.round-seat.result.0 in
    let refused = c.round-seat.result.1.refused in
    let noted = c.in_ok-into_chunks.ensures in
    let done : RoundDone b v (asks true (g.E.Edges.targets c.args.edges.now) c.args.roots.now) t c.in_ok-into_chunks.field-0.items refused =
    subst (λ (l : List ℕ). RoundDone b v (asks true (g.E.Edges.targets c.args.edges.now) c.args.roots.now) t l refused) (sym noted.1) c.round-seat.ensures in
    going_first b (g.E.Edges.targets c.args.edges.now) c.args.roots.now c.count-count.result v t c.in_ok-into_chunks.field-0.items refused c.in_ok-bits.ensures.seat.1 done noted.0

pub returns-clause-whole : goal.returns-clause-whole
returns-clause-whole g c = end_whole c.in_ok-bits.bits (g.E.Edges.targets c.args.edges.now) c.args.roots.now _ c.in_ok-seat.seat _ c.in_ok-seat.ensures c.finish.ensures.marked c.finish.ensures.set c.finish.ensures.once
