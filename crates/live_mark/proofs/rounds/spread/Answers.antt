use Rattle.std.proofs.Common.{◌≡◌, ℕ, false, List, length, sym, ap, subst, arith, rules, length-append}
use Rattle.live_mark.specs.Asks.{asks, IsPlan, RoundDone}
use Rattle.live_mark.proofs.Reaches.{few_first, frontier_plan, going_next}
use Rattle.live_mark.proofs.rounds.spread.Goals as goal

pub round-next-requires-clause-plan : goal.round-next-requires-clause-plan
round-next-requires-clause-plan g c κs within =
    let p = c.args.opening in
    subst (λ (l : List ℕ). IsPlan p.bits.now false (g.E.Edges.targets c.args.edges.now) l) (sym c.as_slice.ensures.value)
    (frontier_plan p.bits.now (g.E.Edges.targets c.args.edges.now) p.places.now p.workers c.loop-frontier.seat c.loop-frontier.frontier.items c.requires.count.0 c.requires.count.1 c.requires.targets c.loop-frontier.invariant)

pub loop-frontier-smaller : goal.loop-frontier-smaller
loop-frontier-smaller g c =
    let noted = c.in_ok-frontier.ensures in
    let first = ap (λ (l : List ℕ). length l) (c.round-next.ensures.first noted.0) in
    let both = length-append c.loop-frontier.seat.party.first c.round-next.result.1.chunks.items in
    let fresh = ap (λ (l : List ℕ). length l) noted.1 in
    let few = few_first c.args.opening.bits.now c.round-next.result.0 c.round-next.ensures.own in
    let some = c.loop-frontier-test.true in
    let len = c.len.ensures in
    let n : length c.loop-frontier.frontier.items ≡ c.len.result = search rules in
    omega arith

pub loop-frontier-preserved : goal.loop-frontier-preserved
loop-frontier-preserved g c =
    let p = c.args.opening in
    let noted = c.in_ok-frontier.ensures in
    let s = c.loop-frontier.seat in
    let done : RoundDone p.bits.now s.party (asks false (g.E.Edges.targets c.args.edges.now) c.loop-frontier.frontier.items) c.round-next.result.0 c.in_ok-frontier.frontier.items c.round-next.result.1.refused =
    subst (λ (z : List ℕ × List ℕ). RoundDone p.bits.now s.party (asks false (g.E.Edges.targets c.args.edges.now) z.0) c.round-next.result.0 z.1 c.round-next.result.1.refused) (λ i. (c.as_slice.ensures.value i, sym noted.1 i)) c.round-next.ensures in
    going_next p.bits.now (g.E.Edges.targets c.args.edges.now) p.places.now p.workers s c.round-next.result.0 c.loop-frontier.frontier.items c.in_ok-frontier.frontier.items c.round-next.result.1.refused c.loop-frontier.invariant done noted.0
