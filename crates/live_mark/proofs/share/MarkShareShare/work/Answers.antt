use Rattle.std.proofs.Common.{◌≡◌, ℕ, ◌+◌, ◌<◌, Bool, true, false, List, ◌∷◌, [], ◌++◌, length, get_or, take, filter_map, option_to_list, sym, ap, ◌∙◌, subst, arith}
use Rattle.std.proofs.Math.Seq.{take-length}
use Rattle.std.specs.Prelude.{slice_range}
use Rattle.mark_bits.specs.Words.{Among}
use Rattle.live_mark.specs.Asks.{asked_by, asks}
use Rattle.live_mark.specs.Plans.{round_of}
use Rattle.live_mark.specs.Shares.{Round, asked_in, Adds, IsShare}
use Rattle.live_mark.proofs.Joints.{asks_at, asks_more, adds_more, works_share, cut_rises}
use Rattle.live_mark.proofs.Works.{led_more, led_among}
use Rattle.live_mark.proofs.share.MarkShareShare.work.Goals as goal

pub mark_some-requires-clause-below : goal.mark_some-requires-clause-below
mark_some-requires-clause-below g c = λ x m.
    let p = c.self.inside.plan in
    let targets = g.E.Edges.targets c.self.inside.edges.now in
    let to = c.begin-to.ensures.within in
    let at = c.loop-place-test.true in
    let k : ℕ = c.loop-place.place in
    c.self.invariant.round.plan.below x (asks_at p.rooting targets p.places.now k x (omega arith) (subst (λ (b : Bool). Among x (asked_by b targets (get_or p.places.now k 0))) (sym c.if-rooting.true) m))

pub loop-place-preserved-then-rooting : goal.loop-place-preserved-then-rooting
loop-place-preserved-then-rooting g c =
    let p = c.self.inside.plan in
    let targets = g.E.Edges.targets c.self.inside.edges.now in
    let i : ℕ = c.begin-from.result in
    let k : ℕ = c.loop-place.place in
    let to = c.begin-to.ensures.within in
    let at = c.loop-place-test.true in
    let inv = c.loop-place.invariant in
    let from = inv.from in
    let s = c.self.inside.seat in
    let f = c.self.inside.found in
    let now = c.loop-place.self-inside.found in
    let new = c.mark_some.new.found in
    let chunk : ℕ = get_or p.places.now k 0 in
    let xs : List ℕ = asks p.rooting targets (slice_range p.places.now i k) in
    let same = asks_more p.rooting targets p.places.now i k from (omega arith) ∙ ap (λ (b : Bool). xs ++ asked_by b targets chunk) c.if-rooting.true in
    record {
      plan = inv.plan;
      parts = inv.parts;
      edges = inv.edges;
      first = inv.first;
      width = inv.width;
      own = c.mark_some.ensures.own;
      from = omega arith;
      adds = subst (λ (l : List ℕ). Adds s c.mark_some.new.seat l f.chunks.items new.chunks.items f.refused new.refused) (sym same)
          (adds_more s c.loop-place.self-inside.seat c.mark_some.new.seat xs (chunk ∷ []) f.chunks.items now.chunks.items new.chunks.items f.refused now.refused new.refused inv.adds c.mark_some.ensures.adds);
    }

pub mark_some-requires-in-loop-item-clause-below : goal.mark_some-requires-in-loop-item-clause-below
mark_some-requires-in-loop-item-clause-below g c = λ x m.
    let p = c.self.inside.plan in
    let targets = g.E.Edges.targets c.self.inside.edges.now in
    let lead = g.E.Edges.target c.self.inside.edges.now in
    let row = c.row-row.result.now in
    let to = c.begin-to.ensures.within in
    let at = c.loop-place-test.true in
    let k : ℕ = c.loop-place.place in
    let led : Among x (option_to_list (lead c.item-item.result)) = subst (λ o. Among x (option_to_list o)) c.target-target.ensures m in
    let here : Among x (asked_by false targets (get_or p.places.now k 0)) =
    subst (λ (l : List ℕ). Among x l) c.row-row.ensures (led_among lead row c.loop-item.item-index c.item-item.result c.loop-item-test.true c.item-item.is x led) in
    c.self.invariant.round.plan.below x (asks_at p.rooting targets p.places.now k x (omega arith) (subst (λ (b : Bool). Among x (asked_by b targets (get_or p.places.now k 0))) (sym c.if-rooting.false) here))

pub loop-item-preserved : goal.loop-item-preserved
loop-item-preserved g c =
    let lead = g.E.Edges.target c.self.inside.edges.now in
    let row = c.row-row.result.now in
    let i : ℕ = c.loop-item.item-index in
    let s = c.loop-place.self-inside.seat in
    let f = c.loop-place.self-inside.found in
    let now = c.loop-item.self-inside.found in
    let new = c.mark_some-in-loop-item.new.found in
    let inv = c.loop-item.invariant in
    let xs : List ℕ = filter_map lead (take i row) in
    let same = led_more lead row i c.item-item.result c.loop-item-test.true c.item-item.is ∙ ap (λ o. xs ++ option_to_list o) (sym c.target-target.ensures) in
    record {
      plan = inv.plan;
      parts = inv.parts;
      edges = inv.edges;
      first = inv.first;
      width = inv.width;
      own = c.mark_some-in-loop-item.ensures.own;
      adds = subst (λ (l : List ℕ). Adds s c.mark_some-in-loop-item.new.seat l f.chunks.items new.chunks.items f.refused new.refused) (sym same)
          (adds_more s c.loop-item.self-inside.seat c.mark_some-in-loop-item.new.seat xs (option_to_list c.target-target.result) f.chunks.items now.chunks.items new.chunks.items f.refused now.refused new.refused inv.adds c.mark_some-in-loop-item.ensures.adds);
    }

pub loop-place-preserved : goal.loop-place-preserved
loop-place-preserved g c =
    let p = c.self.inside.plan in
    let targets = g.E.Edges.targets c.self.inside.edges.now in
    let lead = g.E.Edges.target c.self.inside.edges.now in
    let row = c.row-row.result.now in
    let i : ℕ = c.begin-from.result in
    let k : ℕ = c.loop-place.place in
    let n : ℕ = c.loop-item.item-index in
    let to = c.begin-to.ensures.within in
    let at = c.loop-place-test.true in
    let was = c.loop-place.invariant in
    let inv = c.loop-item.invariant in
    let from = was.from in
    let s = c.self.inside.seat in
    let f = c.self.inside.found in
    let mid = c.loop-place.self-inside.found in
    let now = c.loop-item.self-inside.found in
    let chunk : ℕ = get_or p.places.now k 0 in
    let xs : List ℕ = asks p.rooting targets (slice_range p.places.now i k) in
    let end = c.loop-item-test.false in
    let top = c.loop-item.auto.item-index-end in
    let last : n ≡ length row = omega (arith, end, top) in
    let all : filter_map lead (take n row) ≡ asked_by false targets chunk = ap (λ (m : ℕ). filter_map lead (take m row)) last ∙ (ap (filter_map lead) (take-length row) ∙ c.row-row.ensures) in
    let same = asks_more p.rooting targets p.places.now i k from (omega arith) ∙ (ap (λ (b : Bool). xs ++ asked_by b targets chunk) c.if-rooting.false ∙ ap (λ (l : List ℕ). xs ++ l) (sym all)) in
    record {
      plan = inv.plan ∙ was.plan;
      parts = inv.parts ∙ was.parts;
      edges = inv.edges ∙ was.edges;
      first = inv.first ∙ was.first;
      width = inv.width ∙ was.width;
      own = inv.own;
      from = omega arith;
      adds = subst (λ (l : List ℕ). Adds s c.loop-item.self-inside.seat l f.chunks.items now.chunks.items f.refused now.refused) (sym same)
          (adds_more s c.loop-place.self-inside.seat c.loop-item.self-inside.seat xs (filter_map lead (take n row)) f.chunks.items mid.chunks.items now.chunks.items f.refused mid.refused now.refused was.adds inv.adds);
    }

pub invariant_of-self : goal.invariant_of-self
invariant_of-self g c =
    let p = c.self.inside.plan in
    let targets = g.E.Edges.targets c.self.inside.edges.now in
    let end = c.loop-place-test.false in
    let auto = c.loop-place.auto in
    let from = c.loop-place.invariant.from in
    let first : ℕ = c.self.inside.first in
    let width : ℕ = c.self.inside.width in
    let lo = c.begin-from.ensures.is in
    let hi = c.begin-to.ensures.is in
    let rise = cut_rises (length p.places.now) c.self.inside.parts first (first + width) c.self.invariant.round.some (omega arith) in
    let top = auto.place-end (omega arith) in
    let last : c.loop-place.place ≡ c.begin-to.result = omega arith in
    let s = c.self.inside.seat in
    let t = c.loop-place.self-inside.seat in
    let f = c.self.inside.found in
    let now = c.loop-place.self-inside.found in
    let done = ap (λ v. v.done) c.self.view_is ∙ c.requires.0 in
    let adds : Adds s t (asked_in (round_of targets g.B.Before.party c.self.inside.parts p) first width) f.chunks.items now.chunks.items f.refused now.refused =
    subst (λ (l : List ℕ). Adds s t l f.chunks.items now.chunks.items f.refused now.refused) (λ i. asks p.rooting targets (slice_range p.places.now (lo i) ((last ∙ hi) i))) c.loop-place.invariant.adds in
    let whole = works_share (round_of targets g.B.Before.party c.self.inside.parts p) s t f.chunks.items now.chunks.items f.refused now.refused first width c.self.inside.done done c.self.invariant c.loop-place.invariant.own adds in
    let inv = c.loop-place.invariant in
    subst (λ (z : Round × ℕ × ℕ). IsShare z.0 t now.chunks.items now.refused z.1 z.2 true)
    (λ i. (round_of (g.E.Edges.targets (sym inv.edges i).now) g.B.Before.party (sym inv.parts i) (sym inv.plan i), sym inv.first i, sym inv.width i)) whole
