use Rattle.std.proofs.Common.{ℕ, ◌%◌, ◌<◌, ap, sym, ◌∙◌, arith}
use Rattle.std.specs.Int.{bit_at}
use Rattle.mark_bits.specs.Marks.{marked_first, marked_again, with_mark}
use Rattle.mark_bits.proofs.Keeps.{word_inside}
use Rattle.mark_bits.proofs.Moves.{marks, one_bit, told}
use Rattle.mark_bits.proofs.Sitting.{seat_marked}
use Rattle.mark_bits.proofs.bits.MarkBits.mark_at.Goals as goal

pub fetch_or-found-requires : goal.fetch_or-found-requires
fetch_or-found-requires g c =
    let own = ap (λ s. s.marks) c.seat.view_is ∙ (c.requires.own.own ∙ sym (ap (λ b. b.marks) c.self.view_is)) in
    let chunks = ap (λ b. b.chunks) c.self.view_is in
    let key = c.self.invariant.0 in
    let words = c.self.invariant.1 in
    let asked = c.requires.chunk in
    let n : ℕ = c.self.inside.chunks in
    let below : c.args.chunk < n = omega arith in
    let inside = word_inside n c.args.chunk below in
    (own, omega arith, marks _ _ _ _ _ _ _ _ c.requires.picked (omega arith) c.seat.invariant.1 (one_bit (c.args.chunk % 64) (omega arith)))

pub returns-clause-marked : goal.returns-clause-marked
returns-clause-marked g c =
    let n : ℕ = c.fetch_or-found.result in
    let v = c.args.seat.now.party in
    let k : ℕ = c.args.chunk in
    let party = ap (λ s. s.party) c.seat.view_is in
    let e = ap (λ m. m.0) c.fetch_or-found.ensures.2.0 ∙ (λ i. with_mark (party i) (c.requires.picked i) (bit_at n (c.requires.picked i % 64))) in
    told n (k % 64) _ (marked_first v k) (marked_again v k) _ (one_bit (k % 64) (omega arith)) e

pub returns-clause-own : goal.returns-clause-own
returns-clause-own g c =
    let n : ℕ = c.fetch_or-found.result in
    let party = ap (λ s. s.party) c.seat.view_is in
    let k : ℕ = c.args.chunk in
    let own = c.fetch_or-found.ensures.0 ∙ (ap (λ s. s.marks) c.seat.view_is ∙ c.requires.own.own) in
    let e = ap (λ m. m.0) c.fetch_or-found.ensures.2.0 ∙ (λ i. with_mark (party i) (c.requires.picked i) (bit_at n (c.requires.picked i % 64))) in
    seat_marked c.args.self.now c.args.seat.now _ c.requires.own own k (bit_at n (k % 64)) e c.requires.chunk c.fetch_or-found.ensures.2.1
