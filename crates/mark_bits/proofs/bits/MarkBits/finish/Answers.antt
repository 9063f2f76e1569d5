use Rattle.std.proofs.Common.{◌≡◌, ◌<◌, ℕ, List, length, take, drop, ◌++◌, ap, sym, ◌∙◌, subst, rules}
use Rattle.std.proofs.Math.Seq.{take-append_seam}
use Rattle.mark_bits.specs.Words.{times, Among, bit_of}
use Rattle.mark_bits.proofs.Moves.{end_firsts, end_set, end_marked}
use Rattle.mark_bits.proofs.bits.MarkBits.finish.Goals as goal

pub returns-clause-marked : goal.returns-clause-marked
returns-clause-marked c = λ x m.
    let whole = ap (λ s. s.party.width) c.seat.view_is ∙ (c.requires.whole ∙ sym (ap (λ b. b.width) c.self.view_is)) in
    let len : c.self.inside.words.len ≡ length c.copy_words.new.words = search rules in
    let row = ap (λ (n : ℕ). take n (c.copy_words.new.words ++ drop (length c.copy_words.new.words) c.self.inside.words.items)) len ∙ take-append_seam c.copy_words.new.words (drop (length c.copy_words.new.words) c.self.inside.words.items) in
    let end = end_set _ _ _ _ _ _ c.close_with-closed.ensures.values.2 whole x (subst (λ s. Among x s.party.marked) (sym c.seat.view_is) m) in
    ap (λ (l : List ℕ). bit_of l x) (c.from_vec.ensures ∙ (row ∙ c.copy_words.ensures)) ∙ end

pub returns-clause-set : goal.returns-clause-set
returns-clause-set c = λ x one.
    let whole = ap (λ s. s.party.width) c.seat.view_is ∙ (c.requires.whole ∙ sym (ap (λ b. b.width) c.self.view_is)) in
    let len : c.self.inside.words.len ≡ length c.copy_words.new.words = search rules in
    let row = ap (λ (n : ℕ). take n (c.copy_words.new.words ++ drop (length c.copy_words.new.words) c.self.inside.words.items)) len ∙ take-append_seam c.copy_words.new.words (drop (length c.copy_words.new.words) c.self.inside.words.items) in
    let same = ap (λ (l : List ℕ). bit_of l x) (c.from_vec.ensures ∙ (row ∙ c.copy_words.ensures)) in
    subst (λ s. Among x s.party.marked) c.seat.view_is (end_marked _ _ _ _ _ _ c.close_with-closed.ensures.values.2 whole x (sym same ∙ one))

pub returns-clause-once : goal.returns-clause-once
returns-clause-once c = λ x.
    let whole = ap (λ s. s.party.width) c.seat.view_is ∙ (c.requires.whole ∙ sym (ap (λ b. b.width) c.self.view_is)) in
    let len : c.self.inside.words.len ≡ length c.copy_words.new.words = search rules in
    let row = ap (λ (n : ℕ). take n (c.copy_words.new.words ++ drop (length c.copy_words.new.words) c.self.inside.words.items)) len ∙ take-append_seam c.copy_words.new.words (drop (length c.copy_words.new.words) c.self.inside.words.items) in
    let end = end_firsts _ _ _ _ _ _ c.close_with-closed.ensures.values.2 whole x in
    ap (λ s. times x s.party.first) (sym c.seat.view_is) ∙ (end ∙ sym (ap (λ (l : List ℕ). bit_of l x) (c.from_vec.ensures ∙ (row ∙ c.copy_words.ensures))))

pub invariant_of-result-clause-low : goal.invariant_of-result-clause-low
invariant_of-result-clause-low c = λ x one.
    let whole = ap (λ s. s.party.width) c.seat.view_is ∙ (c.requires.whole ∙ sym (ap (λ b. b.width) c.self.view_is)) in
    let len : c.self.inside.words.len ≡ length c.copy_words.new.words = search rules in
    let row = ap (λ (n : ℕ). take n (c.copy_words.new.words ++ drop (length c.copy_words.new.words) c.self.inside.words.items)) len ∙ take-append_seam c.copy_words.new.words (drop (length c.copy_words.new.words) c.self.inside.words.items) in
    let same = ap (λ (l : List ℕ). bit_of l x) (c.from_vec.ensures ∙ (row ∙ c.copy_words.ensures)) in
    let m = subst (λ s. Among x s.party.marked) c.seat.view_is (end_marked _ _ _ _ _ _ c.close_with-closed.ensures.values.2 whole x (sym same ∙ one)) in
    subst (λ (n : ℕ). x < n) (sym (ap (λ b. b.chunks) c.self.view_is)) (c.requires.own.low x m)
