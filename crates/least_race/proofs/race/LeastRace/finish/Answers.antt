use Rattle.std.proofs.Common.{◌≡◌, ℕ, ◌<◌, ◌≤◌, List, length, get_or, take, drop, ◌++◌, ap, sym, ◌∙◌, subst, rules}
use Rattle.std.proofs.Math.Seq.{take-append_seam}
use Rattle.least_race.specs.Race.{times, once_below, least}
use Rattle.least_race.proofs.Moves.{end_least, end_distinct, end_all}
use Rattle.least_race.proofs.race.LeastRace.finish.Goals as goal

pub returns-clause-least : goal.returns-clause-least
returns-clause-least g c = λ i inside.
    let len : c.self.inside.words.len ≡ length c.copy_words.new.words = search rules in
    let row = ap (λ (n : ℕ). take n (c.copy_words.new.words ++ drop (length c.copy_words.new.words) c.self.inside.words.items)) len ∙ take-append_seam c.copy_words.new.words (drop (length c.copy_words.new.words) c.self.inside.words.items) in
    let whole = ap (λ s. s.party.width) c.seat.view_is ∙ (c.requires.whole ∙ sym (ap (λ r. r.width) c.self.view_is)) in
    let base = ap (λ r. r.base) c.self.view_is in
    let proposals = ap (λ s. s.party.proposals) c.seat.view_is in
    let inside' : i < length c.self.inside.table.shared.key.base.value.items = subst (λ (l : List ℕ). i < length l) (sym base) inside in
    let far : i < length c.deref_mut.result.now = search rules in
    let end = end_least _ _ _ _ _ _ _ c.close_with-closed.ensures.values.2 whole i inside' in
    ap (λ (l : List ℕ). get_or l i 0) (c.from_vec.ensures ∙ row) ∙ (c.copy_words.ensures i far ∙ (end ∙ (λ k. least i (get_or (base k) i 0) (proposals k))))

pub returns-clause-distinct : goal.returns-clause-distinct
returns-clause-distinct g c = λ x.
    let whole = ap (λ s. s.party.width) c.seat.view_is ∙ (c.requires.whole ∙ sym (ap (λ r. r.width) c.self.view_is)) in
    subst (λ s. times x s.party.claims ≤ 1) c.seat.view_is (end_distinct _ _ _ _ _ _ _ c.close_with-closed.ensures.values.2 whole x)

pub returns-clause-all : goal.returns-clause-all
returns-clause-all g c = λ some_pass x.
    let whole = ap (λ s. s.party.width) c.seat.view_is ∙ (c.requires.whole ∙ sym (ap (λ r. r.width) c.self.view_is)) in
    let jobs = c.self.invariant.counted ∙ ap (λ r. length r.jobs) c.self.view_is in
    let pass = subst (λ s. 0 < s.party.passes) (sym c.seat.view_is) some_pass in
    let end = end_all _ _ _ _ _ _ _ c.close_with-closed.ensures.values.2 whole pass x in
    ap (λ s. times x s.party.claims) (sym c.seat.view_is) ∙ (end ∙ ap (once_below x) jobs)
