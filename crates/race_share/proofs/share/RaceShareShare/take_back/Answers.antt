use Rattle.std.proofs.Common.{◌+◌, sym, ap, ◌∙◌}
use Rattle.race_share.proofs.Works.{joins_shares}
use Rattle.race_share.proofs.share.RaceShareShare.take_back.Goals as goal

pub invariant_of-self : goal.invariant_of-self
invariant_of-self g c =
    let self = c.self.view_is in
    let part = c.part.view_is in
    let same = ap (λ s. s.race) part ∙ (sym c.requires.2 ∙ sym (ap (λ s. s.race) self)) in
    let done = ap (λ s. s.done) self ∙ c.requires.0 in
    let done' = ap (λ s. s.done) part ∙ c.requires.1 in
    let beside = ap (λ s. s.first) part ∙ (c.requires.3 ∙ (λ i. (sym self i).first + (sym self i).width)) in
    joins_shares _ _ _ _ _ _ _ _ _ _ _ same done done' beside c.self.invariant c.part.invariant c.join.ensures.own c.join.ensures.party.0
