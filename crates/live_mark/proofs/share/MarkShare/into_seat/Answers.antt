use Rattle.std.proofs.Common.{ap, sym, ◌∙◌, subst}
use Rattle.live_mark.specs.Asks.{RoundDone}
use Rattle.live_mark.specs.Shares.{asked_of}
use Rattle.live_mark.proofs.Joints.{whole_done}
use Rattle.live_mark.proofs.share.MarkShare.into_seat.Goals as goal

pub returns : goal.returns
returns g c =
    let self = c.self.view_is in
    let done = ap (λ v. v.done) self ∙ c.requires.0 in
    let start = ap (λ v. v.first) self ∙ c.requires.1 in
    let all = ap (λ v. v.width) self ∙ (c.requires.2 ∙ sym (ap (λ v. v.round.parts) self)) in
    subst (λ v. RoundDone v.round.bits v.round.before (asked_of v.round) c.self.inside.seat c.self.inside.found.chunks.items c.self.inside.found.refused) self
    (whole_done _ _ _ _ _ _ _ done start all c.self.invariant)
