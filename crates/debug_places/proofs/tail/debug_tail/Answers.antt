use Rattle.std.proofs.Common.{List, ℕ, ap, sym, subst, ◌∙◌}
use Rattle.std.specs.Prelude.{Ok, Result}
use Rattle.link_program.specs.wl_base.declared.fault.Fault.{Fault}
use Rattle.link_program.specs.link_plan.declared.plan.Plan.{Plan}
use Rattle.link_program.specs.link_rules.ModeOf.{mode_of}
use Rattle.link_program.specs.Answers.{Answers}
use Rattle.link_layout.specs.Layout.{IsLayout}
use Rattle.debug_places.proofs.Joined.{not_kept, joined_told}
use Rattle.debug_places.proofs.tail.debug_tail.Goals as goal

pub returns-then-not-plan : goal.returns-then-not-plan
returns-then-not-plan g c =
    let s = g.s.stage in
    let layout : IsLayout s.program s.parts s.exports c.args.layout = c.requires.1.1.0 in
    let plan = ap (λ (q : Plan). q.keep_debug) layout.program.plan in
    not_kept s.program s.parts s.exports g.s.all c.args.measured.now.len (mode_of s.program.plan) (sym plan ∙ c.if-not-plan.true) ∙ ap (λ (bytes : List ℕ). Ok bytes) (sym c.new.ensures)

pub returns : goal.returns
returns g c =
    let s = g.s.stage in
    let layout : IsLayout s.program s.parts s.exports c.args.layout = c.requires.1.1.0 in
    let kept = sym (ap (λ (q : Plan). q.keep_debug) layout.program.plan) ∙ c.if-not-plan.false in
    let told = joined_told s.program s.parts s.exports g.s.all c.args.measured.now.len (mode_of s.program.plan) kept
    c.args.homes.now c.requires.1.1.1.1.1.1.0 c.args.files.now c.requires.1.1.1.1.1.1.1 c.args.layout.program.objects.now layout.program.objects
    c.in_ok-places.places c.in_ok-places.ensures.places c.in_ok-places.ensures.inputs c.in_ok-places.ensures.length in
    subst (λ (said : Result (List ℕ) Fault). Answers (λ bytes. bytes) c.answered.result said) told (c.answered.ensures _ c.join_debug_by-joined.ensures.exact)
