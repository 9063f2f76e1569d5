use Rattle.std.proofs.Common.{◌≡◌, List, ℕ, ap, sym, subst, ◌∙◌}
use Rattle.std.proofs.lemmas.Result.{err_from_is_err_and}
use Rattle.std.specs.Prelude.{Ok, Result}
use Rattle.link_program.specs.wl_base.declared.fault.Fault.{Fault}
use Rattle.link_program.specs.object_file.declared.object.Object.{Object}
use Rattle.link_program.specs.link_plan.declared.plan.Plan.{Plan}
use Rattle.link_program.specs.Answers.{Answers}
use Rattle.link_program.specs.Loaded.{IsLoaded}
use Rattle.link_layout.specs.Layout.{IsLayout}
use Rattle.debug_out.specs.Inputs.{inputs_of}
use Rattle.link_tails.specs.debug_tails.link_debug.Places.{link_inputs}
use Rattle.tails_out.proofs.Whole.{unasked, asked}
use Rattle.tails_out.proofs.behind.features_behind.Goals as goal

pub returns-then-not-asks_features : goal.returns-then-not-asks_features
returns-then-not-asks_features g c =
    let s = g.s.stage in
    let layout : IsLayout s.program s.parts s.exports c.args.layout = c.requires.0 in
    unasked s.program g.s.all c.args.layout.program.plan.now.features (ap (λ (q : Plan). q.features) layout.program.plan) (sym c.asks_features.ensures ∙ c.if-not-asks_features.true) ∙ ap (λ (bytes : List ℕ). Ok bytes) (sym c.new.ensures)

pub object_spans-requires : goal.object_spans-requires
object_spans-requires g c =
    let s = g.s.stage in
    let layout : IsLayout s.program s.parts s.exports c.args.layout = c.requires.0 in
    subst (λ os. IsLoaded s.program.files g.s.all os c.args.homes.now) (sym layout.program.objects) c.requires.1.0

pub returns-in_err-spans : goal.returns-in_err-spans
returns-in_err-spans g c =
    let p = err_from_is_err_and c.from_residual.result c.from_residual.ensures.1 in
    rw (p.1, p.2) tt

pub returns : goal.returns
returns g c =
    let s = g.s.stage in
    let layout : IsLayout s.program s.parts s.exports c.args.layout = c.requires.0 in
    let objects = c.args.layout.program.objects.now in
    let files = c.requires.1.1 in
    let told : inputs_of c.args.files.now objects c.as_slice.result.now ≡ link_inputs s.program.files g.s.all s.program.objects =
    (λ i. inputs_of (files i) objects (c.as_slice.ensures i)) ∙ (c.in_ok-spans.ensures ∙ ap (λ (os : List Object). link_inputs s.program.files g.s.all os) layout.program.objects) in
    subst (λ (said : Result (List ℕ) Fault). Answers (λ bytes. bytes) c.answered.result said)
    (asked s.program g.s.all c.args.layout.program.plan.now.features c.args.files.now objects c.as_slice.result.now (ap (λ (q : Plan). q.features) layout.program.plan) told)
    (c.answered.ensures _ c.feature_tail-told.ensures)
