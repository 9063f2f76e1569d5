use Rattle.std.proofs.Common.{sym, subst, ◌∙◌}
use Rattle.link_output.specs.link_program.link_rules.ModeOf.{mode_of}
use Rattle.program_build.specs.Found.{IsFound}
use Rattle.link_core.proofs.Listing.{strict_told, none_told, loose_told, kept_told, these_named, view_fits, view_entries, view_resolved, view_resolution}
use Rattle.link_core.proofs.telling.mismatches_in.Goals as goal

pub returns-then-not-plan : goal.returns-then-not-plan
returns-then-not-plan g c = c.new.ensures ∙ sym (strict_told (mode_of c.args.plan.now) c.args.plan.now c.args.objects.now c.args.found.now g.p c.requires c.if-not-plan.true)

pub returns-then-is_empty : goal.returns-then-is_empty
returns-then-is_empty g c =
    c.new-then-is_empty.ensures
    ∙ sym (none_told (mode_of c.args.plan.now) c.args.plan.now c.args.objects.now c.args.found.now g.p c.requires c.if-not-plan.false (sym c.is_empty.ensures ∙ c.if-is_empty.true))

pub mismatches-requires : goal.mismatches-requires
mismatches-requires g c =
    let is = subst (λ m. IsFound m c.args.plan.now c.args.objects.now c.args.found.now g.p) (sym c.mode_of.ensures) c.requires in (
      view_fits c.mode_of.result c.args.plan.now c.args.objects.now c.args.found.now g.p is c.view.result c.view.ensures.objects (c.view.ensures.fits),
      view_resolution c.mode_of.result c.args.plan.now c.args.objects.now c.args.found.now g.p is c.view.result c.view.ensures.objects,
    )

pub called_only-requires : goal.called_only-requires
called_only-requires g c = these_named (mode_of c.args.plan.now) c.args.plan.now c.args.objects.now c.args.found.now g.p c.requires

pub returns : goal.returns
returns g c =
    let is = subst (λ m. IsFound m c.args.plan.now c.args.objects.now c.args.found.now g.p) (sym c.mode_of.ensures) c.requires in
    kept_told g.p c.in_ok-all.all c.in_ok-told.told
    (c.in_ok-all.ensures g.p (view_entries c.mode_of.result c.args.plan.now c.args.objects.now c.args.found.now g.p is c.view.result c.view.ensures.objects)
    (view_resolved c.mode_of.result c.args.plan.now c.args.objects.now c.args.found.now g.p is c.view.result c.view.ensures.objects))
    c.in_ok-told.ensures
    ∙ sym (loose_told (mode_of c.args.plan.now) c.args.plan.now c.args.objects.now c.args.found.now g.p c.requires c.if-not-plan.false)
