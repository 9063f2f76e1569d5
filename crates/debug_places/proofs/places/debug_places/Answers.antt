use Rattle.std.proofs.Common.{List, Bool, ap, sym, subst, ◌∙◌}
use Rattle.link_program.specs.object_file.declared.object.Object.{Object}
use Rattle.link_program.specs.link_rules.ModeOf.{mode_of}
use Rattle.debug_places.specs.Found.{AreMade, AreMarked}
use Rattle.debug_places.specs.Spans.{span_seen}
use Rattle.std.specs.Prelude.{map}
use Rattle.debug_places.proofs.All.{all_told}
use Rattle.debug_places.proofs.places.debug_places.Goals as goal

pub returns-clause-places : goal.returns-clause-places
returns-clause-places g c =
    let made = subst (λ ns. AreMade (mode_of g.s.program.plan) ns c.args.layout.placed.now.places) (sym c.as_slice.ensures) c.in_ok-made.ensures in
    let flags = subst (λ (bs : List Bool). AreMarked bs c.args.live.now) (sym c.deref.ensures.value) c.in_ok-flags.ensures in
    all_told (mode_of g.s.program.plan) g.s.program g.s.parts g.s.exports c.args.layout c.requires.0 c.args.live.now c.requires.1.0 c.as_slice.result.now made c.deref.result.now flags c.args.measured.now c.requires.1.1.0 c.requires.1.1.1
    c.in_ok-places.places c.in_ok-places.ensures.bodies c.in_ok-places.ensures.addresses c.in_ok-places.ensures.slots c.in_ok-places.ensures.globals

pub returns-clause-inputs : goal.returns-clause-inputs
returns-clause-inputs g c = c.in_ok-places.ensures.inputs ∙ ap (map (λ (o : Object). span_seen c.args.homes.now o.input)) c.requires.0.program.objects
