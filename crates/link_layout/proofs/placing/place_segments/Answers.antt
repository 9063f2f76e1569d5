use Rattle.std.proofs.Common.{◌≡◌, map, ap, sym, subst, ◌∙◌}
use Rattle.link_program.specs.link_rules.ModeOf.{mode_of}
use Rattle.link_program.specs.memory_layout.Steps.{AreAligned, AreRules}
use Rattle.link_program.specs.link_rules.Values.{rules_of}
use Rattle.link_layout.specs.Segments.{segment_numbers, shape_at}
use Rattle.link_layout.proofs.Parts.{aligned}
use Rattle.link_layout.proofs.PlacedTold.{answers_by, are_rules}
use Rattle.link_layout.proofs.placing.place_segments.Goals as goal

pub place_all-requires-clause-rules : goal.place_all-requires-clause-rules
place_all-requires-clause-rules g c =
    subst AreRules (sym (c.rules_of-rules.ensures ∙ ap (λ plan. rules_of (mode_of plan) plan) c.requires.0.plan)) (are_rules (mode_of g.s.program.plan) g.s.program.plan c.requires.1.1.1.1)

pub place_all-requires-clause-aligned : goal.place_all-requires-clause-aligned
place_all-requires-clause-aligned g c =
    let p = c.args.program in
    let t = p.tables.now in
    let files = c.args.files.now in
    let numbers : c.deref.result.now ≡ segment_numbers t c.args.live.now = c.deref.ensures.value ∙ c.in_ok-numbers.ensures in
    let shapes : c.deref-3.result.now ≡ map (shape_at t files) (segment_numbers t c.args.live.now) = c.deref-3.ensures.value ∙ c.in_ok-shapes.ensures ∙ ap (map (shape_at t files)) numbers in
    subst AreAligned (sym shapes)
    (aligned p.names.now.names p.resolution.now.imports t g.s.program c.requires.0.tables c.args.live.now g.s.parts c.requires.1.1.0 files c.requires.1.1.1.0 c.requires.1.0)

pub returns : goal.returns
returns g c =
    let p = c.args.program in
    let t = p.tables.now in
    let files = c.args.files.now in
    let numbers : c.deref.result.now ≡ segment_numbers t c.args.live.now = c.deref.ensures.value ∙ c.in_ok-numbers.ensures in
    let same : c.deref-2.result.now ≡ c.deref.result.now = c.deref-2.ensures.value ∙ sym c.deref.ensures.value in
    let shapes : c.deref-3.result.now ≡ map (shape_at t files) c.deref-2.result.now = c.deref-3.ensures.value ∙ c.in_ok-shapes.ensures ∙ ap (map (shape_at t files)) (sym same) in
    answers_by (mode_of g.s.program.plan) p.names.now.names p.resolution.now.imports t g.s.program c.requires.0.tables c.args.live.now g.s.parts c.requires.1.1.0 files c.requires.1.1.1.0
    c.rules_of-rules.result (c.rules_of-rules.ensures ∙ ap (λ plan. rules_of (mode_of plan) plan) c.requires.0.plan)
    c.deref-2.result.now (same ∙ numbers) c.deref-3.result.now shapes c.len.result c.len.ensures c.place_all.result c.place_all.ensures
