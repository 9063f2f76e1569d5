use Rattle.std.proofs.Common.{◌≡◌, ◌∙◌, Err, ap, sym, subst, rules}
use Rattle.std.proofs.lemmas.Result.{err_from_is_err_and}
use Rattle.link_output.specs.link_program.wl_base.Answers.{Answers}
use Rattle.link_output.specs.link_program.reloc_apply.declared.window.Patches.{Patches}
use Rattle.link_output.specs.link_program.reloc_apply.Windows.{filled}
use Rattle.link_output.specs.link_program.image_emit.Bytes.{bytes_of, tree_of}
use Rattle.patch_pieces.specs.Judged.{judged_patches}
use Rattle.link_output.specs.link_program.Moved.{moved_windows}
use Rattle.link_output.specs.link_program.link_rules.ModeOf.{mode_of}
use Rattle.link_image.specs.link_layout.Layout.{IsLayout}
use Rattle.link_core.specs.Chosen.{IsChosen}
use Rattle.link_core.specs.Making.{the_image, the_windows, the_held}
use Rattle.link_core.specs.Tails.{stage_tail}
use Rattle.link_core.proofs.Answering.{lie_there, stand_there, places_there, code_there, measure_failed, write_failed, wrote}
use Rattle.link_core.proofs.driver.make_ready.Goals as goal

pub image-requires : goal.image-requires
image-requires g c =
    let layout : IsLayout g.s.stage.program g.s.stage.parts g.s.stage.exports c.args.layout = c.requires.1.1.0 in
    let chosen : IsChosen g.s.stage c.args.layout.program c.args.exports.now c.args.live.now = c.requires.1.1.1.0 in
    (layout, (chosen.live, (chosen.among, chosen.exports)))

pub returns-in_err-image-clause-exact : goal.returns-in_err-image-clause-exact
returns-in_err-image-clause-exact g c =
    let p = err_from_is_err_and c.from_residual.result c.from_residual.ensures.1 in
    rw (p.1, p.2) tt

pub measured-requires : goal.measured-requires
measured-requires g c =
    let layout : IsLayout g.s.stage.program g.s.stage.parts g.s.stage.exports c.args.layout = c.requires.1.1.0 in
    let chosen : IsChosen g.s.stage c.args.layout.program c.args.exports.now c.args.live.now = c.requires.1.1.1.0 in
    let same : c.args.files.now ≡ g.s.stage.program.files = c.requires.1.1.1.1.0 in
    lie_there c.args.files.now g.s.stage.program.files (the_image g.s.stage) c.in_ok-image.image same c.in_ok-image.ensures
    (c.windows_stand_in_sources.ensures.lie (mode_of g.s.stage.program.plan) g.s.stage.program c.args.live.now g.s.stage.parts g.s.stage.exports layout.stand chosen.live)

pub returns-in_err-measured-clause-exact : goal.returns-in_err-measured-clause-exact
returns-in_err-measured-clause-exact g c =
    let same : c.args.files.now ≡ g.s.stage.program.files = c.requires.1.1.1.1.0 in
    let p = err_from_is_err_and c.from_residual-in_err-measured.result c.from_residual-in_err-measured.ensures.1 in
    rw (p.1)
    (measure_failed (mode_of g.s.stage.program.plan) g.s.stage.program (the_image g.s.stage) (the_windows g.s.stage) c.args.files.now c.in_ok-image.image same c.in_ok-image.ensures c.in_err-measured.field-0.0 p.0 p.2 c.in_err-measured.ensures)

pub patches-requires : goal.patches-requires
patches-requires g c κs within =
    let layout : IsLayout g.s.stage.program g.s.stage.parts g.s.stage.exports c.args.layout = c.requires.1.1.0 in
    let chosen : IsChosen g.s.stage c.args.layout.program c.args.exports.now c.args.live.now = c.requires.1.1.1.0 in
    let live = chosen.live in
    (search rules, (search rules, (layout, live)))

pub returns-in_err-patches-clause-exact : goal.returns-in_err-patches-clause-exact
returns-in_err-patches-clause-exact g c =
    let layout : IsLayout g.s.stage.program g.s.stage.parts g.s.stage.exports c.args.layout = c.requires.1.1.0 in
    let chosen : IsChosen g.s.stage c.args.layout.program c.args.exports.now c.args.live.now = c.requires.1.1.1.0 in
    let same : c.args.files.now ≡ g.s.stage.program.files = c.requires.1.1.1.1.0 in
    let p = err_from_is_err_and c.from_residual-in_err-patches.result c.from_residual-in_err-patches.ensures.1 in
    let files =
    lie_there c.args.files.now g.s.stage.program.files (the_image g.s.stage) c.in_ok-image.image same c.in_ok-image.ensures
    (c.windows_stand_in_sources.ensures.lie (mode_of g.s.stage.program.plan) g.s.stage.program c.args.live.now g.s.stage.parts g.s.stage.exports layout.stand chosen.live) in
    let stand =
    stand_there c.args.files.now g.s.stage.program.files (the_image g.s.stage) c.in_ok-image.image (the_windows g.s.stage) same c.in_ok-image.ensures
    (c.windows_stand_in_sources.ensures.stand (mode_of g.s.stage.program.plan) g.s.stage.program c.args.live.now g.s.stage.parts g.s.stage.exports layout.stand chosen.live) in
    let told = subst (λ ks. Answers {A = Patches} (Err c.in_err-patches.field-0.0) (judged_patches (moved_windows ks (the_windows g.s.stage)) (moved_windows ks (the_held g.s.stage)))) c.as_slice.ensures c.in_err-patches.ensures in
    rw (p.1)
    (write_failed (mode_of g.s.stage.program.plan) g.s.stage.program (the_image g.s.stage) (the_windows g.s.stage) c.args.files.now c.in_ok-image.image same c.in_ok-image.ensures (the_held g.s.stage) c.in_ok-measured.measured c.in_err-patches.field-0.0 p.0 p.2
    c.in_ok-measured.ensures
    (c.values_are_judged_in_turn.ensures c.args.files.now c.in_ok-image.image c.in_ok-measured.measured (the_windows g.s.stage) (the_held g.s.stage) c.in_err-patches.field-0.0 files c.in_ok-measured.ensures.0 stand told))

pub tail_behind-joined-requires : goal.tail_behind-joined-requires
tail_behind-joined-requires g c κs within =
    let layout : IsLayout g.s.stage.program g.s.stage.parts g.s.stage.exports c.args.layout = c.requires.1.1.0 in
    let chosen : IsChosen g.s.stage c.args.layout.program c.args.exports.now c.args.live.now = c.requires.1.1.1.0 in
    let same : c.args.files.now ≡ g.s.stage.program.files = c.requires.1.1.1.1.0 in
    let places = places_there g.s.stage c.args.files.now c.in_ok-image.image same c.in_ok-image.ensures c.in_ok-measured.measured c.in_ok-measured.ensures.1 in
    let code = code_there g.s.stage c.args.files.now c.in_ok-image.image same c.in_ok-image.ensures c.in_ok-measured.measured c.in_ok-measured.ensures.4 in
    let live = chosen.live in
    let loaded = c.requires.1.1.1.1.1 in
    (search rules, (search rules, (layout, (live, (places, (code, (loaded, same)))))))

pub returns-in_err-tail-clause-exact : goal.returns-in_err-tail-clause-exact
returns-in_err-tail-clause-exact g c =
    let p = err_from_is_err_and c.from_residual-in_err-tail.result c.from_residual-in_err-tail.ensures.1 in
    rw (p.1, p.2) tt

pub returns-clause-tail : goal.returns-clause-tail
returns-clause-tail g c = c.in_ok-tail.ensures (stage_tail g.s c.in_ok-measured.measured.len) c.tail_behind-joined.ensures

pub returns-clause-exact : goal.returns-clause-exact
returns-clause-exact g c =
    let layout : IsLayout g.s.stage.program g.s.stage.parts g.s.stage.exports c.args.layout = c.requires.1.1.0 in
    let chosen : IsChosen g.s.stage c.args.layout.program c.args.exports.now c.args.live.now = c.requires.1.1.1.0 in
    let same : c.args.files.now ≡ g.s.stage.program.files = c.requires.1.1.1.1.0 in
    let files =
    lie_there c.args.files.now g.s.stage.program.files (the_image g.s.stage) c.in_ok-image.image same c.in_ok-image.ensures
    (c.windows_stand_in_sources.ensures.lie (mode_of g.s.stage.program.plan) g.s.stage.program c.args.live.now g.s.stage.parts g.s.stage.exports layout.stand chosen.live) in
    let stand =
    stand_there c.args.files.now g.s.stage.program.files (the_image g.s.stage) c.in_ok-image.image (the_windows g.s.stage) same c.in_ok-image.ensures
    (c.windows_stand_in_sources.ensures.stand (mode_of g.s.stage.program.plan) g.s.stage.program c.args.live.now g.s.stage.parts g.s.stage.exports layout.stand chosen.live) in
    let held =
    stand_there c.args.files.now g.s.stage.program.files (the_image g.s.stage) c.in_ok-image.image (the_held g.s.stage) same c.in_ok-image.ensures
    (c.windows_stand_in_sources.ensures.held (mode_of g.s.stage.program.plan) g.s.stage.program c.args.live.now g.s.stage.parts g.s.stage.exports layout.stand chosen.live) in
    let told = sym (ap (λ ks. judged_patches (moved_windows ks (the_windows g.s.stage)) (moved_windows ks (the_held g.s.stage))) c.as_slice.ensures) ∙ c.in_ok-patches.ensures in
    let law = c.patches_make_the_output.ensures c.args.files.now c.in_ok-image.image c.in_ok-measured.measured (the_windows g.s.stage) (the_held g.s.stage) c.in_ok-patches.patches files c.in_ok-measured.ensures.0 stand held told in
    let made = filled c.in_ok-patches.patches.patches (bytes_of (tree_of c.args.files.now c.in_ok-image.image)) in
    wrote (mode_of g.s.stage.program.plan) g.s.stage.program (the_image g.s.stage) (the_windows g.s.stage) c.args.files.now c.in_ok-image.image same c.in_ok-image.ensures c.in_ok-measured.measured made c.in_ok-measured.ensures law.1

pub returns-clause-ready : goal.returns-clause-ready
returns-clause-ready g c =
    let layout : IsLayout g.s.stage.program g.s.stage.parts g.s.stage.exports c.args.layout = c.requires.1.1.0 in
    let chosen : IsChosen g.s.stage c.args.layout.program c.args.exports.now c.args.live.now = c.requires.1.1.1.0 in
    let same : c.args.files.now ≡ g.s.stage.program.files = c.requires.1.1.1.1.0 in
    let files =
    lie_there c.args.files.now g.s.stage.program.files (the_image g.s.stage) c.in_ok-image.image same c.in_ok-image.ensures
    (c.windows_stand_in_sources.ensures.lie (mode_of g.s.stage.program.plan) g.s.stage.program c.args.live.now g.s.stage.parts g.s.stage.exports layout.stand chosen.live) in
    let stand =
    stand_there c.args.files.now g.s.stage.program.files (the_image g.s.stage) c.in_ok-image.image (the_windows g.s.stage) same c.in_ok-image.ensures
    (c.windows_stand_in_sources.ensures.stand (mode_of g.s.stage.program.plan) g.s.stage.program c.args.live.now g.s.stage.parts g.s.stage.exports layout.stand chosen.live) in
    let held =
    stand_there c.args.files.now g.s.stage.program.files (the_image g.s.stage) c.in_ok-image.image (the_held g.s.stage) same c.in_ok-image.ensures
    (c.windows_stand_in_sources.ensures.held (mode_of g.s.stage.program.plan) g.s.stage.program c.args.live.now g.s.stage.parts g.s.stage.exports layout.stand chosen.live) in
    let told = sym (ap (λ ks. judged_patches (moved_windows ks (the_windows g.s.stage)) (moved_windows ks (the_held g.s.stage))) c.as_slice.ensures) ∙ c.in_ok-patches.ensures in
    let law = c.patches_make_the_output.ensures c.args.files.now c.in_ok-image.image c.in_ok-measured.measured (the_windows g.s.stage) (the_held g.s.stage) c.in_ok-patches.patches files c.in_ok-measured.ensures.0 stand held told in
    record { measured = c.in_ok-measured.ensures.0; lie = files; apart = law.0; short = c.in_ok-measured.ensures.3 }
