use Rattle.std.proofs.Common.{◌≡◌, true, Err, sym, subst, ◌∙◌, rules}
use Rattle.std.proofs.lemmas.Result.{err_from_is_err_and}
use Rattle.link_program.specs.wl_base.Answers.{Answers}
use Rattle.link_program.specs.reloc_apply.declared.window.Patches.{Patches}
use Rattle.link_program.specs.link_rules.ModeOf.{mode_of}
use Rattle.link_program.specs.Live.{AreLive}
use Rattle.link_layout.specs.Layout.{looked, IsLayout}
use Rattle.link_layout.specs.Rows.{are_told}
use Rattle.link_layout.proofs.Told.{told_by, told_with}
use Rattle.link_layout.proofs.Sources.{are_there, answered}
use Rattle.link_layout.proofs.values.Layout.patches.Goals as goal

pub all_patches-requires : goal.all_patches-requires
all_patches-requires g c =
    let layout : IsLayout g.s.program g.s.parts g.s.exports c.args.self = search rules in
    let is = told_by (mode_of g.s.program.plan) c.keys_are_told.ensures.numbers c.keys_are_told.ensures.refs g.s.program g.s.parts g.s.exports c.args.self layout in
    let there = are_there (mode_of g.s.program.plan) g.s.program g.s.parts g.s.exports c.args.self is in
    search (rules, there)

pub returns-in_err-patches : goal.returns-in_err-patches
returns-in_err-patches g c =
    let layout : IsLayout g.s.program g.s.parts g.s.exports c.args.self = search rules in
    let live : AreLive g.s.program c.args.live.now g.s.parts = search rules in
    let right : are_told (looked c.args.self) c.args.live.now ≡ true = search rules in
    let is = told_with (mode_of g.s.program.plan) c.keys_are_told.ensures.numbers c.keys_are_told.ensures.refs g.s.program g.s.parts g.s.exports c.args.self layout c.args.live.now live in
    let same = answered (mode_of g.s.program.plan) g.s.program g.s.parts g.s.exports c.args.self is right c.args.places.now in
    let p = err_from_is_err_and c.from_residual.result c.from_residual.ensures.1 in
    rw (p.1) (subst (Answers {A = Patches} (Err p.0)) same (rw (p.2) c.in_err-patches.ensures))

pub returns : goal.returns
returns g c =
    let layout : IsLayout g.s.program g.s.parts g.s.exports c.args.self = search rules in
    let live : AreLive g.s.program c.args.live.now g.s.parts = search rules in
    let right : are_told (looked c.args.self) c.args.live.now ≡ true = search rules in
    let is = told_with (mode_of g.s.program.plan) c.keys_are_told.ensures.numbers c.keys_are_told.ensures.refs g.s.program g.s.parts g.s.exports c.args.self layout c.args.live.now live in
    sym (answered (mode_of g.s.program.plan) g.s.program g.s.parts g.s.exports c.args.self is right c.args.places.now) ∙ c.in_ok-patches.ensures
