use Rattle.std.proofs.Common.{rules, ◌≡◌, ◌∙◌, sym, subst, None}
use Rattle.std.proofs.lemmas.Result.{err_from_is_err_and}
use Rattle.link_output.specs.link_program.link_rules.ModeOf.{mode_of}
use Rattle.link_output.specs.link_program.link_rules.Marks as marks
use Rattle.link_output.specs.link_program.Answers.{Stops}
use Rattle.link_core.specs.Chosen.{exports_of}
use Rattle.link_core.proofs.Answering.{exports_are_winners, export_repeats, code_is_fixed, name_left_open, ctors_lost, all_closed}
use Rattle.link_core.proofs.driver.choose.Goals as goal

pub exports-requires : goal.exports-requires
exports-requires g c κs within =
    let program = c.requires.1.1.1.1.0 in
    (search rules, (search rules, (search rules, (search rules, program))))

pub repeated_export-requires : goal.repeated_export-requires
repeated_export-requires g c = (c.requires.1.1.1.1.0, (exports_are_winners (mode_of g.p.plan) g.p, c.as_slice.ensures ∙ c.in_ok-exports.ensures))

pub live_parts-requires : goal.live_parts-requires
live_parts-requires g c κs within =
    let program = c.requires.1.1.1.1.0 in
    let exports = c.as_slice-2.ensures ∙ c.in_ok-exports.ensures in
    (search rules, (search rules, (search rules, (search rules, (program, exports)))))

pub returns-in_err-repeated_export : goal.returns-in_err-repeated_export
returns-in_err-repeated_export g c =
    let p = err_from_is_err_and c.from_residual-in_err-repeated_export.result c.from_residual-in_err-repeated_export.ensures.1 in
    rw (p.1) (export_repeats (mode_of g.p.plan) g.p (exports_of g.p) c.in_err-repeated_export.field-0.0 p.0 p.2 c.in_err-repeated_export.ensures)

pub first_fixed-requires : goal.first_fixed-requires
first_fixed-requires g c =
    let program = c.requires.1.1.1.1.0 in
    let live = c.in_ok-live.ensures in
    (program, live)

pub returns-in_err-refuse : goal.returns-in_err-refuse
returns-in_err-refuse g c =
    let p = err_from_is_err_and c.from_residual-in_err-refuse.result c.from_residual-in_err-refuse.ensures.1 in
    let stops = subst (Stops c.in_err-refuse.field-0.0) c.first_fixed.ensures c.in_err-refuse.ensures in
    rw (p.1) (code_is_fixed (mode_of g.p.plan) g.p (exports_of g.p) c.in_err-refuse.field-0.0 p.0 p.2 c.in_ok-repeated_export.ensures stops)

pub unresolved-requires-sync-R : goal.unresolved-requires-sync-R
unresolved-requires-sync-R g c κs within =
    let program = c.requires.1.1.1.1.0 in
    let live = c.in_ok-live.ensures in
    (search rules, (search rules, (program, live)))

pub returns-in_err-unresolved : goal.returns-in_err-unresolved
returns-in_err-unresolved g c =
    let p = err_from_is_err_and c.from_residual-in_err-unresolved.result c.from_residual-in_err-unresolved.ensures.1 in
    let free = sym c.first_fixed.ensures ∙ c.in_ok-refuse.ensures in
    rw (p.1) (name_left_open (mode_of g.p.plan) g.p (exports_of g.p) c.in_err-unresolved.field-0.0 p.0 p.2 c.in_ok-repeated_export.ensures free c.in_err-unresolved.ensures)

pub uncalled-requires : goal.uncalled-requires
uncalled-requires g c =
    let program = c.requires.1.1.1.1.0 in
    let fits = c.requires.1.1.1.1.1.0 in
    let objects = c.requires.1.1.1.1.1.1.0 in
    let live = c.in_ok-live.ensures in
    (program, (fits, (objects, live)))

pub returns-in_err-uncalled : goal.returns-in_err-uncalled
returns-in_err-uncalled g c =
    let p = err_from_is_err_and c.from_residual-in_err-uncalled.result c.from_residual-in_err-uncalled.ensures.1 in
    let free = sym c.first_fixed.ensures ∙ c.in_ok-refuse.ensures in
    rw (p.1)
    (ctors_lost (mode_of g.p.plan) g.p (exports_of g.p) c.in_err-uncalled.field-0.0 p.0 p.2 c.in_ok-repeated_export.ensures free c.in_ok-unresolved.ensures c.in_err-uncalled.ensures)

pub returns : goal.returns
returns g c =
    let parts = marks.live g.p (exports_of g.p) in
    let free = sym c.first_fixed.ensures ∙ c.in_ok-refuse.ensures in (
      all_closed (mode_of g.p.plan) g.p (exports_of g.p) c.in_ok-repeated_export.ensures free c.in_ok-unresolved.ensures c.in_ok-uncalled.ensures,
      record {
        exports = c.in_ok-exports.ensures;
        among = exports_are_winners (mode_of g.p.plan) g.p;
        live = c.in_ok-live.ensures.are;
        meant = c.all_are_meant.ensures g.p c.in_ok-live.live.numbers parts c.requires.1.1.1.1.1.1.1 c.in_ok-live.ensures.are c.in_ok-unresolved.ensures;
      },
    )
