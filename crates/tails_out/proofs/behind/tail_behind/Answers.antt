use Rattle.std.proofs.Common.{rules, List, ℕ, ap, sym, subst, ◌∙◌}
use Rattle.std.specs.Prelude.{Result}
use Rattle.std.proofs.lemmas.Result.{err_from_is_err_and}
use Rattle.link_program.specs.wl_base.declared.fault.Fault.{Fault}
use Rattle.link_program.specs.link_rules.ModeOf.{mode_of}
use Rattle.link_program.specs.Answers.{Answers}
use Rattle.link_tails.specs.Tails.{further}
use Rattle.tails_out.proofs.Whole.{no_debug, no_more, all_told}
use Rattle.tails_out.proofs.behind.tail_behind.Goals as goal

pub debug_tail-requires : goal.debug_tail-requires
debug_tail-requires g c κs within =
    let r = c.requires.1.1 in
    let layout = r.0 in
    let live = r.1.0 in
    let places = r.1.1.0 in
    let code = r.1.1.1.0 in
    let loaded = r.1.1.1.1.0 in
    let files = r.1.1.1.1.1 in
    (search rules, (search rules, (layout, (live, (places, (code, (loaded, files)))))))

pub returns-in_err-debug : goal.returns-in_err-debug
returns-in_err-debug g c =
    let s = g.s.stage in
    let p = err_from_is_err_and c.from_residual.result c.from_residual.ensures.1 in
    rw (p.1) (no_debug (mode_of s.program.plan) s.program g.s.all s.exports s.parts c.args.measured.now.len c.in_err-debug.field-0.0 p.0 p.2 c.in_err-debug.ensures)

pub names_and_features-requires : goal.names_and_features-requires
names_and_features-requires g c =
    let r = c.requires.1.1 in
    (r.0, (r.1.1.1.1.0, r.1.1.1.1.1))

pub returns-in_err-more : goal.returns-in_err-more
returns-in_err-more g c =
    let s = g.s.stage in
    let p = err_from_is_err_and c.from_residual-in_err-more.result c.from_residual-in_err-more.ensures.1 in
    rw (p.1) (no_more (mode_of s.program.plan) s.program g.s.all s.exports s.parts c.args.measured.now.len c.in_ok-debug.debug c.in_err-more.field-0.0 p.0 c.in_ok-debug.ensures p.2 c.in_err-more.ensures)

pub returns : goal.returns
returns g c =
    let s = g.s.stage in
    all_told (mode_of s.program.plan) s.program g.s.all s.exports s.parts c.args.measured.now.len c.in_ok-debug.debug c.in_ok-more.more c.put_behind-whole.result c.in_ok-debug.ensures c.in_ok-more.ensures
    (subst (λ (more : List ℕ). Answers (λ bytes. bytes) c.put_behind-whole.result (further c.args.measured.now.len c.in_ok-debug.debug more)) c.as_slice.ensures c.put_behind-whole.ensures)
