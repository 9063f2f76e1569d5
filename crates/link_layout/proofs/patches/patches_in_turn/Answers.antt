use Rattle.std.proofs.Common.{Err, Ok, Result, ap, sym, subst, ◌∙◌}
use Rattle.std.proofs.lemmas.Result.{err_from_is_err_and}
use Rattle.link_program.specs.wl_base.declared.layout_error.LayoutError.{LayoutError}
use Rattle.link_program.specs.reloc_apply.declared.window.Patches.{Patches}
use Rattle.link_program.specs.reloc_apply.Windows.{Puts}
use Rattle.link_layout.specs.Layout.{looked}
use Rattle.link_layout.specs.Put.{written_on}
use Rattle.link_layout.specs.Sources.{windows_of}
use Rattle.link_layout.proofs.Patched.{fault_alone, put_alone}
use Rattle.link_layout.proofs.patches.patches_in_turn.Goals as goal

pub returns-in_err-push_sources : goal.returns-in_err-push_sources
returns-in_err-push_sources c =
    let p = err_from_is_err_and c.from_residual-in_err-push_sources.result c.from_residual-in_err-push_sources.ensures.1 in
    let ws = windows_of (looked c.args.layout) c.args.sources.now in
    let f = c.in_err-push_sources.field-0.0 in
    let now = c.push_sources.new.patches.patches in
    rw (p.1) (fault_alone (looked c.args.layout).mode ws f p.0 now (p.2) (subst (λ ps. Puts {A = Unit {0}} (Err f) now (written_on (looked c.args.layout).mode ps ws)) c.in_ok-patches.ensures c.in_err-push_sources.ensures))

pub returns : goal.returns
returns c =
    let ws = windows_of (looked c.args.layout) c.args.sources.now in
    put_alone (looked c.args.layout).mode ws c.push_sources.new.patches.patches (ap (λ ps. written_on (looked c.args.layout).mode ps ws) (sym c.in_ok-patches.ensures) ∙ c.in_ok-push_sources.ensures)
    ∙ ap (λ (p : Patches). let r : Result Patches LayoutError = Ok p in r) (sym c.in_ok-pieces.ensures)
