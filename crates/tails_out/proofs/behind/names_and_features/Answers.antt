use Rattle.std.proofs.Common.{◌≡◌, ℕ, List, ◌++◌, Ok, ◌∙◌, ap, sym}
use Rattle.std.proofs.lemmas.Result.{err_from_is_err_and}
use Rattle.link_program.specs.link_rules.ModeOf.{mode_of}
use Rattle.tails_out.proofs.Whole.{no_features, both_told}
use Rattle.tails_out.proofs.behind.names_and_features.Goals as goal

pub name_tail-requires : goal.name_tail-requires
name_tail-requires g c = c.requires.0

pub returns-in_err-more : goal.returns-in_err-more
returns-in_err-more g c =
    let p = err_from_is_err_and c.from_residual.result c.from_residual.ensures.1 in
    rw (p.1, p.2) tt

pub features_behind-requires : goal.features_behind-requires
features_behind-requires g c = (c.requires.0, (c.requires.1.0, c.requires.1.1))

pub returns-in_err-features : goal.returns-in_err-features
returns-in_err-features g c =
    let s = g.s.stage in
    let p = err_from_is_err_and c.from_residual-in_err-features.result c.from_residual-in_err-features.ensures.1 in
    rw (p.1) (no_features (mode_of s.program.plan) s.program g.s.all s.exports s.parts c.in_err-features.field-0.0 p.0 p.2 c.in_err-features.ensures)

pub returns : goal.returns
returns g c =
    let s = g.s.stage in
    let names = c.in_ok-more.more in
    let features = c.in_ok-features.features in
    let put : c.extend_from_slice.new.self ≡ names ++ features = c.in_ok-extend_from_slice.ensures.ok ∙ ap (λ xs. names ++ xs) c.as_slice.ensures in
    both_told (mode_of s.program.plan) s.program g.s.all s.exports s.parts names features c.in_ok-more.ensures c.in_ok-features.ensures ∙ ap (λ (bytes : List ℕ). Ok bytes) (sym put)
