use Rattle.std.proofs.Common.{length, sym, ◌∙◌}
use Rattle.std.proofs.lemmas.Result.{err_from_is_err_and}
use Rattle.wasm_grammar.specs.ReaderLaws.{ok_is}
use Rattle.feature_section.specs.PayloadLaws.{features_found, features_again}
use Rattle.feature_section.proofs.Told.{memory_alone}
use Rattle.feature_section.proofs.reading.read_features.Goals as goal

pub returns-in_err-features_at-clause-only : goal.returns-in_err-features_at-clause-only
returns-in_err-features_at-clause-only c = λ features spelled.
    let p = err_from_is_err_and c.from_residual.result c.from_residual.ensures.1 in
    rw (p.1, p.2) (memory_alone c.in_err-features_at.field-0.0 (length c.args.payload.now) c.args.payload.now c.in_err-features_at.ensures features spelled)

pub returns-clause-found : goal.returns-clause-found
returns-clause-found c = features_found (length c.args.payload.now) c.args.payload.now c.in_ok-features_at.field-0 c.in_ok-features_at.ensures

pub returns-clause-only : goal.returns-clause-only
returns-clause-only c = λ features spelled. ok_is (sym c.in_ok-features_at.ensures ∙ features_again (length c.args.payload.now) c.args.payload.now features spelled)
