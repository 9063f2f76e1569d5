use Rattle.std.proofs.Common.{ℕ, List, [], ◌∷◌, ◌++◌, take, ap, subst, ◌∙◌}
use Rattle.std.specs.Prelude.{codes}
use Rattle.wl_outside.specs.Sink.{Rose, Added, Wrote}
use Rattle.wasm_types.specs.declared.function.FuncType.{FuncType}
use Rattle.link_lines.specs.Pieces.{joined}
use Rattle.driver_lines.specs.declared.called.Called.{Called}
use Rattle.driver_lines.specs.Called.{called_texts}
use Rattle.driver_lines.specs.Mismatch.{result_word, params_text}
use Rattle.driver_lines.proofs.Parts.{both, last, stops, stops_first, later}
use Rattle.driver_lines.proofs.mismatch.say_defined.Goals as goal

abbrev front : List ℕ
front = joined (codes "\n>>> defined as (" ∷ [])

abbrev end : FuncType → Called → List ℕ
end t input = joined (codes ") -> " ∷ result_word t.results ∷ codes " in " ∷ called_texts input)

pub returns-in_err-print : goal.returns-in_err-print
returns-in_err-print g c =
    stops_first front (params_text c.args.t.now.params ++ end c.args.t.now c.args.input) c.from_residual.result _ _ c.from_residual.ensures.0 c.in_err-print.ensures

pub returns-in_err-say_params : goal.returns-in_err-say_params
returns-in_err-say_params g c =
    let mid = g.E.Sink.told c.print.new.say in
    let new = g.E.Sink.told c.say_params.new.say in
    let torn = subst (λ ts. Rose mid.faults new.faults × ((n : ℕ) × Added (take n (params_text ts)) mid new)) c.as_slice.ensures c.in_err-say_params.ensures in
    stops front (params_text c.args.t.now.params) (end c.args.t.now c.args.input) c.from_residual-in_err-say_params.result _ mid new c.from_residual-in_err-say_params.ensures.0 c.in_ok-print.ensures torn

pub returns : goal.returns
returns g c =
    let old = g.E.Sink.told c.args.say.now in
    let mid = g.E.Sink.told c.print.new.say in
    let next = g.E.Sink.told c.say_params.new.say in
    let new = g.E.Sink.told c.print-2.new.say in
    let params = params_text c.args.t.now.params in
    let added = subst (λ ts. Added (params_text ts) mid next) c.as_slice.ensures c.in_ok-say_params.ensures in
    let wrote =
    subst (λ w. Wrote c.print-2.result (joined (codes ") -> " ∷ w ∷ codes " in " ∷ called_texts c.args.input)) next new) (c.result_word-gives.ensures ∙ ap result_word c.as_slice-2.ensures) c.print-2.ensures in
    later front params (end c.args.t.now c.args.input) c.print-2.result old new
    (last (front ++ params) (end c.args.t.now c.args.input) c.print-2.result old next new (both front params old mid next c.in_ok-print.ensures added) wrote)
