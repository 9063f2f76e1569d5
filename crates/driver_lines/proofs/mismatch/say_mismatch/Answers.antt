use Rattle.std.proofs.Common.{ℕ, List, [], ◌∷◌, ◌++◌, take, subst}
use Rattle.std.specs.Prelude.{codes}
use Rattle.wl_outside.specs.Sink.{Rose, Added}
use Rattle.link_lines.specs.Pieces.{printed, joined}
use Rattle.driver_lines.specs.Called.{called_input}
use Rattle.driver_lines.specs.Mismatch.{defined_text, mismatch_line}
use Rattle.driver_lines.proofs.Parts.{both, last, stops, stops_first, later}
use Rattle.driver_lines.proofs.mismatch.say_mismatch.Goals as goal

abbrev front : List ℕ → List ℕ → List ℕ → List ℕ
front program severity name = joined (program ∷ codes ": " ∷ severity ∷ codes ": function signature mismatch: " ∷ printed name ∷ [])

abbrev end : List ℕ
end = joined (codes "\n" ∷ [])

pub returns-in_err-print : goal.returns-in_err-print
unfolding mismatch_line
returns-in_err-print g c =
    let first = defined_text c.args.called.0.now (called_input c.args.inputs.now c.args.called.1) in
    let other = defined_text c.args.defined.0.now (called_input c.args.inputs.now c.args.defined.1) in
    stops_first (front c.args.program.now c.args.severity.now c.args.name.now) (first ++ (other ++ end)) c.from_residual.result _ _ c.from_residual.ensures.0 c.in_err-print.ensures

pub returns-in_err-say_defined : goal.returns-in_err-say_defined
unfolding mismatch_line
returns-in_err-say_defined g c =
    let mid = g.E.Sink.told c.print.new.say in
    let new = g.E.Sink.told c.say_defined.new.say in
    let first = defined_text c.args.called.0.now (called_input c.args.inputs.now c.args.called.1) in
    let other = defined_text c.args.defined.0.now (called_input c.args.inputs.now c.args.defined.1) in
    let torn = subst (λ ts. Rose mid.faults new.faults × ((n : ℕ) × Added (take n (defined_text c.args.called.0.now ts)) mid new)) c.called_input.ensures c.in_err-say_defined.ensures in
    stops (front c.args.program.now c.args.severity.now c.args.name.now) first (other ++ end) c.from_residual-in_err-say_defined.result _ mid new c.from_residual-in_err-say_defined.ensures.0 c.in_ok-print.ensures torn

pub returns-in_err-say_defined-2 : goal.returns-in_err-say_defined-2
unfolding mismatch_line
returns-in_err-say_defined-2 g c =
    let old = g.E.Sink.told c.args.say.now in
    let mid = g.E.Sink.told c.print.new.say in
    let next = g.E.Sink.told c.say_defined.new.say in
    let new = g.E.Sink.told c.say_defined-2.new.say in
    let head = front c.args.program.now c.args.severity.now c.args.name.now in
    let first = defined_text c.args.called.0.now (called_input c.args.inputs.now c.args.called.1) in
    let other = defined_text c.args.defined.0.now (called_input c.args.inputs.now c.args.defined.1) in
    let r = c.from_residual-in_err-say_defined-2.result in
    let added = subst (λ ts. Added (defined_text c.args.called.0.now ts) mid next) c.called_input.ensures c.in_ok-say_defined.ensures in
    let torn = subst (λ ts. Rose next.faults new.faults × ((n : ℕ) × Added (take n (defined_text c.args.defined.0.now ts)) next new)) c.called_input-2.ensures c.in_err-say_defined-2.ensures in
    later head first (other ++ end) r old new
    (stops (head ++ first) other end r old next new c.from_residual-in_err-say_defined-2.ensures.0 (both head first old mid next c.in_ok-print.ensures added) torn)

pub returns : goal.returns
unfolding mismatch_line
returns g c =
    let old = g.E.Sink.told c.args.say.now in
    let mid = g.E.Sink.told c.print.new.say in
    let next = g.E.Sink.told c.say_defined.new.say in
    let last_but = g.E.Sink.told c.say_defined-2.new.say in
    let new = g.E.Sink.told c.print-2.new.say in
    let head = front c.args.program.now c.args.severity.now c.args.name.now in
    let first = defined_text c.args.called.0.now (called_input c.args.inputs.now c.args.called.1) in
    let other = defined_text c.args.defined.0.now (called_input c.args.inputs.now c.args.defined.1) in
    let added = subst (λ ts. Added (defined_text c.args.called.0.now ts) mid next) c.called_input.ensures c.in_ok-say_defined.ensures in
    let then_added = subst (λ ts. Added (defined_text c.args.defined.0.now ts) next last_but) c.called_input-2.ensures c.in_ok-say_defined-2.ensures in
    later head first (other ++ end) c.print-2.result old new
    (later (head ++ first) other end c.print-2.result old new
    (last ((head ++ first) ++ other) end c.print-2.result old last_but new
    (both (head ++ first) other old next last_but (both head first old mid next c.in_ok-print.ensures added) then_added) c.print-2.ensures))
