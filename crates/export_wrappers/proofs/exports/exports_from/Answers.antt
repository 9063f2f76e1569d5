use Rattle.std.proofs.Common.{◌≡◌, ◌∙◌, List, [], sym, subst}
use Rattle.std.specs.Vec.Iter.{into_iter_items}
use Rattle.wasm_module.specs.declared.parts.Export.{Export}
use Rattle.export_wrappers.specs.Wrapped.{wrapper_in, last_after}
use Rattle.export_wrappers.proofs.Putting.{is_empty}
use Rattle.export_wrappers.proofs.exports.exports_from.Goals as goal

pub returns-clause-fits : goal.returns-clause-fits
returns-clause-fits c =
    let wrap = wrapper_in c.args.types.now c.args.imports c.args.functions.now in
    let none : into_iter_items c.loop-next.left ≡ [] = is_empty (into_iter_items c.loop-next.left) (sym c.loop-next.invariant.3 ∙ c.in_default.ensures.cases.0) in
    let end : c.loop-next.next ≡ last_after wrap c.args.first c.args.exports =
    subst (λ (es : List Export). last_after wrap c.loop-next.next es ≡ last_after wrap c.args.first c.args.exports) none c.loop-next.invariant.1 in
    rw (sym end) c.loop-next.invariant.2
