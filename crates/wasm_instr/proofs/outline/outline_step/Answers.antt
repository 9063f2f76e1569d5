use Rattle.std.proofs.Common.{◌≡◌, ◌-◌, ◌∙◌, true, length, slice_get, Some, Ok, sym, ap}
use Rattle.std.specs.Option.{option_copied}
use Rattle.wasm_instr.proofs.Turned.{turned}
use Rattle.wasm_instr.proofs.outline.outline_step.Goals as goal

pub returns-in-Some-true-clause-value : goal.returns-in-Some-true-clause-value
returns-in-Some-true-clause-value c =
    let nest = c.args.opens.now in
    let last : slice_get nest (length nest - 1) ≡ Some true =
    ap (λ bs. slice_get bs (length bs - 1)) (sym c.as_slice.ensures) ∙ sym c.last.ensures.value ∙ ap option_copied c.in-Some-true.is ∙ ap (λ b. Some b) c.in-Some-true.field-0-test in
    let t = turned nest last in
    rw (c.in-Else.is, t.0) (ap (λ bs. Ok bs) (sym t.1 ∙ sym c.set_last.ensures))
