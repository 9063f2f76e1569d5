use Rattle.std.proofs.Common.{◌≡◌, List, take, get_or, arith, subst}
use Rattle.std.specs.Prelude.{map}
use Rattle.std.proofs.lemmas.List.{take_more, take_all}
use Rattle.wasm_module.specs.wasm_instr.wasm_grammar.Grammar.{SpellsMany}
use Rattle.export_wrappers.specs.declared.wrapper.Wrapper.{Wrapper}
use Rattle.export_wrappers.specs.Wrapped.{body_of}
use Rattle.export_wrappers.specs.Written.{Puts, SpellsCode}
use Rattle.export_wrappers.proofs.Putting.{puts_more}
use Rattle.export_wrappers.proofs.steps.put_wrappers.Goals as goal

pub loop-w-preserved : goal.loop-w-preserved
loop-w-preserved c =
    let ws = c.args.wrappers.now in
    let d : Wrapper = record { kind = 0; parameters = 0; function = 0 } in
    rw (take_more ws c.loop-w.w-index d c.loop-w-test.true)
    (puts_more SpellsCode (body_of c.args.ctors c.args.dtors) (take c.loop-w.w-index ws) (get_or ws c.loop-w.w-index d) c.args.to.now c.loop-w.to c.put_code.new.to c.loop-w.invariant c.in_ok-put_code.ensures)

pub returns : goal.returns
returns c =
    let ws = c.args.wrappers.now in
    let all : take c.loop-w.w-index ws ≡ ws = take_all c.loop-w.w-index ws (omega (arith, c.loop-w-test.false)) in
    subst (λ (xs : List Wrapper). Puts (SpellsMany SpellsCode (map (body_of c.args.ctors c.args.dtors) xs)) c.args.to.now c.loop-w.to) all c.loop-w.invariant
