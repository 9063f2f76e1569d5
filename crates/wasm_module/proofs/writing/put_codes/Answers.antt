use Rattle.std.proofs.Common.{◌≡◌, List, take, arith, sym, subst}
use Rattle.std.proofs.lemmas.List.{take_more, take_all}
use Rattle.wasm_instr.specs.wasm_grammar.Grammar.{SpellsSized, SpellsMany}
use Rattle.wasm_instr.specs.wasm_grammar.Writers.{Writes}
use Rattle.wasm_instr.specs.wasm_grammar.WriterLaws.{Writes-from, Writes-then, Writes-more}
use Rattle.wasm_instr.specs.declared.body.Body.{Body}
use Rattle.wasm_instr.specs.Placeless.{SpellsPlaceless}
use Rattle.wasm_module.proofs.writing.put_codes.Goals as goal

pub loop-body-preserved : goal.loop-body-preserved
loop-body-preserved c =
    let bodies = c.args.bodies.now in
    rw (take_more bodies c.loop-body.body-index c.body-item.result c.loop-body-test.true, sym c.body-item.is)
    (Writes-more (λ b. SpellsSized (SpellsPlaceless b)) (take c.loop-body.body-index bodies) c.body-item.result c.put_count.new.to c.loop-body.to c.put_code.new.to c.loop-body.invariant c.in_ok-put_code.ensures)

pub returns : goal.returns
returns c =
    let bodies = c.args.bodies.now in
    let all : take c.loop-body.body-index bodies ≡ bodies = take_all c.loop-body.body-index bodies (omega (arith, c.loop-body-test.false)) in
    let many : Writes (SpellsMany (λ b. SpellsSized (SpellsPlaceless b)) bodies) c.put_count.new.to c.loop-body.to = subst (λ (xs : List Body). Writes (SpellsMany (λ b. SpellsSized (SpellsPlaceless b)) xs) c.put_count.new.to c.loop-body.to) all c.loop-body.invariant in
    Writes-then (Writes-from c.in_ok-put_count.ensures.ok) many
