use Rattle.std.proofs.Common.{◌≡◌, take, arith, sym, subst}
use Rattle.std.proofs.lemmas.List.{take_more, take_all}
use Rattle.wasm_grammar.specs.Grammar.{SpellsMany}
use Rattle.wasm_grammar.specs.Writers.{Writes}
use Rattle.wasm_grammar.specs.WriterLaws.{Writes-from, Writes-then, Writes-more, keeps_then}
use Rattle.wasm_grammar.proofs.writing.put_vector.Goals as goal

pub loop-item-preserved : goal.loop-item-preserved
loop-item-preserved g c =
    let items = c.args.items.now in
    record {
      written = rw (take_more items c.loop-item.item-index c.item-item.result c.loop-item-test.true, sym c.item-item.is)
          (Writes-more g.T.Form.spells (take c.loop-item.item-index items) c.item-item.result c.put_count.new.to c.loop-item.to c.put.new.to c.loop-item.invariant.written c.in_ok-put.ensures.ok);
      kept = keeps_then _ _ _ c.loop-item.invariant.kept c.in_ok-put.ensures.keeps;
    }

pub returns-clause-ok : goal.returns-clause-ok
returns-clause-ok g c =
    let items = c.args.items.now in
    let all : take c.loop-item.item-index items ≡ items = take_all c.loop-item.item-index items (omega (arith, c.loop-item-test.false)) in
    let many : Writes (SpellsMany g.T.Form.spells items) c.put_count.new.to c.loop-item.to = subst (λ xs. Writes (SpellsMany g.T.Form.spells xs) c.put_count.new.to c.loop-item.to) all c.loop-item.invariant.written in
    Writes-then (Writes-from c.in_ok-put_count.ensures.ok) many

pub returns-clause-counted : goal.returns-clause-counted
returns-clause-counted g c = let count = c.in_ok-put_count.ensures.ok in (count.text, count.spells)
