use Rattle.std.proofs.Common.{◌≡◌, take, arith, subst}
use Rattle.std.proofs.lemmas.List.{take_more, take_all}
use Rattle.wasm_grammar.specs.Grammar.{SpellsMany}
use Rattle.wasm_grammar.specs.Writers.{Writes}
use Rattle.wasm_grammar.specs.WriterLaws.{Writes-from, Writes-then, Writes-more, keeps_then}
use Rattle.wasm_types.specs.declared.value.ValType.TheVariants.{I32}
use Rattle.wasm_instr.specs.Bodies.{SpellsRun}
use Rattle.wasm_instr.proofs.writing.put_runs.Goals as goal

pub loop-run-preserved : goal.loop-run-preserved
loop-run-preserved c =
    let runs = c.args.runs.now in
    record {
      written = rw (take_more runs c.loop-run.run-index (record { count = 0; kind = I32 }) c.loop-run-test.true)
          (Writes-more SpellsRun (take c.loop-run.run-index runs) _ c.put_count.new.to c.loop-run.to c.put_run.new.to c.loop-run.invariant.written (Writes-from c.in_ok-put_run.ensures.ok));
      kept = keeps_then _ _ _ c.loop-run.invariant.kept c.in_ok-put_run.ensures.keeps;
    }

pub returns-clause-ok : goal.returns-clause-ok
returns-clause-ok c =
    let runs = c.args.runs.now in
    let all : take c.loop-run.run-index runs ≡ runs = take_all c.loop-run.run-index runs (omega (arith, c.loop-run-test.false)) in
    let many : Writes (SpellsMany SpellsRun runs) c.put_count.new.to c.loop-run.to = subst (λ xs. Writes (SpellsMany SpellsRun xs) c.put_count.new.to c.loop-run.to) all c.loop-run.invariant.written in
    Writes-then (Writes-from c.in_ok-put_count.ensures.ok) many
