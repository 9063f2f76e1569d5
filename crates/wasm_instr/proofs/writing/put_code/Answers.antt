use Rattle.std.proofs.Common.{take, sym}
use Rattle.std.proofs.lemmas.List.{take_more}
use Rattle.wasm_grammar.specs.WriterLaws.{Writes-more, keeps_then}
use Rattle.wasm_instr.specs.Instrs.{SpellsInstr}
use Rattle.wasm_instr.specs.Placeless.{instrs_of, instrs_more}
use Rattle.wasm_instr.proofs.writing.put_code.Goals as goal

pub loop-placed-preserved : goal.loop-placed-preserved
loop-placed-preserved c =
    let front = take c.loop-placed.placed-index c.args.code.now in
    let placed = c.placed-item.result in
    record {
      written = rw (take_more c.args.code.now c.loop-placed.placed-index placed c.loop-placed-test.true, sym c.placed-item.is, instrs_more front placed)
          (Writes-more SpellsInstr (instrs_of front) placed.instr c.args.to.now c.loop-placed.to c.put_instr.new.to c.loop-placed.invariant.written c.in_ok-put_instr.ensures.ok);
      kept = keeps_then _ _ _ c.loop-placed.invariant.kept c.in_ok-put_instr.ensures.keeps;
    }
