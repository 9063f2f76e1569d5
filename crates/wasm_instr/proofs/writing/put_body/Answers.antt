use Rattle.std.proofs.Common.{sym}
use Rattle.wasm_grammar.specs.Grammar.{SpellsMany, SpellsVector}
use Rattle.wasm_grammar.specs.Writers.{Writes}
use Rattle.wasm_grammar.specs.WriterLaws.{on-ok}
use Rattle.wasm_instr.specs.Instrs.{SpellsInstr}
use Rattle.wasm_instr.specs.Bodies.{SpellsRun}
use Rattle.wasm_instr.specs.Placeless.{instrs_of, body_written}
use Rattle.wasm_instr.proofs.writing.put_body.Goals as goal

pub returns-clause-ok : goal.returns-clause-ok
returns-clause-ok c =
    let body = c.args.body.now in
    let locals : Writes (SpellsVector SpellsRun body.locals) c.args.to.now c.put_runs.new.to = rw (sym c.as_slice.ensures) c.in_ok-put_runs.ensures.ok in
    on-ok c.put_code.result (λ last.
    let code : Writes (SpellsMany SpellsInstr (instrs_of body.code)) c.put_runs.new.to c.put_code.new.to = rw (sym c.as_slice-2.ensures) last in
    body_written body c.args.to.now c.put_runs.new.to c.put_code.new.to locals code) c.put_code.ensures.ok
