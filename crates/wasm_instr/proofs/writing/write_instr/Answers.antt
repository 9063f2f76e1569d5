use Rattle.std.proofs.Common.{ℕ, List}
use Rattle.wasm_grammar.specs.Writers.{Writes}
use Rattle.wasm_grammar.specs.WriterLaws.{after_cut}
use Rattle.wasm_instr.specs.Instrs.{SpellsInstr}
use Rattle.wasm_instr.proofs.writing.write_instr.Goals as goal

pub returns-clause-ok : goal.returns-clause-ok
returns-clause-ok c =
    after_cut (λ (new : List ℕ). Writes (SpellsInstr c.args.instr.now) c.args.to.now new) c.cut_back.result c.put_instr-written.result c.put_instr-written.new.to c.cut_back.new.to c.cut_back.ensures.same c.cut_back.ensures.ok c.put_instr-written.ensures.ok
