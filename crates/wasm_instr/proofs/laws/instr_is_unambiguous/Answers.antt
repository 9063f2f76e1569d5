use Rattle.wasm_grammar.specs.ReaderLaws.{one_value}
use Rattle.wasm_instr.specs.Instrs.{SpellsInstr}
use Rattle.wasm_instr.specs.InstrLaws.{bare_instr_at, instr_reader}
use Rattle.wasm_instr.proofs.laws.instr_is_unambiguous.Goals as goal

pub returns : goal.returns
returns c = one_value SpellsInstr bare_instr_at instr_reader
