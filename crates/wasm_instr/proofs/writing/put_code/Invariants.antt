use Rattle.std.proofs.Common.{take}
use Rattle.wasm_grammar.specs.Grammar.{SpellsMany}
use Rattle.wasm_grammar.specs.Writers.{Writes, Keeps}
use Rattle.wasm_instr.specs.Instrs.{SpellsInstr}
use Rattle.wasm_instr.specs.Placeless.{instrs_of}
use Rattle.wasm_instr.proofs.writing.put_code.Given as goal

abbrev pub invariant-loop-placed : goal.invariant-loop-placed
invariant-loop-placed l = record {
  written : Writes (SpellsMany SpellsInstr (instrs_of (take l.placed-index l.code))) l.initial.to l.to;
  kept : Keeps l.fn.to l.to;
}
