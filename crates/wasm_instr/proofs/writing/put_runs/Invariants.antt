use Rattle.std.proofs.Common.{take}
use Rattle.wasm_grammar.specs.Grammar.{SpellsMany}
use Rattle.wasm_grammar.specs.Writers.{Writes, Keeps}
use Rattle.wasm_instr.specs.Bodies.{SpellsRun}
use Rattle.wasm_instr.proofs.writing.put_runs.Given as goal

abbrev pub invariant-loop-run : goal.invariant-loop-run
invariant-loop-run l = record {
  written : Writes (SpellsMany SpellsRun (take l.run-index l.runs)) l.initial.to l.to;
  kept : Keeps l.fn.to l.to;
}
