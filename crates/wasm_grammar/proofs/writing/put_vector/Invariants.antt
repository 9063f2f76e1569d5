use Rattle.std.proofs.Common.{take}
use Rattle.wasm_grammar.specs.Grammar.{SpellsMany}
use Rattle.wasm_grammar.specs.Writers.{Writes, Keeps}
use Rattle.wasm_grammar.proofs.writing.put_vector.Given as goal

abbrev pub invariant-loop-item : goal.invariant-loop-item
invariant-loop-item g l = record {
  written : Writes (SpellsMany g.T.Form.spells (take l.item-index l.items)) l.initial.to l.to;
  kept : Keeps l.fn.to l.to;
}
