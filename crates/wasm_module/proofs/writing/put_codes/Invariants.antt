use Rattle.std.proofs.Common.{take}
use Rattle.wasm_instr.specs.wasm_grammar.Grammar.{SpellsSized, SpellsMany}
use Rattle.wasm_instr.specs.wasm_grammar.Writers.{Writes}
use Rattle.wasm_instr.specs.Placeless.{SpellsPlaceless}
use Rattle.wasm_module.proofs.writing.put_codes.Given as goal

abbrev pub invariant-loop-body : goal.invariant-loop-body
invariant-loop-body l = Writes (SpellsMany (λ b. SpellsSized (SpellsPlaceless b)) (take l.body-index l.bodies)) l.initial.to l.to
