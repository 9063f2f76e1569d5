use Rattle.std.proofs.Common.{take}
use Rattle.std.specs.Prelude.{map}
use Rattle.wasm_module.specs.wasm_instr.wasm_grammar.Grammar.{SpellsMany}
use Rattle.export_wrappers.specs.Wrapped.{body_of}
use Rattle.export_wrappers.specs.Written.{Puts, SpellsCode}
use Rattle.export_wrappers.proofs.steps.put_wrappers.Given as goal

abbrev pub invariant-loop-w : goal.invariant-loop-w
invariant-loop-w l = Puts (SpellsMany SpellsCode (map (body_of l.ctors l.dtors) (take l.w-index l.wrappers))) l.initial.to l.to
