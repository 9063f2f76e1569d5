use Rattle.std.proofs.Common.{sym, ◌∙◌}
use Rattle.wasm_instr.specs.wasm_grammar.ReaderLaws.{ok_is}
use Rattle.wasm_module.proofs.ModuleLaws.{module_again}
use Rattle.wasm_module.proofs.laws.module_is_unambiguous.Goals as goal

pub returns : goal.returns
returns c = λ a b bytes s t. ok_is (sym (module_again 0 bytes a s) ∙ module_again 0 bytes b t)
