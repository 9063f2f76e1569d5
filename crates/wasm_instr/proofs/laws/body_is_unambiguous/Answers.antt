use Rattle.std.proofs.Common.{sym, ◌∙◌}
use Rattle.wasm_grammar.specs.ReaderLaws.{ok_is}
use Rattle.wasm_instr.specs.BodyLaws.{body_again}
use Rattle.wasm_instr.proofs.laws.body_is_unambiguous.Goals as goal

pub returns : goal.returns
returns c = λ a b bytes s t. ok_is (sym (body_again bytes a s) ∙ body_again bytes b t)
