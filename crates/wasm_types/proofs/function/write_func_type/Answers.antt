use Rattle.std.proofs.Common.{ℕ, List}
use Rattle.wasm_grammar.specs.Writers.{Appends}
use Rattle.wasm_grammar.specs.WriterLaws.{after_cut}
use Rattle.wasm_types.specs.Types.{SpellsFuncType}
use Rattle.wasm_types.proofs.function.write_func_type.Goals as goal

pub returns-clause-ok : goal.returns-clause-ok
returns-clause-ok c =
    after_cut (λ (new : List ℕ). Appends (SpellsFuncType c.args.t.now) c.args.to.now new) c.cut_back.result c.put_func_type-written.result c.put_func_type-written.new.to c.cut_back.new.to c.cut_back.ensures.same c.cut_back.ensures.ok c.put_func_type-written.ensures.ok
