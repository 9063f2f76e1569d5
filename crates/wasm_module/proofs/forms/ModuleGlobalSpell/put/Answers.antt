use Rattle.wasm_instr.specs.wasm_grammar.WriterLaws.{Writes-from, Appends-then, on-ok}
use Rattle.wasm_module.proofs.forms.ModuleGlobalSpell.put.Goals as goal

pub returns-clause-ok : goal.returns-clause-ok
returns-clause-ok c = on-ok c.put_const_expr.result (λ last. Writes-from (Appends-then c.in_ok-put_global_type.ensures.ok last)) c.put_const_expr.ensures.ok
