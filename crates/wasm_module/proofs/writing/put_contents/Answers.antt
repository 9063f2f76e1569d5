use Rattle.wasm_instr.specs.wasm_grammar.WriterLaws.{Appends-then, on-ok}
use Rattle.wasm_module.proofs.writing.put_contents.Goals as goal

pub returns : goal.returns
returns c = on-ok c.put_bytes.result (λ last. Appends-then c.in_ok-put_byte.ensures.ok last) c.put_bytes.ensures.ok
