use Rattle.wasm_module.specs.wasm_instr.wasm_grammar.WriterLaws.{on-ok}
use Rattle.export_wrappers.proofs.Putting.{from_appends, puts_then}
use Rattle.export_wrappers.proofs.writing.put_contents.Goals as goal

pub returns : goal.returns
returns c = on-ok c.put_bytes.result (λ last. puts_then (from_appends c.in_ok-put_byte.ensures.ok) (from_appends last)) c.put_bytes.ensures.ok
