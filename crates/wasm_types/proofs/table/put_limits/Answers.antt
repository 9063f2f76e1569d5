use Rattle.wasm_grammar.specs.WriterLaws.{Appends-then, on-ok}
use Rattle.wasm_types.proofs.table.put_limits.Goals as goal

pub returns-in_ok-put_u32-in-Some-clause-ok : goal.returns-in_ok-put_u32-in-Some-clause-ok
returns-in_ok-put_u32-in-Some-clause-ok c =
    rw c.in-Some.is (on-ok c.put_u32-in-Some-2.result (λ last. Appends-then c.in_ok-put_byte-in-Some.ensures.ok (Appends-then c.in_ok-put_u32-in-Some.ensures.ok last)) c.put_u32-in-Some-2.ensures.ok)
