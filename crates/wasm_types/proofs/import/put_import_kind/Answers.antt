use Rattle.wasm_grammar.specs.WriterLaws.{Appends-then, on-ok}
use Rattle.wasm_types.proofs.import.put_import_kind.Goals as goal

pub returns-in_ok-put_byte-in-Table-clause-ok : goal.returns-in_ok-put_byte-in-Table-clause-ok
returns-in_ok-put_byte-in-Table-clause-ok c =
    rw c.in-Table.is (on-ok c.put_table_type.result (λ last. Appends-then c.in_ok-put_byte-in-Table.ensures.ok last) c.put_table_type.ensures.ok)

pub returns-in_ok-put_byte-in-Memory-clause-ok : goal.returns-in_ok-put_byte-in-Memory-clause-ok
returns-in_ok-put_byte-in-Memory-clause-ok c =
    rw c.in-Memory.is (on-ok c.put_limits.result (λ last. Appends-then c.in_ok-put_byte-in-Memory.ensures.ok last) c.put_limits.ensures.ok)
