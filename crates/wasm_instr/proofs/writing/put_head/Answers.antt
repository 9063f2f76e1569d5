use Rattle.std.proofs.Common.{sym}
use Rattle.wasm_grammar.specs.Grammar.{SpellsU32, SpellsVector}
use Rattle.wasm_grammar.specs.Writers.{Writes}
use Rattle.wasm_grammar.specs.WriterLaws.{Writes-from, Writes-then, Appends-then, on-ok}
use Rattle.wasm_instr.proofs.writing.put_head.Goals as goal

pub returns-in_ok-put_byte-in-BranchTable-clause-ok : goal.returns-in_ok-put_byte-in-BranchTable-clause-ok
returns-in_ok-put_byte-in-BranchTable-clause-ok c =
    rw c.in-BranchTable.is (on-ok c.put_vector.result (λ last.
    let labels : Writes (SpellsVector SpellsU32 c.in-BranchTable.labels) c.put_byte.new.to c.put_vector.new.to = rw (sym c.as_slice.ensures) last in
    Writes-then (Writes-from c.in_ok-put_byte-in-BranchTable.ensures.ok) labels) c.put_vector.ensures.ok)

pub returns-in_ok-put_u32-in-MemoryCopy-clause-ok : goal.returns-in_ok-put_u32-in-MemoryCopy-clause-ok
returns-in_ok-put_u32-in-MemoryCopy-clause-ok c =
    rw c.in-MemoryCopy.is (on-ok c.put_byte-in-MemoryCopy-2.result (λ last. Writes-from (Appends-then c.in_ok-put_byte-in-MemoryCopy.ensures.ok (Appends-then c.in_ok-put_u32-in-MemoryCopy.ensures.ok last))) c.put_byte-in-MemoryCopy-2.ensures.ok)
