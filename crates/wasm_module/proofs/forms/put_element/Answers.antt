use Rattle.std.proofs.Common.{sym}
use Rattle.wasm_instr.specs.wasm_grammar.WriterLaws.{Writes-from, Writes-then, on-ok}
use Rattle.wasm_module.proofs.forms.put_element.Goals as goal

pub returns-in_ok-put_const_expr-in-None-clause-ok : goal.returns-in_ok-put_const_expr-in-None-clause-ok
returns-in_ok-put_const_expr-in-None-clause-ok c =
    rw (c.in-None.is, sym c.as_slice.ensures)
    (on-ok c.put_vector.result (λ last. Writes-then (Writes-from c.in_ok-put_u32-in-None.ensures.ok) (Writes-then (Writes-from c.in_ok-put_const_expr-in-None.ensures.ok) last)) c.put_vector.ensures.ok)

pub returns-in_ok-put_byte-in-Some-clause-ok : goal.returns-in_ok-put_byte-in-Some-clause-ok
returns-in_ok-put_byte-in-Some-clause-ok c =
    rw (c.in-Some.is, sym c.as_slice-in-Some.ensures)
    (on-ok c.put_vector-in-Some.result (λ last.
    Writes-then (Writes-from c.in_ok-put_u32-in-Some.ensures.ok) (Writes-then (Writes-from c.in_ok-put_u32-in-Some-2.ensures.ok)
    (Writes-then (Writes-from c.in_ok-put_const_expr-in-Some.ensures.ok) (Writes-then (Writes-from c.in_ok-put_byte-in-Some.ensures.ok) last)))) c.put_vector-in-Some.ensures.ok)
