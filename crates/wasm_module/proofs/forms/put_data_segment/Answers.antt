use Rattle.std.proofs.Common.{sym}
use Rattle.wasm_instr.specs.wasm_grammar.WriterLaws.{Appends-then, on-ok}
use Rattle.wasm_module.proofs.forms.put_data_segment.Goals as goal

pub returns-in_ok-put_const_expr-in-None-clause-ok : goal.returns-in_ok-put_const_expr-in-None-clause-ok
returns-in_ok-put_const_expr-in-None-clause-ok c =
    rw (c.in-None.is, sym c.as_slice.ensures)
    (on-ok c.put_bytes.result (λ last. Appends-then c.in_ok-put_u32-in-None.ensures.ok (Appends-then c.in_ok-put_const_expr-in-None.ensures.ok last)) c.put_bytes.ensures.ok)

pub returns-in_ok-put_const_expr-in-Some-clause-ok : goal.returns-in_ok-put_const_expr-in-Some-clause-ok
returns-in_ok-put_const_expr-in-Some-clause-ok c =
    rw (c.in-Some.is, sym c.as_slice-in-Some.ensures)
    (on-ok c.put_bytes-in-Some.result (λ last.
    Appends-then c.in_ok-put_u32-in-Some.ensures.ok (Appends-then c.in_ok-put_u32-in-Some-2.ensures.ok (Appends-then c.in_ok-put_const_expr-in-Some.ensures.ok last))) c.put_bytes-in-Some.ensures.ok)
