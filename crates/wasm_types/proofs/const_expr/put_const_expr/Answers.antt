use Rattle.wasm_grammar.specs.WriterLaws.{Appends-then, on-ok}
use Rattle.wasm_types.proofs.const_expr.put_const_expr.Goals as goal

pub returns-in_ok-put_s32-in-I32-clause-ok : goal.returns-in_ok-put_s32-in-I32-clause-ok
returns-in_ok-put_s32-in-I32-clause-ok c =
    rw c.in-I32.is (on-ok c.put_byte-in-I32.result (λ last. Appends-then c.in_ok-put_byte-in-I32.ensures.ok (Appends-then c.in_ok-put_s32-in-I32.ensures.ok last)) c.put_byte-in-I32.ensures.ok)

pub returns-in_ok-put_s64-in-I64-clause-ok : goal.returns-in_ok-put_s64-in-I64-clause-ok
returns-in_ok-put_s64-in-I64-clause-ok c =
    rw c.in-I64.is (on-ok c.put_byte-in-I64-2.result (λ last. Appends-then c.in_ok-put_byte-in-I64.ensures.ok (Appends-then c.in_ok-put_s64-in-I64.ensures.ok last)) c.put_byte-in-I64-2.ensures.ok)

pub returns-in_ok-put_u32-in-Get-clause-ok : goal.returns-in_ok-put_u32-in-Get-clause-ok
returns-in_ok-put_u32-in-Get-clause-ok c =
    rw c.in-Get.is (on-ok c.put_byte-in-Get-2.result (λ last. Appends-then c.in_ok-put_byte-in-Get.ensures.ok (Appends-then c.in_ok-put_u32-in-Get.ensures.ok last)) c.put_byte-in-Get-2.ensures.ok)
