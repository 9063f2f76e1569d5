use Rattle.wasm_grammar.specs.WriterLaws.{Writes-then, on-ok}
use Rattle.wasm_instr.proofs.writing.put_instr.Goals as goal

pub returns-clause-ok : goal.returns-clause-ok
returns-clause-ok c =
    on-ok c.put_last.result (λ last some s.
    let a = Writes-then c.in_ok-put_head.ensures.ok last some s.1 in
    record { text = a.text; spells = (s.0, a.spells); parts = a.parts; least = λ other o. a.least other o.1 }) c.put_last.ensures.ok
