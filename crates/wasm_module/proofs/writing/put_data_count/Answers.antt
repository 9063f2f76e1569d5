use Rattle.std.proofs.Common.{ℕ, List, [], sym, subst, Some, None}
use Rattle.wasm_instr.specs.wasm_grammar.Grammar.{SpellsByte, SpellsU32, SpellsBytes, Then}
use Rattle.wasm_instr.specs.wasm_grammar.Writers.{Appends, Writes}
use Rattle.wasm_instr.specs.wasm_grammar.WriterLaws.{Writes-from, on-ok}
use Rattle.wasm_module.specs.Sections.{SpellsGiven}
use Rattle.wasm_module.proofs.WriteLaws.{section_written}
use Rattle.wasm_module.proofs.writing.put_data_count.Goals as goal

pub returns-in_ok-put_u32-in-Some : goal.returns-in_ok-put_u32-in-Some
returns-in_ok-put_u32-in-Some c =
    let number : Appends (SpellsU32 c.in-Some.count) [] c.put_u32.new.to = subst (λ (old : List ℕ). Appends (SpellsU32 c.in-Some.count) old c.put_u32.new.to) c.new-contents.ensures c.in_ok-put_u32-in-Some.ensures.ok in
    let contents : Writes (SpellsGiven (Some c.in-Some.count)) [] c.put_u32.new.to = Writes-from number in
    rw (c.in-Some.is) (on-ok c.put_contents.result (λ last.
    let there : Appends (Then (SpellsByte 12) (SpellsBytes c.put_u32.new.to)) c.args.to.now c.put_contents.new.to = rw (sym c.as_slice.ensures) last in
    section_written 12 None (Some c.in-Some.count) SpellsGiven c.put_u32.new.to c.args.to.now c.put_contents.new.to (λ is. cc is) contents there) c.put_contents.ensures)
