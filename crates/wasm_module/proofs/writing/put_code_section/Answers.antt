use Rattle.std.proofs.Common.{ℕ, List, [], sym, subst, ◌∙◌}
use Rattle.wasm_instr.specs.wasm_grammar.Grammar.{SpellsByte, SpellsBytes, SpellsSized, SpellsVector, Then}
use Rattle.wasm_instr.specs.wasm_grammar.Writers.{Appends, Writes}
use Rattle.wasm_instr.specs.wasm_grammar.WriterLaws.{on-ok}
use Rattle.wasm_instr.specs.declared.body.Body.{Body}
use Rattle.wasm_instr.specs.Placeless.{SpellsPlaceless}
use Rattle.wasm_module.proofs.WriteLaws.{section_written, has_items}
use Rattle.wasm_module.proofs.writing.put_code_section.Goals as goal

pub returns : goal.returns
returns c =
    let Item : Body → List ℕ → Type 0 = λ b. SpellsSized (SpellsPlaceless b) in
    let contents : Writes (SpellsVector Item c.args.bodies.now) [] c.put_codes.new.to = subst (λ (old : List ℕ). Writes (SpellsVector Item c.args.bodies.now) old c.put_codes.new.to) c.new-contents.ensures c.in_ok-put_codes.ensures in
    on-ok c.put_contents.result (λ last.
    let there : Appends (Then (SpellsByte 10) (SpellsBytes c.put_codes.new.to)) c.args.to.now c.put_contents.new.to = rw (sym c.as_slice.ensures) last in
    section_written 10 [] c.args.bodies.now (SpellsVector Item) c.put_codes.new.to c.args.to.now c.put_contents.new.to (has_items c.args.bodies.now (sym c.is_empty.ensures ∙ c.if-is_empty.false)) contents there) c.put_contents.ensures
