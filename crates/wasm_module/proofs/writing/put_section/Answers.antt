use Rattle.std.proofs.Common.{ℕ, List, [], sym, subst, ◌∙◌}
use Rattle.wasm_instr.specs.wasm_grammar.Grammar.{SpellsByte, SpellsBytes, SpellsVector, Then}
use Rattle.wasm_instr.specs.wasm_grammar.Writers.{Appends, Writes}
use Rattle.wasm_instr.specs.wasm_grammar.WriterLaws.{on-ok}
use Rattle.wasm_module.proofs.WriteLaws.{section_written, has_items}
use Rattle.wasm_module.proofs.writing.put_section.Goals as goal

pub returns : goal.returns
returns g c =
    let Item = g.T.Form.spells in
    let contents : Writes (SpellsVector Item c.args.items.now) [] c.put_vector.new.to = subst (λ (old : List ℕ). Writes (SpellsVector Item c.args.items.now) old c.put_vector.new.to) c.new-contents.ensures c.in_ok-put_vector.ensures.ok in
    on-ok c.put_contents.result (λ last.
    let there : Appends (Then (SpellsByte c.args.id) (SpellsBytes c.put_vector.new.to)) c.args.to.now c.put_contents.new.to = rw (sym c.as_slice.ensures) last in
    section_written c.args.id [] c.args.items.now (SpellsVector Item) c.put_vector.new.to c.args.to.now c.put_contents.new.to (has_items c.args.items.now (sym c.is_empty.ensures ∙ c.if-is_empty.false)) contents there) c.put_contents.ensures
