use Rattle.std.proofs.Common.{ℕ, List, [], sym, subst}
use Rattle.wasm_module.specs.wasm_instr.wasm_grammar.Grammar.{SpellsByte, SpellsBytes, SpellsVector, Then}
use Rattle.wasm_module.specs.wasm_instr.wasm_grammar.Writers.{Writes}
use Rattle.wasm_module.specs.wasm_instr.wasm_grammar.WriterLaws.{on-ok}
use Rattle.export_wrappers.specs.Written.{Puts}
use Rattle.export_wrappers.proofs.Putting.{items_put}
use Rattle.export_wrappers.proofs.writing.put_section.Goals as goal

pub returns : goal.returns
returns g c =
    let Item = g.T.Form.spells in
    let contents : Writes (SpellsVector Item c.args.items.now) [] c.put_vector.new.to = subst (λ (old : List ℕ). Writes (SpellsVector Item c.args.items.now) old c.put_vector.new.to) c.new-contents.ensures c.in_ok-put_vector.ensures.ok in
    on-ok c.put_contents.result (λ last many.
    let there : Puts (Then (SpellsByte c.args.id) (SpellsBytes c.put_vector.new.to)) c.args.to.now c.put_contents.new.to = rw (sym c.as_slice.ensures) last in
    items_put Item c.args.id c.args.items.now c.put_vector.new.to c.args.to.now c.put_contents.new.to c.in_ok-put_vector.ensures.counted contents there many) c.put_contents.ensures
