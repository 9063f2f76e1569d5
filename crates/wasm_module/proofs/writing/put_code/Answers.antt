use Rattle.std.proofs.Common.{ℕ, List, [], take, sym, subst, refl, ◌≡◌, ◌∙◌}
use Rattle.wasm_instr.specs.wasm_grammar.Grammar.{SpellsBytes}
use Rattle.wasm_instr.specs.wasm_grammar.Writers.{Appends, Writes}
use Rattle.wasm_instr.specs.wasm_grammar.WriterLaws.{on-ok}
use Rattle.wasm_instr.specs.Placeless.{SpellsPlaceless}
use Rattle.wasm_module.proofs.WriteLaws.{sized_written}
use Rattle.wasm_module.proofs.writing.put_code.Goals as goal

-- nothing of a list is left
none_taken : (xs : List ℕ) → take 0 xs ≡ []
none_taken xs = refl

pub returns : goal.returns
returns c =
    let body = c.args.body.now in
    let text : Writes (SpellsPlaceless body) [] c.put_body.new.to = subst (λ (old : List ℕ). Writes (SpellsPlaceless body) old c.put_body.new.to) (c.truncate.ensures ∙ none_taken c.args.room.now) c.in_ok-put_body.ensures.ok in
    on-ok c.put_bytes.result (λ last.
    let part : Appends (SpellsBytes c.put_body.new.to) c.args.to.now c.put_bytes.new.to = rw (sym c.as_slice.ensures) last in
    sized_written c.put_body.new.to c.args.to.now c.put_bytes.new.to text part) c.put_bytes.ensures.ok
