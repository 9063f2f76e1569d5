use Rattle.std.proofs.Common.{◌≡◌, ℕ, List, [], ◌++◌, take, refl, sym, subst, ◌∙◌}
use Rattle.wasm_module.specs.wasm_instr.wasm_grammar.Grammar.{SpellsBytes}
use Rattle.wasm_module.specs.wasm_instr.wasm_grammar.Writers.{Appends}
use Rattle.wasm_module.specs.wasm_instr.wasm_grammar.WriterLaws.{on-ok}
use Rattle.export_wrappers.specs.Wrapped.{body_bytes}
use Rattle.export_wrappers.proofs.Bodies.{code_put}
use Rattle.export_wrappers.proofs.steps.put_code.Goals as goal

-- nothing of a list is left
none_taken : (xs : List ℕ) → take 0 xs ≡ []
none_taken xs = refl

pub returns : goal.returns
returns c =
    let bytes = body_bytes c.args.ctors c.args.dtors c.args.w in
    let is : c.put_body.new.to ≡ bytes = subst (λ (old : List ℕ). c.put_body.new.to ≡ old ++ bytes) (c.truncate.ensures ∙ none_taken c.args.room.now) c.in_ok-put_body.ensures.bytes in
    on-ok c.put_bytes.result (λ last.
    let part : Appends (SpellsBytes c.put_body.new.to) c.args.to.now c.put_bytes.new.to = rw (sym c.as_slice.ensures) last in
    code_put c.args.ctors c.args.dtors c.args.w c.put_body.new.to c.args.to.now c.put_bytes.new.to is c.in_ok-put_body.ensures.fits part) c.put_bytes.ensures.ok
