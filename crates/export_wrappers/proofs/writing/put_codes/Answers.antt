use Rattle.std.proofs.Common.{ℕ, ◌+◌, length, ap, ◌∙◌}
use Rattle.std.specs.Prelude.{map}
use Rattle.std.proofs.lemmas.List.{length-map}
use Rattle.wasm_module.specs.wasm_instr.wasm_grammar.WriterLaws.{on-ok}
use Rattle.export_wrappers.specs.Wrapped.{body_of}
use Rattle.export_wrappers.proofs.Putting.{codes_put}
use Rattle.export_wrappers.proofs.writing.put_codes.Goals as goal

pub returns : goal.returns
returns c =
    let body = body_of c.args.ctors c.args.dtors in
    let ws = c.args.wrappers.now in
    on-ok c.put_wrappers.result (λ last bs long codes.
    codes_put c.args.total c.args.bodies.now (map body ws) c.args.to.now c.put_count.new.to c.put_itself.new.to c.put_wrappers.new.to c.in_ok-put_count.ensures.ok c.in_ok-put_itself.ensures.ok last bs
    (ap (λ (n : ℕ). length bs + n) (length-map ws body) ∙ long) codes) c.put_wrappers.ensures
