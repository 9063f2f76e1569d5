use Rattle.std.proofs.Common.{◌≡◌, ◌≤◌, arith, sym, ◌∙◌, length, Result, Err, subst}
use Rattle.wasm_grammar.specs.declared.fault.Stop.{Stop}
use Rattle.wasm_grammar.specs.declared.fault.Stop.TheVariants.{Broken, Foreign}
use Rattle.wasm_grammar.specs.declared.fault.ReadFault.{ReadFault}
use Rattle.wasm_grammar.specs.declared.fault.ReadFault.TheVariants.{Stopped}
use Rattle.wasm_grammar.specs.Fault.{Fails}
use Rattle.wasm_grammar.specs.Bounds.{bounded_broken}
use Rattle.wasm_instr.specs.BodyLaws.{body_found, body_again}
use Rattle.wasm_instr.specs.BodyBounds.{body_bounded}
use Rattle.wasm_instr.specs.Bodies.{body_at}
use Rattle.wasm_instr.proofs.body.read_body.Goals as goal

-- a fault, from what the match tells of it
fault_is : {A : Type 0} (read : Result A Stop) (e : ReadFault) (s t : Stop) → e ≡ Stopped s → s ≡ t → Fails e read → read ≡ Err t
fault_is read e s t whole part f = subst (λ (u : Stop). read ≡ Err u) part (subst (λ (d : ReadFault). Fails d read) whole f)

pub overflow_cast-result : goal.overflow_cast-result
overflow_cast-result c =
    let read = body_at c.args.bytes.now in
    let e = fault_is read c.in-Err-Stopped-Broken.field-0 c.in-Err-Stopped-Broken.field-0-0 (Broken c.in-Err-Stopped-Broken.place) c.in-Err-Stopped-Broken.field-0-is c.in-Err-Stopped-Broken.field-0-0-is c.in-Err-Stopped-Broken.ensures in
    let within : c.in-Err-Stopped-Broken.place ≤ length c.args.bytes.now = bounded_broken (length c.args.bytes.now) _ read (body_bounded c.args.bytes.now) e in
    omega (arith, within, c.requires)

pub returns-in-Ok-clause-found : goal.returns-in-Ok-clause-found
returns-in-Ok-clause-found c = body_found c.args.bytes.now c.in-Ok.body c.in-Ok.ensures

pub returns-in-Ok-clause-only : goal.returns-in-Ok-clause-only
returns-in-Ok-clause-only c = λ body s. sym (body_again c.args.bytes.now body s) ∙ c.in-Ok.ensures

pub returns-in-Err-Stopped-Broken-clause-only : goal.returns-in-Err-Stopped-Broken-clause-only
returns-in-Err-Stopped-Broken-clause-only c = λ body s.
    sym (body_again c.args.bytes.now body s)
    ∙ fault_is (body_at c.args.bytes.now) c.in-Err-Stopped-Broken.field-0 c.in-Err-Stopped-Broken.field-0-0 (Broken c.in-Err-Stopped-Broken.place) c.in-Err-Stopped-Broken.field-0-is c.in-Err-Stopped-Broken.field-0-0-is c.in-Err-Stopped-Broken.ensures

pub returns-in-Err-Stopped-Foreign-clause-only : goal.returns-in-Err-Stopped-Foreign-clause-only
returns-in-Err-Stopped-Foreign-clause-only c = λ body s.
    sym (body_again c.args.bytes.now body s)
    ∙ fault_is (body_at c.args.bytes.now) c.in-Err-Stopped-Foreign.field-0 c.in-Err-Stopped-Foreign.field-0-0 (Foreign c.in-Err-Stopped-Foreign.item) c.in-Err-Stopped-Foreign.field-0-is c.in-Err-Stopped-Foreign.field-0-0-is c.in-Err-Stopped-Foreign.ensures
