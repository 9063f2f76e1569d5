use Rattle.std.proofs.Common.{ap, sym, ◌∙◌, refl}
use Rattle.object_file.specs.object_columns.Seen.{function_seen}
use Rattle.wasm_instr.specs.Bodies.{body_at}
use Rattle.valid_objects.specs.Objects.{body_bytes}
use Rattle.valid_objects.proofs.Accepting.{on_ok, accepted_is}
use Rattle.valid_objects.proofs.bodies.is_accepted.Goals as goal

pub returns : goal.returns
returns c =
    on_ok c.reads_body.result
    (λ so e. accepted_is c.args.o.now (function_seen c.args.function) c.args.function.operands.references.now c.args.function.operands.behind refl c.requires.stand
    c.in-Ok.body c.body_bytes.result.now c.in_ok-kind.kind (body_at (body_bytes c.args.bytes.now c.args.function.span)) so
    c.in-Ok.ensures.found (ap body_at (sym c.body_bytes.ensures) ∙ c.in-Ok.ensures.exact) c.in_ok-kind.ensures e)
    c.reads_body.ensures
