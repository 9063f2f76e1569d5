use Rattle.std.proofs.Common.{[], ◌∷◌, ◌++◌, ap, ◌∙◌}
use Rattle.wasm_instr.specs.declared.instr.Instr.TheVariants as instrs
use Rattle.run_rules.specs.declared.op.Op.TheVariants.{Own}
use Rattle.run_rules.specs.declared.world.Source.TheVariants.{Code}
use Rattle.sym_parts.proofs.bodies.calling.Goals as goal

pub returns : goal.returns
returns c =
    ap (λ locals. Code locals c.push.new.self) c.new.ensures
    ∙ ap (Code []) c.in_ok-push.ensures.ok
    ∙ ap (λ ops. Code [] (ops ++ Own (instrs.Plain 0x0B) ∷ [])) c.in_ok-code.ensures
