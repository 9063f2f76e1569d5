use Rattle.std.proofs.Common.{subst}
use Rattle.std.proofs.lemmas.Result.{err_from_is_err_and}
use Rattle.link_program.specs.Loaded.{the_candidates}
use Rattle.link_program.specs.link_rules.Program.{program_of}
use Rattle.sym_world.specs.SymOf.{Told, sym_program}
use Rattle.sym_world.proofs.SymAnswering.{load_failed, goes_on_loaded}
use Rattle.sym_world.proofs.SymOpened.{given, not_given}
use Rattle.sym_world.proofs.steps.plain_world.Goals as goal

pub returns-in_err-inputs : goal.returns-in_err-inputs
returns-in_err-inputs g c =
    let p = err_from_is_err_and c.from_residual.result c.from_residual.ensures.1 in
    rw (p.1) (load_failed c.args.plan.now c.args.files.now c.in_err-inputs.field-0.0 p.0 p.2 (not_given c.args.plan.now c.args.files.now c.in_err-inputs.field-0.0 c.requires.plain c.in_err-inputs.ensures.exact))

pub returns : goal.returns
returns g c =
    let plan = c.args.plan.now in
    let files = c.args.files.now in
    let all = the_candidates plan files in
    let objects = c.in_ok-inputs.inputs.loaded in
    let told = subst (λ m. Told c.found_world-world.result (sym_program (program_of m plan files all objects))) c.requires.plain c.found_world-world.ensures in
    goes_on_loaded plan files all objects c.found_world-world.result c.in_ok-inputs.ensures.found.candidates (given plan files c.in_ok-inputs.inputs c.requires.plain c.in_ok-inputs.ensures.found) told
