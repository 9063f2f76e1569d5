-- A fault of names is one of what is loaded.
use Rattle.std.proofs.Common.{◌≡◌, ◌∙◌, List, sym, ap, subst, Err}
use Rattle.link_program.specs.object_file.declared.object.Object.{Object}
use Rattle.link_program.specs.link_plan.declared.plan.Plan.{Plan}
use Rattle.link_program.specs.link_rules.ModeOf.{mode_of}
use Rattle.link_program.specs.link_rules.Program.{program_of}
use Rattle.link_program.specs.declared.error.LinkError.{LinkError}
use Rattle.program_build.specs.Found.{Finds}
use Rattle.link_core.specs.Loading.{Loading, program_in}
use Rattle.sym_world.specs.SymOf.{Told, sym_program}
use Rattle.sym_world.proofs.SymAnswering.{find_failed}

module _ (l : Loading) (plan : Plan) (loaded objects : List Object) (same : l.origin.plan ≡ plan) (are : l.objects ≡ loaded) (shown : objects ≡ loaded) where
  program_is : program_of (mode_of plan) plan l.origin.files l.origin.all objects ≡ program_in l
  program_is =
      ap (λ plan. program_of (mode_of plan) plan l.origin.files l.origin.all objects) (sym same)
      ∙ ap (λ (os : List Object). program_of (mode_of l.origin.plan) l.origin.plan l.origin.files l.origin.all os) (shown ∙ sym are)

  pub find_stops : (e x : LinkError) → x ≡ e → Finds (mode_of plan) (Err e) plan objects (program_of (mode_of plan) plan l.origin.files l.origin.all objects) → Told (Err x) (sym_program (program_in l))
  find_stops e x is finds = subst (λ p. Told (Err x) (sym_program p)) program_is (find_failed (mode_of plan) plan objects (program_of (mode_of plan) plan l.origin.files l.origin.all objects) e x is finds)
