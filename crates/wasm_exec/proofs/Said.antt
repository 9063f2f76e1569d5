-- What is said of a run of a module is the text of its trace, or the segment that lies outside.
use Rattle.std.proofs.Common.{◌≡◌, ℕ, List, Option, Some, None, Result, refl, subst, ap, ◌∙◌}
use Rattle.wasm_module.specs.declared.structure.Module.{Module}
use Rattle.run_rules.specs.declared.session.Session.{Session}
use Rattle.run_rules.specs.Modules.{module_trace}
use Rattle.run_modules.specs.Fits.{first_outside}
use Rattle.run_machines.specs.declared.outcome.Run.{Run}
use Rattle.run_machines.specs.Runs.{if_all_fit, run_of_module}
use Rattle.wasm_exec.specs.declared.status.RunError.{RunError}
use Rattle.wasm_exec.specs.Answer.{text_unless, text_of}
use Rattle.wasm_exec.specs.Command.{Answers, said_of}

by_outside : (s : Session) (m : Module) (steps : ℕ) (outside : Option ℕ) → said_of (if_all_fit outside (module_trace s m steps)) ≡ text_unless outside steps s m
by_outside s m steps None = refl
by_outside s m steps (Some segment) = refl

pub said_is_text : (s : Session) (m : Module) (steps : ℕ) (run : Run) (result : Result (List ℕ) RunError)
    → run ≡ run_of_module s m steps → Answers result (said_of run) → Answers result (text_of steps s m)
unfolding run_of_module text_of
said_is_text s m steps run result is answers =
    subst (λ said. Answers result said) (ap said_of is ∙ by_outside s m steps (first_outside s m)) answers
