use Rattle.std.proofs.Common.{rules, ◌≡◌, ◌∙◌, ap₂}
use Rattle.std.proofs.lemmas.Result.{IfOk-weaker}
use Rattle.clap.specs.Words.{app_of, with_rule}
use Rattle.run_words.specs.Words.{start_app, run_app, module_rule, script_rule}
use Rattle.run_words.proofs.command.command.Goals as goal

pub returns : goal.returns
unfolding run_app
returns c =
    let start_is : app_of c.no_binary_name-start.result ≡ start_app = search rules in
    let module_is : app_of c.in_ok-with_module.with_module ≡ with_rule start_app module_rule =
    c.in_ok-with_module.ensures.shape c.module.ensures.local ∙ ap₂ with_rule start_is c.module.ensures.rule in
    let script_is : app_of c.in_ok-with_script.with_script ≡ with_rule (with_rule start_app module_rule) script_rule =
    c.in_ok-with_script.ensures.shape c.script.ensures.local ∙ ap₂ with_rule module_is c.script.ensures.rule in
    IfOk-weaker c.arg-3.result _ _ (λ r h. h.shape c.steps.ensures.local ∙ ap₂ with_rule script_is c.steps.ensures.rule) c.arg-3.ensures
