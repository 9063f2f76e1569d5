use Rattle.std.proofs.Common.{◌≡◌, ℕ, Bool, false, List, [], sym, ap, ◌∙◌, cond, codes, decimal, ◌==◌}
use Rattle.driver_lines.specs.Called.{called_texts}
use Rattle.driver_lines.specs.Lines.{about_line, init_rule, rule_line}
use Rattle.driver_lines.proofs.Said.{said}
use Rattle.driver_lines.proofs.refusal.say_rule.Goals as goal

-- a rule that isn't the one on init functions
another : (program : List ℕ) (input : List (List ℕ)) (rule : ℕ) → (rule == init_rule) ≡ false
    → rule_line program input rule ≡ about_line program [] input (codes ": malformed object: rule ") (decimal rule) (codes "\n")
another program input rule differs =
    ap (λ (b : Bool). cond b (about_line program [] input (codes ": constructor functions cannot take arguments") [] (codes "\n"))
    (about_line program [] input (codes ": malformed object: rule ") (decimal rule) (codes "\n"))) differs

pub returns : goal.returns
returns g c =
    said _ _ _ _ _ (another c.args.program.now (called_texts c.args.input) c.args.rule (sym c.is_init_rule.ensures ∙ c.if-is_init_rule.false))
    c.say_about-2.ensures
