use Rattle.std.proofs.Common.{ap, ◌∙◌}
use Rattle.link_program.specs.Keys.{same_function_key}
use Rattle.found_numbers.specs.Found.{stands_at, if_there}
use Rattle.found_numbers.proofs.Found.{believed}
use Rattle.found_numbers.proofs.finding.function_at.Goals as goal

pub returns : goal.returns
returns c =
    let number = c.function_number-number.result in
    let key = c.args.key in
    c.if_there.ensures
    ∙ (ap (λ b. if_there b number) (c.has_function-there.ensures ∙ ap (λ ks. stands_at same_function_key ks number key) c.functions.ensures)
    ∙ believed same_function_key c.args.numbering.now.functions key number c.function_number-number.ensures)
