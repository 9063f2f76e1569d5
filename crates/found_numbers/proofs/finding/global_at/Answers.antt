use Rattle.std.proofs.Common.{ap, ◌∙◌}
use Rattle.link_program.specs.Keys.{same_global_key}
use Rattle.found_numbers.specs.Found.{stands_at, if_there}
use Rattle.found_numbers.proofs.Found.{believed}
use Rattle.found_numbers.proofs.finding.global_at.Goals as goal

pub returns : goal.returns
returns c =
    let number = c.global_number-number.result in
    let key = c.args.key in
    c.if_there.ensures
    ∙ (ap (λ b. if_there b number) (c.has_global-there.ensures ∙ ap (λ ks. stands_at same_global_key ks number key) c.globals.ensures)
    ∙ believed same_global_key c.args.numbering.now.globals key number c.global_number-number.ensures)
