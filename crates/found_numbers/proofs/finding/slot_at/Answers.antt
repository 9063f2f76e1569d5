use Rattle.std.proofs.Common.{◌≡◌, ◌+◌, ◌-◌, refl, ap, ◌∙◌, arith}
use Rattle.link_program.specs.index_layout.Numbers.{number_by}
use Rattle.link_program.specs.Keys.{same_function_key}
use Rattle.found_numbers.specs.Found.{stands_at, if_there}
use Rattle.found_numbers.proofs.Found.{believed_from}
use Rattle.found_numbers.proofs.finding.slot_at.Goals as goal

pub returns : goal.returns
returns c =
    let first = c.args.numbering.now.first_slot in
    let keys = c.args.numbering.now.slots in
    let key = c.args.key in
    let n = number_by same_function_key keys key in
    let slot : c.slot-slot.result ≡ first + n = c.slot-slot.ensures in
    let place : c.saturating_sub-place.result ≡ n = omega (arith, slot, c.first_slot.ensures, c.saturating_sub-place.ensures) in
    c.if_there.ensures
    ∙ (ap (λ b. if_there b c.slot-slot.result) (c.has_function-there.ensures ∙ (ap (λ ks. stands_at same_function_key ks c.saturating_sub-place.result key) c.slots.ensures ∙ ap (λ m. stands_at same_function_key keys m key) place))
    ∙ (ap (if_there (stands_at same_function_key keys n key)) slot ∙ believed_from same_function_key keys key n refl first))
