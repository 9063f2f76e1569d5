use Rattle.output_types.proofs.outputs_are_valid.Goals as goal

pub returns : goal.returns
returns c = λ p exports lk one typed plain checked. record {
  rules = c.rules_stand.ensures p exports lk checked;
  bodies = c.bodies_are_typed.ensures p exports lk one typed plain;
}
