use Rattle.shared_types.proofs.shared_outputs_are_valid.Goals as goal

pub returns : goal.returns
returns c = λ p exports lk one typed plain checked. record {
  rules = c.shared_rules_stand.ensures p exports lk checked;
  bodies = c.shared_bodies_are_typed.ensures p exports lk one typed plain checked;
}
