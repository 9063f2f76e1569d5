use Rattle.std.proofs.Common.{ap, sym, ◌∙◌, ◌++◌, ◌∷◌, [], cond, length, ◌+◌}
use Rattle.std.specs.Prelude.{map, if◌then◌else◌}
use Rattle.std.proofs.lemmas.List.{append-nil}
use Rattle.loose_calls.specs.Found.{variant_seen}
use Rattle.loose_calls.proofs.finding.Calls.add.Goals as goal

pub returns-in_ok-add_variant : goal.returns-in_ok-add_variant
returns-in_ok-add_variant c = λ e there. record {
  called = c.in_ok-add_variant.ensures.called ∙ ap (λ b. c.args.self.now.called ++ (if b then (c.args.asking.count + length c.args.self.now.variants) ∷ [] else length c.args.self.now.called ∷ [])) (sym c.if-loose.true);
  variants = c.in_ok-add_variant.ensures.variants e there ∙ ap (λ b. c.args.self.now.variants ++ map variant_seen (cond b (e ∷ []) [])) (sym c.if-loose.true);
}

pub returns-in_ok-add_itself : goal.returns-in_ok-add_itself
returns-in_ok-add_itself c = λ e there. record {
  called = c.in_ok-add_itself.ensures.called ∙ ap (λ b. c.args.self.now.called ++ (if b then (c.args.asking.count + length c.args.self.now.variants) ∷ [] else length c.args.self.now.called ∷ [])) (sym c.if-loose.false);
  variants = c.in_ok-add_itself.ensures.variants ∙ sym (append-nil c.args.self.now.variants) ∙ ap (λ b. c.args.self.now.variants ++ map variant_seen (cond b (e ∷ []) [])) (sym c.if-loose.false);
}
