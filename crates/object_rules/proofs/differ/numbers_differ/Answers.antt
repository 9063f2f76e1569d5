use Rattle.std.proofs.Common.{ℕ, ◌+◌, ◌∙◌, ap, sym, drop, nat_eq, get_or, refl}
use Rattle.std.proofs.lemmas.Cmp.{nat_eq_equiv}
use Rattle.std.proofs.lemmas.List.{at_drop_more}
use Rattle.object_rules.specs.Differ.{all_differ}
use Rattle.object_rules.proofs.Seen.{differ_behind, none_seen, goes_on}
use Rattle.object_rules.proofs.differ.numbers_differ.Goals as goal

pub loop-number-init : goal.loop-number-init
loop-number-init c =
    ap (λ keys. differ_behind nat_eq (λ (key : ℕ). key) keys c.args.numbers.now) c.new-seen.ensures.empty ∙ none_seen nat_eq (λ (key : ℕ). key) c.args.numbers.now

pub loop-number-preserved : goal.loop-number-preserved
loop-number-preserved c =
    let i = c.loop-number.number-index in
    let all = c.args.numbers.now in
    let here = get_or all i 0 in
    let step = sym (at_drop_more (differ_behind nat_eq (λ (key : ℕ). key) c.loop-number.seen.keys) all i 0 c.loop-number-test.true) in
    goes_on nat_eq nat_eq_equiv.symm (λ (key : ℕ). key) c.loop-number.seen.keys c.insert.new.self.keys here here (drop (i + 1) all) (all_differ nat_eq all)
    refl (sym c.if-not-branch.false ∙ c.in_ok-insert.ensures.added) c.in_ok-insert.ensures.keys (step ∙ c.loop-number.invariant)
