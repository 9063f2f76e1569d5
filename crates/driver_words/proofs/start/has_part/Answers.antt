use Rattle.std.proofs.Common.{◌≡◌, ℕ, List, drop, eqb, false, sym, ap, ◌∙◌}
use Rattle.std.specs.List.{starts_with}
use Rattle.std.proofs.lemmas.List.{take_rest}
use Rattle.driver_words.proofs.Parts.{goes_by}
use Rattle.driver_words.proofs.start.has_part.Goals as goal

pub loop-at-preserved : goal.loop-at-preserved
loop-at-preserved c =
    let bytes = c.args.bytes.now in
    let part = c.args.part.now in
    let at = c.loop-at.at in
    let other : starts_with eqb (drop at bytes) part ≡ false =
    ap (λ (left : List ℕ). starts_with eqb left part) (sym (take_rest bytes at)) ∙ sym c.starts_with.ensures.value ∙ c.if-starts_with.false in
    goes_by part bytes at c.loop-at-test.true other ∙ c.loop-at.invariant
