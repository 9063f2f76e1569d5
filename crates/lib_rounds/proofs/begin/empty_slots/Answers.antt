use Rattle.std.proofs.Common.{◌≡◌, ◌∙◌, ap, arith}
use Rattle.std.specs.Prelude.{replicate}
use Rattle.lib_rounds.specs.Held.{absent}
use Rattle.lib_rounds.proofs.begin.empty_slots.Goals as goal

pub returns : goal.returns
returns c =
    let all_made : c.loop-at._at ≡ c.args.count = omega (arith, c.loop-at-test.false, c.loop-at.auto._at-end) in
    c.loop-at.invariant ∙ ap (λ n. replicate n absent) all_made
