use Rattle.std.proofs.Common.{ℕ, [], ◌∷◌, option_to_list, sym, subst, arith}
use Rattle.mark_bits.specs.Words.{Among}
use Rattle.mark_bits.proofs.Lists.{one_here}
use Rattle.live_mark.proofs.work.mark_some.Goals as goal

pub mark-requires-clause-chunk : goal.mark-requires-clause-chunk
mark-requires-clause-chunk c =
    let chunk : ℕ = c.in-Some.chunk in
    let one = one_here chunk in
    let here : Among chunk (chunk ∷ []) = omega (arith, one) in
    c.requires.below chunk (subst (λ o. Among chunk (option_to_list o)) (sym c.in-Some.is) here)
