use Rattle.std.proofs.Common.{sym, arith, ◌+◌, ◌<◌, ◌^◌, length, subst, ℕ, refl}
use Rattle.round_rules.specs.declared.given.LibraryFile.{LibraryFile}
use Rattle.lib_rounds.proofs.Names.{index_is}
use Rattle.lib_rounds.proofs.offer.library_offer.Goals as goal

pub overflow_add-result : goal.overflow_add-result
overflow_add-result c =
    let l = c.index-libraries-at.result in
    let all : (k : ℕ) → k < length l.library.members → l.first + k < 2 ^ 20 = subst (λ (x : LibraryFile). (k : ℕ) → k < length x.library.members
    → x.first + k < 2 ^ 20) (sym c.index-libraries-at.is) (c.requires c.loop-at.at l (omega (arith, c.loop-at-test.true))) in
    omega (arith, all c.in-Some.member c.in-Some.ensures.within)

pub returns-in-Some-clause-from : goal.returns-in-Some-clause-from
returns-in-Some-clause-from c =
    let l = c.index-libraries-at.result in
    (l, index_is c.args.libraries.now c.loop-at.at l (omega (arith, c.loop-at-test.true)) c.index-libraries-at.is, c.in-Some.ensures.within, refl)
