-- The order of ranks.
use Rattle.std.proofs.Common.{◌≡◌, ◌⊎◌, inl, inr, ⊎_elim, ◌<◌, List, arith}
use mathlib.Core.Logic.{dite}
use native.Mathlib.Decide.{dec_lt}
use Rattle.least_race.specs.Jobs.{Job}
use Rattle.race_share.specs.Offered.{RanksBelow}
use Rattle.symbol_race.specs.Ranks.{rank_of, RanksMade, RanksByParts, RanksDiffer}

pub by_parts : RanksByParts
by_parts a i s b j t p q = let p0 = p.class in let p1 = p.input in let p2 = p.symbol in let q0 = q.class in let q1 = q.input in let q2 = q.symbol in (
  (λ h. ⊎_elim (λ (l : a < b). omega arith) (λ (r : (a ≡ b) × ((i < j) ⊎ ((i ≡ j) × (s < t)))). let e = r.0 in ⊎_elim (λ (l : i < j). omega arith) (λ (u : (i ≡ j) × (s < t)). let e' = u.0 in let l = u.1 in omega arith) r.1) h),
  (λ (h : rank_of a i s < rank_of b j t). dite (dec_lt a b) inl (λ n. inr ((omega arith), dite (dec_lt i j) inl (λ m. inr ((omega arith), (omega arith)))))),
)

pub differ : RanksDiffer
differ a i s b j t p q e = let p0 = p.class in let p1 = p.input in let p2 = p.symbol in let q0 = q.class in let q1 = q.input in let q2 = q.symbol in (omega arith, omega arith, omega arith)

pub made_below : (jobs : List Job) → RanksMade jobs → RanksBelow 18446744073709551615 jobs
made_below jobs made job item o is = let m = made job item o is in let e = m.4 in let p0 = m.3.class in let p1 = m.3.input in let p2 = m.3.symbol in omega arith
