-- Inputs as ranks.
use Rattle.std.proofs.Common.{ℕ, ◌<◌, List, arith, Some, None}
use Rattle.std.specs.Prelude.{IfSome}
use Rattle.std.specs.declared.option.Option.{Option}
use Rattle.least_race.specs.Jobs.{Job}
use Rattle.race_share.specs.Offered.{RanksBelow, IsLeastOffer}

pub inputs_below : (jobs : List Job) → RanksBelow 1048576 jobs → RanksBelow 18446744073709551615 jobs
inputs_below jobs below job item o is = let b = below job item o is in omega arith

pub least_below : (jobs : List Job) → RanksBelow 1048576 jobs → (i : ℕ) (m : Option ℕ) → IsLeastOffer jobs i m → IfSome m (λ n. n < 1048576)
least_below jobs below i None h = tt
least_below jobs below i (Some n) h = let t = h.1 in let b = below t.0 t.1 t.2 t.3 in let e = t.5 in omega arith
