-- What a test has looked at can be marked.
use Rattle.std.proofs.Common.{◌≡◌, ℕ, zero, suc, ◌<◌, Bool, true, false, ◌&&◌, List, [], ◌∷◌, length, get_or, nat_lt, filter_map, Some, refl, ap, arith}
use Rattle.std.proofs.lemmas.Bool.Decides.{nat_tests}
use mathlib.Core.Logic.{dite}
use native.Mathlib.Decide.{ℕ_discrete}
use Rattle.mark_bits.proofs.Lists.{times_append, none_here}
use Rattle.live_mark.specs.Asks.{Below, AllBelow}
use Rattle.marking_tests.specs.Graphs.{all_below, rows_below}

both : (a b : Bool) → (a && b) ≡ true → (a ≡ true) × (b ≡ true)
both true b e = (refl, e)
both false b e = absurd cc

pub below_from : (n : ℕ) (xs : List ℕ) → all_below n xs ≡ true → Below n xs
below_from n [] e c m = absurd (omega arith)
below_from n (x ∷ xs) e c m =
    let h = both (nat_lt x n) (all_below n xs) e in
    let first : x < n = (let l = h.0 in grind (arith, nat_tests)) in
    let t = times_append c (x ∷ []) xs in
    dite (ℕ_discrete x c) (λ e. omega arith) (λ ne. let none = none_here c x ne in below_from n xs h.1 c (omega arith))

row_below : (n : ℕ) (rows : List (List ℕ)) → rows_below n rows ≡ true → (c : ℕ) → Below n (get_or rows c [])
row_below n [] e c t m = absurd (omega arith)
row_below n (row ∷ rows) e zero t m = let h = both (all_below n row) (rows_below n rows) e in below_from n row h.0 t m
row_below n (row ∷ rows) e (suc c) t m = let h = both (all_below n row) (rows_below n rows) e in row_below n rows h.1 c t m

pub all_below_from : (rows : List (List ℕ)) → rows_below (length rows) rows ≡ true → AllBelow rows
all_below_from rows e = row_below (length rows) rows e

-- each item leads to a chunk
pub all_lead : (xs : List ℕ) → filter_map (λ c. Some c) xs ≡ xs
all_lead [] = refl
all_lead (x ∷ xs) = ap (λ (l : List ℕ). x ∷ l) (all_lead xs)
