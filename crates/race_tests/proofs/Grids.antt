-- The offers of a grid of jobs.
use Rattle.std.proofs.Common.{◌≡◌, ℕ, ◌+◌, ◌^◌, ◌<◌, ◌≤◌, [], length, get_or, sym, ap, ◌∙◌, subst, arith, Some, None}
use Rattle.std.proofs.lemmas.List.{get_or-replicate, length-replicate, length-map}
use Rattle.std.proofs.lemmas.List.FromFn.{get_or-map-range_with_len, length-range_with_len}
use Rattle.std.specs.List.{range_with_len}
use Rattle.least_race.specs.declared.party.Offer.{Offer}
use Rattle.least_race.specs.Jobs.{Job, IsItem, WordsBelow}
use Rattle.least_race.specs.Race.{offer}
use Rattle.race_share.specs.Offered.{RanksBelow}
use Rattle.symbol_race.specs.Ranks.{RanksMade}
use Rattle.race_tests.specs.Grid.{row, grid}

pub length_grid : (jobs items : ℕ) → length (grid jobs items) ≡ jobs
length_grid jobs items = length-map (range_with_len 0 jobs) (row items) ∙ length-range_with_len 0 jobs

pub at_job : (jobs items job : ℕ) → job < jobs → get_or (grid jobs items) job [] ≡ row items job
at_job jobs items job inside = let e : 0 + job ≡ job = omega arith in get_or-map-range_with_len (row items) 0 jobs job job [] inside e

pub items_at : (jobs items job : ℕ) → job < length (grid jobs items) → items ≡ length (get_or (grid jobs items) job [])
items_at jobs items job inside = let l : job < jobs = subst (λ (n : ℕ). job < n) (length_grid jobs items) inside in
    sym (ap (λ (j : Job). length j) (at_job jobs items job l) ∙ length-replicate items (Some (offer 0 (job + 4))))

pub offer_at : (jobs items job item : ℕ) → job < length (grid jobs items) → item < length (get_or (grid jobs items) job []) → Some (offer 0 (job + 4)) ≡ get_or (get_or (grid jobs items) job []) item None
offer_at jobs items job item inside within = let l : job < jobs = subst (λ (n : ℕ). job < n) (length_grid jobs items) inside in
    let k : item < items = subst (λ (n : ℕ). item < n) (sym (items_at jobs items job inside)) within in
    sym (ap (λ (j : Job). get_or j item None) (at_job jobs items job l) ∙ get_or-replicate items item (Some (offer 0 (job + 4))) None k)

pub item_is : (jobs items job item : ℕ) (o : Offer) → IsItem (grid jobs items) job item o → (o ≡ offer 0 (job + 4)) × (job < jobs)
item_is jobs items job item o is =
    let l : job < jobs = subst (λ (n : ℕ). job < n) (length_grid jobs items) is.0 in
    let read : Some (offer 0 (job + 4)) ≡ Some o = offer_at jobs items job item is.0 is.1 ∙ is.2 in
    ((let e : offer 0 (job + 4) ≡ o = (let h = read in cc) in sym e), l)

pub few_jobs : (jobs items : ℕ) → jobs ≤ 64 → length (grid jobs items) < 2 ^ 31
few_jobs jobs items few = let e = length_grid jobs items in omega arith

pub words_below : (jobs items : ℕ) → WordsBelow 1 (grid jobs items)
words_below jobs items job item o is = let h = item_is jobs items job item o is in subst (λ (z : Offer). z.word < 1) (sym h.0) (omega arith)

pub ranks_made : (jobs items : ℕ) → jobs ≤ 64 → RanksMade (grid jobs items)
ranks_made jobs items few job item o is = let h = item_is jobs items job item o is in let l = h.1 in
    let e : o.rank ≡ job + 4 = ap (λ (z : Offer). z.rank) h.0 in
    (0, 0, job + 4, record { class = omega arith; input = omega arith; symbol = omega arith }, omega arith)

pub ranks_below : (jobs items : ℕ) → jobs ≤ 64 → RanksBelow (2 ^ 20) (grid jobs items)
ranks_below jobs items few job item o is = let h = item_is jobs items job item o is in let l = h.1 in
    let e : o.rank ≡ job + 4 = ap (λ (z : Offer). z.rank) h.0 in omega arith
