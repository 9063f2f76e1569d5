-- What roots reach, as a computation: what the walks from the roots end at, found by a search.
use Rattle.std.specs.Prelude.{◌≡◌, ℕ, zero, suc, ◌+◌, ◌↔◌, nat_lt, Bool, true, false, cond, List, [], ◌∷◌, ◌++◌, length, slice_index_or}
use Rattle.mark_bits.specs.Words.{times, Among}
use Rattle.mark_bits.specs.Reach.{Reached}

-- whether the chunk stands in the list
abbrev pub is_among : List ℕ → ℕ → Bool
is_among chunks c = nat_lt 0 (times c chunks)

-- what a chunk refers to
abbrev pub targets_of : List (List ℕ) → ℕ → List ℕ
targets_of targets c = slice_index_or targets c []

-- One look of the search: a chunk that was seen is dropped; else it counts as seen from now on, and what it refers to has to be
-- looked at too. Then the search goes on.
abbrev pub looked : (List ℕ → List ℕ → List ℕ) → List (List ℕ) → List ℕ → ℕ → List ℕ → Bool → List ℕ
looked again targets seen c work true = again seen work
looked again targets seen c work false = again (c ∷ seen) (targets_of targets c ++ work)

abbrev pub look : (List ℕ → List ℕ → List ℕ) → List (List ℕ) → List ℕ → List ℕ → List ℕ
look again targets seen [] = seen
look again targets seen (c ∷ work) = looked again targets seen c work (is_among seen c)

-- so many looks, one after another: the chunks that are seen then
abbrev pub search_for : List (List ℕ) → ℕ → List ℕ → List ℕ → List ℕ
search_for targets zero seen work = seen
search_for targets (suc looks) seen work = look (search_for targets looks) targets seen work

-- how many targets the chunks have that were not seen, the chunks being numbered from a place on
abbrev pub unseen_from : ℕ → List ℕ → List (List ℕ) → ℕ
unseen_from at seen [] = 0
unseen_from at seen (ts ∷ rest) = cond (is_among seen at) 0 (length ts) + unseen_from (at + 1) seen rest

-- The chunks that the roots reach. Each look takes one chunk from the work, and what a chunk refers to is put there once, so that
-- as many looks as there are roots and targets are enough.
unfoldable pub reached : List (List ℕ) → List ℕ → List ℕ
reached targets roots = search_for targets (length roots + unseen_from 0 [] targets) [] roots

-- The search finds exactly the chunks at which a walk from a root ends.
abbrev pub ReachedLaw : Type 0
ReachedLaw = (targets : List (List ℕ)) (roots : List ℕ) (c : ℕ) → Among c (reached targets roots) ↔ Reached targets roots c
