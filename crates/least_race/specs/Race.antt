-- The race as a machine: parties draw jobs and offer ranks for words, one event after another, and a word keeps the least rank.
-- Nothing here knows of threads or tables.
use Rattle.std.specs.Prelude.{ℕ, ◌+◌, ◌-◌, ◌==◌, min, true, false, cond, ltb, List, [], ◌∷◌, ◌++◌, slice_index, slice_index_or, slice_set}
use Rattle.least_race.specs.declared.party.Offer.{Offer}
use Rattle.least_race.specs.declared.party.Party.{Party}

-- an offer for a word
abbrev pub offer : ℕ → ℕ → Offer
offer word rank = record { word = word; rank = rank }

-- how often x stands in the list
abbrev pub times : ℕ → List ℕ → ℕ
times x [] = 0
times x (y ∷ ys) = cond (y == x) 1 0 + times x ys

-- 1 where x < n, and else 0
abbrev pub once_below : ℕ → ℕ → ℕ
once_below x n = cond (ltb x n) 1 0

-- the least of the base and of the ranks that are offered for the word i
abbrev pub least : ℕ → ℕ → List Offer → ℕ
least i base [] = base
least i base (o ∷ os) = cond (o.word == i) (min o.rank (least i base os)) (least i base os)

-- the one party at the start, which has the whole width
abbrev pub starter : ℕ → ℕ → List ℕ → Party
starter width jobs base = record { width = width; claims = []; passes = 0; last = 0; ended = false; proposals = []; find = 0; jobs = jobs; base = base }

-- a party that was joined into another is none from then on
abbrev pub spent : Party
spent = starter 0 0 []

-- a party after it drew the number of a job
abbrev pub with_claim : Party → ℕ → Party
with_claim v n = record v { claims = v.claims ++ n ∷ []; last = n }

-- a party after it drew a number that is no job's
abbrev pub with_pass : Party → ℕ → Party
with_pass v n = record v { passes = v.passes + 1; last = n; ended = true }

-- a party after it drew n
abbrev pub claimed : Party → ℕ → Party
claimed v n = cond (ltb n v.jobs) (with_claim v n) (with_pass v n)

-- a party after it proposed the offer and found n
abbrev pub proposed : Party → Offer → ℕ → Party
proposed v o n = record v { proposals = v.proposals ++ o ∷ []; find = n }

-- what a party keeps where the width w is split off, and the new party, which drew nothing yet; passes go with the width, and the rest stays
abbrev pub kept_part : ℕ → Party → Party
kept_part w v = record v { width = v.width - w; passes = v.passes - min w v.passes }

abbrev pub given_part : ℕ → Party → Party
given_part w v = record (starter w v.jobs v.base) { passes = min w v.passes; ended = v.ended }

-- a party that took in another
abbrev pub joined : Party → Party → Party
joined v w = record v { width = v.width + w.width; claims = v.claims ++ w.claims; passes = v.passes + w.passes; ended = true; proposals = v.proposals ++ w.proposals }

-- the next number, the words, and all parties that there ever were
pub record Race : Type 0 where
  pub next : ℕ
  pub words : List ℕ
  pub parties : List Party

-- a party draws a number; proposes an offer, which is an item of a job; is split by a width; or takes in another party
pub data Event : Type 0 where
  claim : ℕ → Event
  propose : ℕ → ℕ → ℕ → Offer → Event
  split : ℕ → ℕ → Event
  join : ℕ → ℕ → Event

abbrev pub party_at : Race → ℕ → Party
party_at r p = slice_index_or r.parties p spent

-- what an event makes of the race
abbrev pub after : Race → Event → Race
after r (claim p) = record r { next = r.next + 1; parties = slice_set r.parties p (claimed (party_at r p) r.next) }
after r (propose p job item o) =
    let found = slice_index r.words o.word in
    record r { words = slice_set r.words o.word (min found o.rank); parties = slice_set r.parties p (proposed (party_at r p) o found) }
after r (split p w) = record r { parties = slice_set r.parties p (kept_part w (party_at r p)) ++ given_part w (party_at r p) ∷ [] }
after r (join p q) = record r { parties = slice_set (slice_set r.parties p (joined (party_at r p) (party_at r q))) q spent }

abbrev pub end : Race → List Event → Race
end r [] = r
end r (e ∷ es) = end (after r e) es

-- the offers that a list of events proposes, in order
abbrev pub offers_of : List Event → List Offer
offers_of [] = []
offers_of (claim p ∷ es) = offers_of es
offers_of (propose p job item o ∷ es) = o ∷ offers_of es
offers_of (split p w ∷ es) = offers_of es
offers_of (join p q ∷ es) = offers_of es

-- the race before its first event
abbrev pub start : ℕ → ℕ → List ℕ → Race
start width count base = record { next = 0; words = base; parties = starter width count base ∷ [] }
