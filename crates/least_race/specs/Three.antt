-- Three jobs, for tests: rank 9 for word 0; ranks 4 for word 0 and 7 for word 1; nothing.
use Rattle.std.specs.Prelude.{◌≡◌, List, [], ◌∷◌, Some, true, refl}
use Rattle.least_race.specs.declared.party.Party.{Party}
use Rattle.least_race.specs.Jobs.{Job}
use Rattle.least_race.specs.Race.{Race, Event, claim, propose, split, join, end, start, starter, spent, offer}

abbrev pub three : List Job
three = (Some (offer 0 9) ∷ []) ∷ (Some (offer 0 4) ∷ Some (offer 1 7) ∷ []) ∷ [] ∷ []

-- two parties share these jobs, and one is joined into the other
abbrev pub shared : List Event
shared =
    split 0 1 ∷ claim 1 ∷ propose 1 0 0 (offer 0 9) ∷ claim 0 ∷ propose 0 1 0 (offer 0 4) ∷ propose 0 1 1 (offer 1 7)
    ∷ claim 1 ∷ claim 0 ∷ join 1 0 ∷ []

abbrev pub before : Race
before = start 2 3 (99 ∷ 99 ∷ [])

pub shared_words : (end before shared).words ≡ 4 ∷ 7 ∷ []
shared_words = refl

abbrev pub left : Party
left = record (starter 2 3 (99 ∷ 99 ∷ [])) { claims = 0 ∷ 2 ∷ 1 ∷ []; passes = 1; last = 2; ended = true; proposals = offer 0 9 ∷ offer 0 4 ∷ offer 1 7 ∷ []; find = 99 }

pub shared_parties : (end before shared).parties ≡ spent ∷ left ∷ []
shared_parties = refl
