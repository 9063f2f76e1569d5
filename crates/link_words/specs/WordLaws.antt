-- What holds of the definitions of words.
use Rattle.std.specs.Prelude.{◌≡◌, ◌↔◌, ℕ, false, List, Option, Some, None, Ok, Err}
use Rattle.wl_base.specs.declared.usage.Usage.{Usage}
use Rattle.link_plan.specs.declared.plan.Plan.{Plan}
use Rattle.link_words.specs.Items.{Said}
use Rattle.link_words.specs.Cut.{cut_of}
use Rattle.link_words.specs.Spelled.{Cuts, Stops, AreCut}
use Rattle.link_words.specs.Faults.{first_fault}
use Rattle.link_words.specs.Words.{plan_of, plan_from}

-- The items that are found are those that the words are cut into, and words that can be cut into items are.
abbrev pub CutsAreFound : Type 0
CutsAreFound = (words : List (List ℕ)) (items : List Said) → (cut_of words ≡ (items, None)) ↔ Cuts false 0 items words

-- So words are cut into items in one way at most.
abbrev pub CutsAreOne : Type 0
CutsAreOne = (words : List (List ℕ)) (items others : List Said) → Cuts false 0 items words → Cuts false 0 others words → items ≡ others

-- Words stop at a fault exactly where those before it are cut into items, no item begins there, and the fault has its cause there.
abbrev pub FaultsAreFirst : Type 0
FaultsAreFirst = (words : List (List ℕ)) (items : List Said) (fault : Usage) → (cut_of words ≡ (items, Some fault)) ↔ Stops false 0 items fault words

-- Words have a plan exactly where they are cut into items that have no fault together, and it is what these say.
abbrev pub PlansAreCuts : Type 0
PlansAreCuts = (words : List (List ℕ)) (plan : Plan)
    → (plan_of words ≡ Ok plan) ↔ ((items : List Said) × Cuts false 0 items words × (first_fault (items, None) ≡ None) × (plan ≡ plan_from items))

-- Words are refused exactly by the first fault of what they are cut into.
abbrev pub RefusalsAreFirst : Type 0
RefusalsAreFirst = (words : List (List ℕ)) (fault : Usage)
    → (plan_of words ≡ Err fault) ↔ ((items : List Said) × (stop : Option Usage) × AreCut items stop words × (first_fault (items, stop) ≡ Some fault))
