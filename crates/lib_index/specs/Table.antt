-- The names that are offered, as a map keeps them.
use Rattle.std.specs.Prelude.{ℕ, List, [], ◌∷◌, Option, Some, None, min, nat_lt, if◌then◌else◌}
use Rattle.std.specs.Str.{bytes_eq}
use Rattle.indexmap.specs.IndexMap.{IndexMap}

-- The names and their members, in the map's order.
abbrev pub shown : {S : Type 0} → IndexMap (List ℕ) ℕ S → List (List ℕ × ℕ)
shown table = table.entries

-- The names after one more entry: a name that is there keeps its place and takes the lesser member,
-- and a new one goes last.
abbrev pub offered_onto : List (List ℕ × ℕ) → List ℕ → ℕ → List (List ℕ × ℕ)
offered_onto [] name number = (name, number) ∷ []
offered_onto (o ∷ os) name number =
    if bytes_eq name o.0 then (o.0, min number o.1) ∷ os
    else o ∷ offered_onto os name number

-- The member that was offered before, if it is less.
abbrev pub lesser : Option ℕ → ℕ → Option ℕ
lesser None number = None
lesser (Some first) number = if nat_lt first number then Some first else None
