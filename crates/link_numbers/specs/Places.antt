-- The first places of codes.
use Rattle.std.specs.Prelude.{◌≡◌, ℕ, Bool, List, Option, Some, None, position, if◌then◌else◌}
use Rattle.indexmap.specs.IndexMap.{get}
use Rattle.link_keys.specs.Codes.{same_code}
use Rattle.link_keys.specs.declared.codes.Code.{Code}
use Rattle.link_numbers.specs.declared.places.Places.{Places}

-- The place of a code among the codes; the first one, where it stands there twice.
abbrev pub place_of : List Code → Code → Option ℕ
place_of codes code = position (same_code code) codes

-- Each code is found by its place among these.
abbrev pub ArePlaces : List Code → Places → Type 0
ArePlaces codes places = (code : Code) → get same_code places.map code ≡ place_of codes code

-- The place of a code after another one was noted at a place, unless it had one.
abbrev pub noted_place : Option ℕ → Bool → ℕ → Option ℕ → Option ℕ
noted_place (Some n) same at old = old
noted_place None same at old = if same then Some at else old
