-- The symbols of the loaded objects, as the calls of the rules find them: by the place of the object and that of the symbol.
use Rattle.std.specs.Prelude.{◌≡◌, ℕ, ◌<◌, ◌≤◌, ◌^◌, ◌==◌, Bool, false, List, [], ◌∷◌, map, slice_get, slice_index_or, Option, Some, None, option_map, if◌then◌else◌}
use Rattle.name_rules.specs.object_file.declared.object.Object.{Object}
use Rattle.name_rules.specs.object_file.wl_base.Names.{number_of}
use Rattle.name_rules.specs.Entries.{InputSymbol, is_entry, name_of, symbols_of, group_winner}
use Rattle.name_rules.specs.Meanings.{entry_rank, winner}

-- ---- rows

-- The symbols of each object, by place.
abbrev pub rows_of : List Object → List (List InputSymbol)
rows_of objects = map (symbols_of objects) objects

abbrev pub entry_at : List Object → ℕ → ℕ → Option InputSymbol
entry_at objects object place = slice_get (slice_index_or (rows_of objects) object []) place

-- The number of an entry's name; a symbol that is no entry has none.
abbrev pub entry_number : List (List ℕ) → InputSymbol → Option ℕ
entry_number names e = if is_entry e then number_of names (name_of e) else None

-- whether the number of a name is this one
abbrev pub is_number : ℕ → Option ℕ → Bool
is_number number None = false
is_number number (Some other) = other == number

-- Inputs rise, behind the last one, and are below 2^20.
abbrev pub InputsRise : ℕ → List Object → Type 0
InputsRise last [] = Unit {0}
InputsRise last (o ∷ os) = (last < o.input) × (o.input < 2 ^ 20) × InputsRise o.input os

-- ---- who wins, by number

-- By the number of a group's name: the winner of the group.
abbrev pub GroupsAre : List (List ℕ) → List Object → List (Option ℕ) → Type 0
GroupsAre names objects groups = (i : ℕ) (name : List ℕ) → slice_get names i ≡ Some name → slice_index_or groups i None ≡ group_winner objects name

-- By the number of a name: the rank of the winner of the name.
abbrev pub WinnersAre : List (List ℕ) → List InputSymbol → List (Option ℕ) → Type 0
WinnersAre names all winners = (i : ℕ) (name : List ℕ) → slice_get names i ≡ Some name → slice_index_or winners i None ≡ option_map entry_rank (winner all name)

-- From this number on there is no winner.
abbrev pub NonePast : ℕ → List (Option ℕ) → Type 0
NonePast count winners = (i : ℕ) → count ≤ i → slice_index_or winners i None ≡ None
