-- What a step of numbering names tells: the table gains these names, and the numbers are those of the names now and later.
use Rattle.std.specs.Prelude.{◌≡◌, ℕ, ◌<◌, ◌≤◌, ◌^◌, List, [], ◌∷◌, map, flat_map, length, if◌then◌else◌, Option, Some, Result, Ok, Err, IsOk, bytes_eq}
use Rattle.object_file.specs.wl_base.Choice.{distinct_onto}
use Rattle.object_file.specs.wl_base.Names.{Names, number_of}
use Rattle.object_file.specs.wl_base.declared.name_table.NameFault.{NameFault}
use Rattle.object_file.specs.wl_base.declared.name_table.NameFault.TheVariants.{TooMany, OutOfMemory as WantOfMemory}
use Rattle.object_file.specs.wl_base.declared.memory.OutOfMemory.{OutOfMemory}
use Rattle.object_file.specs.linking_section.declared.symbol.Symbol.{Symbol}
use Rattle.object_file.specs.linking_section.declared.group.Group.{Group}
use Rattle.object_file.specs.declared.object.Object.{Object}
use Rattle.made_symbols.specs.Made.{MadeSymbol}
use Rattle.link_names.specs.Numbered.{is_entry_symbol, symbol_name, symbol_number}

-- the names, and behind them those of these that are new
abbrev pub more : List (List ℕ) → List (List ℕ) → List (List ℕ)
more names xs = distinct_onto bytes_eq names xs

abbrev pub Room : Names → Type 0
Room t = (length t.names ≤ t.limit) × (t.limit < 2 ^ 32)

-- The table has gained these names.
abbrev pub Gains : Names → Names → List (List ℕ) → Type 0
Gains old new xs = (new ≡ record { limit = old.limit; names = more old.names xs }) × Room new

-- The table gains the names, and what is answered holds by the names that it has then; or they are too many for it.
abbrev pub Takes : {A : Type 0} → (List (List ℕ) → A → Type 0) → Result A NameFault → Names → Names → List (List ℕ) → Type 0
Takes Told (Ok a) old new xs = Gains old new xs × Told new.names a
Takes Told (Err TooMany) old new xs = old.limit < length (more old.names xs)
Takes Told (Err WantOfMemory) old new xs = Unit {0}

-- As it is kept, the number is that of the item by these names, and by all that have more behind them.
abbrev pub Tells : {A B C : Type 0} → (List (List ℕ) → A → B) → (C → B) → A → List (List ℕ) → C → Type 0
Tells number seen a names n = (xs : List (List ℕ)) → seen n ≡ number (more names xs) a

-- The same of a list of items.
abbrev pub TellsAll : {A B C : Type 0} → (List (List ℕ) → A → B) → (C → B) → List A → List (List ℕ) → List C → Type 0
TellsAll number seen list names numbers = (xs : List (List ℕ)) → map seen numbers ≡ map (number (more names xs)) list

-- The number of a name that is held; it is below 2^32 - 1.
abbrev pub IsNumber : List ℕ → List (List ℕ) → ℕ → Type 0
IsNumber name names n = (n < 4294967295) × Tells number_of (λ n. Some n) name names n

-- want of memory for a list of numbers
abbrev pub Keeps : {A B : Type 0} → Result A OutOfMemory → Result B NameFault → Type 0
Keeps (Ok a) said = IsOk said
Keeps (Err e) said = said ≡ Err WantOfMemory

-- ---- the names of each kind of item, and their numbers by names

abbrev pub one : List ℕ → List (List ℕ)
one name = name ∷ []

-- the name of a symbol that is an entry
abbrev pub entry_name : Symbol → List (List ℕ)
entry_name s = if is_entry_symbol s then one (symbol_name s) else []

abbrev pub names_in : Object → List (List ℕ)
names_in o = flat_map entry_name o.symbols

abbrev pub symbols_numbered : List (List ℕ) → Object → List (Option ℕ)
symbols_numbered names o = map (symbol_number names) o.symbols

abbrev pub group_name : Group → List (List ℕ)
group_name g = one g.name

abbrev pub group_number : List (List ℕ) → Group → Option ℕ
group_number names g = number_of names g.name

abbrev pub groups_in : Object → List (List ℕ)
groups_in o = flat_map group_name o.groups

abbrev pub groups_numbered : List (List ℕ) → Object → List (Option ℕ)
groups_numbered names o = map (group_number names) o.groups

abbrev pub made_name : MadeSymbol → List (List ℕ)
made_name m = one m.name

abbrev pub made_number : List (List ℕ) → MadeSymbol → Option ℕ
made_number names m = number_of names m.name
