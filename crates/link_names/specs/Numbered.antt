-- The names of a link, each with a number: its place among the different names, in the order in which they come.
use Rattle.std.specs.Prelude.{◌≡◌, ℕ, ◌<◌, ◌≤◌, ◌^◌, ◌==◌, Bool, not, ◌&&◌, List, [], ◌++◌, map, flat_map, filter, length, if◌then◌else◌, Option, Some, None, Result, Ok, Err, IsSome, All, is_some, unwrap_or, bytes_eq}
use Rattle.std.specs.List.{IsDistinct}
use Rattle.object_file.specs.wl_base.Choice.{distinct}
use Rattle.object_file.specs.wl_base.Names.{number_of}
use Rattle.object_file.specs.wl_base.declared.name_table.NameFault.{NameFault}
use Rattle.object_file.specs.wl_base.declared.name_table.NameFault.TheVariants.{TooMany, OutOfMemory}
use Rattle.object_file.specs.linking_section.declared.symbol.Symbol.{Symbol}
use Rattle.object_file.specs.linking_section.Flags.{is_local_definition}
use Rattle.object_file.specs.declared.object.Object.{Object}
use Rattle.made_symbols.specs.declared.mode.Mode.{Mode}
use Rattle.made_symbols.specs.Made.{made}

-- ---- which names there are

-- A symbol is an entry of its name unless it is a local definition. A symbol of a section has no name.
abbrev pub is_entry_symbol : Symbol → Bool
is_entry_symbol s = is_some s.name && not (is_local_definition s)

abbrev pub symbol_name : Symbol → List ℕ
symbol_name s = unwrap_or s.name []

-- The names of which an object has entries, in the order of its symbols.
abbrev pub entry_names : Object → List (List ℕ)
entry_names o = map symbol_name (filter is_entry_symbol o.symbols)

abbrev pub group_names : Object → List (List ℕ)
group_names o = map (λ g. g.name) o.groups

-- All names of a link: the linker-made ones, those of entries, those of groups, and those of the words.
abbrev pub all_names : Mode → List (List ℕ) → List Object → List (List ℕ)
all_names mode words objects = map (λ m. m.name) (made mode) ++ flat_map entry_names objects ++ flat_map group_names objects ++ words

-- ---- their numbers

-- The names by number, and the numbers: of the linker-made names, of the symbols of each object, where they are entries, and of the
-- groups of each object.
pub record Numbered : Type 0 where
  pub names : List (List ℕ)
  pub made : List ℕ
  pub symbols : List (List (Option ℕ))
  pub groups : List (List ℕ)

-- As numbers are kept: 2^32 - 1 says that there is none.
abbrev pub number_seen : ℕ → Option ℕ
number_seen n = if n == 4294967295 then None else Some n

abbrev pub numbers_seen : List ℕ → List (Option ℕ)
numbers_seen numbers = map number_seen numbers

-- The number of a symbol's name, where the symbol is an entry of it.
abbrev pub symbol_number : List (List ℕ) → Symbol → Option ℕ
symbol_number names s = if is_entry_symbol s then number_of names (symbol_name s) else None

abbrev pub Held : List (List ℕ) → List ℕ → Type 0
Held names name = IsSome (number_of names name)

-- A list has fewer than 2^32 items.
abbrev pub Short : {A : Type 0} → List A → Type 0
Short xs = length xs < 2 ^ 32

abbrev pub AllShort : {A : Type 0} → List (List A) → Type 0
AllShort lists = All (λ xs. Short xs) lists

-- These are the numbers of the names of these objects: no name has two, and all are held.
pub record AreNumbers (mode : Mode) (objects : List Object) (n : Numbered) : Type 0 where
  pub differ : IsDistinct bytes_eq n.names
  pub few : length n.names < 2 ^ 32
  pub made_held : All (Held n.names) (map (λ m. m.name) (made mode))
  pub made : map Some n.made ≡ map (λ m. number_of n.names m.name) (made mode)
  pub symbols_held : All (λ o. All (Held n.names) (entry_names o)) objects
  pub symbols : n.symbols ≡ map (λ (o : Object). map (symbol_number n.names) o.symbols) objects
  -- An object has fewer than 2^32 symbols, and fewer than 2^32 groups.
  pub short : All (λ (numbers : List (Option ℕ)). Short numbers) n.symbols
  pub groups_held : All (λ o. All (Held n.names) (group_names o)) objects
  pub groups : map (map Some) n.groups ≡ map (λ o. map (number_of n.names) (group_names o)) objects
  pub groups_short : All (λ (numbers : List ℕ). Short numbers) n.groups

-- The different names are no more than the limit.
abbrev pub different_names : Mode → List (List ℕ) → List Object → List (List ℕ)
different_names mode words objects = distinct bytes_eq (all_names mode words objects)

-- What is answered where the names may be so many: their numbers, or that there are more.
abbrev pub Numbers : Result Numbered NameFault → ℕ → Mode → List (List ℕ) → List Object → Type 0
Numbers (Ok n) limit mode words objects = (n.names ≡ different_names mode words objects) × (length n.names ≤ limit) × AreNumbers mode objects n
Numbers (Err TooMany) limit mode words objects = limit < length (different_names mode words objects)
Numbers (Err OutOfMemory) limit mode words objects = Unit {0}
