-- What is used of each name, as the definition of meanings asks it.
use Rattle.std.specs.Prelude.{◌≡◌, ℕ, ◌&&◌, List, filter, flat_map, length, slice_get, slice_index_or, Some}
use Rattle.name_entries.specs.wl_base.Choice.{has_name}
use Rattle.name_entries.specs.linking_section.declared.symbol.SymbolKind.TheVariants.{Function}
use Rattle.name_entries.specs.object_file.declared.object.Object.{Object}
use Rattle.name_entries.specs.name_rules.Entries.{is_kind, is_entry, symbols_of}
use Rattle.name_entries.specs.name_rules.Meanings.{Use, Uses, uses_with, uses_split}
use Rattle.name_uses.specs.declared.found.NameUses.{NameUses}
use Rattle.name_uses.specs.Flags.{not_used}

-- The uses of functions that are entries of their names. Where all function symbols of an object have names, these are those of the symbols
-- that are no local definitions.
abbrev pub counted : List Use → List Use
counted us = filter (λ u. is_kind Function u.entry && is_entry u.entry) us

abbrev pub uses_at : List Object → Object → List Use
uses_at objects o = uses_with objects o (symbols_of objects o)

abbrev pub all_uses : List Object → Uses
all_uses objects = uses_split (counted (flat_map (uses_at objects) objects))

-- By the number of a name: whether it is called, and whether its address is used.
pub record AreUsesOf (names : List (List ℕ)) (objects : List Object) (columns : List NameUses) : Type 0 where
  pub count : length columns ≡ length names
  pub called : (i : ℕ) (name : List ℕ) → slice_get names i ≡ Some name → (slice_index_or columns i not_used).called ≡ has_name (all_uses objects).called name
  pub addressed : (i : ℕ) (name : List ℕ) → slice_get names i ≡ Some name → (slice_index_or columns i not_used).addressed ≡ has_name (all_uses objects).addressed name
