-- Worked offers.
use Rattle.std.specs.Prelude.{◌≡◌, ℕ, false, List, [], ◌∷◌, Some, None, slice_index_or, refl, codes}
use Rattle.name_entries.specs.linking_section.declared.symbol.SymbolKind.TheVariants.{Function}
use Rattle.name_entries.specs.made_symbols.declared.mode.Mode.TheVariants.{Plain}
use Rattle.least_race.specs.Race.{offer}
use Rattle.name_entries.specs.name_rules.Rows.{f, symbol, defined, wanted, both}
use Rattle.name_jobs.specs.Offers.{entry_offer, group_jobs, name_jobs}

-- the name f has number 1
abbrev pub names : List (List ℕ)
names = codes "c" ∷ f ∷ codes "__data_end" ∷ []

weak_definition : entry_offer names (defined 2 1) ≡ Some (offer 1 0x0100_0002_0000_0000)
weak_definition = refl

reference : entry_offer names (wanted 2 0x10 f) ≡ None
reference = refl

local_definition : entry_offer names (record (defined 2 0) { symbol = symbol Function 0x02 }) ≡ None
local_definition = refl

-- a definition in a part that isn't kept
dropped_definition : entry_offer names (record (defined 2 0) { defines = false }) ≡ None
dropped_definition = refl

-- Symbol 6 of the linker is a datum, and yields to every definition.
linker_datum : slice_index_or (slice_index_or (name_jobs names Plain []) 0 []) 6 None ≡ Some (offer 2 0x0200_0000_0000_0006)
linker_datum = refl

-- Inputs 1 and 2 have the group c.
groups : group_jobs names both ≡ (Some (offer 0 1) ∷ []) ∷ (Some (offer 0 2) ∷ []) ∷ []
groups = refl
