-- Which references ask for nothing.
use Rattle.std.specs.Prelude.{ℕ, ◌==◌, Bool, not, false, ◌||◌, List, slice_index_or, if◌then◌else◌}
use Rattle.link_program.specs.linking_section.declared.symbol.SymbolKind.TheVariants.{GlobalVar}
use Rattle.link_program.specs.linking_section.Flags.{kind_code}
use Rattle.link_program.specs.declared.symbol.Symbol.{Symbol}
use Rattle.link_program.specs.declared.symbol.Lead.{Lead}
use Rattle.link_program.specs.declared.symbol.Lead.TheVariants.{Here, Import, Null, Nothing}
use Rattle.link_keys.specs.declared.asked.Sort.{Sort}
use Rattle.link_keys.specs.declared.asked.Sort.TheVariants.{OwnGlobal, Own, Other}

-- The sort of a symbol, by whether it is a global and by what it means.
abbrev pub sort_by : Bool → Lead → Sort
sort_by global (Here d) = if global then OwnGlobal else Own
sort_by global (Import n) = Other
sort_by global Null = Other
sort_by global Nothing = Other

abbrev pub sort_of : Symbol → Sort
sort_of s = sort_by (kind_code s.kind == kind_code GlobalVar) s.lead

abbrev pub sort_at : List Sort → ℕ → Sort
sort_at sorts at = slice_index_or sorts at Other

-- The relocation types 1, 2 and 12 take the slot of a function.
abbrev pub takes_slot : ℕ → Bool
takes_slot kind = (kind == 1) || (kind == 2) || (kind == 12)

-- A reference of type 7 to what is defined here asks for a slot or a cell, but where it is a global.
abbrev pub asks_nothing : ℕ → Sort → Bool
asks_nothing kind OwnGlobal = not (takes_slot kind)
asks_nothing kind Own = not (takes_slot kind || (kind == 7))
asks_nothing kind Other = false
