-- What the data of a program tell of the entries and meanings of the definition.
use Rattle.std.specs.Prelude.{ℕ, List, [], ◌∷◌, flat_map, unwrap_or}
use Rattle.name_meanings.specs.name_entries.wl_base.Names.{number_of}
use Rattle.index_layout.specs.Numbers.{number_by}
use Rattle.name_meanings.specs.name_entries.name_rules.Entries.{InputSymbol, ImportKey, name_of, same_import}
use Rattle.name_meanings.specs.name_entries.name_rules.Meanings.{Meaning, here, imported, null, nothing, Resolved}
use Rattle.name_meanings.specs.name_entries.View.{entry_number}
use Rattle.link_program.specs.declared.symbol.Definition.{Definition}
use Rattle.link_program.specs.declared.symbol.Lead.{Lead}
use Rattle.link_program.specs.declared.symbol.Lead.TheVariants.{Here, Import, Null, Nothing}
use Rattle.link_program.specs.declared.symbol.Symbol.{Symbol}
use Rattle.link_program.specs.declared.symbol.Winner.{Winner}

abbrev pub told_definition : InputSymbol → Definition
told_definition e = record { input = e.input; place = e.place; kind = e.symbol.kind; index = e.index; offset = e.symbol.offset }

-- An import is told by its number: its place among the imports.
abbrev pub told_lead : List ImportKey → Meaning → Lead
told_lead imports (here e) = Here (told_definition e)
told_lead imports (imported key) = Import (number_by same_import imports key)
told_lead imports null = Null
told_lead imports nothing = Nothing

-- A symbol, by the numbers of names and of imports.
abbrev pub told_symbol : List (List ℕ) → List ImportKey → InputSymbol → Meaning → Symbol
told_symbol names imports e m = record { kind = e.symbol.kind; name = entry_number names e; lead = told_lead imports m }

abbrev pub told_all : List (List ℕ) → List ImportKey → List InputSymbol → List Meaning → List Symbol
told_all names imports [] ms = []
told_all names imports (e ∷ es) [] = []
told_all names imports (e ∷ es) (m ∷ ms) = told_symbol names imports e m ∷ told_all names imports es ms

-- The symbols of all objects, one object behind another.
abbrev pub told_symbols : List (List ℕ) → List ImportKey → List Resolved → List Symbol
told_symbols names imports resolved = flat_map (λ r. told_all names imports r.symbols r.meanings) resolved

-- The symbol of a variant, which is null.
abbrev pub told_variant : List (List ℕ) → List ImportKey → InputSymbol → Symbol
told_variant names imports v = told_symbol names imports v null

-- The number of a name that is held.
abbrev pub name_number : List (List ℕ) → InputSymbol → ℕ
name_number names e = unwrap_or (number_of names (name_of e)) 0

abbrev pub told_winner : List (List ℕ) → InputSymbol → Winner
told_winner names e = record { definition = told_definition e; name = name_number names e; flags = e.symbol.flags }
