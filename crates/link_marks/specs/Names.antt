-- The names of exports, as the data tell them.
use Rattle.std.specs.Prelude.{◌≡◌, ℕ, ◌==◌, Bool, List, ◌∷◌, map, find, slice_get, slice_index_or, [], if◌then◌else◌, Option, None, option_and_then, unwrap_or, Contains}
use Rattle.link_program.specs.linking_section.declared.symbol.SymbolKind.TheVariants.{Function}
use Rattle.link_program.specs.linking_section.Flags.{kind_code}
use Rattle.link_program.specs.object_columns.declared.functions.FunctionDef.{FunctionDef}
use Rattle.link_program.specs.object_file.declared.object.Object.{Object}
use Rattle.link_program.specs.name_rules.Entries.{InputSymbol}
use Rattle.link_program.specs.link_rules.Marks.{Given, memory_name}
use Rattle.link_program.specs.declared.symbol.Definition.{Definition}
use Rattle.link_program.specs.declared.symbol.Winner.{Winner}
use Rattle.link_program.specs.Told.{told_winner}

abbrev pub exported_as : ℕ → Object → Option (List ℕ)
exported_as index o = option_and_then (λ (f : FunctionDef). f.export_name) (slice_get o.functions index)

-- The name under which the object of its input exports a function.
abbrev pub own_name : List Object → Definition → Option (List ℕ)
own_name objects d =
    if kind_code d.kind == kind_code Function then option_and_then (exported_as d.index) (find (λ (o : Object). o.input == d.input) objects) else None

abbrev pub name_seen : List Object → List (List ℕ) → Winner → List ℕ
name_seen objects names w = unwrap_or (own_name objects w.definition) (slice_index_or names w.name [])

-- A winner as the data tell it.
abbrev pub IsWinner : List (List ℕ) → List InputSymbol → Winner → Type 0
IsWinner names winners w = (e : InputSymbol) × Contains winners e × (w ≡ told_winner names e)

-- ---- names that are given

abbrev pub given_seen : List Object → List (List ℕ) → Winner → Given
given_seen objects names w = record { name = name_seen objects names w; input = w.definition.input }

-- These names and inputs are those that were given.
pub record AreGiven (given : List Given) (named : List (List ℕ)) (of : List ℕ) : Type 0 where
  pub names : named ≡ map (λ g. g.name) given
  pub inputs : of ≡ map (λ g. g.input) given

-- The name of the memory is given before all exports, unless the memory is imported.
abbrev pub memory_given : Bool → List Given
memory_given imported = if imported then [] else record { name = memory_name; input = 0 } ∷ []
