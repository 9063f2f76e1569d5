-- What the answers of a resolution lead to, by the objects and the linker's symbols of the mode.
use Rattle.std.specs.Prelude.{◌≡◌, ℕ, ◌<◌, List, length, slice_get, Option, Some, None, option_map, unwrap_or, IsSome}
use Rattle.link_program.specs.linking_section.declared.symbol.SymbolKind.TheVariants.{Function}
use Rattle.link_program.specs.object_file.declared.object.Object.{Object}
use Rattle.link_program.specs.made_symbols.declared.mode.Mode.{Mode}
use Rattle.link_program.specs.made_symbols.Made.{made, made_at}
use Rattle.link_program.specs.name_rules.declared.meaning.Meaning.{Meaning}
use Rattle.link_program.specs.name_rules.declared.meaning.Meaning.TheVariants as answers
use Rattle.link_program.specs.name_rules.Entries.{InputSymbol, made_entry}
use Rattle.link_program.specs.name_entries.View.{entry_at}
use Rattle.link_program.specs.name_meanings.Means.{Answers, answer_at}
use Rattle.link_program.specs.declared.symbol.Definition.{Definition}
use Rattle.link_program.specs.declared.symbol.Lead.{Lead}
use Rattle.link_program.specs.declared.symbol.Lead.TheVariants.{Here, Import, Null, Nothing}
use Rattle.link_program.specs.Told.{told_definition}
use Rattle.program_tables.specs.Objects.{symbol_of}

-- where no symbol is
abbrev pub no_definition : Definition
no_definition = record { input = 0; place = 0; kind = Function; index = 0; offset = 0 }

-- The definition that a linker-made symbol of the mode is, by its number.
abbrev pub made_definition : Mode → ℕ → Definition
made_definition mode number = told_definition (made_entry number (made_at mode number))

-- That of an object, by its input and its place.
abbrev pub definition_of : List Object → ℕ → ℕ → Definition
definition_of objects input place = unwrap_or (option_map told_definition (symbol_of objects input place)) no_definition

abbrev pub lead_from : Mode → List Object → Meaning → Lead
lead_from mode objects (answers.Here input symbol) = Here (definition_of objects input symbol)
lead_from mode objects (answers.Made number) = Here (made_definition mode number)
lead_from mode objects (answers.Import number) = Import number
lead_from mode objects answers.Null = Null
lead_from mode objects answers.Nothing = Nothing

abbrev pub lead_at : Mode → List Object → Option Meaning → Lead
lead_at mode objects None = Nothing
lead_at mode objects (Some answer) = lead_from mode objects answer

-- The definition that an answer names is there.
abbrev pub IsThere : Mode → List Object → Meaning → Type 0
IsThere mode objects (answers.Here input symbol) =
    (i : ℕ) × (o : Object) × (slice_get objects i ≡ Some o) × (o.input ≡ input) × IsSome (entry_at objects i symbol)
IsThere mode objects (answers.Made number) = number < length (made mode)
IsThere mode objects (answers.Import number) = Unit {0}
IsThere mode objects answers.Null = Unit {0}
IsThere mode objects answers.Nothing = Unit {0}

-- Each symbol has an answer, and what it names is there.
abbrev pub AreAnswered : Mode → List Object → Answers → Type 0
AreAnswered mode objects r =
    (i k : ℕ) (e : InputSymbol) → entry_at objects i k ≡ Some e
    → (answer : Meaning) × (answer_at r e.input e.place ≡ Some answer) × IsThere mode objects answer
