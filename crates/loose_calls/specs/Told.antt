-- What is told of the symbols of all objects.
use Rattle.std.specs.Prelude.{◌≡◌, ℕ, Bool, List, filter_map, Some}
use Rattle.program_tables.specs.link_program.object_file.declared.object.Object.{Object}
use Rattle.program_tables.specs.link_program.object_file.Spaces.{no_type}
use Rattle.program_tables.specs.link_program.made_symbols.declared.mode.Mode.{Mode}
use Rattle.program_tables.specs.link_program.name_rules.declared.meaning.Meaning.{Meaning as Answer}
use Rattle.program_tables.specs.link_program.name_rules.declared.meaning.Meaning.TheVariants.{Here, Made, Import, Null, Nothing}
use Rattle.program_tables.specs.link_program.name_rules.Entries.{InputSymbol, entries}
use Rattle.program_tables.specs.link_program.name_rules.Meanings.{Meaning, meaning, uses_of}
use Rattle.program_tables.specs.link_program.link_rules.Keys.{function_type_of}
use Rattle.mismatch_rules.specs.declared.mismatch.Mismatch.{Mismatch}
use Rattle.mismatch_rules.specs.Mismatches.{mismatch_by}
use Rattle.program_tables.specs.Objects.{symbol_of}
use Rattle.loose_calls.specs.declared.telling.Definer.{Definer}

-- what a symbol means in an output of the mode
abbrev pub meant : Mode → Bool → List Object → InputSymbol → Meaning
meant mode allow objects e = meaning mode (uses_of mode objects) allow (entries mode objects) e

-- The mismatches that these symbols are.
abbrev pub told_of : Mode → Bool → List Object → List InputSymbol → List Mismatch
told_of mode allow objects es = filter_map (λ e. mismatch_by (entries mode objects) e (meant mode allow objects e)) es

abbrev pub definer_seen : InputSymbol → Definer
definer_seen d = record { of_type = function_type_of d.type; input = d.input }

-- The answer leads to this definition.
abbrev pub LeadsTo : List Object → Answer → InputSymbol → Type 0
LeadsTo objects (Here input symbol) d = (d.input ≡ input) × (symbol_of objects input symbol ≡ Some d)
LeadsTo objects (Made number) d = (d.input ≡ 0) × (function_type_of d.type ≡ no_type)
LeadsTo objects (Import number) d = ⊥
LeadsTo objects Null d = ⊥
LeadsTo objects Nothing d = ⊥
