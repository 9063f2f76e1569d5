-- The init functions of the object, by input and place.
use Rattle.std.specs.Prelude.{ℕ, ◌+◌, not, ◌&&◌, List, [], ◌∷◌, ◌++◌, filter_map, length, if◌then◌else◌, Option, Some, None, option_and_then}
use Rattle.partial_symbols.specs.link_program.linking_section.Flags.{is_undefined}
use Rattle.partial_symbols.specs.link_program.linking_section.declared.init.InitFunc.{InitFunc}
use Rattle.partial_symbols.specs.link_program.object_file.declared.object.Object.{Object}
use Rattle.partial_symbols.specs.link_program.name_rules.Entries.{InputSymbol}
use Rattle.partial_symbols.specs.link_program.name_entries.View.{entry_at, entry_number}
use Rattle.partial_symbols.specs.Standing.{Stood}
use Rattle.partial_symbols.specs.Referring.{number_by_name}

-- An entry is skipped where its symbol is defined in a part that isn't kept.
abbrev pub init_with : Stood → List (List ℕ) → ℕ → InitFunc → InputSymbol → Option InitFunc
init_with s names k i e =
    if not (is_undefined e.symbol) && not e.defines then None
    else Some (record { priority = i.priority; symbol = number_by_name s k (entry_number names e) })

-- An init function of the object at a place, whose symbols stand from another place on among those of all objects.
abbrev pub init_at : Stood → List (List ℕ) → List Object → ℕ → ℕ → InitFunc → Option InitFunc
init_at s names objects object start i = option_and_then (init_with s names (start + i.symbol) i) (entry_at objects object i.symbol)

abbrev pub inits_from : Stood → List (List ℕ) → List Object → ℕ → ℕ → List Object → List InitFunc
inits_from s names objects object start [] = []
inits_from s names objects object start (o ∷ os) =
    filter_map (init_at s names objects object start) o.inits ++ inits_from s names objects (object + 1) (start + length o.symbols) os
