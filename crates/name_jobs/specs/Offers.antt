-- The jobs of the two races: what each symbol and each group offers.
use Rattle.std.specs.Prelude.{ℕ, List, ◌∷◌, map, Option, option_map}
use Rattle.name_entries.specs.wl_base.Names.{number_of}
use Rattle.name_entries.specs.linking_section.declared.group.Group.{Group}
use Rattle.name_entries.specs.object_file.declared.object.Object.{Object}
use Rattle.name_entries.specs.made_symbols.declared.mode.Mode.{Mode}
use Rattle.name_entries.specs.made_symbols.Made.{made}
use Rattle.least_race.specs.declared.party.Offer.{Offer}
use Rattle.least_race.specs.Jobs.{Job}
use Rattle.least_race.specs.Race.{offer}
use Rattle.name_entries.specs.name_rules.Entries.{InputSymbol, made_from}
use Rattle.name_entries.specs.name_rules.Meanings.{entry_rank, where_given}
use Rattle.name_entries.specs.View.{rows_of, entry_number}

-- ---- groups

-- A group offers the input of its object for the number of its name.
abbrev pub group_offer : List (List ℕ) → Object → Group → Option Offer
group_offer names o g = option_map (λ n. offer n o.input) (number_of names g.name)

-- A job is an object, an item one of its groups.
abbrev pub group_jobs : List (List ℕ) → List Object → List Job
group_jobs names objects = map (λ (o : Object). map (group_offer names o) o.groups) objects

-- ---- names

-- A definition of a name offers its rank for the name's number: an entry that defines its name, in a kept part or by the linker.
abbrev pub entry_offer : List (List ℕ) → InputSymbol → Option Offer
entry_offer names e = where_given e.defines (option_map (λ n. offer n (entry_rank e)) (entry_number names e))

-- The first job is the linker's own symbols; each further one is an object, an item one of its symbols.
abbrev pub name_jobs : List (List ℕ) → Mode → List Object → List Job
name_jobs names mode objects = map (map (entry_offer names)) (made_from 0 (made mode) ∷ rows_of objects)
