-- How the two races end, whatever the order of their steps.
use Rattle.std.specs.Prelude.{◌≡◌, ℕ, ◌≤◌, List, length, replicate, slice_get, slice_index, Option, Some, option_map, unwrap_or}
use Rattle.name_entries.specs.object_file.declared.object.Object.{Object}
use Rattle.name_entries.specs.made_symbols.declared.mode.Mode.{Mode}
use Rattle.least_race.specs.Jobs.{Job}
use Rattle.least_race.specs.Race.{Event, end}
use Rattle.least_race.specs.Schedule.{IsSchedule, IsComplete, begun}
use Rattle.name_entries.specs.link_names.Numbered.{Numbered, AreNumbers}
use Rattle.name_entries.specs.name_rules.Entries.{entries, group_winner}
use Rattle.name_entries.specs.name_rules.Meanings.{entry_rank, winner}
use Rattle.name_entries.specs.View.{InputsRise}
use Rattle.name_jobs.specs.Offers.{group_jobs, name_jobs}

-- a word for which nothing was offered
abbrev pub unset : ℕ
unset = 18446744073709551615

-- the words of a race before its first step, one for each name
abbrev pub unset_words : List (List ℕ) → List ℕ
unset_words names = replicate (length names) unset

-- After every complete schedule of the jobs, by 1 to 64 workers, the word of each name's number is what is said of the name, and is
-- unset where nothing is said.
abbrev pub EndsAs : List (List ℕ) → List Job → (List ℕ → Option ℕ) → Type 0
EndsAs names jobs said = (width : ℕ) (es : List Event) → 1 ≤ width → width ≤ 64
    → IsSchedule jobs (begun jobs (unset_words names) width) es → IsComplete jobs (begun jobs (unset_words names) width) es
    → (i : ℕ) (name : List ℕ) → slice_get names i ≡ Some name
    → slice_index (end (begun jobs (unset_words names) width) es).words i ≡ unwrap_or (said name) unset

-- The race for names ends with the rank of each name's winner.
abbrev pub NameRace : Type 0
NameRace = (mode : Mode) (objects : List Object) (n : Numbered) → AreNumbers mode objects n → InputsRise 0 objects
    → EndsAs n.names (name_jobs n.names mode objects) (λ name. option_map entry_rank (winner (entries mode objects) name))

-- The race for groups ends with each group's winner.
abbrev pub GroupRace : Type 0
GroupRace = (mode : Mode) (objects : List Object) (n : Numbered) → AreNumbers mode objects n → InputsRise 0 objects
    → EndsAs n.names (group_jobs n.names objects) (group_winner objects)
