-- What each step of building a program answers.
use Rattle.std.specs.Prelude.{◌≡◌, ℕ, ◌≤◌, ◌<◌, ◌^◌, Bool, List, [], ◌∷◌, ◌++◌, length, Option, Some, None, Result, Ok, Err}
use Rattle.loose_calls.specs.link_program.wl_base.Choice.{first_some}
use Rattle.loose_calls.specs.link_program.wl_base.declared.fault.Fault.{Fault}
use Rattle.loose_calls.specs.link_program.wl_base.declared.fault.Fault.TheVariants.{TooManyNames}
use Rattle.loose_calls.specs.link_program.object_file.declared.object.Object.{Object}
use Rattle.loose_calls.specs.link_program.made_symbols.declared.mode.Mode.{Mode}
use Rattle.loose_calls.specs.link_program.name_entries.Fits.{IsTable}
use Rattle.loose_calls.specs.link_program.name_entries.declared.table.EntryTable.{EntryTable}
use Rattle.loose_calls.specs.link_program.link_names.Numbered as names
use Rattle.loose_calls.specs.link_program.link_names.Numbered.{AreNumbers, different_names}
use Rattle.loose_calls.specs.link_program.name_rules.Entries.{InputSymbol, entries}
use Rattle.loose_calls.specs.link_program.name_rules.Meanings.{resolve}
use Rattle.loose_calls.specs.link_program.name_rules.Cases.{clash_by, duplicate}
use Rattle.loose_calls.specs.link_program.name_entries.View.{WinnersAre, NonePast}
use Rattle.loose_calls.specs.link_program.name_meanings.Means.{IsResolution}
use Rattle.loose_calls.specs.link_program.link_plan.declared.plan.Plan.{Plan}
use Rattle.loose_calls.specs.link_program.link_rules.LinkOf.{asked_names}
use Rattle.loose_calls.specs.link_program.Loaded.{Origin}
use Rattle.loose_calls.specs.link_program.declared.error.LinkError.{LinkError}
use Rattle.loose_calls.specs.link_program.declared.error.LinkError.TheVariants.{Refused, OutOfMemory}
use Rattle.program_build.specs.declared.meanings.Meanings.{Meanings}

-- ---- names

-- The different names of the objects and of the words.
unfoldable pub names_of : Mode → Plan → List Object → List (List ℕ)
names_of mode plan objects = different_names mode (asked_names plan ++ plan.exports_if) objects

-- The names and their numbers; or there are more than 2^24.
abbrev pub Numbered : Mode → Result names.Numbered LinkError → Plan → List Object → Type 0
Numbered mode (Ok n) plan objects = (n.names ≡ names_of mode plan objects) × (length n.names ≤ 2 ^ 24) × AreNumbers mode objects n
Numbered mode (Err (Refused fault)) plan objects = (fault ≡ TooManyNames) × (2 ^ 24 < length (names_of mode plan objects))
Numbered mode (Err OutOfMemory) plan objects = Unit {0}

-- ---- cases

-- The least clash, else the least duplicate.
abbrev pub case_of : Bool → List InputSymbol → Option Fault
case_of loose_calls es = first_some (clash_by loose_calls es ∷ duplicate es ∷ [])

-- ---- meanings

-- The winners by number, and what symbols mean, are those of these objects.
pub record AreMeanings (mode : Mode) (m : Meanings) (origin : Origin) (objects : List Object) (held : List (List ℕ)) : Type 0 where
  pub ranked : WinnersAre held (entries mode objects) m.ranks
  pub resolved : IsResolution mode (entries mode objects) m.resolution (resolve mode origin.plan.allow_undefined (entries mode objects) objects)
  pub past : NonePast (length held) m.ranks

abbrev pub MeansOrRefused : Mode → Result Meanings LinkError → Origin → List Object → List (List ℕ) → Type 0
MeansOrRefused mode (Ok m) origin objects held = (case_of origin.plan.loose_calls (entries mode objects) ≡ None) × AreMeanings mode m origin objects held
MeansOrRefused mode (Err (Refused fault)) origin objects held = case_of origin.plan.loose_calls (entries mode objects) ≡ Some fault
MeansOrRefused mode (Err OutOfMemory) origin objects held = Unit {0}

-- The numbers of names, what is looked up of objects and what names mean, before variants have names.
pub record AreMeant (mode : Mode) (origin : Origin) (objects : List Object) (n : names.Numbered) (table : EntryTable) (m : Meanings) : Type 0 where
  pub numbered : Numbered mode (Ok n) origin.plan objects
  pub looked_up : IsTable objects n table
  pub meanings : AreMeanings mode m origin objects n.names
  pub unclashed : clash_by origin.plan.loose_calls (entries mode objects) ≡ None
