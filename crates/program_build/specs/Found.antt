-- What is found of the loaded objects.
use Rattle.std.specs.Prelude.{◌≡◌, ◌++◌, false, List, None, Result, Ok, Err, All, bytes_eq}
use Rattle.std.specs.List.{list_any}
use Rattle.loose_calls.specs.link_program.wl_base.Choice.{unless, ◌>>=◌}
use Rattle.loose_calls.specs.link_program.wl_base.declared.fault.Fault.{Fault}
use Rattle.loose_calls.specs.link_program.object_file.declared.object.Object.{Object}
use Rattle.loose_calls.specs.link_program.made_symbols.declared.mode.Mode.{Mode}
use Rattle.loose_calls.specs.link_program.round_rules.Rounds.{Candidate}
use Rattle.loose_calls.specs.link_program.link_names.Numbered.{AreNumbers, different_names}
use Rattle.loose_calls.specs.link_program.name_rules.Entries.{entries, name_of}
use Rattle.loose_calls.specs.link_program.name_rules.Meanings.{resolve}
use Rattle.loose_calls.specs.link_program.name_rules.Cases.{clash_by, duplicate}
use Rattle.loose_calls.specs.link_program.name_entries.View.{InputsRise, WinnersAre}
use Rattle.loose_calls.specs.link_program.name_entries.Fits.{IsTable}
use Rattle.loose_calls.specs.link_program.name_meanings.Means.{IsResolution}
use Rattle.loose_calls.specs.link_program.link_plan.declared.plan.Plan.{Plan}
use Rattle.loose_calls.specs.link_program.link_rules.Program.{Program, winners_of, parts_of, loose_parts, loose_variants}
use Rattle.loose_calls.specs.link_program.link_rules.Keys.{all_imports}
use Rattle.loose_calls.specs.link_program.link_rules.LinkOf.{asked_names, too_many_names}
use Rattle.loose_calls.specs.link_program.Program.{AreTables, variant_names}
use Rattle.loose_calls.specs.link_program.declared.error.LinkError.{LinkError}
use Rattle.loose_calls.specs.link_program.declared.error.LinkError.TheVariants.{Refused, OutOfMemory}
use Rattle.program_build.specs.declared.found.Found.{Found}

-- The first faults of a program, in this order: too many names, a clash, a duplicate.
abbrev pub found_of : Program → Result Program Fault
found_of p = do
  p ← unless (too_many_names p) p
  p ← unless (clash_by p.plan.loose_calls p.entries) p
  unless (duplicate p.entries) p

-- What was found by this plan of these objects is what the definition finds.
pub record IsFound (mode : Mode) (asked : Plan) (loaded : List Object) (f : Found) (p : Program) : Type 0 where
  pub plan : asked ≡ p.plan
  pub objects : loaded ≡ p.objects
  pub rise : InputsRise 0 p.objects
  pub entries : p.entries ≡ entries mode p.objects
  pub unclashed : clash_by p.plan.loose_calls p.entries ≡ None
  pub winners_are : p.winners ≡ winners_of p.entries
  pub resolved : p.resolved ≡ resolve mode p.plan.allow_undefined p.entries p.objects
  pub parts_are : (all : List Candidate) × (p.parts ≡ loose_parts p.plan.loose_calls p.entries (parts_of mode all p.objects p.resolved))
  pub variants_are : p.variants ≡ loose_variants p.plan.loose_calls p.entries p.resolved
  -- names, winners and meanings by number
  pub numbers : AreNumbers mode p.objects f.names
  pub order : f.names.names ≡ different_names mode (asked_names p.plan ++ p.plan.exports_if) p.objects ++ variant_names p.variants
  pub apart : All (λ v. list_any (bytes_eq (name_of v)) (different_names mode (asked_names p.plan ++ p.plan.exports_if) p.objects) ≡ false) p.variants
  pub looked_up : IsTable p.objects f.names f.entries
  pub ranks : WinnersAre f.names.names p.entries f.ranks
  pub resolution : IsResolution mode p.entries f.resolution p.resolved
  pub imports : f.resolution.imports ≡ all_imports mode p
  -- what is looked up
  pub tables : AreTables f.names.names f.resolution.imports f.tables p

-- All is found, or the program is refused by its first fault.
abbrev pub Finds : Mode → Result Found LinkError → Plan → List Object → Program → Type 0
Finds mode (Ok f) plan objects p = (found_of p ≡ Ok p) × IsFound mode plan objects f p
Finds mode (Err (Refused fault)) plan objects p = found_of p ≡ Err fault
Finds mode (Err OutOfMemory) plan objects p = Unit {0}
