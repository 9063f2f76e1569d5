-- When what is linked is that of a program.
use Rattle.std.specs.Prelude.{◌≡◌, List, ℕ}
use Rattle.link_output.specs.link_program.name_entries.declared.lookups.Entries.{Entries}
use Rattle.link_output.specs.link_program.name_entries.Fits.{Fits}
use Rattle.link_output.specs.link_program.link_plan.Plan.{IsPlan}
use Rattle.link_output.specs.link_program.link_rules.ModeOf.{mode_of}
use Rattle.link_output.specs.link_program.link_rules.Program as rules
use Rattle.link_output.specs.link_program.declared.program.Program.{Program}
use Rattle.link_output.specs.link_program.Program.{IsProgram}
use Rattle.link_output.specs.link_program.Stand.{PartsStand}

-- The data are those of the program, the view is that of its objects, and the files are its files.
pub record IsLinking (p : rules.Program) (d : Program) (view : Entries) (loaded : List (List ℕ)) : Type 0 where
  pub program : IsProgram d p
  pub stand : PartsStand p
  pub plan : IsPlan p.plan
  pub fits : Fits (mode_of p.plan) view
  pub objects : view.objects.now ≡ d.objects.now
  pub names : view.names.now ≡ d.names.now
  pub files : loaded ≡ p.files
