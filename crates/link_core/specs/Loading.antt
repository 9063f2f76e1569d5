-- What is linked of the files.
use Rattle.std.specs.Prelude.{List}
use Rattle.link_output.specs.link_program.object_file.declared.object.Object.{Object}
use Rattle.link_output.specs.link_program.link_rules.ModeOf.{mode_of}
use Rattle.link_output.specs.link_program.link_rules.Program.{Program, program_of}
use Rattle.link_output.specs.link_program.Loaded.{Origin}

-- Where the loaded objects come from, and the objects.
pub record Loading : Type 0 where
  pub origin : Origin
  pub objects : List Object

-- The program that they are in the link of their plan.
abbrev pub program_in : Loading → Program
program_in l = program_of (mode_of l.origin.plan) l.origin.plan l.origin.files l.origin.all l.objects
