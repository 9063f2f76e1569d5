-- What the calls are about, which the code never has.
use Rattle.std.specs.Prelude.{List}
use Rattle.link_program.specs.name_rules.Entries.{InputSymbol}
use Rattle.link_program.specs.link_rules.Program.{Program, Part}

-- a program and its exports
pub record Exporting : Type 0 where
  pub program : Program
  pub exports : List InputSymbol

-- a program and its live parts
pub record Living : Type 0 where
  pub program : Program
  pub parts : List Part
