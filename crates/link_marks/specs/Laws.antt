-- What the caller needs of parts of which none is unresolved.
use Rattle.std.specs.Prelude.{◌≡◌, ℕ, List, None}
use Rattle.link_program.specs.link_rules.Program.{Program, Part}
use Rattle.link_program.specs.link_rules.Marks.{unresolved}
use Rattle.link_program.specs.Stand.{PartsStand}
use Rattle.link_program.specs.Live.{AreLive, AllMeant}

-- Where parts of a program leave nothing unresolved, all that they refer to means something.
abbrev pub AllAreMeant : Type 0
AllAreMeant = (p : Program) (numbers : List ℕ) (parts : List Part) → PartsStand p → AreLive p numbers parts → unresolved p parts ≡ None → AllMeant parts
