-- When what is exported and what is live are those of a program.
use Rattle.std.specs.Prelude.{◌≡◌, ℕ, List, map, All, Contains, Result, Ok, Err}
use Rattle.link_output.specs.link_program.name_rules.Entries.{InputSymbol}
use Rattle.link_output.specs.link_program.link_rules.ModeOf.{mode_of}
use Rattle.link_output.specs.link_program.link_rules.Program as rules
use Rattle.link_output.specs.link_program.link_rules.Marks.{exported, live}
use Rattle.link_output.specs.link_program.link_rules.LinkOf.{exporting, laid_out}
use Rattle.link_output.specs.link_program.declared.error.LinkError.{LinkError}
use Rattle.link_output.specs.link_program.declared.program.Program.{Program}
use Rattle.link_output.specs.link_program.declared.symbol.Winner.{Winner}
use Rattle.link_output.specs.link_program.Answers.{Fails}
use Rattle.link_output.specs.link_program.Told.{told_winner}
use Rattle.link_output.specs.link_program.Live.{Stage, AreLive, AllMeant}
use Rattle.link_core.specs.declared.chosen.Chosen.{Chosen}

-- The data tell the exported winners of a stage, and the numbers of its parts; all that these refer to means something.
pub record IsChosen (s : Stage) (d : Program) (winners : List Winner) (numbers : List ℕ) : Type 0 where
  pub exports : winners ≡ map (told_winner d.names.now.names) s.exports
  pub among : All (Contains s.program.winners) s.exports
  pub live : AreLive s.program numbers s.parts
  pub meant : AllMeant s.parts

-- Its exported winners in the output that its plan asks for.
abbrev pub exports_of : rules.Program → List InputSymbol
exports_of p = exported (mode_of p.plan) p

-- These, and what lives by them.
abbrev pub stage_of : rules.Program → Stage
stage_of p = record { program = p; exports = exports_of p; parts = live p (exports_of p) }

-- What choosing answers: what is exported and live, and then the link is what laying it out gives; or the fault that ends it before.
abbrev pub Chooses : Result Chosen LinkError → Program → rules.Program → Type 0
Chooses (Ok c) d p =
    (exporting (mode_of p.plan) p (exports_of p) ≡ laid_out (mode_of p.plan) p (exports_of p) (live p (exports_of p))) × IsChosen (stage_of p) d c.exports c.live.numbers
Chooses (Err e) d p = Fails e (exporting (mode_of p.plan) p (exports_of p))
