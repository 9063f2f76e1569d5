-- What choosing what is exported and live answers.
use Rattle.std.specs.Prelude.{◌≡◌, Result, Ok, Err}
use Rattle.link_program.specs.made_symbols.declared.mode.Mode.TheVariants.{Plain}
use Rattle.link_program.specs.link_rules.Program as rules
use Rattle.link_program.specs.link_rules.Marks.{exported, live}
use Rattle.link_program.specs.declared.error.LinkError.{LinkError}
use Rattle.link_program.specs.declared.program.Program.{Program}
use Rattle.link_program.specs.Answers.{Fails}
use Rattle.link_program.specs.Live.{Stage}
use Rattle.link_core.specs.Chosen.{IsChosen}
use Rattle.sym_world.specs.declared.steps.Chosen.{Chosen}
use Rattle.sym_world.specs.SymOf.{sym_exporting, sym_laid_out}

-- The exported winners of a plain output, and what lives by them.
abbrev pub plain_stage : rules.Program → Stage
plain_stage p = record { program = p; exports = exported Plain p; parts = live p (exported Plain p) }

-- What is exported and live, and then the objects are what laying it out gives; or the fault that ends it before.
abbrev pub Chooses : Result Chosen LinkError → Program → rules.Program → Type 0
Chooses (Ok c) d p = (sym_exporting p (exported Plain p) ≡ sym_laid_out p (exported Plain p) (live p (exported Plain p))) × IsChosen (plain_stage p) d c.exports c.live.numbers
Chooses (Err e) d p = Fails e (sym_exporting p (exported Plain p))

-- Its parts are those that live by its exports.
abbrev pub IsStage : Stage → Type 0
IsStage s = s.parts ≡ live s.program s.exports
