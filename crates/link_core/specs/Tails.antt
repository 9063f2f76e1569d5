-- What stands behind a module.
use Rattle.std.specs.Prelude.{◌≡◌, ℕ, List, ◌++◌, Result, Ok, Err}
use Rattle.link_output.specs.link_program.wl_base.Choice.{◌>>=◌}
use Rattle.link_output.specs.link_program.wl_base.declared.fault.Fault.{Fault}
use Rattle.link_output.specs.link_program.link_rules.ModeOf.{mode_of}
use Rattle.link_output.specs.link_program.declared.error.LinkError.{LinkError}
use Rattle.debug_places.specs.Tails.{LoadedStage}
use Rattle.link_tails.specs.Tails.{laid_whole}
use Rattle.link_core.specs.declared.tail.Tail.{Tail}
use Rattle.link_core.specs.declared.tail.Tail.TheVariants.{Bytes, Refused}
use Rattle.link_core.specs.declared.tail.Whole.{Whole}

-- The tail is what is said: the same bytes, or the same fault.
abbrev pub TellsTail : Tail → Result (List ℕ) Fault → Type 0
TellsTail (Bytes bytes) said = said ≡ Ok bytes
TellsTail (Refused fault) said = said ≡ Err fault

-- A module with what is said to stand behind it.
abbrev pub behind : List ℕ → Result (List ℕ) Fault → Result (List ℕ) Fault
behind bytes said = do
  tail ← said
  Ok (bytes ++ tail)

-- what stands behind the output of a stage of so many bytes
abbrev pub stage_tail : LoadedStage → ℕ → Result (List ℕ) Fault
stage_tail s len = laid_whole (mode_of s.stage.program.plan) s.stage.program s.all s.stage.exports s.stage.parts len

-- the module, or the error before it
abbrev pub modules : Result Whole LinkError → Result (List ℕ) LinkError
modules (Ok w) = Ok w.bytes
modules (Err e) = Err e
