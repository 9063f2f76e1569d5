-- Why a link is refused where warnings are errors: the calls of which a link that lets them through warns.
use Rattle.std.specs.Prelude.{ℕ, Bool, true, false, List, ◌≡◌, [], ◌⊎◌}
use Rattle.wl_base.specs.declared.fault.Fault.TheVariants.{Clash}
use Rattle.wl_outside.specs.Shelf.{Shown}
use Rattle.link_command.specs.Command.{planned}
use Rattle.link_command.specs.Telling.{Tells, WouldTell}
use Rattle.link_command.specs.declared.asked.Asked.{Asked}
use Rattle.link_command.specs.declared.status.Status.{Status}
use Rattle.link_command.specs.declared.status.Status.TheVariants.{Refused}
use Rattle.link_command.specs.mismatch_rules.declared.mismatch.Mismatch.{Mismatch}

abbrev pub is_clash : Status → Bool
is_clash (Refused (Clash name first other)) = true
is_clash status = false

-- What would be told is why a link is refused for a clash. It may not be found, as where memory is refused.
abbrev pub CausesBy : Bool → Asked → Shown → List (List ℕ) → List Mismatch → Type 0
CausesBy true asked shelf own told = (told ≡ []) ⊎ WouldTell asked shelf own told
CausesBy false asked shelf own told = told ≡ []

abbrev pub AreCauses : Asked → Status → Shown → List (List ℕ) → List Mismatch → Type 0
AreCauses asked status shelf own told = CausesBy (is_clash status) asked shelf own told

-- What is told of calls: what a link warns of, or why it is refused where warnings are errors.
abbrev pub TellsOf : Bool → Asked → Status → Shown → Shown → List (List ℕ) → List Mismatch → Type 0
TellsOf true asked status before after own told = AreCauses asked status after own told
TellsOf false asked status before after own told = Tells (planned true true asked own) status before own told
