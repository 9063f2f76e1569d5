-- Why the inputs weren't loaded.
use Rattle.std.specs.Prelude.{ℕ, List, Contains}
use Rattle.wl_outside.specs.Shelf.{Shown, LoadFailed}
use Rattle.link_plan.specs.declared.plan.Plan.{Plan}
use Rattle.link_words.specs.Words.{word}
use Rattle.link_command.specs.declared.inputs.ReadError.{ReadError}
use Rattle.link_command.specs.declared.inputs.ReadError.TheVariants.{Failed, OutOfMemory}
use Rattle.link_command.specs.Command.{places}

abbrev pub ReadCause : ReadError → Shown → Shown → List (List ℕ) → Plan → Type 0
ReadCause (Failed k) before after words plan = Contains (places plan) k × LoadFailed before after (word words k)
ReadCause OutOfMemory before after words plan = Unit {0}
