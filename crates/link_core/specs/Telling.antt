-- What a link tells beside its answer.
use Rattle.std.specs.Prelude.{◌≡◌, List, Result, Ok, Err}
use Rattle.link_output.specs.link_program.declared.error.LinkError.{LinkError}
use Rattle.link_output.specs.link_program.declared.error.LinkError.TheVariants.{Refused, OutOfMemory}
use Rattle.mismatch_rules.specs.declared.mismatch.Mismatch.{Mismatch}

-- An error tells what is due, unless memory was refused; and so does an answer.
abbrev pub TellsBeside : LinkError → List Mismatch → List Mismatch → Type 0
TellsBeside (Refused fault) told due = told ≡ due
TellsBeside OutOfMemory told due = Unit {0}

abbrev pub Tells : {A : Type 0} → Result A LinkError → List Mismatch → List Mismatch → Type 0
Tells (Ok a) told due = told ≡ due
Tells (Err e) told due = TellsBeside e told due
