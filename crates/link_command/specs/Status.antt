use Rattle.std.specs.Prelude.{ℕ}
use Rattle.link_command.specs.declared.status.Status.{Status}
use Rattle.link_command.specs.declared.status.Status.TheVariants.{Linked, Refused, Usage, ReadFault, WriteFault, NoMemory}

abbrev pub code_of : Status → ℕ
code_of Linked = 0
code_of (Refused f) = 1
code_of (Usage u) = 2
code_of (ReadFault k) = 3
code_of WriteFault = 4
code_of NoMemory = 5
