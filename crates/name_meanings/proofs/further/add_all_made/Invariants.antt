use Rattle.std.proofs.Common.{take}
use Rattle.name_entries.specs.made_symbols.declared.mode.Mode.TheVariants.{Shared}
use Rattle.name_entries.specs.made_symbols.Made.{made}
use Rattle.name_meanings.specs.Further.{AreMade}
use Rattle.name_meanings.proofs.further.add_all_made.Given as goal

abbrev pub invariant-loop-k : goal.invariant-loop-k
invariant-loop-k l = AreMade (take l.k (made Shared)) l.initial.imports l.imports l.numbers
