use Rattle.std.proofs.Common.{take, Some}
use Rattle.std.specs.Prelude.{flat_map}
use Rattle.made_symbols.specs.Made.{made}
use Rattle.link_names.specs.Interning.{Gains, TellsAll, made_name, made_number}
use Rattle.link_names.proofs.build.made_numbers.Given as goal

abbrev pub invariant-loop-k : goal.invariant-loop-k
invariant-loop-k l = Gains l.fn.table l.table (flat_map made_name (take l.k (made l.mode))) × TellsAll made_number (λ n. Some n) (take l.k (made l.mode)) l.table.names l.numbers.items
