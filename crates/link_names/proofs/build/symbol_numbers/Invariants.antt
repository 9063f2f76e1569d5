use Rattle.std.proofs.Common.{take}
use Rattle.std.specs.Prelude.{flat_map}
use Rattle.link_names.specs.Numbered.{number_seen, symbol_number}
use Rattle.link_names.specs.Interning.{Gains, TellsAll, entry_name}
use Rattle.link_names.proofs.build.symbol_numbers.Given as goal

abbrev pub invariant-loop-place : goal.invariant-loop-place
invariant-loop-place l = Gains l.fn.table l.table (flat_map entry_name (take l.place l.symbols)) × TellsAll symbol_number number_seen (take l.place l.symbols) l.table.names l.numbers.items
