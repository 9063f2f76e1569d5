use Rattle.std.proofs.Common.{take, Some}
use Rattle.std.specs.Prelude.{flat_map}
use Rattle.link_names.specs.Interning.{Gains, TellsAll, group_name, group_number}
use Rattle.link_names.proofs.build.group_numbers.Given as goal

abbrev pub invariant-loop-group : goal.invariant-loop-group
invariant-loop-group l =
    Gains l.fn.table l.table (flat_map group_name (take l.group-index l.groups)) × TellsAll group_number (λ n. Some n) (take l.group-index l.groups) l.table.names l.numbers.items
