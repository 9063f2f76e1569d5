use Rattle.std.proofs.Common.{take, Some, map}
use Rattle.std.specs.Prelude.{flat_map}
use Rattle.link_names.specs.Numbered.{AllShort}
use Rattle.link_names.specs.Interning.{Gains, TellsAll, groups_in, groups_numbered}
use Rattle.link_names.proofs.build.group_lists.Given as goal

abbrev pub invariant-loop-object : goal.invariant-loop-object
invariant-loop-object l =
    Gains l.fn.table l.table (flat_map groups_in (take l.object-index l.objects)) × TellsAll groups_numbered (map (λ n. Some n)) (take l.object-index l.objects) l.table.names l.lists × AllShort l.lists
