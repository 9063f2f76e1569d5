use Rattle.std.proofs.Common.{take}
use Rattle.std.specs.Prelude.{flat_map}
use Rattle.link_names.specs.Numbered.{numbers_seen, AllShort}
use Rattle.link_names.specs.Interning.{Gains, TellsAll, names_in, symbols_numbered}
use Rattle.link_names.proofs.build.symbol_lists.Given as goal

abbrev pub invariant-loop-object : goal.invariant-loop-object
invariant-loop-object l =
    Gains l.fn.table l.table (flat_map names_in (take l.object-index l.objects)) × TellsAll symbols_numbered numbers_seen (take l.object-index l.objects) l.table.names l.lists × AllShort l.lists
