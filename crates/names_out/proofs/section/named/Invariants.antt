use Rattle.std.proofs.Common.{◌≡◌, ◌++◌, map, drop}
use Rattle.name_section.specs.Names.{named_seen}
use Rattle.names_out.specs.Told.{label_seen, listed_from}
use Rattle.names_out.proofs.section.named.Given as goal

abbrev pub invariant-loop-index : goal.invariant-loop-index
invariant-loop-index l = map named_seen l.names ++ listed_from l.index (drop l.index (map label_seen l.labels)) ≡ listed_from 0 (map label_seen l.labels)
