use Rattle.std.proofs.Common.{take, map}
use Rattle.debug_out.specs.Grouped.{IsGrouped}
use Rattle.debug_out.specs.Refs.{debug_seen}
use Rattle.debug_out.proofs.groups.grouped.Given as goal

abbrev pub invariant-loop-d : goal.invariant-loop-d
invariant-loop-d l = IsGrouped l.names.names l.groups (map debug_seen (take l.d-index l.all))
