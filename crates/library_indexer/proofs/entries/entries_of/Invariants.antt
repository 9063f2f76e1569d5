use Rattle.std.proofs.Common.{◌≡◌, take}
use Rattle.library_indexer.specs.Indexed.{entries_of}
use Rattle.library_indexer.proofs.entries.entries_of.Given as goal

abbrev pub invariant-loop-member : goal.invariant-loop-member
invariant-loop-member l = l.entries ≡ entries_of l.bytes (take l.member-index l.members)
