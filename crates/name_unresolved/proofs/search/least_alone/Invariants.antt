use Rattle.std.proofs.Common.{◌≡◌, drop, length}
use Rattle.std.specs.List.{range_with_len}
use Rattle.name_unresolved.specs.Least.{lesser, least_by}
use Rattle.name_unresolved.specs.Search.{number_least}
use Rattle.name_unresolved.proofs.search.least_alone.Given as goal

abbrev pub invariant-loop-number : goal.invariant-loop-number
invariant-loop-number l =
    lesser l.least (least_by (number_least l.search) (drop l.number (range_with_len 0 (length l.search.chunks.now))))
    ≡ least_by (number_least l.search) (range_with_len 0 (length l.search.chunks.now))
