use Rattle.std.proofs.Common.{◌≡◌, fold, take}
use Rattle.partial_types.specs.Added.{with_open}
use Rattle.partial_types.proofs.types.add_opens.Given as goal

abbrev pub invariant-loop-found : goal.invariant-loop-found
invariant-loop-found l = l.table ≡ fold (with_open l.entries.objects.now) l.fn.table (take l.found-index l.opens)
