use Rattle.std.proofs.Common.{◌≡◌, filter_map, take}
use Rattle.partial_imports.specs.Opens.{open_at}
use Rattle.partial_imports.proofs.opens.opens_in.Given as goal

abbrev pub invariant-loop-at : goal.invariant-loop-at
invariant-loop-at l = l.opens ≡ filter_map (open_at l.sight l.entries.names.now.names l.entries.objects.now) (take l.at-index l.symbols)
