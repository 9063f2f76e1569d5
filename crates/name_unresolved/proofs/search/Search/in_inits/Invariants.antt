use Rattle.std.proofs.Common.{◌≡◌, drop}
use Rattle.name_unresolved.specs.Refers.{open_inits}
use Rattle.name_unresolved.specs.Least.{lesser, least_by}
use Rattle.name_unresolved.specs.Search.{rows_of, least_open}
use Rattle.name_unresolved.proofs.search.Search.in_inits.Given as goal

abbrev pub invariant-loop-object : goal.invariant-loop-object
invariant-loop-object l =
    lesser l.least (least_by (λ o. least_open (rows_of l.self) (open_inits o)) (drop l.object-index l.self.objects.now))
    ≡ least_by (λ o. least_open (rows_of l.self) (open_inits o)) l.self.objects.now
