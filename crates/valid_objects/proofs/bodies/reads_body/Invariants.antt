use Rattle.std.proofs.Common.{◌≡◌, [], ◌∷◌, drop}
use Rattle.valid_rules.specs.Reading.{read, whole}
use Rattle.valid_objects.specs.Merging.{merged}
use Rattle.valid_objects.proofs.bodies.reads_body.Given as goal

abbrev pub invariant-loop-placed : goal.invariant-loop-placed
invariant-loop-placed l =
    read l.blocks (merged l.o l.kind l.body.locals l.left (drop l.placed-index l.body.code))
    ≡ read (whole l.kind.results ∷ []) (merged l.o l.kind l.body.locals l.references l.body.code)
