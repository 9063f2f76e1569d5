use Rattle.std.proofs.Common.{◌≡◌, map, take}
use Rattle.name_meanings.specs.name_entries.object_file.declared.object.Object.{Object}
use Rattle.name_unresolved.proofs.search.inputs_of.Given as goal

abbrev pub invariant-loop-object : goal.invariant-loop-object
invariant-loop-object l = l.inputs ≡ map (λ (o : Object). o.input) (take l.object-index l.objects)
