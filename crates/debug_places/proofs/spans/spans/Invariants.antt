use Rattle.std.proofs.Common.{◌≡◌, ◌++◌, map, drop}
use Rattle.link_program.specs.object_file.declared.object.Object.{Object}
use Rattle.debug_places.specs.Spans.{span_seen}
use Rattle.debug_places.proofs.spans.spans.Given as goal

abbrev pub invariant-loop-o : goal.invariant-loop-o
invariant-loop-o l = l.spans ++ map (λ (o : Object). span_seen l.homes o.input) (drop l.o-index l.objects) ≡ map (λ (o : Object). span_seen l.homes o.input) l.objects
