use Rattle.std.proofs.Common.{◌≡◌, ◌++◌, map}
use Rattle.std.specs.Prelude.{take, filter_map}
use Rattle.object_file.specs.Spaces.{imported_global}
use Rattle.valid_objects.proofs.names.globals.Given as goal

abbrev pub invariant-loop-global : goal.invariant-loop-global
invariant-loop-global l = l.found ≡ filter_map (λ i. imported_global i.kind) l.o.imports ++ map (λ g. g.kind) (take l.global-index l.o.globals)
