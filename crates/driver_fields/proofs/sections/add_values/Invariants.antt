use Rattle.std.proofs.Common.{◌≡◌, ◌++◌, map}
use Rattle.std.specs.List.{filter}
use Rattle.driver_fields.specs.Sections.{is_value}
use Rattle.driver_fields.proofs.sections.add_values.Given as goal

abbrev pub invariant-loop-part : goal.invariant-loop-part
invariant-loop-part l = l.names ≡ l.initial.names ++ filter is_value (map (λ part. part.now) l.yielded)
