use Rattle.std.proofs.Common.{◌≡◌, ◌-◌, length, None}
use Rattle.std.specs.Prelude.{option_map}
use Rattle.case_objects.specs.Functions.{sections_at, found_with}
use Rattle.case_objects.proofs.functions.function_section.Given as goal

abbrev pub invariant-loop : goal.invariant-loop
invariant-loop l = found_with 3 (option_map (λ c. c.now) l.found) (sections_at (length l.bytes - l.counter) l.fn.end l.rest) ≡ found_with 3 None (sections_at (length l.bytes) l.fn.end l.bytes)
