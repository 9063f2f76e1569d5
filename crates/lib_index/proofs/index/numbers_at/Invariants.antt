use Rattle.std.proofs.Common.{◌≡◌, ◌-◌}
use Rattle.lib_index.specs.Reading.{numbers_at}
use Rattle.lib_index.proofs.IndexSteps.{with_front}
use Rattle.lib_index.proofs.index.numbers_at.Given as goal

abbrev pub invariant-loop : goal.invariant-loop
invariant-loop l = with_front l.numbers (numbers_at l.places (l.count - l.counter) l.rest) ≡ numbers_at l.places l.count l.bytes
