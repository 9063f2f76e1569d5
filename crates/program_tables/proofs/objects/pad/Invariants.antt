use Rattle.std.proofs.Common.{◌≡◌, ℕ, ◌<◌, ◌≤◌, length}
use Rattle.std.specs.Prelude.{slice_get}
use Rattle.program_tables.proofs.objects.pad.Given as goal

abbrev pub invariant-loop : goal.invariant-loop
invariant-loop l = record {
  count : length l.places ≡ l.counter;
  longer : length l.initial.places ≤ length l.places;
  same : (k : ℕ) → k < length l.initial.places → slice_get l.places k ≡ slice_get l.initial.places k;
}
