use Rattle.std.proofs.Common.{◌≡◌, ℕ, length}
use Rattle.name_meanings.specs.Means.{row_of}
use Rattle.name_meanings.proofs.resolving.pad.Given as goal

abbrev pub invariant-loop : goal.invariant-loop
invariant-loop l = (length l.rows ≡ l.counter) × ((i : ℕ) → row_of l.rows i ≡ row_of l.initial.rows i)
