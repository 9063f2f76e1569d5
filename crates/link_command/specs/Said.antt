-- What a sink has after a line whose writes may fail.
use Rattle.std.specs.Prelude.{ℕ, ◌⊎◌, List, take}
use Rattle.wl_outside.specs.Sink.{Told, Rose, Added}

-- it grew by the line, or its count of faults rose and it grew by a prefix of the line
abbrev pub Said : List ℕ → Told → Told → Type 0
Said line old new = Added line old new ⊎ (Rose old.faults new.faults × ((n : ℕ) × Added (take n line) old new))
