-- A shelf that tells nothing of what it holds.
use Rattle.std.specs.Prelude.{ℕ, false, None}
use Rattle.wl_outside.specs.Shelf.{Shown}

-- It has one count of failed loads and one of failed saves for all names.
abbrev pub untold : ℕ → ℕ → Shown
untold failed_loads failed_saves = record { tells = false; held = λ _. None; failed_loads = λ _. failed_loads; failed_saves = λ _. failed_saves }
