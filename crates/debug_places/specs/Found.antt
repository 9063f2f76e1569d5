-- What is found in lists by numbers.
use Rattle.std.specs.Prelude.{◌≡◌, ℕ, ◌==◌, Bool, false, List, [], slice_index_or}
use Rattle.std.specs.List.{list_any}
use Rattle.link_program.specs.made_symbols.declared.mode.Mode.{Mode}
use Rattle.link_program.specs.memory_layout.declared.rules.Places.{Places}
use Rattle.link_program.specs.link_rules.Marks.{by_mode}
use Rattle.link_program.specs.link_rules.Values.{made_data}

-- a flag for each number, which tells whether it is among these
abbrev pub AreMarked : List Bool → List ℕ → Type 0
AreMarked table numbers = (k : ℕ) → slice_index_or table k false ≡ list_any (λ n. k == n) numbers

-- the addresses of the linker's own data, by their numbers; in a shared output its one datum stands at 0
abbrev pub AreMade : Mode → List ℕ → Places → Type 0
AreMade mode made at = (n : ℕ) → slice_index_or made n 0 ≡ slice_index_or (by_mode mode (made_data at) []) n 0
