-- What the host writes to memory.
use Rattle.std.specs.Prelude.{ℕ, ◌+◌, Bool, true, List, [], ◌∷◌, length, nat_le, ◌&&◌}
use Rattle.run_rules.specs.declared.session.MemWrite.{MemWrite}

-- whether all of it fits a memory of so many bytes
abbrev pub all_fit : ℕ → List MemWrite → Bool
all_fit room [] = true
all_fit room (w ∷ ws) = nat_le (w.address + length w.bytes) room && all_fit room ws
