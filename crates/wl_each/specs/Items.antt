-- Lists of which each item is computed by itself.
use Rattle.std.specs.Prelude.{ℕ, zero, suc, ◌+◌, ◌*◌, nat_lt, List, [], ◌∷◌, if◌then◌else◌}

module _ {T : Type 0} where
  -- so many items, from a place on
  abbrev pub items_from : (ℕ → T) → ℕ → ℕ → List T
  items_from item at zero = []
  items_from item at (suc count) = item at ∷ items_from item (at + 1) count

-- where a part begins: each has its share, and the last one what is left over too
abbrev pub begin_at : ℕ → ℕ → ℕ → ℕ → ℕ
begin_at share parts count part = if nat_lt part parts then part * share else count
