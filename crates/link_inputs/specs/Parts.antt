-- How a list is divided among workers.
use Rattle.std.specs.Prelude.{ℕ, ◌+◌, ◌*◌, ◌/◌, ◌%◌, min}

-- Each part has as many of the `count` items, and the first ones one more where they can't be divided evenly. So many are in the first
-- k parts.
abbrev pub items_before : ℕ → ℕ → ℕ → ℕ
items_before count parts k = k * (count / parts) + min k (count % parts)

-- the number of the first item of a part
abbrev pub first_of : ℕ → ℕ → ℕ → ℕ
first_of count parts part = items_before count parts (min part parts)
