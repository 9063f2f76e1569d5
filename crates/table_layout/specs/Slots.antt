-- Slots of the functions whose address is taken.
use Rattle.std.specs.Prelude.{ℕ, ◌+◌, ◌-◌, ◌==◌, ◌^◌, ◌<◌, nat_lt, List, length, AllPairs, Option, position, option_map, Result, pos}
use Rattle.wl_base.specs.Choice.{given, unless}
use Rattle.wl_base.specs.declared.fault.What.TheVariants.{TableSize}
use Rattle.wl_base.specs.declared.layout_error.LayoutError.{LayoutError}
use Rattle.wl_base.specs.declared.layout_error.LayoutError.TheVariants.{Overflow}

-- The functions that take a slot, from the first slot on.
pub record Takers : Type 0 where
  pub first : ℕ
  pub functions : List ℕ

-- Each number is below those after it.
abbrev pub Rises : List ℕ → Type 0
Rises xs = AllPairs (λ m n. m < n) xs

-- A taker's slot is the first one plus its place, and another function has none.
abbrev pub slot_in : ℕ → List ℕ → ℕ → Option ℕ
slot_in first takers function = option_map (λ k. first + k) (position (λ t. function == t) takers)

-- The end of the slots, where it is above 2 ^ 32 - 1.
abbrev pub table_overflow : ℕ → ℕ → Option ℕ
table_overflow first count = given (nat_lt (2 ^ 32 - 1) (first + count)) (first + count)

-- The slots, or the end that passes.
unfoldable pub slots_of : ℕ → List ℕ → Result Takers LayoutError
slots_of first takers = unless (option_map (λ end. Overflow TableSize (pos end)) (table_overflow first (length takers))) (record { first = first; functions = takers })
