-- The numbers of all symbols in the object, by the symbols that stand there.
use Rattle.std.specs.Prelude.{ℕ, zero, suc, ◌+◌, List, [], ◌∷◌, length}
use Rattle.partial_tree.specs.link_program.declared.symbol.Symbol.{Symbol}
use Rattle.partial_tree.specs.partial_symbols.Standing.{Stood}
use Rattle.partial_tree.specs.partial_symbols.Referring.{number_for}

-- what so many places have, from a place on
abbrev pub values_from : (ℕ → ℕ) → ℕ → ℕ → List ℕ
values_from f at zero = []
values_from f at (suc n) = f at ∷ values_from f (at + 1) n

-- Of each symbol of the objects, by its place among those of all objects: the number of the one that stands for it, or 0.
abbrev pub all_numbers : Stood → List Symbol → List ℕ
all_numbers s symbols = values_from (number_for s symbols) 0 (length symbols)
