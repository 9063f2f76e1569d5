-- The number of the symbol that stands for what a window names, by the tables of a program.
use Rattle.std.specs.Prelude.{ℕ, List, slice_index_or, Option, Some, None, unwrap_or}
use Rattle.link_program.specs.declared.symbol.Symbol.{Symbol}
use Rattle.link_program.specs.Seen.{no_symbol}
use Rattle.partial_symbols.specs.Standing.{Stood}

abbrev pub number_by_name : Stood → ℕ → Option ℕ → ℕ
number_by_name s k (Some n) = unwrap_or (slice_index_or s.of_names n None) 0
number_by_name s k None = unwrap_or (slice_index_or s.of_symbols k None) 0

-- Of the symbol at a place among those of all objects: the number of the symbol of its name, or its own; 0 where none stands.
abbrev pub number_for : Stood → List Symbol → ℕ → ℕ
number_for s symbols k = number_by_name s k (slice_index_or symbols k no_symbol).name
