-- Which names the words ask for, by number.
use Rattle.std.specs.Prelude.{◌≡◌, ℕ, Bool, false, List, Some, slice_index_or}
use Rattle.link_program.specs.wl_base.Choice.{has_name}
use Rattle.link_program.specs.wl_base.Names.{number_of}

-- Of each name that has a number, the column tells whether it is one of the words.
abbrev pub IsAsked : List (List ℕ) → List (List ℕ) → List Bool → Type 0
IsAsked names words asked = (name : List ℕ) (number : ℕ) → number_of names name ≡ Some number → slice_index_or asked number false ≡ has_name words name
