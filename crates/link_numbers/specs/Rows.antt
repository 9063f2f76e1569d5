-- A table of the numbers of functions, by rows.
use Rattle.std.specs.Prelude.{ℕ, ◌+◌, ◌==◌, ◌&&◌, Bool, true, false, List, [], ◌∷◌, slice_get, slice_index_or, Option, Some, None}
use Rattle.link_keys.specs.link_program.declared.keys.FunctionKey.{FunctionKey}
use Rattle.link_keys.specs.link_program.declared.keys.FunctionKey.TheVariants as functions
use Rattle.link_keys.specs.link_program.Keys.{same_function_key}

-- The row of a function: of imports, of stubs, or of an input.
abbrev pub row_of : FunctionKey → ℕ
row_of (functions.Import n) = 0
row_of (functions.Own input index) = input + 2
row_of (functions.Stub n) = 1

abbrev pub index_of : FunctionKey → ℕ
index_of (functions.Import n) = n
index_of (functions.Own input index) = index
index_of (functions.Stub n) = n

-- What a table says of a function, by where its rows begin.
abbrev pub number_told : List ℕ → List ℕ → FunctionKey → ℕ
number_told begins numbers key = slice_index_or numbers (slice_index_or begins (row_of key) 0 + index_of key) 0

abbrev pub is_function : FunctionKey → Option FunctionKey → Bool
is_function key None = false
is_function key (Some there) = same_function_key key there

-- The function stands at a place of the list.
abbrev pub stands_at : List FunctionKey → ℕ → FunctionKey → Bool
stands_at keys at key = is_function key (slice_get keys at)

-- Each of the functions, which begin at a place, is told its place.
abbrev pub all_told : (FunctionKey → ℕ) → ℕ → List FunctionKey → Bool
all_told told at [] = true
all_told told at (key ∷ keys) = (told key == at) && all_told told (at + 1) keys
