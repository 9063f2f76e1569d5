-- The column of the least entries, by the numbers of their names.
use Rattle.std.specs.Prelude.{ℕ, ◌+◌, List, [], ◌∷◌, slice_set, slice_get, slice_index_or, Option, Some, None}
use Rattle.link_keys.specs.declared.firsts.At.{At}

-- the column with a symbol where there was none
abbrev pub first_kept : List (Option At) → At → ℕ → Option (Option At) → List (Option At)
first_kept column at n None = column
first_kept column at n (Some None) = slice_set column n (Some at)
first_kept column at n (Some (Some other)) = column

-- The column with a symbol whose name has this number.
abbrev pub first_at : List (Option At) → At → Option ℕ → List (Option At)
first_at column at None = column
first_at column at (Some n) = first_kept column at n (slice_get column n)

-- The column with the symbols of an object from a place on, by the numbers of their names.
abbrev pub firsts_row : ℕ → ℕ → List (Option At) → List (Option ℕ) → List (Option At)
firsts_row object place column [] = column
firsts_row object place column (n ∷ ns) = firsts_row object (place + 1) (first_at column (record { object = object; place = place }) n) ns

-- The column with the symbols of the objects from one on.
abbrev pub firsts_rows : ℕ → List (Option At) → List (List (Option ℕ)) → List (Option At)
firsts_rows object column [] = column
firsts_rows object column (row ∷ rows) = firsts_rows (object + 1) (firsts_row object 0 column row) rows
