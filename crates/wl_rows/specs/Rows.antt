-- Lists of lists, one behind another.
use Rattle.std.specs.Prelude.{List, ◌++◌, flat_map}

-- The lists of the first piece, and those of the pieces behind it.
abbrev pub all_rows : {A : Type 0} → List (List A) → List (List (List A)) → List (List A)
all_rows first behind = first ++ flat_map (λ rows. rows) behind
