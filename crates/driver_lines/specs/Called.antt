-- How inputs and files are called in lines: by their names, or by their numbers behind a word where no name is known. Each is told in two
-- texts.
use Rattle.std.specs.Prelude.{ℕ, zero, suc, List, [], ◌∷◌, Option, Some, None, slice_get, codes, decimal}
use Rattle.link_lines.specs.Pieces.{piece_bytes}
use Rattle.driver_lines.specs.declared.called.Called.{Called}

abbrev pub called_by : List ℕ → List (List ℕ)
called_by name = [] ∷ name ∷ []

abbrev pub or_number : List ℕ → ℕ → Option (List ℕ) → List (List ℕ)
or_number word number (Some name) = called_by name
or_number word number None = word ∷ decimal number ∷ []

-- Inputs are counted from 1 on, and the linker's own symbols are of input 0.
abbrev pub called_input : List (List ℕ) → ℕ → List (List ℕ)
called_input inputs zero = called_by (codes "<internal>")
called_input inputs (suc k) = or_number (codes "input ") (suc k) (slice_get inputs k)

-- Files are counted from 0 on.
abbrev pub called_file : List (List ℕ) → ℕ → List (List ℕ)
called_file files place = or_number (codes "input file ") place (slice_get files place)

abbrev pub called_texts : Called → List (List ℕ)
called_texts called = called.front.now ∷ piece_bytes called.name ∷ []
