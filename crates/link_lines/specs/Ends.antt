-- The lines of the other ways in which the work ends.
use Rattle.std.specs.Prelude.{ℕ, List, [], ◌∷◌, codes, decimal}
use Rattle.link_lines.specs.Pieces.{joined}

-- the input of the word at this place can't be read
abbrev pub read_fault_line : ℕ → List ℕ
read_fault_line place = joined (codes "wasmld: cannot read word " ∷ decimal place ∷ codes "\n" ∷ [])

abbrev pub write_fault_line : List ℕ
write_fault_line = codes "wasmld: cannot write the output\n"

abbrev pub no_memory_line : List ℕ
no_memory_line = codes "wasmld: out of memory\n"

-- what became of a generated case: its objects, and the output's functions, segments, bytes and their sum
abbrev pub case_line : ℕ → ℕ → ℕ → ℕ → ℕ → List ℕ
case_line n functions segments bytes sum =
    joined (codes "case " ∷ decimal n ∷ codes ": functions " ∷ decimal functions ∷ codes " segments " ∷ decimal segments ∷ codes " bytes " ∷ decimal bytes
    ∷ codes " sum " ∷ decimal sum ∷ codes "\n" ∷ [])
