-- Bytes of the binary format that are made of parts. Numbers are spelled as short as possible.
use Rattle.std.specs.Prelude.{ℕ, List, ◌∷◌, ◌++◌, length, decimal}
use Rattle.std.specs.List.{flat_map}
use Rattle.std.specs.Borrow.{Bor}
use Rattle.wasm_instr.specs.leb_codec.Shortest.{u32}

-- the parts that are lent, one behind the other
abbrev pub joined : List (Bor (List ℕ)) → List ℕ
joined parts = flat_map (λ part. part.now) parts

-- bytes behind their length: a vector of bytes, or a part of a given size (Core 5.1.3, 5.5.2)
abbrev pub sized : List ℕ → List ℕ
sized bytes = u32 (length bytes) ++ bytes

-- the section of this id (Core 5.5.2); a subsection of a linking section has the same form (Linking.md)
abbrev pub section : ℕ → List ℕ → List ℕ
section id contents = id ∷ sized contents

-- the custom section of this name (Core 5.5.3)
abbrev pub custom : List ℕ → List ℕ → List ℕ
custom name contents = section 0 (sized name ++ contents)

-- a letter and a number in decimal
abbrev pub letter_name : ℕ → ℕ → List ℕ
letter_name letter number = letter ∷ decimal number
