-- The body of a function that calls functions in their order, by the binary format of the Core Specification 2.0.
use Rattle.std.specs.Prelude.{ℕ, List, [], ◌∷◌, ◌++◌, flat_map}
use Rattle.leb_codec.specs.Shortest.{u32_padded}

-- A call is the byte 0x10 and the index of the function (Core 5.4.1). The index is padded to five bytes, as relocated numbers
-- are (Linking.md, "Relocation Sections").
abbrev pub call : ℕ → List ℕ
call function = 0x10 ∷ u32_padded function

-- A body is the vector of its locals and its instructions behind each other, and the byte 0x0B ends it (Core 5.5.13 and
-- 5.4.9). This one has no locals: the count 0.
unfoldable pub ctor_body : List ℕ → List ℕ
ctor_body functions = 0 ∷ flat_map call functions ++ 0x0B ∷ []
