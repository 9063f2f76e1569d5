-- The section `name` (WebAssembly Core 2.0, appendix 7.4.1): a custom section, in which a subsection tells the names of functions.
use Rattle.std.specs.Prelude.{ℕ, List, [], ◌∷◌, ◌++◌, length, ◌==◌, if◌then◌else◌, codes}
use Rattle.leb_codec.specs.Shortest.{u32}
use Rattle.image_emit.specs.Bytes.{sized, vector}
use Rattle.name_section.specs.declared.name.FunctionName.{FunctionName}

-- A function by its number, and its name.
pub record Named : Type 0 where
  pub index : ℕ
  pub name : List ℕ

-- as it is lent
abbrev pub named_seen : FunctionName → Named
named_seen n = record { index = n.index; name = n.prefix.now ++ n.name.now }

-- An association: the number, and the name.
abbrev pub association : Named → List ℕ
association n = u32 n.index ++ sized n.name

-- A name map is a vector of associations, by rising number.
abbrev pub name_map : List Named → List ℕ
name_map names = vector association names

-- The names of functions stand in subsection 1, behind its size.
abbrev pub function_subsection : List Named → List ℕ
function_subsection names = 1 ∷ sized (name_map names)

-- what the custom section holds (Core 5.5.3)
abbrev pub names_payload : List Named → List ℕ
names_payload names = sized (codes "name") ++ function_subsection names

abbrev pub whole_section : List Named → List ℕ
whole_section names = 0 ∷ sized (names_payload names)

-- The section. Without names there is none.
unfoldable pub name_section : List Named → List ℕ
name_section names = if length names == 0 then [] else whole_section names
