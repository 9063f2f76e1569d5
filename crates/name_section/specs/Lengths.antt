-- How long the parts of the section are.
use Rattle.std.specs.Prelude.{◌≡◌, ◌<◌, ◌^◌, List, length}
use Rattle.name_section.specs.declared.writing.Lengths.{Lengths}
use Rattle.name_section.specs.Names.{Named, name_map, names_payload, whole_section}

pub record AreLengths (l : Lengths) (names : List Named) : Type 0 where
  pub map : l.map ≡ length (name_map names)
  pub payload : l.payload ≡ length (names_payload names)
  pub whole : l.whole ≡ length (whole_section names)
  pub short : l.whole < 2 ^ 31
