-- Who offers a name, by the libraries and the lazy objects.
use Rattle.std.specs.Prelude.{◌+◌, ℕ, List, map, if◌then◌else◌, Option, Some, None, option_map, min}
use Rattle.object_file.specs.wl_base.Choice.{first_some, has_name}
use Rattle.lib_index.specs.Library.{offer_of}
use Rattle.round_rules.specs.declared.given.GivenObject.{GivenObject}
use Rattle.round_rules.specs.declared.given.LibraryFile.{LibraryFile}
use Rattle.round_rules.specs.Rounds.{defined_names}

-- the input of a library's member
abbrev pub offer_in : List ℕ → LibraryFile → Option ℕ
offer_in name l = option_map (λ k. l.first + k) (offer_of l.library name)

-- the first library's that offers it
abbrev pub library_offer : List LibraryFile → List ℕ → Option ℕ
library_offer libraries name = first_some (map (offer_in name) libraries)

abbrev pub lazy_offer_in : List ℕ → GivenObject → Option ℕ
lazy_offer_in name g = if g.lazy then (if has_name (defined_names g.object) name then Some g.object.input else None) else None

abbrev pub lazy_offer : List GivenObject → List ℕ → Option ℕ
lazy_offer given name = first_some (map (lazy_offer_in name) given)

abbrev pub lesser : Option ℕ → Option ℕ → Option ℕ
lesser None other = other
lesser (Some a) None = Some a
lesser (Some a) (Some b) = Some (min a b)
