-- What the library is read as.
use Rattle.std.specs.Prelude.{◌≡◌, [], ◌∷◌, Ok, codes, refl}
use Rattle.lib_index.specs.Reading.{number_in, member_at, members_at, number_at, numbers_at, entries_at, counted_index, index_at, library_of}
use Rattle.link_rules.specs.Examples.{span}
use Rattle.link_rows.specs.Bytes.{library_bytes}

-- The member stands at 138, behind its header, and offers f.
pub library_is : library_of library_bytes ≡ Ok (record { members = span 138 44 ∷ []; offered = (codes "f", 0) ∷ [] })
unfolding library_of number_in member_at members_at number_at numbers_at entries_at counted_index index_at
library_is = refl
