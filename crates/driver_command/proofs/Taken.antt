-- The names of inputs, by what a link takes of the files.
use Rattle.std.proofs.Common.{◌≡◌, ℕ, List, Option, Some, refl}
use Rattle.std.specs.Prelude.{map}
use Rattle.std.specs.Option.{option_map}
use Rattle.driver_lines.specs.Members.{input_names as names_in}
use Rattle.library_indexer.specs.Indexed.{with_index}

pub named : (files : List (List ℕ)) (read : Option (List (List ℕ))) (held all names : List (List ℕ)) → read ≡ Some held → all ≡ map with_index held → names ≡ names_in files all
    → option_map (λ all. names_in files (map with_index all)) read ≡ Some names
named files read held all names is are names_are = rw (is, names_are, are) refl
