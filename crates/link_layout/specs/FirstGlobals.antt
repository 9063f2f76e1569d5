-- Whether the global of a number is an import.
use Rattle.std.specs.Prelude.{ℕ, Bool, false, List, slice_get, Option, Some, None}
use Rattle.link_program.specs.declared.keys.GlobalKey.{GlobalKey}
use Rattle.link_program.specs.declared.keys.GlobalKey.TheVariants as globals
use Rattle.link_program.specs.Keys.{same_global_key}

abbrev pub is_import : ℕ → Option GlobalKey → Bool
is_import wanted None = false
is_import wanted (Some key) = same_global_key (globals.Import wanted) key

abbrev pub is_import_at : List GlobalKey → ℕ → ℕ → Bool
is_import_at keys number wanted = is_import wanted (slice_get keys number)
