-- What lines call the files and the inputs of a link.
use Rattle.std.specs.Prelude.{◌≡◌, ◌⊎◌, ℕ, List, [], Option, Some, None, IsTrue, Ok, map}
use Rattle.std.specs.Option.{option_map}
use Rattle.wl_outside.specs.Shelf.{Shown}
use Rattle.link_plan.specs.declared.plan.Plan.{Plan}
use Rattle.link_command.specs.Command.{contents, input_names}
use Rattle.library_indexer.specs.Indexed.{with_index}
use Rattle.driver_lines.specs.Members.{input_names as names_in}

-- the names of all inputs of files, where each file holds anything; a library without an index is taken as `ranlib` completes it
abbrev pub names_held : (List ℕ → Option (List ℕ)) → List (List ℕ) → Option (List (List ℕ))
names_held held files = option_map (λ all. names_in files (map with_index all)) (contents held files)

-- The files by their words and the inputs in them; or none, as where memory is refused or a file can't be loaded again.
pub record AreNames (before : Shown) (own : List (List ℕ)) (plan : Plan) (called : Option (List ℕ)) (names all : List (List ℕ)) : Type 0 where
  pub entry : (called ≡ plan.entry) ⊎ (called ≡ None)
  pub files : (names ≡ input_names own plan) ⊎ (names ≡ [])
  pub inputs : IsTrue before.tells → (names_held before.held (input_names own plan) ≡ Some all) ⊎ (all ≡ [])
