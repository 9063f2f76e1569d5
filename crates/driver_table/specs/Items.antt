-- What words say.
use Rattle.std.specs.Prelude.{ℕ, List}
use Rattle.driver_table.specs.declared.meaning.Meaning.{Meaning}

-- an input or an option, with its value where it takes one, and the word that says it
pub record Said : Type 0 where
  pub meaning : Meaning
  pub value : List ℕ
  pub spelling : List ℕ

abbrev pub item : Meaning → List ℕ → List ℕ → Said
item meaning value spelling = record { meaning = meaning; value = value; spelling = spelling }
