-- A reader beside its grammar.
use Rattle.std.specs.Prelude.{◌≡◌, ℕ, List, ◌++◌, Ok}
use Rattle.wasm_grammar.specs.Reading.{Read}

-- The front of the bytes is spelled so, and the rest follows.
pub record Takes (Spelled : List ℕ → Type 0) (bytes rest : List ℕ) : Type 0 where
  pub text : List ℕ
  pub spells : Spelled text
  pub parts : bytes ≡ text ++ rest

-- No spelling has two values, and none begins another: where two of them stand at the front of the
-- same bytes, they are the same.
abbrev pub IsUnambiguous : {A : Type 0} → (A → List ℕ → Type 0) → Type 0
IsUnambiguous {A} Item = (x y : A) (text other rest more : List ℕ) → Item x text → Item y other → text ++ rest ≡ other ++ more → (x ≡ y) × (text ≡ other)

-- A reader is exact for a grammar: the value that it finds is spelled by the bytes that it takes,
-- and what is spelled is found again, whatever bytes follow. (So the grammar is unambiguous:
-- `one_value` in ReaderLaws.)
pub record IsReader {A : Type 0} (Item : A → List ℕ → Type 0) (read : Read A) : Type 0 where
  pub found : (end : ℕ) (bytes : List ℕ) (x : A) (rest : List ℕ) → read end bytes ≡ Ok (x, rest) → Takes (Item x) bytes rest
  pub again : (end : ℕ) (x : A) (text rest : List ℕ) → Item x text → read end (text ++ rest) ≡ Ok (x, rest)
