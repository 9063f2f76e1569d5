-- Candidates by their numbers, and those of files that are plain objects.
use Rattle.std.specs.Prelude.{◌≡◌, ℕ, ◌+◌, false, List, [], ◌∷◌, length, slice_index_or}
use Rattle.name_rules.specs.object_file.ObjectOf.{object_of}
use Rattle.round_rules.specs.Rounds.{Candidate}

-- They count on from a number.
abbrev pub AreNumbered : ℕ → List Candidate → Type 0
AreNumbered n [] = Unit {0}
AreNumbered n (c ∷ cs) = (c.input ≡ n + 1) × AreNumbered (n + 1) cs

-- A whole file that is an object, loaded at once. Its number and its place among the files are as far apart as these two.
pub record IsWholeFile (files : List (List ℕ)) (file n : ℕ) (c : Candidate) : Type 0 where
  pub by_need : c.by_need ≡ false
  pub is_member : c.is_member ≡ false
  pub offers : c.offers ≡ []
  pub start : c.start ≡ 0
  pub place : c.input + file ≡ c.file + (n + 1)
  pub len : c.len ≡ length (slice_index_or files c.file [])
  pub object : c.object ≡ object_of c.input (slice_index_or files c.file [])
