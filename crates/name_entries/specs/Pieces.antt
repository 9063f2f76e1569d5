-- The table of what is looked up, made in pieces.
use Rattle.std.specs.Prelude.{◌≡◌, ℕ, ◌+◌, List, [], length, slice_get, slice_index_or, Option, Some}
use Rattle.name_rules.specs.object_file.declared.object.Object.{Object}
use Rattle.wl_rows.specs.Ranges.{first_at}
use Rattle.name_entries.specs.Parts.{ArePartsOf}
use Rattle.name_entries.specs.Rows.{AreRowsOf}
use Rattle.name_entries.specs.declared.pieces.Piece.{Piece}

-- What stands at one place in both is related, where the second begins beside a place of the first.
abbrev pub Along : {A B : Type 0} → (ℕ → A → B → Type 0) → ℕ → List A → List B → Type 0
Along {A = A} {B = B} P from xs ys = (i : ℕ) (x : A) (y : B) → slice_get xs (from + i) ≡ Some x → slice_get ys i ≡ Some y → P (from + i) x y

-- The piece is that of the objects from one place up to another.
pub record IsPiece (objects : List Object) (names : List (List (Option ℕ))) (from to : ℕ) (piece : Piece) : Type 0 where
  pub parts : from + length piece.parts ≡ to
  pub rows : from + length piece.rows ≡ to
  pub each_parts : Along (λ i o p. ArePartsOf objects o p) from objects piece.parts
  pub each_rows : Along (λ i o rs. AreRowsOf objects o (slice_index_or names i []) rs) from objects piece.rows

-- The first slot has the piece of the objects from one place up to another, or nothing.
abbrev pub IsMade : List Object → List (List (Option ℕ)) → ℕ → ℕ → List (Option Piece) → Type 0
IsMade objects names from to slots = (p : Piece) → slice_get slots 0 ≡ Some (Some p) → IsPiece objects names from to p

-- Each worker's slot has the piece of its objects, or nothing.
pub record AreMade (objects : List Object) (names : List (List (Option ℕ))) (cuts : List ℕ) (count : ℕ) (slots : List (Option Piece)) : Type 0 where
  pub many : length slots ≡ length cuts + 1
  pub each : (k : ℕ) (p : Piece) → slice_get slots k ≡ Some (Some p) → IsPiece objects names (first_at cuts count k) (first_at cuts count (k + 1)) p

-- The piece of all objects, if the slots have those of so many workers.
abbrev pub AreJoined : ℕ → List (Option Piece) → Piece → Type 0
AreJoined workers slots all =
    (objects : List Object) (names : List (List (Option ℕ))) (cuts : List ℕ) (count : ℕ) → workers ≡ length cuts + 1 → AreMade objects names cuts count slots → IsPiece objects names 0 count all
