-- What parts grow by.
use Rattle.std.specs.Prelude.{◌≡◌, List, ◌++◌, map}
use Rattle.program_tables.specs.declared.parts.AllParts.{AllParts}
use Rattle.program_tables.specs.declared.pieces.Piece.{Piece}
use Rattle.program_tables.specs.Rows.{Row}

-- These rows, and no others.
pub record AreAll (rows : List Row) (all : AllParts) : Type 0 where
  pub parts : all.parts ≡ map (λ row. row.part) rows
  pub named : all.named ≡ map (λ row. row.named) rows
  pub chunks : all.chunks ≡ map (λ row. row.part.chunk) rows

-- The same of a piece.
pub record AreGained (rows : List Row) (piece : Piece) : Type 0 where
  pub parts : piece.parts ≡ map (λ row. row.part) rows
  pub named : piece.named ≡ map (λ row. row.named) rows

-- The new one has these rows behind those of the old one.
pub record Gains (rows : List Row) (old new : Piece) : Type 0 where
  pub parts : new.parts ≡ old.parts ++ map (λ row. row.part) rows
  pub named : new.named ≡ old.named ++ map (λ row. row.named) rows
