-- Rows that are read.
use Rattle.std.proofs.Common.{◌≡◌, ℕ, ◌∙◌, List, sym, ap, Option}
use Rattle.std.specs.Prelude.{slice_get}

pub answer_read : {X : Type 0} (row other : List X) (i : ℕ) (o : Option X) → row ≡ other → o ≡ slice_get row i → slice_get other i ≡ o
answer_read row other i o same is = ap (λ r. slice_get r i) (sym same) ∙ sym is
