-- The newest elements of a stack stand at the end of its vector.
use Rattle.std.proofs.Common.{◌≡◌, ℕ, ◌-◌, ◌≤◌, List, ◌++◌, length, take, drop, sym, ap, ◌∙◌, arith, length-drop}
use Rattle.std.specs.Prelude.{reverse}
use Rattle.std.proofs.Math.Seq.{take-append_seam, drop-append_seam}
use Rattle.std.proofs.lemmas.List.{reverse-append, reverse-reverse, length-reverse, get_or-reverse, take-append-drop}

module _ {A : Type 0} (xs : List A) (n at : ℕ) (within : n ≤ length xs) (is : at ≡ length xs - n) where
  whole : reverse xs ≡ reverse (drop at xs) ++ reverse (take at xs)
  whole = sym (ap reverse (take-append-drop at xs)) ∙ reverse-append (take at xs) (drop at xs)

  long : length (reverse (drop at xs)) ≡ n
  long = length-reverse (drop at xs) ∙ length-drop at xs ∙ omega arith

  pub reverse_drop : reverse (drop at xs) ≡ take n (reverse xs)
  reverse_drop =
      sym (ap (take n) whole ∙ ap (λ k. take k (reverse (drop at xs) ++ reverse (take at xs))) (sym long)
      ∙ take-append_seam (reverse (drop at xs)) (reverse (take at xs)))

  pub reverse_take : reverse (take at xs) ≡ drop n (reverse xs)
  reverse_take =
      sym (ap (drop n) whole ∙ ap (λ k. drop k (reverse (drop at xs) ++ reverse (take at xs))) (sym long)
      ∙ drop-append_seam (reverse (drop at xs)) (reverse (take at xs)))

-- The words of `put_on` and `into_seq`.
pub ruleset stacks = (reverse-append, reverse-reverse)
