-- A body is read an instruction after the other.
use Rattle.std.proofs.Common.{◌≡◌, ℕ, ◌+◌, ◌≤◌, List, length, [], ◌∷◌, map, drop, Some, None, false, refl, sym, ap, ◌∙◌}
use Rattle.std.specs.Prelude.{slice_get, option_and_then, not}
use Rattle.std.proofs.Math.ListN.{drop_of_length-le}
use Rattle.valid_rules.specs.declared.types.Frame.{Frame}
use Rattle.valid_rules.specs.declared.types.Shape.{Shape}
use Rattle.valid_rules.specs.Reading.{Read, read}
use Rattle.valid_bodies.specs.Steps.{step_on, is_open}
use Rattle.valid_bodies.specs.Went.{ended}
use Rattle.valid_bodies.proofs.Dropping.{drop_some}

pub read_next : (s : Shape) (ss : List Shape) (fs : List Frame) → read fs (s ∷ ss) ≡ option_and_then (λ gs. read gs ss) (step_on fs s)
unfolding read
read_next s ss [] = refl
read_next s ss (f ∷ fs) = refl

module _ {A : Type 0} (f : A → Shape) (code : List A) (x : A) (at : ℕ) (fs : List Frame) (total : Read) (here : slice_get code at ≡ Some x) (so_far : read fs (map f (drop at code)) ≡ total) where
  next : read fs (map f (drop at code)) ≡ option_and_then (λ gs. read gs (map f (drop (at + 1) code))) (step_on fs (f x))
  next = ap (λ xs. read fs (map f xs)) (drop_some code x at here) ∙ read_next (f x) (map f (drop (at + 1) code)) fs

  pub goes_on : (gs : List Frame) → step_on fs (f x) ≡ Some gs → read gs (map f (drop (at + 1) code)) ≡ total
  goes_on gs went = sym (ap (option_and_then (λ gs. read gs (map f (drop (at + 1) code)))) went) ∙ sym next ∙ so_far

  pub stops : step_on fs (f x) ≡ None → false ≡ ended total
  stops went = sym (ap (λ o. ended (option_and_then (λ gs. read gs (map f (drop (at + 1) code))) o)) went) ∙ sym (ap ended next) ∙ ap ended so_far

pub is_over : (fs : List Frame) → not (is_open fs) ≡ ended (read fs [])
unfolding read
is_over [] = refl
is_over (f ∷ fs) = refl

pub at_end : {A : Type 0} (f : A → Shape) (code : List A) (at : ℕ) (fs : List Frame) (total : Read) → length code ≤ at → read fs (map f (drop at code)) ≡ total → not (is_open fs) ≡ ended total
at_end f code at fs total past so_far = is_over fs ∙ ap (λ xs. ended (read fs (map f xs))) (sym (drop_of_length-le code past)) ∙ ap ended so_far
