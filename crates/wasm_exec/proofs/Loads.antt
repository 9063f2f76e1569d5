-- Two loads, one behind the other.
use Rattle.std.proofs.Common.{◌≡◌, ◌∙◌, ℕ, List, Some, IsTrue, sym, subst, refl, arith}
use Rattle.wl_outside.specs.Shelf.{Shown, Same, Grows, Holds, LoadFailed}

-- a shelf that nothing was asked of
pub grows_not : (s : Shown) → Grows s s
grows_not s = record { tells = refl; loads = λ name. omega arith; saves = λ name. omega arith }

module _ (before mid after : Shown) (same : Same before mid) (grows : Grows before mid) where
  told_on : IsTrue before.tells → IsTrue mid.tells
  told_on t = subst (λ b. IsTrue b) (sym grows.tells) t

  -- what the second load gives was there before the first
  pub held_before : (name bytes : List ℕ) → Holds mid name bytes → IsTrue before.tells → before.held name ≡ Some bytes
  held_before name bytes holds t = sym (same t name) ∙ holds (told_on t)

  pub still_same : Same mid after → Same before after
  still_same later t n = later (told_on t) n ∙ same t n

  pub grew_both : Grows mid after → Grows before after
  grew_both later = record {
    tells = later.tells ∙ grows.tells;
    loads = λ name. let a = grows.loads name in let b = later.loads name in omega (arith, a, b);
    saves = λ name. let a = grows.saves name in let b = later.saves name in omega (arith, a, b);
  }

  -- a count that rose in the second load rose in both
  pub failed_in_both : (name : List ℕ) → LoadFailed mid after name → LoadFailed before after name
  failed_in_both name rose = let grew = grows.loads name in omega (arith, rose, grew)
