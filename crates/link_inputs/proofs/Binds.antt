-- Steps one after another.
use Rattle.std.proofs.Common.{◌≡◌, Result, Ok, Err, refl}
use Rattle.link_program.specs.wl_base.Choice.{◌>>=◌}

module _ {F : Type 0} where
  pub bind_same : {A B : Type 0} (r : Result A F) (f g : A → Result B F) → ((x : A) → f x ≡ g x) → (r >>= f) ≡ (r >>= g)
  bind_same (Ok x) f g same = same x
  bind_same (Err e) f g same = refl

  pub bind_two : {A B C D : Type 0} (r : Result A F) (s : Result B F) (c : A → B → C) (g : C → Result D F)
      → (r >>= λ a. s >>= λ b. g (c a b)) ≡ ((r >>= λ a. s >>= λ b. (let y : Result C F = Ok (c a b) in y)) >>= g)
  bind_two (Ok a) (Ok b) c g = refl
  bind_two (Ok a) (Err e) c g = refl
  bind_two (Err e) s c g = refl

  pub bind_ok : {A B : Type 0} (r : Result A F) (f : A → Result B F) (y : B) → (r >>= f) ≡ Ok y → (x : A) × (r ≡ Ok x) × (f x ≡ Ok y)
  bind_ok (Ok x) f y e = (x, refl, e)
  bind_ok (Err e) f y is = absurd cc

  pub ok_is : {A : Type 0} {x y : A} → (let r : Result A F = Ok x in r ≡ Ok y) → x ≡ y
  ok_is e = cc

  pub err_is : {A : Type 0} {x y : F} → (let r : Result A F = Err x in r ≡ Err y) → x ≡ y
  err_is e = cc
