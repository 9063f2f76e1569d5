-- What workers tell of runs of bodies.
use Rattle.std.specs.Prelude.{◌≡◌, ◌+◌, ℕ, List, [], ◌∷◌, length, Option, Some, None, slice_get, Result, Ok, Err, IfOk}
use Rattle.wasm_instr.specs.declared.body.Body.{Body}
use Rattle.wl_rows.specs.Ranges.{first_at}
use Rattle.valid_bodies.specs.declared.types.Context.{Context}
use Rattle.valid_bodies.specs.First.{IsFirstIn}

module _ {E : Type 0} where
  -- The first of these slots tells of the bodies from one place to another.
  abbrev pub IsTold : Context → List ℕ → List Body → ℕ → ℕ → List (Result (Option ℕ) E) → Type 0
  IsTold c functions bodies from to slots = (told : Result (Option ℕ) E) → slice_get slots 0 ≡ Some told → IfOk told (λ found. IsFirstIn c functions bodies from to found)

  -- The first body that is told, in order; an error where one stands before it.
  abbrev pub first_told : List (Result (Option ℕ) E) → Result (Option ℕ) E
  first_told [] = Ok None
  first_told (Ok None ∷ more) = first_told more
  first_told (Ok (Some k) ∷ more) = Ok (Some k)
  first_told (Err e ∷ more) = Err e

  -- Each of these slots tells of its worker's bodies. There is one for each worker.
  pub record AreTold (c : Context) (functions : List ℕ) (bodies : List Body) (cuts : List ℕ) (count : ℕ) (slots : List (Result (Option ℕ) E)) : Type 0 where
    pub long : length slots ≡ length cuts + 1
    pub each : (k : ℕ) (told : Result (Option ℕ) E) → slice_get slots k ≡ Some told
        → IfOk told (λ found. IsFirstIn c functions bodies (first_at cuts count k) (first_at cuts count (k + 1)) found)
