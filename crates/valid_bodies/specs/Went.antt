-- What the code's answers mean.
use Rattle.std.specs.Prelude.{◌≡◌, List, [], ◌∷◌, Option, Some, None, Bool, true, false}
use Rattle.valid_rules.specs.declared.types.Shape.{Shape}
use Rattle.wasm_types.specs.declared.value.ValType.{ValType}
use Rattle.valid_rules.specs.Reading.{Read, read, whole}

-- A step went on, to this, or there is nothing to go on to.
abbrev pub Went : {A : Type 0} → Option A → Bool → A → Type 0
Went o true new = o ≡ Some new
Went o false new = o ≡ None

-- No block is left open.
abbrev pub ended : Read → Bool
ended None = false
ended (Some []) = true
ended (Some (f ∷ fs)) = false

-- The reading of a body ends well, in a function with these results.
abbrev pub accepts : List ValType → List Shape → Bool
accepts results code = ended (read (whole results ∷ []) code)

-- The answer says whether it holds.
abbrev pub Decides : Bool → Type 0 → Type 0
Decides true P = P
Decides false P = P → ⊥
