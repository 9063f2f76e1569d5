-- A body is read to its end, and no block is left open, exactly where it has a typing.
use Rattle.std.specs.Prelude.{◌≡◌, List, [], ◌∷◌, Some}
use Rattle.wasm_types.specs.declared.value.ValType.{ValType}
use Rattle.valid_rules.specs.declared.types.Shape.{Shape}
use Rattle.valid_rules.specs.Leads.{IsTyped}
use Rattle.valid_rules.specs.Reading.{read, whole}

abbrev pub Exact : Type 0
Exact = (results : List ValType) (code : List Shape) →
    (read (whole results ∷ []) code ≡ Some [] → IsTyped results code) × (IsTyped results code → read (whole results ∷ []) code ≡ Some [])
