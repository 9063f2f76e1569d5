-- The types of loads and stores (Core 3.3.7), by their opcodes (5.4.6).
use Rattle.std.specs.Prelude.{ℕ, ◌-◌, List, [], ◌∷◌, Option, Some, slice_get, Bool, true, false, if◌then◌else◌, nat_le, nat_lt}
use Rattle.wasm_types.specs.declared.value.ValType.{ValType}
use Rattle.wasm_types.specs.declared.value.ValType.TheVariants.{I32, I64, F32, F64}
use Rattle.valid_rules.specs.declared.types.Shape.{Shape}
use Rattle.valid_rules.specs.declared.types.Shape.TheVariants.{Untyped}
use Rattle.valid_bodies.specs.Numeric.{to, one}

-- The type of what is loaded or stored, and the exponent of its width in bytes as a power of two.
pub record Width : Type 0 where
  pub kind : ValType
  pub most : ℕ

abbrev pub wide : ValType → ℕ → Option Width
wide t n = Some (record { kind = t; most = n })

-- From 28 on: the four types whole, then i32 and i64 of 8, 16 and 32 bits, each signed and unsigned.
abbrev pub loads : List (Option Width)
loads =
    wide I32 2 ∷ wide I64 3 ∷ wide F32 2 ∷ wide F64 3
    ∷ wide I32 0 ∷ wide I32 0 ∷ wide I32 1 ∷ wide I32 1
    ∷ wide I64 0 ∷ wide I64 0 ∷ wide I64 1 ∷ wide I64 1 ∷ wide I64 2 ∷ wide I64 2 ∷ []

-- From 36 on: the four types whole, then i32 and i64 of 8, 16 and 32 bits.
abbrev pub stores : List (Option Width)
stores =
    wide I32 2 ∷ wide I64 3 ∷ wide F32 2 ∷ wide F64 3
    ∷ wide I32 0 ∷ wide I32 1
    ∷ wide I64 0 ∷ wide I64 1 ∷ wide I64 2 ∷ []

-- The alignment may not be greater than the width.
abbrev pub aligned : ℕ → (ValType → Shape) → Option (Option Width) → Shape
aligned align f (Some (Some w)) = if nat_le align w.most then f w.kind else Untyped
aligned align f _ = Untyped

-- A load takes an address; a store takes it and a value. Both need a memory.
unfoldable pub access : Bool → ℕ → ℕ → Shape
access false op align = Untyped
access true op align =
    if nat_lt op 0x28 then Untyped else if nat_lt op 0x36 then aligned align (λ t. one I32 t) (slice_get loads (op - 0x28))
    else if nat_lt op 0x3f then aligned align (λ t. to (I32 ∷ t ∷ []) []) (slice_get stores (op - 0x36)) else Untyped
