-- Worked numbers: where data stand at 100 and slots at 7, and where they stand so high that a sum passes 2^32.
use Rattle.std.specs.Prelude.{◌≡◌, [], ◌∷◌, ◌^◌, ◌-◌, refl}
use Rattle.shared_laws.specs.Placed.{datum_number, slot_number}

offset_worked : datum_number (9 ∷ 100 ∷ 7 ∷ []) 20 ≡ 120
offset_worked = refl

slot_worked : slot_number (9 ∷ 100 ∷ 7 ∷ []) 2 ≡ 9
slot_worked = refl

-- an address with a negative addend is its offset modulo 2^32, and so is the sum
negative_worked : datum_number (9 ∷ 100 ∷ 7 ∷ []) (2 ^ 32 - 4) ≡ 96
negative_worked = refl
