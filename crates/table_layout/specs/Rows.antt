-- Worked examples.
use Rattle.std.specs.Prelude.{◌≡◌, [], ◌∷◌, Some, None, Err, pos}
use Rattle.std.proofs.Common.{refl}
use Rattle.wl_base.specs.declared.fault.What.TheVariants.{TableSize}
use Rattle.wl_base.specs.declared.layout_error.LayoutError.TheVariants.{Overflow}
use Rattle.table_layout.specs.Slots.{slot_in, table_overflow, slots_of}

-- Of three functions the second has slot 2, where the first slot is 1.
second : slot_in 1 (3 ∷ 4 ∷ 9 ∷ []) 4 ≡ Some 2
second = refl

absent : slot_in 1 (3 ∷ 4 ∷ 9 ∷ []) 5 ≡ None
absent = refl

-- The end may be 2 ^ 32 - 1, and no more.
last_end : table_overflow 4294967293 2 ≡ None
last_end = refl

end_passes : slots_of 4294967294 (3 ∷ 4 ∷ []) ≡ Err (Overflow TableSize (pos 4294967296))
unfolding slots_of
end_passes = refl
