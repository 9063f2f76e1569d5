-- Worked examples.
use Rattle.std.specs.Prelude.{◌≡◌, ℕ, ◌+◌, ◌^◌, pos, List, [], ◌∷◌, length, Err, refl}
use Rattle.std.proofs.Common.{arith}
use Rattle.std.proofs.lemmas.Bool.{lt-ltb}
use Rattle.object_rules.specs.wl_base.declared.fault.Fault.TheVariants.{TooLong}
use Rattle.object_rules.specs.reloc_section.declared.entry.Reloc.{Reloc}
use Rattle.object_file.specs.ObjectOf.{object_of}
use Rattle.object_file.specs.Sound.{WindowsStandIn}

-- An object that is too long is told by its length alone.
pub one_byte_too_many : (input : ℕ) (bytes : List ℕ) → length bytes ≡ 2 ^ 30 + 1 → object_of input bytes ≡ Err (TooLong input (length bytes))
unfolding object_of
one_byte_too_many input bytes len = rw (lt-ltb (2 ^ 30) (length bytes) (omega (arith, len))) refl

abbrev window : ℕ → Reloc
window offset = record { kind = 5; offset = offset; index = 0; addend = pos 0 }

-- Two windows fill eight bytes, and a window at 3 overlaps one at 0.
side_by_side : WindowsStandIn 0 8 (window 0 ∷ window 4 ∷ [])
side_by_side = (omega arith, (omega arith, omega arith))

they_overlap : WindowsStandIn 0 8 (window 0 ∷ window 3 ∷ []) → ⊥
they_overlap s = omega (arith, s.1.0)
