-- What windows hold, as the numbers of instructions.
use Rattle.std.proofs.Common.{◌≡◌, ℕ, ◌-◌, ◌≤◌, ◌<◌, length, Bool, true, false, refl, sym, ap, ◌∙◌, ⊎_elim, arith}
use Rattle.std.specs.Prelude.{◌^◌, ◌==◌, ◌||◌, IsTrue, nat_lt, nat_le, cond, ◌-ℤ◌, ℤ, pos, negsuc, ◌<ℤ◌, ◌≤ℤ◌, neg_ℤ}
use Rattle.std.proofs.lemmas.Bool.{eqb-true, or_cases, or_left, ltb-true, ltb-false, lt-ltb}
use Rattle.std.proofs.lemmas.Int.{ints}
use Rattle.std.proofs.Math.Nat.{mod-lt}
use Rattle.leb_codec.specs.declared.form.Form.TheVariants.{U32, S32, S33}
use Rattle.leb_codec.specs.Shortest.{u32_padded, s32_padded}
use Rattle.leb_codec.specs.Spelling.{Spells, magnitude, signed_value, last_byte}
use Rattle.leb_codec.proofs.Computed.{u32_padded_spells, u32_padded_length, s32_padded_spelled}
use Rattle.body_windows.specs.declared.immediate.ImmediateKind.TheVariants.{FunctionIndex, TypeIndex, TableIndex, GlobalIndex, MemoryOffset, Constant}
use Rattle.body_windows.specs.Immediates.{may_stand}
use Rattle.made_symbols.specs.declared.mode.Mode.{Mode}
use Rattle.reloc_apply.specs.declared.window.Form.{Form}
use Rattle.reloc_apply.specs.declared.window.Form.TheVariants.{Unsigned5, Signed5}
use Rattle.reloc_apply.specs.Windows.{bits32, value, signed32}
use Rattle.link_worlds.specs.link_rules.Program.{Named}
use Rattle.link_worlds.specs.link_rules.Values.{Layout, named_window, form_of}
use Rattle.link_worlds.specs.Names.{number_in}

pub bits_small : (z : ℤ) → bits32 z < 2 ^ 32
bits_small (pos n) = mod-lt n (omega arith)
bits_small (negsuc n) = omega arith

pub number_small : (mode : Mode) (l : Layout) (n : Named) → number_in mode l n < 2 ^ 32
number_small mode l n = bits_small (value (named_window mode l n))

-- a number without a sign
pub as_u32 : (n : ℕ) → n < 2 ^ 32 → Spells magnitude U32 (u32_padded n) n
as_u32 n h = u32_padded_spells n h

-- the index of a block's type is a number with a sign, of 33 bits
pub as_s33 : (n : ℕ) → n < 2 ^ 32 → Spells signed_value S33 (u32_padded n) (pos n)
as_s33 n h =
    let s = u32_padded_spells n h in
    let low : last_byte (u32_padded n) < 16 = ltb-true (last_byte (u32_padded n)) 16 (s.spelled.tail (u32_padded_length n)) in
    record {
      spelled = record { within = s.spelled.within; ends = s.spelled.ends; tail = λ e. or_left (nat_lt (last_byte (u32_padded n)) 16) (nat_le 112 (last_byte (u32_padded n))) (lt-ltb (last_byte (u32_padded n)) 16 low) };
      value_is = ap pos s.value_is ∙ sym (ap (λ b. cond b (pos (magnitude (u32_padded n))) (pos (magnitude (u32_padded n)) -ℤ pos (128 ^ length (u32_padded n)))) (lt-ltb (last_byte (u32_padded n)) 64 (omega (arith, low))));
    }

pub signed_range : (n : ℕ) → (neg_ℤ (pos (2 ^ 31)) ≤ℤ signed32 n) × (signed32 n <ℤ pos (2 ^ 31))
signed_range n = onto (nat_lt n (2 ^ 31)) refl
  where
    onto : (b : Bool) → nat_lt n (2 ^ 31) ≡ b → (neg_ℤ (pos (2 ^ 31)) ≤ℤ cond b (pos n) (negsuc (2 ^ 32 - 1 - n))) × (cond b (pos n) (negsuc (2 ^ 32 - 1 - n)) <ℤ pos (2 ^ 31))
    onto true e = let k : n < 2 ^ 31 = ltb-true n (2 ^ 31) e in (omega (arith, ints, k), omega (arith, ints, k))
    onto false e = let k : 2 ^ 31 ≤ n = ltb-false n (2 ^ 31) e in (omega (arith, ints, k), omega (arith, ints, k))

-- a constant
pub as_s32 : (n : ℕ) → n < 2 ^ 32 → Spells signed_value S32 (s32_padded (signed32 n)) (signed32 n)
as_s32 n h = let r = signed_range n in s32_padded_spelled (signed32 n) r.0 r.1

-- ---- forms, by what they stand on

form_by : (kind k : ℕ) (f : Form) → form_of k ≡ f → (kind == k) ≡ true → form_of kind ≡ f
form_by kind k f e t = ap form_of (eqb-true kind k t) ∙ e

pub form_function : (kind : ℕ) → IsTrue (may_stand kind FunctionIndex) → form_of kind ≡ Unsigned5
form_function kind t = form_by kind 0 Unsigned5 refl t

pub form_type : (kind : ℕ) → IsTrue (may_stand kind TypeIndex) → form_of kind ≡ Unsigned5
form_type kind t = form_by kind 6 Unsigned5 refl t

pub form_table : (kind n : ℕ) → IsTrue (may_stand kind (TableIndex n)) → form_of kind ≡ Unsigned5
form_table kind n t = form_by kind 20 Unsigned5 refl t

pub form_global : (kind : ℕ) → IsTrue (may_stand kind GlobalIndex) → form_of kind ≡ Unsigned5
form_global kind t = form_by kind 7 Unsigned5 refl t

pub form_offset : (kind : ℕ) → IsTrue (may_stand kind MemoryOffset) → form_of kind ≡ Unsigned5
form_offset kind t = form_by kind 3 Unsigned5 refl t

pub form_constant : (kind : ℕ) → IsTrue (may_stand kind Constant) → form_of kind ≡ Signed5
form_constant kind t =
    ⊎_elim
    (λ a. ⊎_elim
    (λ b. ⊎_elim (form_by kind 1 Signed5 refl) (form_by kind 4 Signed5 refl) (or_cases (kind == 1) (kind == 4) b))
    (form_by kind 11 Signed5 refl)
    (or_cases ((kind == 1) || (kind == 4)) (kind == 11) a))
    (form_by kind 12 Signed5 refl)
    (or_cases ((kind == 1) || (kind == 4) || (kind == 11)) (kind == 12) t)
