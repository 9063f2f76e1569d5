-- A block type that is read is spelled so, and one that is spelled so is read.
use Rattle.std.proofs.Common.{◌≡◌, ℕ, ◌-◌, ◌+◌, ◌*◌, ◌%◌, ◌<◌, ◌≤◌, false, eqb, List, [], ◌∷◌, ◌++◌, length, Ok, Err, refl, sym, ap, subst, ◌∙◌, arith, ℤ, pos, negsuc, inl, inr, ◌^◌, to_z, of_z, w64}
use Rattle.std.specs.Prelude.{◌-ℤ◌, ◌⊎◌, ◌||◌, IsTrue}
use Rattle.std.specs.Int.{FitsUnsignedBits}
use Rattle.std.proofs.lemmas.Bool.{ne_eqb, le-leb, lt-ltb, le-ltb, cases_lt, lt-leb}
use Rattle.std.proofs.lemmas.Int.{ints}
use Rattle.wasm_grammar.specs.leb_codec.Spelling.{EndsOnce, signed_value, magnitude, last_byte, is_allowed}
use Rattle.wasm_grammar.specs.leb_codec.declared.form.Form.TheVariants.{U32, S33}
use Rattle.leb_codec.proofs.Values.{u32_fits, magnitude_below}
use Rattle.wasm_grammar.specs.declared.fault.Stop.TheVariants.{Broken}
use Rattle.wasm_grammar.specs.Grammar.{SpellsByte, SpellsS33}
use Rattle.wasm_grammar.specs.Readers.{Takes, IsReader}
use Rattle.wasm_grammar.specs.Reading.{byte_at, s33_at}
use Rattle.wasm_grammar.specs.ReaderLaws.{bind_ok, ok_is, byte_reader, s33_reader, branch, never, is_byte}
use Rattle.wasm_types.specs.declared.value.ValType.{ValType}
use Rattle.wasm_types.specs.declared.value.ValType.TheVariants.{I32, I64, F32, F64}
use Rattle.wasm_types.specs.Types.{val_byte, val_type_of}
use Rattle.wasm_types.specs.TypeLaws.{val_type_found}
use Rattle.wasm_instr.specs.Classes.{between}
use Rattle.wasm_instr.specs.Instrs.{SpellsBlockKind}
use Rattle.wasm_instr.specs.Reading.{index_of, index_kind_at, value_kind, kind_of, block_kind_at}
use Rattle.wasm_instr.specs.declared.instr.BlockKind.{BlockKind}
use Rattle.wasm_instr.specs.declared.instr.BlockKind.TheVariants as blocks

index_found : (end : ℕ) (bytes : List ℕ) (k : BlockKind) (rest : List ℕ) → index_kind_at end bytes ≡ Ok (k, rest) → Takes (SpellsBlockKind k) bytes rest
unfolding index_kind_at
index_found end bytes k rest e =
    let a = bind_ok (s33_at end bytes) (λ n. index_of (end - length bytes) n.0 n.1) (k, rest) e in
    natural a.0.0 a.0.1 (s33_reader.found end bytes a.0.0 a.0.1 a.1) a.2
  where
    natural : (n : ℤ) (after : List ℕ) → Takes (SpellsS33 n) bytes after → index_of (end - length bytes) n after ≡ Ok (k, rest) → Takes (SpellsBlockKind k) bytes rest
    natural (pos n) after t f = subst (λ (p : BlockKind × List ℕ). Takes (SpellsBlockKind p.0) bytes p.1) (ok_is f) (record { text = t.text; spells = t.spells; parts = t.parts })
    natural (negsuc n) after t f = never _ (k, rest) f

kind_found : (byte end : ℕ) (bytes mid : List ℕ) (k : BlockKind) (rest : List ℕ) → Takes (SpellsByte byte) bytes mid → kind_of byte end bytes mid ≡ Ok (k, rest) → Takes (SpellsBlockKind k) bytes rest
kind_found byte end bytes mid k rest front e =
    branch (eqb byte 0x40) (Ok (blocks.Empty, mid)) _ (k, rest) (λ q f.
    let t = is_byte byte 0x40 bytes mid q front in
    subst (λ (p : BlockKind × List ℕ). Takes (SpellsBlockKind p.0) bytes p.1) (ok_is f) (record { text = t.text; spells = t.spells; parts = t.parts })) (
    branch (between 0x41 0x7f byte) (value_kind (end - length bytes) byte mid) _ (k, rest) (λ q f.
    let a = bind_ok (val_type_of (end - length bytes) byte) (λ t. Ok (blocks.Value t, mid)) (k, rest) f in
    let is : byte ≡ val_byte a.0 = val_type_found (end - length bytes) byte a.0 a.1 in
    let t = subst (λ (n : ℕ). Takes (SpellsByte n) bytes mid) is front in
    subst (λ (p : BlockKind × List ℕ). Takes (SpellsBlockKind p.0) bytes p.1) (ok_is a.2) (record { text = t.text; spells = t.spells; parts = t.parts })) (
    index_found end bytes k rest)) e

-- a spelling of a number from 0 on does not begin with a byte from 40 to 7F
record Begins (text : List ℕ) : Type 0 where
  pub first : ℕ
  pub others : List ℕ
  pub text_is : text ≡ first ∷ others
  pub outside : (first < 0x40) ⊎ (0x80 ≤ first)

natural_begins : (n : ℕ) (text : List ℕ) → EndsOnce text → pos n ≡ signed_value text → Begins text
natural_begins n [] ends is = absurd ends
natural_begins n (b ∷ []) ends is =
    elim (cases_lt b 0x40) [
      | inl low ↦ record { first = b; others = []; text_is = refl; outside = inl low }
      | inr high ↦
          let value : pos n ≡ pos (b % 128 + 128 * 0) -ℤ pos 128 = is ∙ (rw (le-ltb b 64 high) refl) in
          absurd (omega (arith, ints, value, ends))
    ]
natural_begins n (b ∷ c ∷ text) ends is = record { first = b; others = c ∷ text; text_is = refl; outside = inr ends.0 }

-- a number from 0 on that is an s33 is a u32
pub natural_fits : (n : ℕ) (text : List ℕ) → SpellsS33 (pos n) text → n < 2 ^ 32
natural_fits n text s =
    elim (cases_lt (last_byte text) 64) [
      | inl low ↦
          let value : pos n ≡ pos (magnitude text) = s.value_is ∙ (rw (lt-ltb (last_byte text) 64 low) refl) in
          let fits : magnitude text < 2 ^ 32 = u32_fits text (record { within = s.spelled.within; ends = s.spelled.ends; tail = λ e. small (last_byte text) low (s.spelled.tail e) }) in
          omega (arith, ints, value, fits)
      | inr high ↦
          let value : pos n ≡ pos (magnitude text) -ℤ pos (128 ^ length text) = s.value_is ∙ (rw (le-ltb (last_byte text) 64 high) refl) in
          absurd (omega (arith, ints, value, magnitude_below text))
    ]
  where
    small : (b : ℕ) → b < 64 → IsTrue (is_allowed S33 b) → IsTrue (is_allowed U32 b)
    small b low allowed =
        elim (cases_lt b 16) [
          | inl less ↦ rw (lt-ltb b 16 less) refl
          | inr more ↦
              let never : IsTrue (false || false) = subst IsTrue (rw (le-ltb b 16 more, lt-leb 112 b (omega arith)) refl) allowed in
              absurd cc
        ]

outside_kind : (byte end : ℕ) (bytes rest : List ℕ) → (byte < 0x40) ⊎ (0x80 ≤ byte) → kind_of byte end bytes rest ≡ index_kind_at end bytes
outside_kind byte end bytes rest (inl low) =
    rw (ne_eqb byte 0x40 (omega arith), lt-leb 0x41 byte (omega arith)) refl
outside_kind byte end bytes rest (inr high) =
    rw (ne_eqb byte 0x40 (omega arith), le-leb 0x41 byte (omega arith), lt-leb byte 0x7f (omega arith)) refl

val_byte_within : (t : ValType) (place : ℕ) (end : ℕ) (bytes rest : List ℕ) → kind_of (val_byte t) end bytes rest ≡ Ok (blocks.Value t, rest)
val_byte_within I32 place end bytes rest = refl
val_byte_within I64 place end bytes rest = refl
val_byte_within F32 place end bytes rest = refl
val_byte_within F64 place end bytes rest = refl

index_again : (end n : ℕ) (text rest : List ℕ) → SpellsS33 (pos n) text → index_kind_at end (text ++ rest) ≡ Ok (blocks.Index n, rest)
unfolding index_kind_at
index_again end n text rest s = rw (s33_reader.again end (pos n) text rest s) refl

kind_again : (end : ℕ) (k : BlockKind) (text rest : List ℕ) → SpellsBlockKind k text → block_kind_at end (text ++ rest) ≡ Ok (k, rest)
unfolding block_kind_at
kind_again end blocks.Empty text rest s = rw s refl
kind_again end (blocks.Value t) text rest s = rw s (val_byte_within t 0 end (val_byte t ∷ rest) rest)
kind_again end (blocks.Index n) text rest s =
    let b = natural_begins n text s.spelled.ends s.value_is in
    let whole : text ++ rest ≡ b.first ∷ (b.others ++ rest) = ap (λ (t : List ℕ). t ++ rest) b.text_is in
    let out = outside_kind b.first end (b.first ∷ (b.others ++ rest)) (b.others ++ rest) b.outside in
    let read : index_kind_at end (text ++ rest) ≡ Ok (blocks.Index n, rest) = index_again end n text rest s in
    rw whole (out ∙ ap (index_kind_at end) (sym whole) ∙ read)

pub block_kind_reader : IsReader SpellsBlockKind block_kind_at
unfolding block_kind_at
block_kind_reader = record {
  found = λ end bytes k rest e.
      let a = bind_ok (byte_at end bytes) (λ byte. kind_of byte.0 end bytes byte.1) (k, rest) e in
      kind_found a.0.0 end bytes a.0.1 k rest (byte_reader.found end bytes a.0.0 a.0.1 a.1) a.2;
  again = kind_again;
}

-- what is no u32 is negative
pub index_broken : (end : ℕ) (bytes : List ℕ) (n : ℤ) (rest : List ℕ) → s33_at end bytes ≡ Ok (n, rest) → ¬ (FitsUnsignedBits 32 (to_z w64 (of_z w64 n))) → index_kind_at end bytes ≡ Err (Broken (end - length bytes))
unfolding index_kind_at
index_broken end bytes (negsuc n) rest e no_fit = rw e refl
index_broken end bytes (pos n) rest e no_fit =
    let t = s33_reader.found end bytes (pos n) rest e in
    let fits : n < 2 ^ 32 = natural_fits n t.text t.spells in
    let same : to_z w64 (of_z w64 (pos n)) ≡ pos n = omega (arith, ints, fits) in
    absurd (no_fit (subst (FitsUnsignedBits 32) (sym same) fits))
