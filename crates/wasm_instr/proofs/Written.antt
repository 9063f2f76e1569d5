-- Writing the immediates.
use Rattle.std.proofs.Common.{◌≡◌, ℕ, suc, ◌^◌, ◌<◌, ◌≤◌, List, length, get_or, refl, ap, ◌∙◌, arith, ℤ, pos, inl, inr}
use Rattle.std.specs.Prelude.{◌-ℤ◌, IsTrue}
use Rattle.std.proofs.lemmas.Int.{ints}
use Rattle.std.proofs.lemmas.Bool.{lt-ltb, le-ltb, cases_lt}
use Rattle.wasm_grammar.specs.leb_codec.Spelling.{magnitude, signed_value, last_byte, is_allowed, EndsOnce}
use Rattle.wasm_grammar.specs.leb_codec.declared.form.Form.TheVariants.{S33}
use Rattle.wasm_grammar.proofs.leb_codec_lemmas.Values.{magnitude_below, magnitude_split}
use Rattle.wasm_grammar.specs.Grammar.{SpellsS33, SpellsS64}
use Rattle.wasm_grammar.specs.Writers.{Appends, Writes}

-- an s33 is an s64
wider : (n : ℤ) (text : List ℕ) → SpellsS33 n text → SpellsS64 n text
wider n text s = record {
  spelled = record { within = omega (arith, s.spelled.within); ends = s.spelled.ends; tail = λ e. absurd (omega (arith, s.spelled.within, e)) };
  value_is = s.value_is;
}

last_small : (n : ℕ) (text : List ℕ) → n < 2 ^ 32 → EndsOnce text → length text ≡ suc 4 → pos n ≡ signed_value text → IsTrue (is_allowed S33 (last_byte text))
last_small n text fits ends five is =
    elim (cases_lt (last_byte text) 64) [
      | inl low ↦
          let value : pos n ≡ pos (magnitude text) = is ∙ (rw (lt-ltb (last_byte text) 64 low) refl) in
          let split = magnitude_split 4 text five in
          let at : last_byte text ≡ get_or text 4 0 = ap (λ k. get_or text k 0) (omega (arith, five)) in
          let small : last_byte text < 16 = omega (arith, ints, value, split, at, low, fits) in
          rw (lt-ltb (last_byte text) 16 small) refl
      | inr high ↦
          let value : pos n ≡ pos (magnitude text) -ℤ pos (128 ^ length text) = is ∙ (rw (le-ltb (last_byte text) 64 high) refl) in
          absurd (omega (arith, ints, value, magnitude_below text))
    ]

-- the shortest s64 of a u32 is its shortest s33
pub s33_written : (n : ℕ) (old new : List ℕ) → n < 2 ^ 32 → Appends (SpellsS64 (pos n)) old new → Writes (SpellsS33 (pos n)) old new
s33_written n old new fits a = λ some s.
    let few : length a.text ≤ length some = a.least some (wider (pos n) some s) in
    record {
      text = a.text;
      spells = record {
        spelled = record { within = omega (arith, few, s.spelled.within); ends = a.spells.spelled.ends; tail = λ e. last_small n a.text fits a.spells.spelled.ends e a.spells.value_is };
        value_is = a.spells.value_is;
      };
      parts = a.parts;
      least = λ other o. a.least other (wider (pos n) other o);
    }
