-- Numbers of few bytes, and the entry behind them.
use Rattle.std.proofs.Common.{◌≡◌, ℕ, ◌+◌, ◌-◌, ◌*◌, ◌%◌, ◌<◌, ◌≤◌, true, List, [], ◌∷◌, length, take, drop, get_or, Result, Ok, refl, sym, ap, arith}
use Rattle.std.proofs.lemmas.List.{take_all}
use Rattle.std.proofs.lemmas.Bool.{lt-ltb, le-ltb}
use Rattle.wasm_grammar.specs.leb_codec.Reading.{number_at, end_of, end_within}
use Rattle.wasm_grammar.specs.declared.fault.Stop.{Stop}
use Rattle.wasm_grammar.specs.Reading.{byte_at, u32_at}
use Rattle.reloc_section.specs.Kinds.{is_read}
use Rattle.reloc_section.specs.Relocs.{reloc_at}
use Rattle.reloc_section.specs.Short.{with_addend}

-- what is left behind so many bytes, as a slice has it
behind_is : (n k : ℕ) (bytes : List ℕ) → length bytes ≤ k → (let r : Result (ℕ × List ℕ) Stop = Ok (n, bytes) in r ≡ Ok (n, take k bytes))
behind_is n k bytes le = ap (λ (t : List ℕ). let r : Result (ℕ × List ℕ) Stop = Ok (n, t) in r) (sym (take_all k bytes le))

-- what four bytes at the front say, by the first of them that is below 128
pub record InFour (a b c d : ℕ) (bytes : List ℕ) (said : Result (ℕ × List ℕ) Stop) : Type 0 where
  pub one : (n : ℕ) → a < 128 → n ≡ a % 128 → said ≡ Ok (n, take (length bytes - 1) (drop 1 bytes))
  pub two : (n : ℕ) → 128 ≤ a → b < 128 → n ≡ a % 128 + b % 128 * 128 → said ≡ Ok (n, take (length bytes - 2) (drop 2 bytes))
  pub three : (n : ℕ) → 128 ≤ a → 128 ≤ b → c < 128 → n ≡ a % 128 + b % 128 * 128 + c % 128 * 16384 → said ≡ Ok (n, take (length bytes - 3) (drop 3 bytes))
  pub four : (n : ℕ) → 128 ≤ a → 128 ≤ b → 128 ≤ c → d < 128 → n ≡ a % 128 + b % 128 * 128 + c % 128 * 16384 + d % 128 * 2097152
      → said ≡ Ok (n, take (length bytes - 4) (drop 4 bytes))

in_list : (end a b c d : ℕ) (rest : List ℕ) → InFour a b c d (a ∷ b ∷ c ∷ d ∷ rest) (u32_at end (a ∷ b ∷ c ∷ d ∷ rest))
unfolding u32_at number_at end_of end_within
in_list end a b c d rest = record {
  one = λ n l is. let same : a % 128 + 128 * 0 ≡ n = omega (arith, is) in rw (lt-ltb a 128 l, same) (behind_is n _ (b ∷ c ∷ d ∷ rest) (omega arith));
  two = λ n h l is. let same : a % 128 + 128 * (b % 128 + 128 * 0) ≡ n = omega (arith, is) in rw (le-ltb a 128 h, lt-ltb b 128 l, same) (behind_is n _ (c ∷ d ∷ rest) (omega arith));
  three = λ n h i l is.
      let same : a % 128 + 128 * (b % 128 + 128 * (c % 128 + 128 * 0)) ≡ n = omega (arith, is) in
      rw (le-ltb a 128 h, le-ltb b 128 i, lt-ltb c 128 l, same) (behind_is n _ (d ∷ rest) (omega arith));
  four = λ n h i j l is.
      let same : a % 128 + 128 * (b % 128 + 128 * (c % 128 + 128 * (d % 128 + 128 * 0))) ≡ n = omega (arith, is) in
      rw (le-ltb a 128 h, le-ltb b 128 i, le-ltb c 128 j, lt-ltb d 128 l, same) (behind_is n _ rest (omega arith));
}

pub in_four : (end : ℕ) (bytes : List ℕ) → 4 ≤ length bytes → InFour (get_or bytes 0 0) (get_or bytes 1 0) (get_or bytes 2 0) (get_or bytes 3 0) bytes (u32_at end bytes)
in_four end [] there = absurd (omega arith)
in_four end (a ∷ []) there = absurd (omega arith)
in_four end (a ∷ b ∷ []) there = absurd (omega arith)
in_four end (a ∷ b ∷ c ∷ []) there = absurd (omega arith)
in_four end (a ∷ b ∷ c ∷ d ∷ rest) there = in_list end a b c d rest

-- the entry, where its type is read and its numbers are there
pub entry_is : (end kind offset index : ℕ) (bytes one two three : List ℕ) → byte_at end bytes ≡ Ok (kind, one) → is_read kind ≡ true
    → u32_at end one ≡ Ok (offset, two) → u32_at end two ≡ Ok (index, three) → reloc_at end bytes ≡ with_addend kind offset index end three
unfolding reloc_at
entry_is end kind offset index bytes one two three front known first second = rw (front, known, first, second) refl

pub front_is : (end : ℕ) (bytes : List ℕ) → 1 ≤ length bytes → byte_at end bytes ≡ Ok (get_or bytes 0 0, take (length bytes - 1) (drop 1 bytes))
front_is end [] there = absurd (omega arith)
front_is end (a ∷ rest) there = behind_is a _ rest (omega arith)
