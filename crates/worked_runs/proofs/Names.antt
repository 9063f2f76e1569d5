-- Short names of ASCII are read: that their bytes are UTF-8 doesn't compute.
use Rattle.std.specs.Prelude.{◌≡◌, ℕ, zero, suc, ◌<◌, nat_lt, List, [], ◌∷◌, ◌++◌, length, slice_index, true, Ok, refl}
use Rattle.std.specs.List.{list_all}
use Rattle.std.proofs.Common.{arith}
use Rattle.std.proofs.lemmas.Str.{IsUtf8-from_ascii}
use Rattle.std.proofs.lemmas.Bool.{and_parts, ltb-true}
use Rattle.wasm_grammar.specs.Grammar.{SpellsU32}
use Rattle.wasm_grammar.specs.Reading.{name_at}
use Rattle.wasm_grammar.specs.ReaderLaws.{name_reader}

low_at : (bytes : List ℕ) → list_all (λ b. nat_lt b 128) bytes ≡ true → (i : ℕ) → slice_index bytes i < 128
low_at [] e zero = omega arith
low_at [] e (suc i) = omega arith
low_at (x ∷ xs) e zero = ltb-true x 128 (and_parts (nat_lt x 128) (list_all (λ b. nat_lt b 128) xs) e).0
low_at (x ∷ xs) e (suc i) = low_at xs (and_parts (nat_lt x 128) (list_all (λ b. nat_lt b 128) xs) e).1 i

one_byte : (n : ℕ) → n < 128 → SpellsU32 n (n ∷ [])
one_byte n small = record { spelled = record { within = omega arith; ends = small; tail = λ e. absurd (omega (arith, e)) }; value_is = omega (arith, small) }

-- A name of ASCII with fewer than 128 bytes is read, whatever follows it.
pub name_read : (end : ℕ) (name rest : List ℕ) → list_all (λ b. nat_lt b 128) name ≡ true → nat_lt (length name) 128 ≡ true → name_at end (length name ∷ name ++ rest) ≡ Ok (name, rest)
name_read end name rest ascii small =
    name_reader.again end name (length name ∷ name) rest (IsUtf8-from_ascii name (low_at name ascii), (length name ∷ [], name, one_byte (length name) (ltb-true (length name) 128 small), refl, refl))
