-- Items one after another, each read in the state that those before it leave.
use Rattle.std.specs.Prelude.{◌≡◌, ℕ, zero, suc, List, [], ◌∷◌, ◌++◌, length, Result, Ok}
use Rattle.wasm_instr.specs.wasm_grammar.declared.fault.Stop.{Stop}
use Rattle.wasm_instr.specs.wasm_grammar.Grammar.{SpellsU32}
use Rattle.wasm_instr.specs.wasm_grammar.Reading.{Read, ◌>>=◌, u32_at, ended}

-- ---- the grammar

-- A text that spells a value in a state, where it stands before the rest of bytes that reach to
-- this end: values with places are told by where they stand.
abbrev pub Spelling : Type 0 → Type 0 → Type 1
Spelling S A = S → ℕ → A → List ℕ → List ℕ → Type 0

-- The text is the items one after another, each in the state that those before it leave.
abbrev pub AreInTurn : {S A : Type 0} → Spelling S A → (S → A → S) → S → ℕ → List A → List ℕ → List ℕ → Type 0
AreInTurn Item next state end [] text rest = text ≡ []
AreInTurn Item next state end (x ∷ xs) text rest =
    (first : List ℕ) × (others : List ℕ) × Item state end x first (others ++ rest)
    × AreInTurn Item next (next state x) end xs others rest × (text ≡ first ++ others)

-- The payload is a vector of such items (Core 5.1.3) and nothing else.
abbrev pub AreEntries : {S A : Type 0} → Spelling S A → (S → A → S) → S → ℕ → List A → List ℕ → Type 0
AreEntries Item next state end xs payload =
    (count : List ℕ) × (text : List ℕ) × SpellsU32 (length xs) count
    × AreInTurn Item next state end xs text [] × (payload ≡ count ++ text)

-- ---- reading

unfoldable pub turns_at : {S A : Type 0} → (S → Read A) → (S → A → S) → ℕ → S → Read (List A)
turns_at read next zero state end bytes = Ok ([], bytes)
turns_at read next (suc n) state end bytes = do
  first ← read state end bytes
  others ← turns_at read next n (next state first.0) end first.1
  Ok (first.0 ∷ others.0, others.1)

unfoldable pub entries_at : {S A : Type 0} → (S → Read A) → (S → A → S) → S → ℕ → List ℕ → Result (List A) Stop
entries_at read next state end bytes = do
  count ← u32_at end bytes
  items ← turns_at read next count.0 state end count.1
  ended end items.0 items.1

-- ---- the law

-- What is read is spelled so, and what is spelled so is read.
pub record IsPlacedReader {S A : Type 0} (Item : Spelling S A) (read : S → Read A) : Type 0 where
  pub found : (state : S) (end : ℕ) (bytes : List ℕ) (x : A) (rest : List ℕ) → read state end bytes ≡ Ok (x, rest) → (text : List ℕ) × Item state end x text rest × (bytes ≡ text ++ rest)
  pub again : (state : S) (end : ℕ) (x : A) (text rest : List ℕ) → Item state end x text rest → read state end (text ++ rest) ≡ Ok (x, rest)
