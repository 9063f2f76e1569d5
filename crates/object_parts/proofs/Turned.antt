-- Items that are read in turn are spelled in turn, and the other way round.
use Rattle.std.proofs.Common.{◌≡◌, ℕ, zero, suc, ◌-◌, List, [], ◌∷◌, ◌++◌, length, Result, Ok, Err, refl, sym, ap, subst, ◌∙◌, append_assoc}
use Rattle.std.proofs.lemmas.List.{append-nil}
use Rattle.wasm_instr.specs.wasm_grammar.declared.fault.Stop.{Stop}
use Rattle.wasm_instr.specs.wasm_grammar.Grammar.{SpellsU32}
use Rattle.wasm_instr.specs.wasm_grammar.Readers.{Takes, IsReader}
use Rattle.wasm_instr.specs.wasm_grammar.Reading.{Read, ◌>>=◌, u32_at, ended}
use Rattle.wasm_instr.specs.wasm_grammar.ReaderLaws.{bind_ok, ok_is, regrouped, u32_reader}
use Rattle.object_parts.specs.Turns.{Spelling, AreInTurn, AreEntries, turns_at, entries_at, IsPlacedReader}

ended_ok : {A : Type 0} (end : ℕ) (x y : A) (rest : List ℕ) → ended end x rest ≡ Ok y → (rest ≡ []) × (x ≡ y)
ended_ok end x y [] e = (refl, ok_is e)
ended_ok end x y (b ∷ rest) e = absurd cc

module _ {S A : Type 0} (Item : Spelling S A) (read : S → Read A) (next : S → A → S) (reader : IsPlacedReader Item read) where
  pub turns_found : (n : ℕ) (state : S) (end : ℕ) (bytes : List ℕ) (xs : List A) (rest : List ℕ) → turns_at read next n state end bytes ≡ Ok (xs, rest)
      → (text : List ℕ) × AreInTurn Item next state end xs text rest × (bytes ≡ text ++ rest) × (length xs ≡ n)
  unfolding turns_at
  turns_found zero state end bytes xs rest e =
      let both = ok_is e in
      subst (λ (p : List A × List ℕ). (text : List ℕ) × AreInTurn Item next state end p.0 text p.1 × (bytes ≡ text ++ p.1) × (length p.0 ≡ 0)) both ([], refl, refl, refl)
  turns_found (suc n) state end bytes xs rest e =
      let a = bind_ok (read state end bytes) (λ first. turns_at read next n (next state first.0) end first.1 >>= λ others. Ok (first.0 ∷ others.0, others.1)) (xs, rest) e in
      let b = bind_ok (turns_at read next n (next state a.0.0) end a.0.1) (λ others. Ok (a.0.0 ∷ others.0, others.1)) (xs, rest) a.2 in
      let first = reader.found state end bytes a.0.0 a.0.1 a.1 in
      let others = turns_found n (next state a.0.0) end a.0.1 b.0.0 b.0.1 b.1 in
      let here : Item state end a.0.0 first.0 (others.0 ++ b.0.1) = subst (Item state end a.0.0 first.0) others.2 first.1 in
      let whole : bytes ≡ (first.0 ++ others.0) ++ b.0.1 = first.2 ∙ ap (λ (t : List ℕ). first.0 ++ t) others.2 ∙ sym (append_assoc first.0 others.0 b.0.1) in
      subst (λ (p : List A × List ℕ). (text : List ℕ) × AreInTurn Item next state end p.0 text p.1 × (bytes ≡ text ++ p.1) × (length p.0 ≡ suc n)) (ok_is b.2)
      (first.0 ++ others.0, (first.0, others.0, here, others.1, refl), whole, ap suc others.3)

  pub turns_again : (state : S) (end : ℕ) (xs : List A) (text rest : List ℕ) → AreInTurn Item next state end xs text rest → turns_at read next (length xs) state end (text ++ rest) ≡ Ok (xs, rest)
  unfolding turns_at
  turns_again state end [] text rest s = rw s refl
  turns_again state end (x ∷ xs) text rest s =
      rw (regrouped s.0 s.1 text rest s.4, reader.again state end x s.0 (s.1 ++ rest) s.2, turns_again (next state x) end xs s.1 rest s.3) refl

  pub entries_found : (state : S) (end : ℕ) (payload : List ℕ) (xs : List A) → entries_at read next state end payload ≡ Ok xs → AreEntries Item next state end xs payload
  unfolding entries_at
  entries_found state end payload xs e =
      let a = bind_ok (u32_at end payload) (λ count. turns_at read next count.0 state end count.1 >>= λ items. ended end items.0 items.1) xs e in
      let b = bind_ok (turns_at read next a.0.0 state end a.0.1) (λ items. ended end items.0 items.1) xs a.2 in
      let d = ended_ok end b.0.0 xs b.0.1 b.2 in
      let count = u32_reader.found end payload a.0.0 a.0.1 a.1 in
      let items = turns_found a.0.0 state end a.0.1 b.0.0 b.0.1 b.1 in
      let counted : SpellsU32 (length b.0.0) count.text = subst (λ n. SpellsU32 n count.text) (sym items.3) count.spells in
      let last : AreInTurn Item next state end b.0.0 items.0 [] = subst (AreInTurn Item next state end b.0.0 items.0) d.0 items.1 in
      let all : a.0.1 ≡ items.0 = items.2 ∙ ap (λ (t : List ℕ). items.0 ++ t) d.0 ∙ append-nil items.0 in
      subst (λ (ys : List A). AreEntries Item next state end ys payload) d.1
      (count.text, items.0, counted, last, count.parts ∙ ap (λ (t : List ℕ). count.text ++ t) all)

  pub entries_again : (state : S) (end : ℕ) (payload : List ℕ) (xs : List A) → AreEntries Item next state end xs payload → entries_at read next state end payload ≡ Ok xs
  unfolding entries_at
  entries_again state end payload xs s =
      let count : u32_at end (s.0 ++ s.1) ≡ Ok (length xs, s.1) = u32_reader.again end (length xs) s.0 s.1 s.2 in
      let items : turns_at read next (length xs) state end s.1 ≡ Ok (xs, []) = ap (turns_at read next (length xs) state end) (sym (append-nil s.1)) ∙ turns_again state end xs s.1 [] s.3 in
      rw (s.4, count, items) refl
