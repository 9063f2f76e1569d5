-- The host's writes, one after another.
use Rattle.std.proofs.Common.{◌≡◌, ℕ, ◌+◌, ◌≤◌, Bool, true, false, List, [], ◌∷◌, ◌++◌, length, take, drop, None, refl, ap, ◌∙◌, arith, length-drop, length-take-le, length-append}
use Rattle.std.proofs.lemmas.Bool.Decides.{nat_tests}
use Rattle.std.specs.Prelude.{nat_le, ◌&&◌, if◌then◌else◌}
use Rattle.run_rules.specs.declared.session.MemWrite.{MemWrite}
use Rattle.run_rules.specs.Memory.{written}
use Rattle.run_rules.specs.Steps.{all_written}
use Rattle.run_model.specs.Writes.{all_fit}

-- what is written keeps the length
written_long : (at : ℕ) (bytes memory : List ℕ) → at + length bytes ≤ length memory → length (written at bytes memory) ≡ length memory
unfolding written
written_long at bytes memory fits =
    let front = length-take-le at memory (omega arith) in
    let back = length-drop (at + length bytes) memory in
    length-append (take at memory ++ bytes) (drop (at + length bytes) memory)
    ∙ ap (λ n. n + length (drop (at + length bytes) memory)) (length-append (take at memory) bytes)
    ∙ omega (arith, front, back)

onto_rest : (b : Bool) (w : MemWrite) (ws : List MemWrite) (memory : List ℕ) → b ≡ true → (if b then all_written ws (written w.address w.bytes memory) else None) ≡ all_written ws (written w.address w.bytes memory)
onto_rest true w ws memory e = refl
onto_rest false w ws memory e = absurd (grind arith)

pub first_fits : (w : MemWrite) (ws : List MemWrite) (room : ℕ) → all_fit room (w ∷ ws) ≡ true → w.address + length w.bytes ≤ room
first_fits w ws room h = grind (arith, nat_tests)

pub others_fit : (w : MemWrite) (ws : List MemWrite) (memory : List ℕ) → all_fit (length memory) (w ∷ ws) ≡ true → all_fit (length (written w.address w.bytes memory)) ws ≡ true
others_fit w ws memory h =
    let long = written_long w.address w.bytes memory (first_fits w ws (length memory) h) in
    let rest : all_fit (length memory) ws ≡ true = grind (arith, nat_tests) in
    ap (λ n. all_fit n ws) long ∙ rest

pub writes_first : (w : MemWrite) (ws : List MemWrite) (memory : List ℕ) → all_fit (length memory) (w ∷ ws) ≡ true → all_written (w ∷ ws) memory ≡ all_written ws (written w.address w.bytes memory)
writes_first w ws memory h =
    let fits : nat_le (w.address + length w.bytes) (length memory) ≡ true = grind (arith, nat_tests) in
    onto_rest (nat_le (w.address + length w.bytes) (length memory)) w ws memory fits

pub refused : (ws : List MemWrite) (memory : List ℕ) → all_fit (length memory) ws ≡ false → all_written ws memory ≡ None
refused [] memory h = absurd (grind arith)
refused (w ∷ ws) memory h = by (nat_le (w.address + length w.bytes) (length memory)) refl h (refused ws (written w.address w.bytes memory))
  where
    by : (b : Bool) → nat_le (w.address + length w.bytes) (length memory) ≡ b → (b && all_fit (length memory) ws) ≡ false → (all_fit (length (written w.address w.bytes memory)) ws ≡ false → all_written ws (written w.address w.bytes memory) ≡ None) → (if b then all_written ws (written w.address w.bytes memory) else None) ≡ None
    by false e f rest = refl
    by true e f rest =
        let fits : w.address + length w.bytes ≤ length memory = grind (arith, nat_tests) in
        rest (ap (λ n. all_fit n ws) (written_long w.address w.bytes memory fits) ∙ f)

pub ruleset writing = (first_fits, others_fit, writes_first)
