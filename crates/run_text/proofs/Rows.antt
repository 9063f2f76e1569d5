-- One row of the memory more.
use Rattle.std.proofs.Common.{◌≡◌, ℕ, suc, ◌+◌, ◌-◌, ◌*◌, ◌<◌, List, ◌++◌, length, take, drop, ap, sym, ◌∙◌, arith}
use Rattle.std.proofs.lemmas.Grind.{common_steps}
use Rattle.std.proofs.lemmas.List.{append_assoc}
use Rattle.run_text.specs.Text.{row_text, rows_from}

later : (a b n : ℕ) (xs : List ℕ) → n ≡ a + b → drop a (drop b xs) ≡ drop n xs
later a b n xs e = grind (arith, common_steps)

pub all_of : (n : ℕ) (xs : List ℕ) → take (length xs - n) (drop n xs) ≡ drop n xs
all_of n xs = grind (arith, common_steps)

unfolded : (n m at next : ℕ) (bytes rest : List ℕ) → n ≡ suc m → next ≡ at + 16 → rest ≡ drop 16 bytes → rows_from n at bytes ≡ row_text at (take 16 bytes) ++ rows_from m next rest
unfolded n m at next bytes rest e later behind =
    ap (λ k. rows_from k at bytes) e ∙ ap (λ k. row_text at (take 16 bytes) ++ rows_from m k (drop 16 bytes)) (sym later) ∙ ap (λ r. row_text at (take 16 bytes) ++ rows_from m next r) (sym behind)

pub one_row : (to all : List ℕ) (count k : ℕ) (memory : List ℕ) → k < count → to ++ rows_from (count - k) (k * 16) (drop (k * 16) memory) ≡ all
    → (to ++ row_text (k * 16) (take 16 (drop (k * 16) memory))) ++ rows_from (count - (k + 1)) ((k + 1) * 16) (drop ((k + 1) * 16) memory) ≡ all
one_row to all count k memory within so_far =
    let behind : drop ((k + 1) * 16) memory ≡ drop 16 (drop (k * 16) memory) = sym (later 16 (k * 16) ((k + 1) * 16) memory (omega arith)) in
    append_assoc to (row_text (k * 16) (take 16 (drop (k * 16) memory))) (rows_from (count - (k + 1)) ((k + 1) * 16) (drop ((k + 1) * 16) memory))
    ∙ ap (λ xs. to ++ xs) (sym (unfolded (count - k) (count - (k + 1)) (k * 16) ((k + 1) * 16) (drop (k * 16) memory) (drop ((k + 1) * 16) memory) (omega arith) (omega arith) behind))
    ∙ so_far
