-- What is written over a part of a slice.
use Rattle.std.proofs.Common.{◌≡◌, ℕ, ◌+◌, List, ◌++◌, length, take, drop, sym, ap, ◌∙◌, append_assoc}
use Rattle.std.proofs.lemmas.List.{drop-drop}
use Rattle.run_rules.specs.Memory.{written}

-- what a write to so many bytes from a place on leaves
pub replaced : (m now bytes : List ℕ) (at k : ℕ) → now ≡ bytes → k ≡ length bytes → take at m ++ (now ++ drop k (drop at m)) ≡ written at bytes m
unfolding written
replaced m now bytes at k is size =
    ap (λ (l : List ℕ). take at m ++ (l ++ drop k (drop at m))) is
    ∙ sym (append_assoc (take at m) bytes (drop k (drop at m)))
    ∙ ap (λ (l : List ℕ). take at m ++ bytes ++ l) (drop-drop k at m ∙ ap (λ (n : ℕ). drop (at + n) m) size)
