-- Bytes that are copied, filled and written.
use Rattle.std.proofs.Common.{◌≡◌, ℕ, ◌+◌, ◌-◌, ◌≤◌, List, ◌++◌, length, take, drop, sym, ap, ◌∙◌, arith, append_assoc, length-drop, length-take-le}
use Rattle.std.specs.Prelude.{replicate}
use Rattle.std.proofs.lemmas.List.{drop-drop, length-replicate}
use Rattle.run_rules.specs.Memory.{written}

pub copied : (m : List ℕ) (from to n : ℕ) → from + n ≤ length m → take to m ++ take (from + n - from) (drop from m) ++ drop (to + (from + n - from)) m ≡ written to (take n (drop from m)) m
unfolding written
copied m from to n fits =
    let count : from + n - from ≡ n = omega arith in
    let size : length (take n (drop from m)) ≡ n = length-take-le n (drop from m) (omega (arith, length-drop from m)) in
    ap (λ k. take to m ++ take k (drop from m) ++ drop (to + k) m) count
    ∙ ap (λ k. take to m ++ take n (drop from m) ++ drop (to + k) m) (sym size)

-- what a write to so many bytes from a place on leaves
pub replaced : (m now bytes : List ℕ) (at k : ℕ) → now ≡ bytes → k ≡ length bytes → take at m ++ (now ++ drop k (drop at m)) ≡ written at bytes m
unfolding written
replaced m now bytes at k is size =
    ap (λ (l : List ℕ). take at m ++ (l ++ drop k (drop at m))) is
    ∙ sym (append_assoc (take at m) bytes (drop k (drop at m)))
    ∙ ap (λ (l : List ℕ). take at m ++ bytes ++ l) (drop-drop k at m ∙ ap (λ (n : ℕ). drop (at + n) m) size)

-- where the bytes there were set to one value
pub filled : (m now : List ℕ) (at n k byte : ℕ) → at + n ≤ length m → k ≡ n → now ≡ replicate (length (take k (drop at m))) byte → take at m ++ (now ++ drop k (drop at m)) ≡ written at (replicate n byte) m
filled m now at n k byte fits e is =
    let room : k ≤ length (drop at m) = omega (arith, length-drop at m) in
    let size : length (take k (drop at m)) ≡ n = length-take-le k (drop at m) room ∙ e in
    let all : now ≡ replicate n byte = is ∙ ap (λ (x : ℕ). replicate x byte) size in
    replaced m now (replicate n byte) at k all (e ∙ sym (length-replicate n byte))
