-- Reading places one after the other, as a loop does.
use Rattle.std.proofs.Common.{◌≡◌, ℕ, suc, ◌-◌, ◌+◌, ◌≤◌, ◌<◌, List, [], ◌∷◌, ◌++◌, Result, Ok, Err, refl, sym, ap, ◌∙◌, append_assoc, arith}
use Rattle.std.proofs.lemmas.List.{append-nil}
use Rattle.wl_base.specs.declared.fault.LibFault.{LibFault}
use Rattle.lib_index.specs.Reading.{◌>>=◌, number_at, numbers_at}

-- what was read before, and what is still read
abbrev pub with_front : List ℕ → Result (List ℕ) LibFault → Result (List ℕ) LibFault
with_front front read = read >>= λ ks. Ok (front ++ ks)

regroup : (front : List ℕ) (k : ℕ) (read : Result (List ℕ) LibFault) → with_front front (read >>= λ ks. Ok (k ∷ ks)) ≡ with_front (front ++ k ∷ []) read
regroup front k (Ok ks) = ap Ok (simp append_assoc)
regroup front k (Err e) = refl

pub goes_on : (places front : List ℕ) (count i : ℕ) (bytes : List ℕ) (k : ℕ) (after : List ℕ) (total : Result (List ℕ) LibFault) → i < count → number_at places bytes ≡ Ok (k, after)
    → with_front front (numbers_at places (count - i) bytes) ≡ total → with_front (front ++ k ∷ []) (numbers_at places (count - (i + 1)) after) ≡ total
unfolding numbers_at
goes_on places front count i bytes k after total lt h so_far =
    let n : count - i ≡ suc (count - (i + 1)) = omega arith in
    let one : with_front front (numbers_at places (count - i) bytes) ≡ with_front (front ++ k ∷ []) (numbers_at places (count - (i + 1)) after) = rw (n, h) (regroup front k (numbers_at places (count - (i + 1)) after)) in
    sym one ∙ so_far

pub ends : (places front : List ℕ) (e : LibFault) (count i : ℕ) (bytes : List ℕ) (total : Result (List ℕ) LibFault) → i < count → number_at places bytes ≡ Err e
    → with_front front (numbers_at places (count - i) bytes) ≡ total → total ≡ Err e
unfolding numbers_at
ends places front e count i bytes total lt h so_far =
    let n : count - i ≡ suc (count - (i + 1)) = omega arith in
    let one : with_front front (numbers_at places (count - i) bytes) ≡ Err e = rw (n, h) refl in
    sym so_far ∙ one

pub is_done : (places front : List ℕ) (count i : ℕ) (bytes : List ℕ) (total : Result (List ℕ) LibFault) → count ≤ i → with_front front (numbers_at places (count - i) bytes) ≡ total → total ≡ Ok front
unfolding numbers_at
is_done places front count i bytes total le so_far =
    let n : count - i ≡ 0 = omega arith in
    let one : with_front front (numbers_at places (count - i) bytes) ≡ Ok front = rw n (ap Ok (append-nil front)) in
    sym so_far ∙ one
