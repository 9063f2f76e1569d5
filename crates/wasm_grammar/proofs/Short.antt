-- Numbers of one byte.
use Rattle.std.proofs.Common.{◌≡◌, ℕ, ◌-◌, ◌+◌, ◌≤◌, ◌<◌, ◌%◌, ◌*◌, List, [], ◌∷◌, length, take, Result, Ok, sym, ap, arith, ℤ, pos}
use Rattle.std.specs.Prelude.{drop, slice_index}
use Rattle.std.proofs.lemmas.List.{take_all}
use Rattle.std.proofs.lemmas.Bool.{lt-ltb}
use Rattle.leb_codec.specs.Reading.{number_at, end_of, end_within}
use Rattle.wasm_grammar.specs.declared.fault.Stop.{Stop}
use Rattle.wasm_grammar.specs.Reading.{u32_at, s32_at}

-- the rest as a pattern gives it
rest_is : {N : Type 0} (n : N) (k : ℕ) (bytes : List ℕ) → length bytes ≤ k → (let r : Result (N × List ℕ) Stop = Ok (n, bytes) in r ≡ Ok (n, take k bytes))
rest_is {N} n k bytes le = ap (λ (t : List ℕ). let r : Result (N × List ℕ) Stop = Ok (n, t) in r) (sym (take_all k bytes le))

pub short_u32 : (end n : ℕ) (bytes : List ℕ) → 1 ≤ length bytes → slice_index bytes 0 < 128 → n ≡ slice_index bytes 0 → u32_at end bytes ≡ Ok (n, take (length bytes - 1) (drop 1 bytes))
unfolding u32_at number_at end_of end_within
short_u32 end n [] le low is = absurd (omega arith)
short_u32 end n (b ∷ bytes) le low is =
    let same : b % 128 + 128 * 0 ≡ b = omega (arith, low) in
    rw (lt-ltb b 128 low, same, is) (rest_is b _ bytes (omega arith))

pub short_s32 : (end : ℕ) (n : ℤ) (bytes : List ℕ) → 1 ≤ length bytes → slice_index bytes 0 < 64 → n ≡ pos (slice_index bytes 0) → s32_at end bytes ≡ Ok (n, take (length bytes - 1) (drop 1 bytes))
unfolding s32_at number_at end_of end_within
short_s32 end n [] le low is = absurd (omega arith)
short_s32 end n (b ∷ bytes) le low is =
    let same : b % 128 + 128 * 0 ≡ b = omega (arith, low) in
    let below : b < 128 = omega (arith, low) in
    rw (lt-ltb b 128 below, lt-ltb b 64 low, same, is) (rest_is (pos b) _ bytes (omega arith))
