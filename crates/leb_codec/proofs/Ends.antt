-- Where a spelling ends.
use Rattle.std.proofs.Common.{◌≡◌, ℕ, suc, ◌+◌, ◌-◌, ◌<◌, ◌≤◌, true, false, cond, ltb, List, length, take, drop, get_or, Result, Ok, Err, refl, sym, ap, ◌∙◌, arith}
use Rattle.std.proofs.lemmas.List.{drop_more, drop_all}
use Rattle.std.proofs.lemmas.Bool.{lt-ltb, le-ltb}
use Rattle.leb_codec.specs.declared.fault.LebFault.{LebFault}
use Rattle.leb_codec.specs.declared.fault.LebFault.TheVariants.{Short, Long}
use Rattle.leb_codec.specs.Reading.{one_more, end_within, valued, low_bits}

-- a place, counted from an earlier one
abbrev pub ahead : ℕ → Result ℕ LebFault → Result ℕ LebFault
ahead i (Ok n) = Ok (i + n)
ahead i (Err e) = Err e

step : (bytes : List ℕ) (g i : ℕ) → i < g → i < length bytes → end_within (g - i) (drop i bytes) ≡ cond (ltb (get_or bytes i 0) 128) (Ok 1) (one_more (end_within (g - (i + 1)) (drop (i + 1) bytes)))
unfolding end_within
step bytes g i lt within =
    let k : g - i ≡ suc (g - (i + 1)) = omega arith in
    rw (k, drop_more bytes i 0 within) refl

ahead_more : (i : ℕ) (r : Result ℕ LebFault) → ahead i (one_more r) ≡ ahead (i + 1) r
ahead_more i (Ok n) = ap Ok (omega arith)
ahead_more i (Err e) = refl

pub goes_on : (bytes : List ℕ) (g i : ℕ) (total : Result ℕ LebFault) → i < g → i < length bytes → 128 ≤ get_or bytes i 0
    → ahead i (end_within (g - i) (drop i bytes)) ≡ total → ahead (i + 1) (end_within (g - (i + 1)) (drop (i + 1) bytes)) ≡ total
goes_on bytes g i total lt within high so_far =
    let test : ltb (get_or bytes i 0) 128 ≡ false = le-ltb _ _ high in
    let one : end_within (g - i) (drop i bytes) ≡ one_more (end_within (g - (i + 1)) (drop (i + 1) bytes)) = step bytes g i lt within ∙ rw test refl in
    sym (ahead_more i (end_within (g - (i + 1)) (drop (i + 1) bytes))) ∙ ap (ahead i) (sym one) ∙ so_far

pub ends_here : (bytes : List ℕ) (g i : ℕ) (total : Result ℕ LebFault) → i < g → i < length bytes → get_or bytes i 0 < 128
    → ahead i (end_within (g - i) (drop i bytes)) ≡ total → Ok (i + 1) ≡ total
ends_here bytes g i total lt within low so_far =
    let test : ltb (get_or bytes i 0) 128 ≡ true = lt-ltb _ _ low in
    let one : end_within (g - i) (drop i bytes) ≡ Ok 1 = step bytes g i lt within ∙ rw test refl in
    ap (ahead i) (sym one) ∙ so_far

pub too_long : (bytes : List ℕ) (g i : ℕ) (total : Result ℕ LebFault) → g ≤ i → ahead i (end_within (g - i) (drop i bytes)) ≡ total → Err Long ≡ total
unfolding end_within
too_long bytes g i total le so_far =
    let k : g - i ≡ 0 = omega arith in
    let one : end_within (g - i) (drop i bytes) ≡ Err Long = rw k refl in
    ap (ahead i) (sym one) ∙ so_far

pub too_short : (bytes : List ℕ) (g i : ℕ) (total : Result ℕ LebFault) → i < g → length bytes ≤ i → ahead i (end_within (g - i) (drop i bytes)) ≡ total → Err Short ≡ total
unfolding end_within
too_short bytes g i total lt past so_far =
    let k : g - i ≡ suc (g - (i + 1)) = omega arith in
    let one : end_within (g - i) (drop i bytes) ≡ Err Short = rw (k, drop_all i bytes past) refl in
    ap (ahead i) (sym one) ∙ so_far

-- the bits that were read, beside the place where they end
pub bits_here : (bytes : List ℕ) (n bits : ℕ) (total : Result ℕ LebFault) → Ok n ≡ total → bits ≡ low_bits (take n bytes) → (let r : Result (ℕ × ℕ) LebFault = Ok (bits, n) in r ≡ valued low_bits bytes total)
bits_here bytes n bits total end is = rw (← end, is) refl

pub no_bits : (bytes : List ℕ) (fault : LebFault) (total : Result ℕ LebFault) → Err fault ≡ total → (let r : Result (ℕ × ℕ) LebFault = Err fault in r ≡ valued low_bits bytes total)
no_bits bytes fault total end = rw (← end) refl
