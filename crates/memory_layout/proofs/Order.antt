-- Addresses in the order of placing, and multiples.
use Rattle.std.proofs.Common.{◌≡◌, ℕ, ◌+◌, ◌-◌, ◌*◌, ◌/◌, ◌%◌, ◌^◌, ◌<◌, ◌≤◌, List, [], ◌∷◌, ◌++◌, Bool, true, false, not, refl, sym, ap, arith}
use Rattle.std.specs.List.{AllZip}
use Rattle.std.proofs.lemmas.Nat.{pow_pos}
use Rattle.std.proofs.Math.Nat.{div-mul-le_self, lt-div-mul-add, lt_of_mul-lt-mul_right, mul-mod_left, mul-le-mul_right}
use Rattle.memory_layout.specs.declared.rules.MemoryRules.{MemoryRules}
use Rattle.memory_layout.specs.declared.rules.SegmentShape.{SegmentShape}
use Rattle.memory_layout.specs.Memory.{up, address_after, end_after, last_end, addresses, solid, zeros, placed, places, base_of, data_end}
use Rattle.memory_layout.specs.Order.{starts, of_those, reordered, LiesWithin}

pub up-reaches : (n size : ℕ) → 0 < size → n ≤ up n size
up-reaches n size some =
    let below : n + size - 1 < (n + size - 1) / size * size + size = lt-div-mul-add some in
    omega (arith, below, some)

pub up-multiple : (n size : ℕ) → up n size % size ≡ 0
up-multiple n size = mul-mod_left ((n + size - 1) / size) size

pub up-least : (n size k : ℕ) → 0 < size → n ≤ k * size → up n size ≤ k * size
up-least n size k some reaches =
    let below : (n + size - 1) / size * size ≤ n + size - 1 = div-mul-le_self (n + size - 1) size in
    let less : (n + size - 1) / size * size < (k + 1) * size = omega (arith, below, reaches, some) in
    let quotient : (n + size - 1) / size < k + 1 = lt_of_mul-lt-mul_right size less in
    mul-le-mul_right size (omega (arith, quotient))

-- behind one another, the addresses of both are those of one behind those of the other
starts_both : (at : ℕ) (xs ys : List SegmentShape) → starts at (xs ++ ys) ≡ starts at xs ++ starts (last_end at xs) ys
starts_both at [] ys = refl
starts_both at (x ∷ xs) ys = ap (λ rest. address_after at x ∷ rest) (starts_both (end_after at x) xs ys)

solid_step : (next next_zero : ℕ) (s : SegmentShape) (ss : List SegmentShape) (zero : Bool) → s.zero ≡ zero
    → ((n z : ℕ) → of_those (λ s. not s.zero) ss (addresses n z ss) ≡ starts n (solid ss))
    → of_those (λ s. not s.zero) (s ∷ ss) (addresses next next_zero (s ∷ ss)) ≡ starts next (solid (s ∷ ss))
solid_step next next_zero s ss true is rest = rw is (rest next (end_after next_zero s))
solid_step next next_zero s ss false is rest = rw is (ap (λ rest. address_after next s ∷ rest) (rest (end_after next s) next_zero))

solid_starts : (next next_zero : ℕ) (shapes : List SegmentShape) → of_those (λ s. not s.zero) shapes (addresses next next_zero shapes) ≡ starts next (solid shapes)
solid_starts next next_zero [] = refl
solid_starts next next_zero (s ∷ ss) = solid_step next next_zero s ss s.zero refl (λ n z. solid_starts n z ss)

zero_step : (next next_zero : ℕ) (s : SegmentShape) (ss : List SegmentShape) (zero : Bool) → s.zero ≡ zero
    → ((n z : ℕ) → of_those (λ s. s.zero) ss (addresses n z ss) ≡ starts z (zeros ss))
    → of_those (λ s. s.zero) (s ∷ ss) (addresses next next_zero (s ∷ ss)) ≡ starts next_zero (zeros (s ∷ ss))
zero_step next next_zero s ss true is rest = rw is (ap (λ rest. address_after next_zero s ∷ rest) (rest next (end_after next_zero s)))
zero_step next next_zero s ss false is rest = rw is (rest (end_after next s) next_zero)

zero_starts : (next next_zero : ℕ) (shapes : List SegmentShape) → of_those (λ s. s.zero) shapes (addresses next next_zero shapes) ≡ starts next_zero (zeros shapes)
zero_starts next next_zero [] = refl
zero_starts next next_zero (s ∷ ss) = zero_step next next_zero s ss s.zero refl (λ n z. zero_starts n z ss)

pub in_order : (rules : MemoryRules) (shapes : List SegmentShape) → reordered shapes (places rules shapes).addresses ≡ starts (base_of rules) (placed shapes)
unfolding places
in_order rules shapes =
    let base = base_of rules in
    let from = last_end base (solid shapes) in
    rw (solid_starts base from shapes, zero_starts base from shapes) (sym (starts_both base (solid shapes) (zeros shapes)))

-- a segment begins where the one before it ends, or behind
pub address_reaches : (at : ℕ) (s : SegmentShape) → at ≤ address_after at s
address_reaches at s = up-reaches at (2 ^ s.align) (pow_pos s.align)

pub last_end_reaches : (at : ℕ) (shapes : List SegmentShape) → at ≤ last_end at shapes
last_end_reaches at [] = omega arith
last_end_reaches at (s ∷ ss) = omega (arith, address_reaches at s, last_end_reaches (end_after at s) ss)

module _ (low high : ℕ) where
  lie_step : (next next_zero : ℕ) (s : SegmentShape) (ss : List SegmentShape) (zero : Bool) → s.zero ≡ zero
      → ((n z : ℕ) → low ≤ n → low ≤ z → last_end n (solid ss) ≤ high → last_end z (zeros ss) ≤ high → AllZip (LiesWithin low high) ss (addresses n z ss))
      → low ≤ next → low ≤ next_zero → last_end next (solid (s ∷ ss)) ≤ high → last_end next_zero (zeros (s ∷ ss)) ≤ high
      → AllZip (LiesWithin low high) (s ∷ ss) (addresses next next_zero (s ∷ ss))
  lie_step next next_zero s ss true is rest from from_zero to to_zero =
      let reach = address_reaches next_zero s in
      let fit : last_end (end_after next_zero s) (zeros ss) ≤ high = rw is at to_zero in
      let solid_fit : last_end next (solid ss) ≤ high = rw is at to in
      let behind = last_end_reaches (end_after next_zero s) (zeros ss) in
      rw is ((omega (arith, from_zero, reach), omega (arith, behind, fit)), rest next (end_after next_zero s) from (omega (arith, from_zero, reach)) solid_fit fit)
  lie_step next next_zero s ss false is rest from from_zero to to_zero =
      let reach = address_reaches next s in
      let fit : last_end (end_after next s) (solid ss) ≤ high = rw is at to in
      let zero_fit : last_end next_zero (zeros ss) ≤ high = rw is at to_zero in
      let behind = last_end_reaches (end_after next s) (solid ss) in
      rw is ((omega (arith, from, reach), omega (arith, behind, fit)), rest (end_after next s) next_zero (omega (arith, from, reach)) from_zero fit zero_fit)

  lie : (next next_zero : ℕ) (shapes : List SegmentShape) → low ≤ next → low ≤ next_zero
      → last_end next (solid shapes) ≤ high → last_end next_zero (zeros shapes) ≤ high → AllZip (LiesWithin low high) shapes (addresses next next_zero shapes)
  lie next next_zero [] from from_zero to to_zero = tt
  lie next next_zero (s ∷ ss) from from_zero to to_zero = lie_step next next_zero s ss s.zero refl (λ n z. lie n z ss) from from_zero to to_zero

last_end_both : (at : ℕ) (xs ys : List SegmentShape) → last_end at (xs ++ ys) ≡ last_end (last_end at xs) ys
last_end_both at [] ys = refl
last_end_both at (x ∷ xs) ys = last_end_both (end_after at x) xs ys

pub all_within : (rules : MemoryRules) (shapes : List SegmentShape)
    → AllZip (LiesWithin (base_of rules) (data_end rules shapes)) shapes (places rules shapes).addresses
unfolding places
all_within rules shapes =
    let base = base_of rules in
    let from = last_end base (solid shapes) in
    let behind = last_end_reaches base (solid shapes) in
    let whole : data_end rules shapes ≡ last_end from (zeros shapes) = last_end_both base (solid shapes) (zeros shapes) in
    let rest = last_end_reaches from (zeros shapes) in
    lie base (data_end rules shapes) base from shapes (omega arith) behind (omega (arith, whole, rest)) (omega (arith, whole))
