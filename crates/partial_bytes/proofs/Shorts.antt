-- Numbers that are written byte by byte.
use Rattle.std.proofs.Common.{◌≡◌, ℕ, zero, suc, ◌+◌, ◌-◌, ◌/◌, ◌%◌, ◌^◌, ◌<◌, ◌≤◌, nat_lt, Bool, true, false, if◌then◌else◌, List, [], ◌∷◌, ◌++◌, length, take, set, refl, sym, ap, subst, ◌∙◌, arith, ℤ, pos, negsuc, ◌<ℤ◌, ◌≤ℤ◌, length-set}
use Rattle.std.proofs.lemmas.Bool.{lt-ltb}
use Rattle.std.proofs.lemmas.Int.{ints}
use Rattle.leb_codec.specs.Shortest.{shortest, u32, s32}
use Rattle.leb_codec.proofs.Written.{byte_more, byte_last, left_more, shortest_more, shortest_end}
use Rattle.image_emit.specs.Put.{IsPut}

-- a number has a byte at least
pub some_bytes : (more n : ℕ) → 0 < length (shortest more n)
some_bytes zero n = omega arith
some_bytes (suc more) n = by (nat_lt n 128)
  where
    by : (b : Bool) → 0 < length (if b then n ∷ [] else (128 + n % 128) ∷ shortest more (n / 128))
    by true = omega arith
    by false = omega arith

-- So many bytes of a number are there, and these are the bits that are left.
pub record IsBegun (old : List ℕ) (at n : ℕ) (out : List ℕ) (len rest : ℕ) : Type 0 where
  pub few : len ≤ 4
  pub left : rest < 128 ^ (5 - len)
  pub room : at + len < length out
  pub long : length out ≡ length old
  pub place : len + length (shortest (4 - len) rest) ≡ length (u32 n)
  pub so_far : take (at + len) out ++ shortest (4 - len) rest ≡ take at old ++ u32 n

pub begins : (old : List ℕ) (at n : ℕ) → n < 2 ^ 32 → at + length (u32 n) ≤ length old → IsBegun old at n old 0 n
unfolding u32
begins old at n low room =
    let none : at + 0 ≡ at = omega arith in
    let some = some_bytes 4 n in
    record {
      few = omega arith;
      left = omega (arith, low);
      room = omega (arith, room, some);
      long = refl;
      place = omega arith;
      so_far = ap (λ k. take k old ++ shortest 4 n) none;
    }

pub goes_on : (old : List ℕ) (at n : ℕ) (out : List ℕ) (len rest b : ℕ) → at + length (u32 n) ≤ length old → 128 ≤ rest → b ≡ 128 + rest % 128
    → IsBegun old at n out len rest → IsBegun old at n (set out (at + len) b) (len + 1) (rest / 128)
goes_on old at n out len rest b room many is h =
    let next = left_more len rest h.few h.left many in
    let parts : shortest (4 - len) rest ≡ b ∷ shortest (4 - (len + 1)) (rest / 128) = rw is (shortest_more len rest next.0 many) in
    let some = some_bytes (4 - (len + 1)) (rest / 128) in
    let same = length-set out (at + len) b in
    let sizes = ap (λ (zs : List ℕ). length zs) parts in
    let there : at + len + 1 ≡ at + (len + 1) = omega arith in
    let put = byte_more out (at + len) b (shortest (4 - (len + 1)) (rest / 128)) (take at old ++ u32 n) h.room (ap (λ (zs : List ℕ). take (at + len) out ++ zs) (sym parts) ∙ h.so_far) in
    record {
      few = omega (arith, next.0);
      left = next.1;
      room = omega (arith, same, some, sizes, h.place, h.long, room);
      long = same ∙ h.long;
      place = omega (arith, sizes, h.place);
      so_far = ap (λ k. take k (set out (at + len) b) ++ shortest (4 - (len + 1)) (rest / 128)) (sym there) ∙ put;
    }

pub ends : (old : List ℕ) (at n : ℕ) (out : List ℕ) (len rest : ℕ) → rest < 128 → IsBegun old at n out len rest
    → IsPut old at (u32 n) (at + len + 1) (set out (at + len) rest)
ends old at n out len rest last h =
    let parts : shortest (4 - len) rest ≡ rest ∷ [] = shortest_end (4 - len) rest last in
    let sizes = ap (λ (zs : List ℕ). length zs) parts in
    record {
      front = byte_last out (at + len) rest (take at old ++ u32 n) h.room (ap (λ (zs : List ℕ). take (at + len) out ++ zs) (sym parts) ∙ h.so_far);
      place = omega (arith, sizes, h.place);
      len = length-set out (at + len) rest ∙ h.long;
    }

-- a small number with a sign is its byte
pub small_is : (z : ℤ) (b : ℕ) → b < 64 → z ≡ pos b → s32 z ≡ b ∷ []
unfolding s32
small_is z b low is = rw is (rw (lt-ltb b 64 low) refl)

pub small_long : (z : ℤ) → pos 0 ≤ℤ z → z <ℤ pos 64 → 1 ≡ length (s32 z)
small_long (pos n) low high =
    let lt : n < 64 = omega (arith, ints, high) in
    ap (λ (zs : List ℕ). length zs) (sym (small_is (pos n) n lt refl))
small_long (negsuc n) low high = absurd (omega (arith, ints, low))

pub small_put : (old : List ℕ) (at : ℕ) (z : ℤ) (b end : ℕ) (new : List ℕ) → IsPut old at (b ∷ []) end new → b < 64 → z ≡ pos b → IsPut old at (s32 z) end new
small_put old at z b end new put low is = subst (λ (bytes : List ℕ). IsPut old at bytes end new) (sym (small_is z b low is)) put
