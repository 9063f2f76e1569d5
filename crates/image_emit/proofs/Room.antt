-- Room for one item after another.
use Rattle.std.proofs.Common.{◌≡◌, ◌<◌, ◌≤◌, ◌+◌, ℕ, List, [], ◌∷◌, length, arith, length-append, take, ap, refl, sym, ◌∙◌, ◌/◌, ◌^◌, nat_lt, false, rules}
use mathlib.Core.Logic.{dite}
use native.Mathlib.Decide.{dec_lt}
use Rattle.image_emit.specs.Put.{capped}
use Rattle.std.proofs.Math.ListN.{get_or}
use Rattle.std.proofs.lemmas.List.Folds.{length-flat_map-take}
use Rattle.std.specs.List.{flat_map}
use Rattle.wasm_module.specs.wasm_instr.leb_codec.Shortest.{u32, shortest}

pub u32_is : (n : ℕ) → u32 n ≡ shortest 4 n
unfolding u32
u32_is n = refl

not_low : (n : ℕ) → 128 ≤ n → nat_lt n 128 ≡ false
not_low n high = search rules

-- a great number has five bytes
five : (n : ℕ) → 2 ^ 28 ≤ n → length (u32 n) ≡ 5
unfolding u32
five n high =
    rw (not_low n (omega (arith, high)), not_low (n / 128) (omega (arith, high)), not_low (n / 128 / 128) (omega (arith, high)), not_low (n / 128 / 128 / 128) (omega (arith, high))) refl

pub u32_far : (n x : ℕ) → n ≡ capped x → length (u32 n) ≡ length (u32 x)
u32_far n x is = dite (dec_lt x (2 ^ 64))
    (λ low. let same : n ≡ x = omega (arith, is, low) in ap (λ k. length (u32 k)) same)
    (λ high. five n (omega (arith, is, high)) ∙ sym (five x (omega (arith, high))))

-- where no item's bytes are none, there are at least as many bytes as items
pub as_many : {X : Type 0} (f : X → List ℕ) (xs : List X) → ((x : X) → 0 < length (f x)) → length xs ≤ length (flat_map f xs)
as_many f [] some = omega arith
as_many f (x ∷ xs) some = omega (arith, length-append (f x) (flat_map f xs), some x, as_many f xs some)

-- the bytes of the first items and of the next one
pub item_room : {X : Type 0} (f : X → List ℕ) (xs : List X) (i : ℕ) (x : X) → i < length xs → x ≡ get_or xs i x
    → length (flat_map f (take i xs)) + length (f x) ≤ length (flat_map f xs)
item_room f xs i x below is = omega (arith, length-flat_map-take f xs i x below, ap (λ y. length (f y)) is)
