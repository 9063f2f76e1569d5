-- Chunks that stand in a list once.
use Rattle.std.proofs.lemmas.Bool.Decides.{nat_tests}
use Rattle.std.proofs.lemmas.Grind.{common_steps}
use Rattle.std.specs.List.{position_or_len}
use Rattle.std.proofs.Common.{nat_eq, ◌&&◌, ◌≡◌, ◌⊎◌, ℕ, zero, suc, ◌≤◌, Bool, true, List, [], ◌∷◌, ◌++◌, length, slice_get, get_or, position, Some, None, refl, sym, ap, ◌∙◌, inl, inr, arith, true≢false}
use Rattle.std.proofs.lemmas.List.Quantifiers.{position-Some}
use Rattle.std.proofs.lemmas.List.Sums.{fails_before_first}
use Rattle.std.proofs.lemmas.Option.{slice_get_within, get_or_from_slice_get, slice_get-get_or}
use Rattle.mark_bits.specs.declared.chunk.Chunk.{Chunk}
use Rattle.mark_bits.specs.Chunks.{Differ, Lacks}

-- what stands in a list with one more item stood there before, or is that item
last_or_before : (xs : List Chunk) (x : Chunk) (k : ℕ) (y : Chunk) → slice_get (xs ++ x ∷ []) k ≡ Some y → (slice_get xs k ≡ Some y) ⊎ ((k ≡ length xs) × (x ≡ y))
last_or_before [] x zero y e = inr (refl, cc)
last_or_before [] x (suc k) y e = absurd cc
last_or_before (z ∷ xs) x zero y e = inl e
last_or_before (z ∷ xs) x (suc k) y e = elim (last_or_before xs x k y e) [ inl a ↦ inl a | inr b ↦ inr (ap suc b.0 ∙ omega arith, b.1) ]

-- a chunk that isn't there goes behind the others
pub differ_more : (xs : List Chunk) (x : Chunk) → Differ xs → Lacks xs x → Differ (xs ++ x ∷ [])
differ_more xs x differ lacks j k c a b =
    elim (last_or_before xs x j c a) [
      | inl here ↦ elim (last_or_before xs x k c b) [ inl there ↦ differ j k c here there | inr there ↦ absurd (lacks j (here ∙ ap Some (sym there.1))) ]
      | inr here ↦ elim (last_or_before xs x k c b) [ inl there ↦ absurd (lacks k (there ∙ ap Some (sym here.1))) | inr there ↦ here.0 ∙ sym there.0 ]
    ]

-- The test passes at equal chunks alone, and there always
module _ (xs : List Chunk) (x : Chunk) (test : Chunk → Bool) (sound : (y : Chunk) → test y ≡ true → x ≡ y) (whole : test x ≡ true) where
  pub found_is : (n : ℕ) → position test xs ≡ Some n → slice_get xs n ≡ Some x
  found_is n e = let p = position-Some test xs n x e in slice_get-get_or xs n x p.0 ∙ ap Some (sym (sound (get_or xs n x) p.1))

  pub none_lacks : position test xs ≡ None → Lacks xs x
  none_lacks e k at =
      let inside = slice_get_within xs k x at in
      let here : get_or xs k x ≡ x = get_or_from_slice_get xs k x x at in
      let late : length xs ≤ position_or_len test xs = grind (arith, common_steps) in
      true≢false (sym whole ∙ (ap test (sym here) ∙ fails_before_first test xs k x (omega arith)))

-- the derived equality of chunks
abbrev pub same : Chunk → Chunk → Bool
same x y = nat_eq x.input y.input && (nat_eq x.kind y.kind && nat_eq x.index y.index)

pub same_sound : (x y : Chunk) → same x y ≡ true → x ≡ y
same_sound x y e = let a : x.input ≡ y.input = grind (arith, nat_tests) in let b : x.kind ≡ y.kind = grind (arith, nat_tests) in let d : x.index ≡ y.index = grind (arith, nat_tests) in
    λ i. record { input = a i; kind = b i; index = d i }

pub same_whole : (x : Chunk) → same x x ≡ true
same_whole x = grind (arith, nat_tests)
