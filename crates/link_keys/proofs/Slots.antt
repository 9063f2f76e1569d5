-- The slots of workers.
use Rattle.std.proofs.Common.{◌≡◌, ℕ, zero, suc, ◌+◌, ◌-◌, ◌<◌, ◌≤◌, List, [], ◌∷◌, ◌++◌, length, take, drop, Some, None, Option, refl, sym, ap, subst, ◌∙◌, arith}
use Rattle.std.specs.Prelude.{slice_get, slice_set, slice_range, replicate, IfSome}
use Rattle.std.proofs.lemmas.Option.{same_Some, slice_get_within}
use Rattle.wl_fan.specs.Slices.{piece, Works}
use Rattle.link_program.specs.declared.program.Tables.{Tables}
use Rattle.wl_rows.specs.Ranges.{first_at}
use Rattle.link_keys.specs.Noted.{Noted, noted_parts, nothing_noted}
use Rattle.link_keys.specs.Joined.{IsNoted, AreNoted}

pub one_slot : {X : Type 0} (xs : List X) (k : ℕ) (x : X) → slice_get xs k ≡ Some x → slice_get (piece (λ (n : ℕ). n) 0 k xs) 0 ≡ Some x
one_slot {X} xs k x at =
    let from : k - 0 ≡ k = omega arith in
    let long : k + 1 - 0 - (k - 0) ≡ suc zero = omega arith in
    ap (λ (n : ℕ). slice_get (take n (drop (k - 0) xs)) 0) long ∙ ap (λ (n : ℕ). slice_get (take (suc zero) (drop n xs)) 0) from ∙ front xs k at
  where
    front : (ys : List X) (i : ℕ) → slice_get ys i ≡ Some x → slice_get (take (suc zero) (drop i ys)) 0 ≡ Some x
    front [] i e = absurd (let lt = slice_get_within [] i x e in omega (arith, lt))
    front (y ∷ ys) zero e = e
    front (y ∷ ys) (suc i) e = front ys i e

-- what the workers tell of their slots, of all slots
pub all_noted : (t : Tables) (imports names : ℕ) (live cuts : List ℕ) (count : ℕ) (old new : List (Option Noted)) → length old ≡ length cuts + 1 → length new ≡ length old
    → Works (λ k old new. IsNoted t imports names (slice_range live (first_at cuts count k) (first_at cuts count (k + 1))) new) (λ k. k) 0 (length cuts + 1) old new → AreNoted t imports names live cuts count new
all_noted t imports names live cuts count old new long same works = record {
  long = same ∙ long;
  each = λ k m at.
      let lt = slice_get_within new k (Some m) at in
      works k (omega arith) (omega (arith, lt, long, same)) m (one_slot new k (Some m) at);
}

-- a list that is written back whole
pub whole_back : {X : Type 0} (n : ℕ) (new rest : List X) → n ≡ length new → take n (new ++ rest) ≡ new
whole_back zero [] rest e = refl
whole_back (suc n) [] rest e = absurd (omega (arith, e))
whole_back zero (x ∷ new) rest e = absurd (omega (arith, e))
whole_back {X} (suc n) (x ∷ new) rest e = ap (λ (xs : List X). let ys : List X = x ∷ xs in ys) (whole_back n new rest (omega (arith, e)))

-- a worker's slot is filled
pub noted_here : (t : Tables) (imports names : ℕ) (live part : List ℕ) (old : List (Option Noted)) (now : Option Noted) → part ≡ live
    → IfSome now (λ m. m ≡ noted_parts t (nothing_noted imports names) part) → IsNoted t imports names live (slice_set old 0 now)
noted_here t imports names live part [] now e gives m at = absurd cc
noted_here t imports names live part (x ∷ xs) None e gives m at = absurd cc
noted_here t imports names live part (x ∷ xs) (Some n) e gives m at =
    let same : n ≡ m = same_Some n m (same_Some (Some n) (Some m) at) in
    sym same ∙ gives ∙ ap (λ (ls : List ℕ). noted_parts t (nothing_noted imports names) ls) e

-- one more empty slot
pub empty_more : {X : Type 0} (n : ℕ) (x : X) → replicate n x ++ x ∷ [] ≡ replicate (suc n) x
empty_more zero x = refl
empty_more (suc n) x = ap (λ xs. x ∷ xs) (empty_more n x)

pub slot_more : {X : Type 0} (x : X) (n : ℕ) (old new : List X) → old ≡ replicate n x → new ≡ old ++ x ∷ [] → new ≡ replicate (n + 1) x
slot_more x n old new was pushed = let e : suc n ≡ n + 1 = omega arith in pushed ∙ ap (λ xs. xs ++ x ∷ []) was ∙ empty_more n x ∙ ap (λ (k : ℕ). replicate k x) e
