-- What workers tell of runs of bodies, put together.
use Rattle.std.proofs.Common.{◌≡◌, ℕ, zero, suc, ◌+◌, ◌-◌, ◌<◌, ◌≤◌, Bool, true, false, List, [], ◌∷◌, ◌++◌, length, take, drop, Option, Some, None, Result, Ok, Err, refl, ap, subst, ◌∙◌, arith}
use Rattle.std.specs.Prelude.{slice_get, slice_set, nat_lt, IfOk}
use Rattle.std.proofs.lemmas.Bool.{ltb-true, ltb-false}
use Rattle.std.proofs.lemmas.Option.{same_Some, slice_get_within}
use Rattle.wasm_instr.specs.declared.body.Body.{Body}
use Rattle.wl_fan.specs.Slices.{piece, Works}
use Rattle.wl_rows.specs.Ranges.{first_at, Rising}
use Rattle.wl_rows.proofs.Cuts.{first_past, first_low}
use Rattle.valid_bodies.specs.declared.types.Context.{Context}
use Rattle.valid_bodies.specs.First.{TypedAt, IsFirst, IsFirstIn}
use Rattle.valid_bodies.specs.Shares.{IsTold, AreTold, first_told}

-- from the front to the end
pub first_of_all : (c : Context) (functions : List ℕ) (bodies : List Body) (found : Option ℕ) → IsFirstIn c functions bodies 0 (length bodies) found → IsFirst c functions bodies found
first_of_all c functions bodies None all = λ k below. all k (omega arith) below
first_of_all c functions bodies (Some k) is = (is.1, λ j below. is.2 j (omega arith) below, is.3)

-- ---- slots

one_slot : {X : Type 0} (xs : List X) (k : ℕ) (x : X) → slice_get xs k ≡ Some x → slice_get (piece (λ (n : ℕ). n) 0 k xs) 0 ≡ Some x
one_slot {X} xs k x at =
    let from : k - 0 ≡ k = omega arith in
    let long : k + 1 - 0 - (k - 0) ≡ suc zero = omega arith in
    ap (λ (n : ℕ). slice_get (take n (drop (k - 0) xs)) 0) long ∙ ap (λ (n : ℕ). slice_get (take (suc zero) (drop n xs)) 0) from ∙ front xs k at
  where
    front : (ys : List X) (i : ℕ) → slice_get ys i ≡ Some x → slice_get (take (suc zero) (drop i ys)) 0 ≡ Some x
    front [] i e = absurd (let lt = slice_get_within [] i x e in omega (arith, lt))
    front (y ∷ ys) zero e = e
    front (y ∷ ys) (suc i) e = front ys i e

-- a list that is written back whole
pub whole_back : {X : Type 0} (n : ℕ) (new rest : List X) → n ≡ length new → take n (new ++ rest) ≡ new
whole_back zero [] rest e = refl
whole_back (suc n) [] rest e = absurd (omega (arith, e))
whole_back zero (x ∷ new) rest e = absurd (omega (arith, e))
whole_back {X} (suc n) (x ∷ new) rest e = ap (λ (xs : List X). let ys : List X = x ∷ xs in ys) (whole_back n new rest (omega (arith, e)))

abbrev Told : Type 0 → Type 0
Told E = Result (Option ℕ) E

module _ (c : Context) (functions : List ℕ) (bodies : List Body) where
  -- what a worker tells, in its slot
  pub told_here : {E : Type 0} (from to : ℕ) (old : List (Told E)) (now : Told E) → IfOk now (λ found. IsFirstIn c functions bodies from to found) → IsTold c functions bodies from to (slice_set old 0 now)
  told_here from to [] now tells told at = absurd cc
  told_here {E} from to (x ∷ xs) now tells told at = subst (λ (r : Told E). IfOk r (λ found. IsFirstIn c functions bodies from to found)) (same_Some now told at) tells

  -- what the workers tell in their slots, in all slots
  pub all_told : {E : Type 0} (cuts : List ℕ) (count : ℕ) (old new : List (Told E)) → length old ≡ length cuts + 1 → length new ≡ length old
      → Works (λ k (before after : List (Told E)). IsTold c functions bodies (first_at cuts count k) (first_at cuts count (k + 1)) after) (λ k. k) 0 (length cuts + 1) old new → AreTold c functions bodies cuts count new
  all_told cuts count old new long same works = record {
    long = same ∙ long;
    each = λ k told at.
        let lt = slice_get_within new k told at in
        works k (omega arith) (omega (arith, lt, long, same)) told (one_slot new k told at);
  }

  -- ---- the first of all

  module _ (cuts : List ℕ) (count : ℕ) (rising : Rising cuts count) (whole : count ≡ length bodies) where
    abbrev start : ℕ → ℕ
    start k = first_at cuts count k

    abbrev Typed : ℕ → Type 0
    Typed j = TypedAt c functions bodies j

    -- those before a run, and those of the run
    one_more : (k j : ℕ) (b : Bool) → nat_lt j (start k) ≡ b → ((j : ℕ) → j < start k → Typed j) → (start k ≤ j → Typed j) → Typed j
    one_more k j true e before here = before j (ltb-true j (start k) e)
    one_more k j false e before here = here (ltb-false j (start k) e)

    first_found : {E : Type 0} (slots : List (Told E)) (k : ℕ) (found : Option ℕ) → k + length slots ≡ length cuts + 1
        → ((i : ℕ) (told : Told E) → slice_get slots i ≡ Some told → IfOk told (λ found. IsFirstIn c functions bodies (start (k + i)) (start (k + i + 1)) found))
        → ((j : ℕ) → j < start k → Typed j) → Ok found ≡ first_told slots → IsFirst c functions bodies found
    first_found [] k None end each before is = λ j below.
        let e : k ≡ length cuts + 1 = omega (arith, end) in
        let past : start k ≡ count = ap start e ∙ first_past cuts count in
        before j (omega (arith, below, past, whole))
    first_found [] k (Some at) end each before is = absurd cc
    first_found {E} (Ok None ∷ slots) k found end each before is =
        let none : k + 0 ≡ k = omega arith in
        let here = subst (λ (n : ℕ). IsFirstIn c functions bodies (start n) (start (n + 1)) None) none (each 0 (Ok None) refl) in
        first_found slots (k + 1) found (omega (arith, end)) (λ i told at. let e : k + suc i ≡ k + 1 + i = omega arith in
        subst (λ (n : ℕ). IfOk told (λ found. IsFirstIn c functions bodies (start n) (start (n + 1)) found)) e (each (suc i) told at))
        (λ j below. one_more k j (nat_lt j (start k)) refl before (λ from. here j from below)) is
    first_found (Ok (Some at) ∷ slots) k None end each before is = absurd cc
    first_found {E} (Ok (Some at) ∷ slots) k (Some x) end each before is =
        let none : k + 0 ≡ k = omega arith in
        let same : at ≡ x = cc in
        let here = subst (λ (n : ℕ). IsFirstIn c functions bodies (start n) (start (n + 1)) (Some at)) none (each 0 (Ok (Some at)) refl) in
        let low = first_low cuts count rising (k + 1) in
        subst (λ (n : ℕ). IsFirst c functions bodies (Some n)) same
        (omega (arith, here.1, low, whole), λ j below. one_more k j (nat_lt j (start k)) refl before (λ from. here.2 j from below), here.3)
    first_found (Err e ∷ slots) k found end each before is = absurd cc

    pub first_of_runs : {E : Type 0} (slots : List (Told E)) (r : Told E) → AreTold c functions bodies cuts count slots → r ≡ first_told slots → IfOk r (λ found. IsFirst c functions bodies found)
    first_of_runs slots (Ok found) are is =
        let long = are.long in
        first_found slots 0 found (omega (arith, long)) (λ i told at. let e : i ≡ 0 + i = omega arith in
        subst (λ (n : ℕ). IfOk told (λ found. IsFirstIn c functions bodies (start n) (start (n + 1)) found)) e (are.each i told at)) (λ j below. absurd (omega (arith, below))) is
    first_of_runs slots (Err e) are is = tt
