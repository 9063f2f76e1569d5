-- Placing one segment after another.
use Rattle.std.proofs.Common.{◌≡◌, ℕ, ◌-◌, ◌^◌, List, [], ◌∷◌, ◌++◌, Bool, true, false, refl, sym, ap, ◌∙◌, subst, Option, Some, None, Result, Ok, Err}
use Rattle.std.specs.Prelude.{option_map}
use Rattle.wl_base.specs.Choice.{◌>>=◌, unless, first_some}
use Rattle.wl_base.specs.declared.layout_error.LayoutError.{LayoutError}
use Rattle.wl_base.specs.declared.fault.What.TheVariants.{DataEnd}
use Rattle.memory_layout.specs.declared.rules.MemoryRules.{MemoryRules}
use Rattle.memory_layout.specs.declared.rules.SegmentShape.{SegmentShape}
use Rattle.memory_layout.specs.Memory.{last_end, solid, zeros, placed, data_past, is_above, Passed, address_after, end_after, addresses, too_much, too_much_of, base_of, memory_of, memory_overflow, places, heap_past, max_past, data_end}
use Rattle.memory_layout.specs.Steps.{run, placed_both, around_of}

abbrev pub with_front : List ℕ → Result (List ℕ × ℕ) LayoutError → Result (List ℕ × ℕ) LayoutError
with_front front rest = rest >>= λ x. Ok (front ++ x.0, x.1)

abbrev OkOf : ℕ → Result ℕ LayoutError
OkOf n = Ok n

abbrev ErrOf : LayoutError → Result ℕ LayoutError
ErrOf f = Err f

abbrev high : ℕ → SegmentShape → Bool
high at s = is_above (2 ^ 32 - 1) (end_after at s)

run_both-step : (at : ℕ) (x : SegmentShape) (xs ys : List SegmentShape) (past : Bool) → high at x ≡ past
    → run (end_after at x) (xs ++ ys) ≡ (run (end_after at x) xs >>= λ end. run end ys)
    → run at (x ∷ xs ++ ys) ≡ (run at (x ∷ xs) >>= λ end. run end ys)
run_both-step at x xs ys true is rest = rw is refl
run_both-step at x xs ys false is rest = rw is rest

-- a run over both is one run after the other
run_both : (at : ℕ) (xs ys : List SegmentShape) → run at (xs ++ ys) ≡ (run at xs >>= λ end. run end ys)
run_both at [] ys = refl
run_both at (x ∷ xs) ys = run_both-step at x xs ys (high at x) refl (run_both (end_after at x) xs ys)

no_err : (f : LayoutError) (end : ℕ) → ErrOf f ≡ OkOf end → ⊥
no_err f end e = cc

run_end-step : (at end : ℕ) (s : SegmentShape) (ss : List SegmentShape) (past : Bool) → high at s ≡ past → run at (s ∷ ss) ≡ Ok end
    → (high at s ≡ false) × (run (end_after at s) ss ≡ Ok end)
run_end-step at end s ss true is fit = absurd (no_err (too_much DataEnd (end_after at s)) end (rw is at fit))
run_end-step at end s ss false is fit = (is, rw is at fit)

-- a run that fits is one whose first segment fits
run_end : (at end : ℕ) (s : SegmentShape) (ss : List SegmentShape) → run at (s ∷ ss) ≡ Ok end → (high at s ≡ false) × (run (end_after at s) ss ≡ Ok end)
run_end at end s ss fit = run_end-step at end s ss (high at s) refl fit

-- what both walks of the code give for a list
abbrev Both : (next next_zero : ℕ) → List SegmentShape → Type 0
Both next next_zero shapes = placed_both next next_zero shapes ≡ ◌>>=◌ {B = List ℕ × ℕ} (run next_zero (zeros shapes)) (λ last. Ok (addresses next next_zero shapes, last))

bound : (r : Result ℕ LayoutError) (a : ℕ) (xs : List ℕ)
    → ◌>>=◌ {B = List ℕ × ℕ} (◌>>=◌ {B = List ℕ × ℕ} r (λ last. Ok (xs, last))) (λ rest. Ok (a ∷ rest.0, rest.1)) ≡ ◌>>=◌ {B = List ℕ × ℕ} r (λ last. Ok (a ∷ xs, last))
bound (Ok n) a xs = refl
bound (Err f) a xs = refl

both_zero : (next next_zero : ℕ) (s : SegmentShape) (ss : List SegmentShape) (past : Bool) → s.zero ≡ true → high next_zero s ≡ past
    → Both next (end_after next_zero s) ss → Both next next_zero (s ∷ ss)
both_zero next next_zero s ss true zero is rest = rw (zero, is) refl
both_zero next next_zero s ss false zero is rest = rw (zero, is, rest) (bound (run (end_after next_zero s) (zeros ss)) (address_after next_zero s) (addresses next (end_after next_zero s) ss))

both_solid : (next next_zero : ℕ) (s : SegmentShape) (ss : List SegmentShape) → s.zero ≡ false → high next s ≡ false
    → Both (end_after next s) next_zero ss → Both next next_zero (s ∷ ss)
both_solid next next_zero s ss zero is rest = rw (zero, is, rest) (bound (run next_zero (zeros ss)) (address_after next s) (addresses (end_after next s) next_zero ss))

both_step : (next next_zero end : ℕ) (s : SegmentShape) (ss : List SegmentShape) (zero : Bool) → s.zero ≡ zero
    → ((n z : ℕ) → run n (solid ss) ≡ Ok end → Both n z ss) → run next (solid (s ∷ ss)) ≡ Ok end → Both next next_zero (s ∷ ss)
both_step next next_zero end s ss true zero on fit =
    both_zero next next_zero s ss (high next_zero s) zero refl (on next (end_after next_zero s) (rw zero at fit))
both_step next next_zero end s ss false zero on fit =
    let parts = run_end next end s (solid ss) (rw zero at fit) in
    both_solid next next_zero s ss zero parts.0 (on (end_after next s) next_zero parts.1)

-- where the solid ones fit, the addresses are there as soon as the zero ones fit
both_is : (next next_zero end : ℕ) (shapes : List SegmentShape) → run next (solid shapes) ≡ Ok end → Both next next_zero shapes
both_is next next_zero end [] fit = refl
both_is next next_zero end (s ∷ ss) fit = both_step next next_zero end s ss s.zero refl (λ n z e. both_is n z end ss e) fit

unless_err : (past : Option LayoutError) (n : ℕ) (f : LayoutError) → unless past n ≡ ErrOf f → past ≡ Some f
unless_err None n f e = absurd (no_err f n (sym e))
unless_err (Some g) n f e = cc

unless_ok : (past : Option LayoutError) (n m : ℕ) → unless past n ≡ OkOf m → (past ≡ None) × (n ≡ m)
unless_ok None n m e = (refl, cc)
unless_ok (Some g) n m e = absurd (no_err g m e)

-- the first that applies is the first one of all, or one of the rest
first_err : (past : Option Passed) (rest : List (Option Passed)) (f : LayoutError) → option_map too_much_of past ≡ Some f
    → option_map too_much_of (first_some (past ∷ rest)) ≡ Some f
first_err None rest f e = absurd cc
first_err (Some x) rest f e = e

first_ok : (past : Option Passed) (rest : List (Option Passed)) → option_map too_much_of past ≡ None → first_some (past ∷ rest) ≡ first_some rest
first_ok None rest e = refl
first_ok (Some x) rest e = absurd cc

module _ (rules : MemoryRules) (shapes : List SegmentShape) where
  all_err : (f : LayoutError) → run (base_of rules) (placed shapes) ≡ Err f → memory_of rules shapes ≡ Err f
  unfolding memory_of memory_overflow places
  all_err f e =
      let past = data_past (base_of rules) (placed shapes) in
      rw (first_err past (heap_past rules (data_end rules shapes) ∷ max_past rules (data_end rules shapes) ∷ []) f (unless_err (option_map too_much_of past) (data_end rules shapes) f e)) refl

  all_ok : (z end : ℕ) → last_end (base_of rules) (solid shapes) ≡ z → run (base_of rules) (placed shapes) ≡ Ok end
      → memory_of rules shapes ≡ around_of rules (addresses (base_of rules) z shapes) end
  unfolding memory_of memory_overflow places
  all_ok z end solid_end e =
      let past = data_past (base_of rules) (placed shapes) in
      let is = unless_ok (option_map too_much_of past) (data_end rules shapes) end e in
      let none = first_ok past (heap_past rules (data_end rules shapes) ∷ max_past rules (data_end rules shapes) ∷ []) is.0 in
      subst (λ n. memory_of rules shapes ≡ around_of rules (addresses (base_of rules) n shapes) end) solid_end
      (subst (λ n. memory_of rules shapes ≡ around_of rules (addresses (base_of rules) (last_end (base_of rules) (solid shapes)) shapes) n) is.1 (rw none refl))

  -- the three ways through `place`
  pub solid_err : (f : LayoutError) → run (base_of rules) (solid shapes) ≡ Err f → memory_of rules shapes ≡ Err f
  solid_err f e = all_err f (run_both (base_of rules) (solid shapes) (zeros shapes) ∙ rw e refl)

  module _ (z : ℕ) (fit : run (base_of rules) (solid shapes) ≡ Ok z) where
    pub zeros_err : (f : LayoutError) → placed_both (base_of rules) z shapes ≡ Err f → memory_of rules shapes ≡ Err f
    zeros_err f e = all_err f (run_both (base_of rules) (solid shapes) (zeros shapes) ∙ rw fit (err_of (run z (zeros shapes)) (sym (both_is (base_of rules) z z shapes fit) ∙ e)))
      where
        err_of : (r : Result ℕ LayoutError) → ◌>>=◌ {B = List ℕ × ℕ} r (λ last. Ok (addresses (base_of rules) z shapes, last)) ≡ Err f → r ≡ Err f
        err_of (Ok n) e = absurd cc
        err_of (Err g) e = cc

    pub all_fit : (addressed : List ℕ) (end : ℕ) → placed_both (base_of rules) z shapes ≡ Ok (addressed, end) → memory_of rules shapes ≡ around_of rules addressed end
    all_fit addressed end e =
        let parts = ok_of (run z (zeros shapes)) (sym (both_is (base_of rules) z z shapes fit) ∙ e) in
        subst (λ xs. memory_of rules shapes ≡ around_of rules xs end) parts.0
        (all_ok z end (unless_ok (option_map too_much_of (data_past (base_of rules) (solid shapes))) (last_end (base_of rules) (solid shapes)) z fit).1
        (run_both (base_of rules) (solid shapes) (zeros shapes) ∙ rw fit parts.1))
      where
        ok_of : (r : Result ℕ LayoutError) → ◌>>=◌ {B = List ℕ × ℕ} r (λ last. Ok (addresses (base_of rules) z shapes, last)) ≡ Ok (addressed, end)
            → (addresses (base_of rules) z shapes ≡ addressed) × (r ≡ Ok end)
        ok_of (Ok n) e =
            let x : List ℕ × ℕ = (addresses (base_of rules) z shapes, n) in
            let y : List ℕ × ℕ = (addressed, end) in
            let p : x ≡ y = cc in
            (ap (λ q. q.0) p, ap (λ q. Ok q.1) p)
        ok_of (Err g) e = absurd cc
