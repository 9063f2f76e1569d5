-- Rounds reach exactly what walks reach.
use Rattle.std.proofs.Common.{◌≡◌, ◌≢◌, inl, inr, ⊎_elim, ℕ, zero, suc, ◌+◌, ◌^◌, true≢false, ◌<◌, ◌≤◌, Bool, true, false, List, [], ◌∷◌, ◌++◌, length, get_or, refl, sym, ap, ◌∙◌, subst, arith, length-append}
use mathlib.Core.Logic.{dite}
use native.Mathlib.Decide.{dec_lt, ℕ_discrete}
use Rattle.mark_bits.specs.Words.{times, Among, bit_of}
use Rattle.mark_bits.specs.Marks.{starter}
use Rattle.mark_bits.specs.Reach.{Reached}
use Rattle.mark_bits.specs.Rounds.{targets_of}
use Rattle.mark_bits.specs.declared.party.Party.{Party}
use Rattle.mark_bits.specs.Seats.{SeatView, BitsView, IsSeatOf}
use Rattle.mark_bits.proofs.Lists.{times_append, one_here, none_here}
use Rattle.mark_bits.proofs.Rounds.{target_of, of_target, reached_on, reached_root, closed_has}
use Rattle.live_mark.specs.Asks.{Below, AllBelow, asks, IsPlan, RoundDone}
use Rattle.live_mark.specs.Going.{Going}
use Rattle.live_mark.proofs.Joints.{asks_roots, asks_targets}
use Rattle.live_mark.proofs.Works.{at_among}

-- a list without repeats of numbers below n has at most n
sum_below : ℕ → List ℕ → ℕ
sum_below zero xs = 0
sum_below (suc n) xs = sum_below n xs + times n xs

sum_none : (n : ℕ) → sum_below n [] ≡ 0
unfolding sum_below
sum_none zero = refl
sum_none (suc n) = let h = sum_none n in omega arith

sum_cons : (n x : ℕ) (xs : List ℕ) → x < n → sum_below n (x ∷ xs) ≡ sum_below n xs + 1
unfolding sum_below
sum_cons zero x xs l = absurd (omega arith)
sum_cons (suc n) x xs l = let t = times_append n (x ∷ []) xs in dite (ℕ_discrete x n)
    (λ e. let one : times n (x ∷ []) ≡ 1 = subst (λ (y : ℕ). times y (x ∷ []) ≡ 1) e (one_here x) in let p = sum_past n x xs (omega arith) in omega arith)
    (λ ne. let none = none_here n x ne in let h = sum_cons n x xs (omega arith) in omega arith)
  where
    sum_past : (n x : ℕ) (xs : List ℕ) → n ≤ x → sum_below n (x ∷ xs) ≡ sum_below n xs
    sum_past zero x xs l = refl
    sum_past (suc n) x xs l = let t = times_append n (x ∷ []) xs in let h = sum_past n x xs (omega arith) in let ne : x ≢ n = omega arith in let none = none_here n x ne in omega arith

sum_all : (n : ℕ) (xs : List ℕ) → Below n xs → sum_below n xs ≡ length xs
sum_all n [] b = sum_none n
sum_all n (x ∷ xs) b = let o = one_here x in let t = times_append x (x ∷ []) xs in let l = b x (omega arith) in
    let h = sum_all n xs (λ c m. b c (let t = times_append c (x ∷ []) xs in omega arith)) in let s = sum_cons n x xs l in omega arith

sum_low : (n : ℕ) (xs : List ℕ) → ((c : ℕ) → times c xs ≤ 1) → sum_below n xs ≤ n
unfolding sum_below
sum_low zero xs h = omega arith
sum_low (suc n) xs h = let r = sum_low n xs h in let o = h n in omega arith

pub few_first : (b : BitsView) (s : SeatView) → IsSeatOf b s → length s.party.first ≤ b.chunks
few_first b s is = let e = sum_all b.chunks s.party.first (λ c m. is.low c (is.known c m)) in let l = sum_low b.chunks s.party.first is.once in omega arith

pub below_targets : (count : ℕ) (targets : List (List ℕ)) (frontier : List ℕ) → ((c : ℕ) → Below count (get_or targets c [])) → Below count (asks false targets frontier)
below_targets count targets frontier low t m = let h = target_of targets frontier t (subst (λ (l : List ℕ). Among t l) (asks_targets targets frontier) m) in low h.0 t h.2

pub below_roots : (count : ℕ) (targets : List (List ℕ)) (roots : List ℕ) → Below count roots → Below count (asks true targets roots)
below_roots count targets roots low t m = low t (subst (λ (l : List ℕ). Among t l) (asks_roots targets roots) m)

-- the first round can be run, and each later one
pub roots_plan : (b : BitsView) (targets : List (List ℕ)) (roots : List ℕ) → b.chunks ≡ length targets → length roots < 2 ^ 32 → Below (length targets) roots → IsPlan b true targets roots
roots_plan b targets roots count short low = record {
  short = short;
  rows = λ no. absurd (true≢false no);
  below = λ t m. (let h = below_roots (length targets) targets roots low t m in omega arith);
}

pub frontier_plan : (b : BitsView) (targets : List (List ℕ)) (roots : List ℕ) (workers : ℕ) (s : SeatView) (frontier : List ℕ) → b.chunks ≡ length targets → length targets < 2 ^ 32 → AllBelow targets → Going b targets roots workers s frontier → IsPlan b false targets frontier
frontier_plan b targets roots workers s frontier count short low g = record {
  short = let few = few_first b s g.own in let less = g.few in omega arith;
  rows = λ no i inside. (let h = g.own.low (get_or frontier i 0) (g.own.known (get_or frontier i 0) (g.ahead (get_or frontier i 0) (at_among frontier i inside))) in omega arith);
  below = λ t m. (let h = below_targets (length targets) targets frontier low t m in omega arith);
}

module _ (b : BitsView) (targets : List (List ℕ)) (roots : List ℕ) (workers : ℕ) where
  -- after the first round
  pub going_first : (v : Party) (t : SeatView) (fresh : List ℕ) (refused : Bool) → v ≡ starter workers → RoundDone b v (asks true targets roots) t fresh refused → refused ≡ false → Going b targets roots workers t fresh
  going_first v t fresh refused new done kept =
      let marked' : t.party.marked ≡ roots = done.marked ∙ ((λ i. (new i).marked ++ asks true targets roots) ∙ asks_roots targets roots) in
      let first' : t.party.first ≡ fresh = done.first kept ∙ (λ i. (new i).first ++ fresh) in
      record {
        own = done.own;
        wide = done.width ∙ ap (λ (z : Party). z.width) new;
        few = let e = ap (λ (l : List ℕ). length l) first' in omega arith;
        ahead = λ c m. subst (λ (l : List ℕ). Among c l) (sym first') m;
        sound = λ c m. reached_root targets roots c (subst (λ (l : List ℕ). Among c l) marked' m);
        rooted = λ c m. subst (λ (l : List ℕ). Among c l) (sym marked') m;
        closed = λ c t m r. inr (subst (λ (l : List ℕ). Among c l) first' m);
      }

  -- after a later round
  pub going_next : (s t : SeatView) (frontier fresh : List ℕ) (refused : Bool) → Going b targets roots workers s frontier → RoundDone b s.party (asks false targets frontier) t fresh refused → refused ≡ false → Going b targets roots workers t fresh
  going_next s t frontier fresh refused g done kept =
      let first = done.first kept in
      let marked' : t.party.marked ≡ s.party.marked ++ targets_of targets frontier = done.marked ∙ ap (λ (l : List ℕ). s.party.marked ++ l) (asks_targets targets frontier) in
      let in_marked : (c : ℕ) → times c t.party.marked ≡ times c s.party.marked + times c (targets_of targets frontier) = λ c. ap (times c) marked' ∙ times_append c s.party.marked (targets_of targets frontier) in
      let in_first : (c : ℕ) → times c t.party.first ≡ times c s.party.first + times c fresh = λ c. ap (times c) first ∙ times_append c s.party.first fresh in
      record {
        own = done.own;
        wide = done.width ∙ g.wide;
        few = let e = ap (λ (l : List ℕ). length l) first in let a = length-append s.party.first fresh in omega arith;
        ahead = λ c m. (let e = in_first c in omega arith);
        sound = λ c m. (let e = in_marked c in dite (dec_lt 0 (times c s.party.marked)) (λ l. g.sound c l)
            (λ n. let h = target_of targets frontier c (omega arith) in reached_on targets roots h.0 c (g.sound h.0 (g.own.known h.0 (g.ahead h.0 h.1))) h.2));
        rooted = λ c m. (let e = in_marked c in let h = g.rooted c m in omega arith);
        closed = λ c u m r. (let e = in_first c in let e' = in_marked u in dite (dec_lt 0 (times c s.party.first))
            (λ l. ⊎_elim (λ (h : Among u s.party.marked). inl (let d : 0 < times u t.party.marked = omega arith in d)) (λ (h : Among c frontier). inl (let o = of_target targets frontier c u h r in let d : 0 < times u t.party.marked = omega arith in d)) (g.closed c u l r))
            (λ n. inr (let d : 0 < times c fresh = omega arith in d)));
      }

  -- where the frontier is empty
  module _ (s : SeatView) (words : List ℕ) (g : Going b targets roots workers s []) (marked : (c : ℕ) → Among c s.party.marked → bit_of words c ≡ 1) (set : (c : ℕ) → bit_of words c ≡ 1 → Among c s.party.marked) (once : (c : ℕ) → times c s.party.first ≡ bit_of words c) where
    pub end_sound : (c : ℕ) → bit_of words c ≡ 1 → Reached targets roots c
    end_sound c one = g.sound c (set c one)

    pub end_whole : (c : ℕ) → Reached targets roots c → bit_of words c ≡ 1
    end_whole = closed_has (λ c. bit_of words c ≡ 1) targets roots (λ c m. marked c (g.rooted c m))
        (λ c t one r. let e = once c in ⊎_elim (λ (h : Among t s.party.marked). marked t h) (λ (h : Among c []). absurd (omega arith)) (g.closed c t (omega arith) r))
