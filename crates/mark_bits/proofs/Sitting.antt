-- A seat stays one of its marks.
use Rattle.std.proofs.Common.{◌≡◌, ℕ, ◌<◌, ◌≤◌, Bool, cond, [], ◌∷◌, ◌++◌, sym, ap, ◌∙◌, subst, arith, eq-eqb, ne_eqb}
use mathlib.Core.Logic.{dite}
use native.Mathlib.Decide.{dec_lt, ℕ_discrete}
use Rattle.mark_bits.specs.declared.party.Party.{Party}
use Rattle.mark_bits.specs.Words.{times, Among}
use Rattle.mark_bits.specs.Marks.{starter, marked_first, marked_again, with_mark, kept_part, joined}
use Rattle.mark_bits.specs.Seats.{SeatView, BitsView, IsSeatOf}
use Rattle.mark_bits.proofs.Lists.{times_append, none_here}

module _ (b : BitsView) (s t : SeatView) (is : IsSeatOf b s) (own : t.marks ≡ b.marks) where
  with_party : (v : Party) → t.party ≡ v → ((c : ℕ) → Among c v.marked → c < b.chunks) → ((c : ℕ) → Among c v.first → Among c v.marked) → ((c : ℕ) → times c v.first ≤ 1) → IsSeatOf b t
  with_party v e low known once = record {
    own = own;
    low = λ c m. low c (subst (λ (z : Party). Among c z.marked) e m);
    known = λ c m. subst (λ (z : Party). Among c z.marked) (sym e) (known c (subst (λ (z : Party). Among c z.first) e m));
    once = λ c. subst (λ (z : Party). times c z.first ≤ 1) (sym e) (once c);
  }

  pub seat_marked : (c n : ℕ) → t.party ≡ with_mark s.party c n → c < b.chunks → ((x : ℕ) → times x t.party.first ≤ 1) → IsSeatOf b t
  seat_marked c n e below once = dite (ℕ_discrete n 0)
      (λ z. let e' : t.party ≡ marked_first s.party c = e ∙ ap (λ (t : Bool). cond t (marked_first s.party c) (marked_again s.party c)) (eq-eqb n 0 z) in with_party (marked_first s.party c) e' low
      (λ x m. let a = times_append x s.party.first (c ∷ []) in let d = times_append x s.party.marked (c ∷ []) in let k = is.known x in dite (dec_lt 0 (times x s.party.first)) (λ l. let g = k l in omega arith) (λ l. omega arith))
      (λ x. subst (λ (z : Party). times x z.first ≤ 1) e' (once x)))
      (λ ne. let e' : t.party ≡ marked_again s.party c = e ∙ ap (λ (t : Bool). cond t (marked_first s.party c) (marked_again s.party c)) (ne_eqb n 0 ne) in with_party (marked_again s.party c) e' low
      (λ x m. let d = times_append x s.party.marked (c ∷ []) in let g = is.known x m in omega arith)
      (λ x. is.once x))
    where
      low : (x : ℕ) → Among x (s.party.marked ++ c ∷ []) → x < b.chunks
      low x m = let d = times_append x s.party.marked (c ∷ []) in dite (ℕ_discrete x c) (λ e. (let h : x < b.chunks = omega arith in h)) (λ ne. let none = none_here x c (λ q. ne (sym q)) in is.low x (omega arith))

  pub seat_kept : (w : ℕ) → t.party ≡ kept_part w s.party → IsSeatOf b t
  seat_kept w e = with_party (kept_part w s.party) e is.low is.known is.once

  pub seat_given : (w : ℕ) → t.party ≡ starter w → IsSeatOf b t
  seat_given w e = with_party (starter w) e (λ c m. absurd (omega arith)) (λ c m. absurd (omega arith)) (λ c. omega arith)

  pub seat_joined : (u : SeatView) → IsSeatOf b u → t.party ≡ joined s.party u.party → ((x : ℕ) → times x t.party.first ≤ 1) → IsSeatOf b t
  seat_joined u other e once = with_party (joined s.party u.party) e
      (λ x m. let d = times_append x s.party.marked u.party.marked in dite (dec_lt 0 (times x s.party.marked)) (λ l. is.low x l) (λ n. other.low x (omega arith)))
      (λ x m. let a = times_append x s.party.first u.party.first in let d = times_append x s.party.marked u.party.marked in
      dite (dec_lt 0 (times x s.party.first)) (λ l. let g = is.known x l in omega arith) (λ n. let g = other.known x (omega arith) in omega arith))
      (λ x. subst (λ (z : Party). times x z.first ≤ 1) e (once x))

pub seat_new : (b : BitsView) (t : SeatView) (w : ℕ) → t.marks ≡ b.marks → t.party ≡ starter w → IsSeatOf b t
seat_new b t w own e = record {
  own = own;
  low = λ c m. let m' = subst (λ (z : Party). Among c z.marked) e m in absurd (omega arith);
  known = λ c m. let m' = subst (λ (z : Party). Among c z.first) e m in absurd (omega arith);
  once = λ c. subst (λ (z : Party). times c z.first ≤ 1) (sym e) (omega arith);
}
