-- Each event keeps what holds of the marks.
use Rattle.std.proofs.Common.{◌≡◌, ◌≢◌, ℕ, zero, suc, ◌/◌, ◌%◌, ◌^◌, ◌<◌, ◌≤◌, Bool, cond, List, [], ◌∷◌, ◌++◌, length, set, get_or, replicate, refl, sym, ap, ◌∙◌, subst, arith, eq-eqb, ne_eqb, length-set}
use Rattle.std.proofs.lemmas.List.{length-replicate}
use Rattle.std.specs.Int.{bit_at}
use Rattle.std.specs.Int.Bits.{bit_or}
use mathlib.Core.Logic.{dite}
use mathlib.Core.Option.{some, some-ne-none, some-injective}
use native.Mathlib.Decide.{dec_lt, ℕ_discrete}
use lib.ListN.{get_elem?}
use Rattle.atomic_table.proofs.Lists.{set_else}
use Rattle.mark_bits.specs.declared.party.Party.{Party}
use Rattle.mark_bits.specs.Words.{times, Among, word_count, bit_of, set_bit}
use Rattle.mark_bits.specs.Marks.{starter, spent, marked_first, marked_again, with_mark, kept_part, joined, Marks, Event, mark, split, join, party_at, after, end, Fits, AllFit}
use Rattle.mark_bits.specs.Kept.{total, IsParty, Kept}
use Rattle.mark_bits.proofs.Lists.{times_append, one_here, none_here, bit_low, bit_here, bit_step, total_set, total_snoc, total_le, total_none, each_set, each_snoc, alone}

pub clear_word : (n i : ℕ) → get_or {A = ℕ} (replicate n 0) i 0 ≡ 0
clear_word zero i = refl
clear_word (suc n) zero = refl
clear_word (suc n) (suc i) = clear_word n i

pub clear_bit : (n c : ℕ) → bit_of (replicate n 0) c ≡ 0
clear_bit n c = let i : ℕ = c % 64 in ap (λ (m : ℕ). bit_at m i) (clear_word n (c / 64)) ∙ (let z : bit_at 0 i ≡ 0 = omega arith in z)

pub word_inside : (chunks c : ℕ) → c < chunks → c / 64 < word_count chunks
word_inside chunks c low = omega arith

pub starter_is : (chunks : ℕ) (words : List ℕ) (w : ℕ) → IsParty chunks words (starter w)
starter_is chunks words w = record { known = λ c h. absurd (omega arith); low = λ c h. absurd (omega arith); is_set = λ c h. absurd (omega arith); idle = λ z. ap starter z }

pub starts : (width chunks : ℕ) → Kept width chunks (replicate (word_count chunks) 0) (starter width ∷ [])
starts width chunks = record {
  long = length-replicate (word_count chunks) 0;
  widths = omega arith;
  firsts = λ c. let z = clear_bit (word_count chunks) c in omega arith;
  each = first;
}
  where
    first : (p : ℕ) (v : Party) → get_elem? (starter width ∷ []) p ≡ some v → IsParty chunks (replicate (word_count chunks) 0) v
    first zero v e = subst (IsParty chunks (replicate (word_count chunks) 0)) (some-injective (starter width) v e) (starter_is chunks (replicate (word_count chunks) 0) width)
    first (suc p) v e = absurd (some-ne-none v (sym e))

module _ (width chunks : ℕ) (words : List ℕ) (vs : List Party) (p : ℕ) (v : Party) (k : Kept width chunks words vs) (at : get_elem? vs p ≡ some v) where
  mine : IsParty chunks words v
  mine = k.each p v at

  module _ (c : ℕ) (below : c < chunks) (wide : 0 < v.width) where
    inside : c / 64 < length words
    inside = let w = word_inside chunks c below in let l = k.long in omega arith

    stays_party : (u : Party) → IsParty chunks words u → IsParty chunks (set_bit words c) u
    stays_party u m = record { known = m.known; low = m.low; is_set = λ x h. let one = m.is_set x h in let s = bit_step words c inside x in let low = bit_low (set_bit words c) x in omega arith; idle = m.idle }

    still_long : length (set_bit words c) ≡ word_count chunks
    still_long = length-set words (c / 64) (bit_or (get_or words (c / 64) 0) (2 ^ (c % 64))) ∙ k.long

    marked_is : (f : List ℕ) → ((x : ℕ) → Among x f → Among x (v.marked ++ c ∷ [])) → IsParty chunks (set_bit words c) (record { width = v.width; marked = v.marked ++ c ∷ []; first = f })
    marked_is f known' = record {
      known = known';
      low = λ x h. let a = times_append x v.marked (c ∷ []) in dite (ℕ_discrete x c) (λ e. (let d : x < chunks = omega arith in d)) (λ ne. let none = none_here x c (λ q. ne (sym q)) in mine.low x (omega arith));
      is_set = λ x h. let a = times_append x v.marked (c ∷ []) in let s = bit_step words c inside x in let low = bit_low (set_bit words c) x in
          dite (ℕ_discrete x c) (λ e. ap (bit_of (set_bit words c)) e ∙ bit_here words c inside) (λ ne. let none = none_here x c (λ q. ne (sym q)) in let one = mine.is_set x (omega arith) in omega arith);
      idle = λ z. absurd (omega arith);
    }

    marks_clear : bit_of words c ≡ 0 → Kept width chunks (set_bit words c) (set vs p (marked_first v c))
    marks_clear clear = let w : Party = marked_first v c in record {
      long = still_long;
      widths = let s = total_set (λ u. u.width) vs p v w at in let h = k.widths in omega arith;
      firsts = λ x. let s = total_set (λ u. times x u.first) vs p v w at in let h = k.firsts x in let a = times_append x v.first (c ∷ []) in let b = bit_step words c inside x in let low = bit_low words x in
          dite (ℕ_discrete x c)
          (λ e. let z : bit_of words x ≡ 0 = ap (bit_of words) e ∙ clear in let r : total (λ u. times x u.first) (set vs p w) ≡ bit_of (set_bit words c) x = omega arith in r)
          (λ ne. let none = none_here x c (λ q. ne (sym q)) in let r : total (λ u. times x u.first) (set vs p w) ≡ bit_of (set_bit words c) x = omega arith in r);
      each = each_set (IsParty chunks (set_bit words c)) vs p w (λ q u e. stays_party u (k.each q u e))
          (marked_is (v.first ++ c ∷ []) (λ x h. let a = times_append x v.first (c ∷ []) in let b = times_append x v.marked (c ∷ []) in let f = mine.known x in dite (dec_lt 0 (times x v.first)) (λ l. let g = f l in omega arith) (λ n. omega arith)));
    }

    marks_set : bit_of words c ≡ 1 → Kept width chunks (set_bit words c) (set vs p (marked_again v c))
    marks_set was = let w : Party = marked_again v c in record {
      long = still_long;
      widths = let s = total_set (λ u. u.width) vs p v w at in let h = k.widths in omega arith;
      firsts = λ x. let s = total_set (λ u. times x u.first) vs p v w at in let h = k.firsts x in let b = bit_step words c inside x in let low = bit_low words x in
          dite (ℕ_discrete x c)
          (λ e. let z : bit_of words x ≡ 1 = ap (bit_of words) e ∙ was in let t : times x (c ∷ []) ≡ 1 = subst (λ (y : ℕ). times y (c ∷ []) ≡ 1) (sym e) (one_here c) in let r : total (λ u. times x u.first) (set vs p w) ≡ bit_of (set_bit words c) x = omega arith in r)
          (λ ne. let none = none_here x c (λ q. ne (sym q)) in let r : total (λ u. times x u.first) (set vs p w) ≡ bit_of (set_bit words c) x = omega arith in r);
      each = each_set (IsParty chunks (set_bit words c)) vs p w (λ q u e. stays_party u (k.each q u e))
          (marked_is v.first (λ x h. let b = times_append x v.marked (c ∷ []) in let g = mine.known x h in omega arith));
    }

    pub marks_keep : Kept width chunks (set_bit words c) (set vs p (with_mark v c (bit_of words c)))
    marks_keep = dite (ℕ_discrete (bit_of words c) 0)
        (λ z. subst (λ (w : Party). Kept width chunks (set_bit words c) (set vs p w)) (sym (ap (λ (t : Bool). cond t (marked_first v c) (marked_again v c)) (eq-eqb (bit_of words c) 0 z))) (marks_clear z))
        (λ n. subst (λ (w : Party). Kept width chunks (set_bit words c) (set vs p w)) (sym (ap (λ (t : Bool). cond t (marked_first v c) (marked_again v c)) (ne_eqb (bit_of words c) 0 n))) (marks_set (let l = bit_low words c in omega arith)))

  pub splits_keep : (n : ℕ) → 1 ≤ n → n < v.width → Kept width chunks words (set vs p (kept_part n v) ++ starter n ∷ [])
  splits_keep n some_width less = let w : Party = kept_part n v in let g : Party = starter n in let ws : List Party = set vs p w in record {
    long = k.long;
    widths = let s = total_set (λ u. u.width) vs p v w at in let t = total_snoc (λ u. u.width) ws g in let h = k.widths in omega arith;
    firsts = λ x. let s = total_set (λ u. times x u.first) vs p v w at in let t = total_snoc (λ u. times x u.first) ws g in let h = k.firsts x in omega arith;
    each = each_snoc (IsParty chunks words) ws g
        (each_set (IsParty chunks words) vs p w k.each record { known = mine.known; low = mine.low; is_set = mine.is_set; idle = λ z. absurd (omega arith) })
        (starter_is chunks words n);
  }

  pub joins_keep : (q : ℕ) (u : Party) → q ≢ p → get_elem? vs q ≡ some u → 0 < v.width → Kept width chunks words (set (set vs p (joined v u)) q spent)
  joins_keep q u apart there wide = let w : Party = joined v u in let ws : List Party = set vs p w in let there' : get_elem? ws q ≡ some u = set_else vs p q w apart ∙ there in let theirs = k.each q u there in record {
    long = k.long;
    widths = let s = total_set (λ z. z.width) vs p v w at in let t = total_set (λ z. z.width) ws q u spent there' in let h = k.widths in omega arith;
    firsts = λ x. let s = total_set (λ z. times x z.first) vs p v w at in let t = total_set (λ z. times x z.first) ws q u spent there' in let h = k.firsts x in let a = times_append x v.first u.first in omega arith;
    each = each_set (IsParty chunks words) ws q spent
        (each_set (IsParty chunks words) vs p w k.each record {
          known = λ x h. let a = times_append x v.first u.first in let b = times_append x v.marked u.marked in let f = mine.known x in let g = theirs.known x in
              dite (dec_lt 0 (times x v.first)) (λ l. let r = f l in omega arith) (λ n. let r = g (omega arith) in omega arith);
          low = λ x h. let b = times_append x v.marked u.marked in dite (dec_lt 0 (times x v.marked)) (λ l. mine.low x l) (λ n. theirs.low x (omega arith));
          is_set = λ x h. let b = times_append x v.marked u.marked in dite (dec_lt 0 (times x v.marked)) (λ l. mine.is_set x l) (λ n. theirs.is_set x (omega arith));
          idle = λ z. absurd (omega arith);
        })
        (starter_is chunks words 0);
  }

  -- no chunk is marked first twice
  pub once_of : (x : ℕ) → times x v.first ≤ 1
  once_of x = let l = total_le (λ z. times x z.first) vs p v at in let h = k.firsts x in let b = bit_low words x in omega arith

  -- what the last party knows
  module _ (whole : v.width ≡ width) where
    others_spent : (q : ℕ) (u : Party) → get_elem? (set vs p spent) q ≡ some u → u ≡ spent
    others_spent q u e = (each_set (IsParty chunks words) vs p spent k.each (starter_is chunks words 0) q u e).idle (alone (λ z. z.width) vs p v at refl (k.widths ∙ sym whole) q u e)

    pub all_firsts : (c : ℕ) → times c v.first ≡ bit_of words c
    all_firsts c = let f : Party → ℕ = λ z. times c z.first in let s = total_set f vs p v spent at in let n = total_none f (set vs p spent) (λ q u e. ap f (others_spent q u e)) in let h = k.firsts c in omega arith

    pub all_set : (c : ℕ) → Among c v.marked → bit_of words c ≡ 1
    all_set c m = mine.is_set c m

    pub all_marked : (c : ℕ) → bit_of words c ≡ 1 → Among c v.marked
    all_marked c one = let f = all_firsts c in mine.known c (omega arith)

-- a party that is read with a default stands there, where it isn't the default
pub reads : (vs : List Party) (p : ℕ) → 0 < (get_or vs p spent).width → get_elem? vs p ≡ some (get_or vs p spent)
reads [] p l = absurd (omega arith)
reads (x ∷ xs) zero l = refl
reads (x ∷ xs) (suc p) l = reads xs p l

module _ (width chunks : ℕ) where
  keeps_fit : (r : Marks) (e : Event) → Kept width chunks r.words r.parties → Fits chunks r e → Kept width chunks (after r e).words (after r e).parties
  keeps_fit r (mark p c) k a = marks_keep width chunks r.words r.parties p (party_at r p) k (reads r.parties p a.0) c a.1 a.0
  keeps_fit r (split p w) k a = splits_keep width chunks r.words r.parties p (party_at r p) k (reads r.parties p (omega arith)) w a.0 a.1
  keeps_fit r (join p q) k a = joins_keep width chunks r.words r.parties p (party_at r p) k (reads r.parties p a.0) q (party_at r q) a.2 (reads r.parties q a.1) a.0

  pub keeps_fits : (r : Marks) (es : List Event) → Kept width chunks r.words r.parties → AllFit chunks r es → Kept width chunks (end r es).words (end r es).parties
  keeps_fits r [] k s = k
  keeps_fits r (e ∷ es) k s = keeps_fits (after r e) es (keeps_fit r e k s.0) s.1

  pub fit_snoc : (r : Marks) (es : List Event) (e : Event) → AllFit chunks r es → Fits chunks (end r es) e → AllFit chunks r (es ++ e ∷ [])
  fit_snoc r [] e s f = (f, tt)
  fit_snoc r (x ∷ es) e s f = (s.0, fit_snoc (after r x) es e s.1 f)

  pub end_snoc : (r : Marks) (es : List Event) (e : Event) → end r (es ++ e ∷ []) ≡ after (end r es) e
  end_snoc r [] e = refl
  end_snoc r (x ∷ es) e = end_snoc (after r x) es e
