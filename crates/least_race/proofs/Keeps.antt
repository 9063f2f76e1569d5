-- Each event keeps what holds of the race.
use Rattle.std.proofs.Common.{◌≡◌, ◌≢◌, ℕ, zero, suc, ◌+◌, ◌-◌, ◌^◌, ◌<◌, ◌≤◌, min, Bool, true, false, cond, List, [], ◌∷◌, ◌++◌, length, set, get_or, refl, sym, ap, ◌∙◌, subst, arith, length-append, eq-eqb, ne_eqb, length-set, get_or-set_other, get_or-set_same}
use Rattle.std.proofs.lemmas.Bool.Decides.{nat_tests}
use mathlib.Core.Logic.{dite}
use mathlib.Core.Option.{some, some-ne-none, some-injective}
use native.Mathlib.Decide.{dec_lt, ℕ_discrete}
use lib.ListN.{get_elem?}
use Rattle.atomic_table.proofs.Lists.{set_here, set_else}
use Rattle.least_race.specs.declared.party.Offer.{Offer}
use Rattle.least_race.specs.declared.party.Party.{Party}
use Rattle.least_race.specs.Invariant.{total, lowest, IsParty, Kept}
use Rattle.least_race.specs.Race.{times, once_below, least, starter, spent, with_claim, with_pass, claimed, proposed, kept_part, given_part, joined}
use Rattle.least_race.proofs.Parties.{times_append, once_next, least_le, least_append, total_set, total_snoc, total_le, total_none, lowest_top, lowest_le, lowest_set, lowest_snoc, lowest_none, place_inside, each_set, each_snoc, alone, below_jobs, past_jobs}

pub spent_is_party : (jobs : ℕ) (base : List ℕ) → IsParty jobs base spent
spent_is_party jobs base = record { passes = omega arith; ended = λ _. refl; same = λ l. absurd (omega arith); idle = λ _. refl }

pub starts : (width jobs : ℕ) (base : List ℕ) → 1 ≤ width → width ≤ 64 → jobs < 2 ^ 31 → Kept width jobs base 0 base (starter width jobs base ∷ [])
starts width jobs base some_width small few = record {
  small = small;
  few = few;
  long = refl;
  widths = omega arith;
  claims = λ x. let e : min 0 jobs ≡ 0 = omega arith in let o : once_below x 0 ≡ 0 = grind (arith, nat_tests) in sym (ap (once_below x) e ∙ o);
  drawn = omega arith;
  passes = omega arith;
  least_is = λ i l. omega arith;
  each = first;
}
  where
    first : (p : ℕ) (v : Party) → get_elem? (starter width jobs base ∷ []) p ≡ some v → IsParty jobs base v
    first zero v e = subst (IsParty jobs base) (some-injective (starter width jobs base) v e) record { passes = omega arith; ended = λ _. refl; same = λ _. (refl, refl); idle = λ z. absurd (omega arith) }
    first (suc p) v e = absurd (some-ne-none v (sym e))

module _ (width jobs : ℕ) (base : List ℕ) (next : ℕ) (words : List ℕ) (vs : List Party) (p : ℕ) (v : Party) (k : Kept width jobs base next words vs) (at : get_elem? vs p ≡ some v) where
  -- the least values stay where the party's stays
  same_lowest : (b : ℕ) (f : Party → ℕ) (w : Party) → f w ≡ f v → lowest b f (set vs p w) ≡ lowest b f vs
  same_lowest b f w same = let s = lowest_set f b vs p v w at in let l = lowest_le f b vs p v at in
      let l' = lowest_le f b (set vs p w) p w (set_here vs p w (place_inside vs p v at)) in omega arith

  mine : IsParty jobs base v
  mine = k.each p v at

  pub claims_below : next < jobs → v.ended ≡ false → 0 < v.width → Kept width jobs base (next + 1) words (set vs p (with_claim v next))
  claims_below below running wide = let w : Party = with_claim v next in record {
    small = k.small;
    few = k.few;
    long = k.long;
    widths = let s = total_set (λ u. u.width) vs p v w at in let h = k.widths in omega arith;
    claims = λ x. let s = total_set (λ u. times x u.claims) vs p v w at in let h = k.claims x in let t = times_append x v.claims (next ∷ []) in
        let o = once_next x next in let m : min next jobs ≡ next = omega arith in let m' : min (next + 1) jobs ≡ next + 1 = omega arith in
        let h' : total (λ u. times x u.claims) vs ≡ once_below x next = h ∙ ap (once_below x) m in
        let r : total (λ u. times x u.claims) (set vs p w) ≡ once_below x (next + 1) = omega arith in r ∙ ap (once_below x) (sym m');
    drawn = let s = total_set (λ (u : Party). length u.claims) vs p v w at in let h = k.drawn in let a = length-append v.claims (next ∷ []) in omega arith;
    passes = let s = total_set (λ u. u.passes) vs p v w at in let h = k.passes in omega arith;
    least_is = λ i l. k.least_is i l ∙ sym (same_lowest (get_or base i 0) (λ u. least i (get_or base i 0) u.proposals) w refl);
    each = each_set (IsParty jobs base) vs p w k.each record { passes = mine.passes; ended = mine.ended; same = mine.same; idle = λ z. absurd (omega arith) };
  }

  pub claims_past : jobs ≤ next → v.ended ≡ false → 0 < v.width → Kept width jobs base (next + 1) words (set vs p (with_pass v next))
  claims_past past running wide = let w : Party = with_pass v next in record {
    small = k.small;
    few = k.few;
    long = k.long;
    widths = let s = total_set (λ u. u.width) vs p v w at in let h = k.widths in omega arith;
    claims = λ x. let s = total_set (λ u. times x u.claims) vs p v w at in let h = k.claims x in
        let m : min next jobs ≡ min (next + 1) jobs = omega arith in
        let r : total (λ u. times x u.claims) (set vs p w) ≡ once_below x (min next jobs) = omega arith in r ∙ ap (once_below x) m;
    drawn = let s = total_set (λ (u : Party). length u.claims) vs p v w at in let h = k.drawn in omega arith;
    passes = let s = total_set (λ u. u.passes) vs p v w at in let h = k.passes in omega arith;
    least_is = λ i l. k.least_is i l ∙ sym (same_lowest (get_or base i 0) (λ u. least i (get_or base i 0) u.proposals) w refl);
    each = each_set (IsParty jobs base) vs p w k.each record { passes = (let z = mine.ended running in omega arith); ended = λ (e : true ≡ false). absurd (cc); same = mine.same; idle = λ z. absurd (omega arith) };
  }

  pub claims_keep : v.ended ≡ false → 0 < v.width → Kept width jobs base (next + 1) words (set vs p (claimed v next))
  claims_keep running wide = let same : v.jobs ≡ jobs = (mine.same wide).0 in dite (dec_lt next jobs)
      (λ l. subst (λ w. Kept width jobs base (next + 1) words (set vs p w)) (sym (below_jobs v next (omega arith))) (claims_below l running wide))
      (λ n. subst (λ w. Kept width jobs base (next + 1) words (set vs p w)) (sym (past_jobs v next (omega arith))) (claims_past (omega arith) running wide))

  -- a party's claims are below the next number
  pub claims_low : (x : ℕ) → 0 < times x v.claims → x < next
  claims_low x some_time = let l = total_le (λ u. times x u.claims) vs p v at in let h = k.claims x in
      dite (dec_lt x next) (λ l'. l') (λ n. let o : once_below x (min next jobs) ≡ 0 = grind (arith, nat_tests) in absurd (omega arith))

  -- a party has at most as many claims as jobs were drawn
  pub claims_few : 0 < v.width → length v.claims ≤ min next v.jobs
  claims_few wide = let l = total_le (λ (u : Party). length u.claims) vs p v at in let h = k.drawn in let e = (mine.same wide).0 in omega arith

  -- the number doesn't wrap
  pub no_wrap : next < jobs + 65
  no_wrap = let h = k.passes in let w = k.widths in let s = k.small in let l = passes_low vs k.each in omega arith
    where
      passes_low : (xs : List Party) → ((q : ℕ) (u : Party) → get_elem? xs q ≡ some u → IsParty jobs base u) → total (λ u. u.passes) xs ≤ total (λ u. u.width) xs
      passes_low [] h = omega arith
      passes_low (x ∷ xs) h = let a = (h 0 x refl).passes in let b = passes_low xs (λ q u e. h (suc q) u e) in omega arith

  pub proposes_keep : (o : Offer) (n : ℕ) → 0 < v.width → o.word < length base → Kept width jobs base next (set words o.word (min (get_or words o.word 0) o.rank)) (set vs p (proposed v o n))
  proposes_keep o n wide inside = let w : Party = proposed v o n in record {
    small = k.small;
    few = k.few;
    long = length-set words o.word (min (get_or words o.word 0) o.rank) ∙ k.long;
    widths = let s = total_set (λ u. u.width) vs p v w at in let h = k.widths in omega arith;
    claims = λ x. let s = total_set (λ u. times x u.claims) vs p v w at in let h = k.claims x in omega arith;
    drawn = let s = total_set (λ (u : Party). length u.claims) vs p v w at in let h = k.drawn in omega arith;
    passes = let s = total_set (λ u. u.passes) vs p v w at in let h = k.passes in omega arith;
    least_is = λ i l. let b : ℕ = get_or base i 0 in let f : Party → ℕ = λ u. least i b u.proposals in let h = k.least_is i l in let a = least_append i b v.proposals (o ∷ []) in
        dite (ℕ_discrete o.word i)
        (λ e. let now : get_or (set words o.word (min (get_or words o.word 0) o.rank)) i 0 ≡ min (get_or words i 0) o.rank = subst (λ (z : ℕ). get_or (set words z (min (get_or words z 0) o.rank)) i 0 ≡ min (get_or words i 0) o.rank) (sym e) (get_or-set_same words i (min (get_or words i 0) o.rank) 0 (let g = k.long in omega arith)) in
        let one : least i b (o ∷ []) ≡ min o.rank b = ap (λ (t : Bool). cond t (min o.rank b) b) (eq-eqb o.word i e) in
        let s = lowest_set f b vs p v w at in let lv = lowest_le f b vs p v at in let t = lowest_top f b vs in
        let lw = lowest_le f b (set vs p w) p w (set_here vs p w (place_inside vs p v at)) in omega arith)
        (λ ne. let now = get_or-set_other words o.word i (min (get_or words o.word 0) o.rank) 0 (λ (q : i ≡ o.word). ne (sym q)) in
        let one : least i b (o ∷ []) ≡ b = ap (λ (t : Bool). cond t (min o.rank b) b) (ne_eqb o.word i ne) in
        let le = least_le i b v.proposals in
        let same : f w ≡ f v = omega arith in now ∙ (h ∙ sym (same_lowest b f w same)));
    each = each_set (IsParty jobs base) vs p w k.each record { passes = mine.passes; ended = mine.ended; same = mine.same; idle = λ z. absurd (omega arith) };
  }

  pub finds : (i : ℕ) → i < length base → get_or words i 0 ≤ least i (get_or base i 0) v.proposals
  finds i l = let h = k.least_is i l in let lv = lowest_le (λ u. least i (get_or base i 0) u.proposals) (get_or base i 0) vs p v at in omega arith

  pub splits_keep : (n : ℕ) → 1 ≤ n → n < v.width → Kept width jobs base next words (set vs p (kept_part n v) ++ given_part n v ∷ [])
  splits_keep n some_width less = let w : Party = kept_part n v in let g : Party = given_part n v in let ws : List Party = set vs p w in record {
    small = k.small;
    few = k.few;
    long = k.long;
    widths = let s = total_set (λ u. u.width) vs p v w at in let t = total_snoc (λ u. u.width) ws g in let h = k.widths in omega arith;
    claims = λ x. let s = total_set (λ u. times x u.claims) vs p v w at in let t = total_snoc (λ u. times x u.claims) ws g in let h = k.claims x in omega arith;
    drawn = let s = total_set (λ (u : Party). length u.claims) vs p v w at in let t = total_snoc (λ (u : Party). length u.claims) ws g in let h = k.drawn in omega arith;
    passes = let s = total_set (λ u. u.passes) vs p v w at in let t = total_snoc (λ u. u.passes) ws g in let h = k.passes in omega arith;
    least_is = λ i l. let b : ℕ = get_or base i 0 in let f : Party → ℕ = λ u. least i b u.proposals in let s = same_lowest b f w refl in
        let t = lowest_snoc f b ws g (omega arith) in let m = lowest_top f b ws in let h = k.least_is i l in omega arith;
    each = each_snoc (IsParty jobs base) ws g
        (each_set (IsParty jobs base) vs p w k.each record { passes = (let a = mine.passes in omega arith); ended = λ e. (let a = mine.ended e in omega arith); same = λ _. mine.same (omega arith); idle = λ z. absurd (omega arith) })
        record { passes = omega arith; ended = λ e. (let a = mine.ended e in omega arith); same = λ _. mine.same (omega arith); idle = λ z. absurd (omega arith) };
  }

  pub joins_keep : (q : ℕ) (u : Party) → q ≢ p → get_elem? vs q ≡ some u → 0 < v.width → Kept width jobs base next words (set (set vs p (joined v u)) q spent)
  joins_keep q u apart there wide = let w : Party = joined v u in let ws : List Party = set vs p w in let there' : get_elem? ws q ≡ some u = set_else vs p q w apart ∙ there in record {
    small = k.small;
    few = k.few;
    long = k.long;
    widths = let s = total_set (λ z. z.width) vs p v w at in let t = total_set (λ z. z.width) ws q u spent there' in let h = k.widths in omega arith;
    claims = λ x. let s = total_set (λ z. times x z.claims) vs p v w at in let t = total_set (λ z. times x z.claims) ws q u spent there' in let h = k.claims x in let a = times_append x v.claims u.claims in omega arith;
    drawn = let s = total_set (λ (u : Party). length u.claims) vs p v w at in let t = total_set (λ (u : Party). length u.claims) ws q u spent there' in let a = length-append v.claims u.claims in let h = k.drawn in omega arith;
    passes = let s = total_set (λ z. z.passes) vs p v w at in let t = total_set (λ z. z.passes) ws q u spent there' in let h = k.passes in omega arith;
    least_is = λ i l. let b : ℕ = get_or base i 0 in let f : Party → ℕ = λ z. least i b z.proposals in let h = k.least_is i l in let a = least_append i b v.proposals u.proposals in
        let s = lowest_set f b vs p v w at in let t = lowest_set f b ws q u spent there' in
        let lv = lowest_le f b vs p v at in let lu = lowest_le f b vs q u there in
        let lw = lowest_le f b ws p w (set_here vs p w (place_inside vs p v at)) in
        let lw' = lowest_le f b (set ws q spent) p w (set_else ws q p spent (λ e. apart (sym e)) ∙ set_here vs p w (place_inside vs p v at)) in
        let top = lowest_top f b ws in omega arith;
    each = each_set (IsParty jobs base) ws q spent
        (each_set (IsParty jobs base) vs p w k.each record { passes = (let a = mine.passes in let c = (k.each q u there).passes in omega arith); ended = λ (e : true ≡ false). absurd (cc); same = λ _. mine.same wide; idle = λ z. absurd (omega arith) })
        (spent_is_party jobs base);
  }

  -- what the last party knows
  module _ (whole : v.width ≡ width) where
    others_spent : (q : ℕ) (u : Party) → get_elem? (set vs p spent) q ≡ some u → u ≡ spent
    others_spent q u e = (each_set (IsParty jobs base) vs p spent k.each (spent_is_party jobs base) q u e).idle (alone (λ z. z.width) vs p v at refl (k.widths ∙ sym whole) q u e)

    pub all_claims : (x : ℕ) → times x v.claims ≡ once_below x (min next jobs)
    all_claims x = let f : Party → ℕ = λ z. times x z.claims in let s = total_set f vs p v spent at in let n = total_none f (set vs p spent) (λ q u e. ap f (others_spent q u e)) in let h = k.claims x in omega arith

    pub all_passes : v.passes ≡ next - jobs
    all_passes = let f : Party → ℕ = λ z. z.passes in let s = total_set f vs p v spent at in let n = total_none f (set vs p spent) (λ q u e. ap f (others_spent q u e)) in let h = k.passes in omega arith

    pub all_least : (i : ℕ) → i < length base → get_or words i 0 ≡ least i (get_or base i 0) v.proposals
    all_least i l = let b : ℕ = get_or base i 0 in let f : Party → ℕ = λ z. least i b z.proposals in let s = lowest_set f b vs p v spent at in let n = lowest_none f b (set vs p spent) (λ q u e. ap f (others_spent q u e)) in
        let h = k.least_is i l in let t = lowest_top f b vs in let le = least_le i b v.proposals in omega arith
