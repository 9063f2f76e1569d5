-- Each step on the table is an event of the race.
use Rattle.std.proofs.Common.{◌≡◌, ℕ, zero, suc, ◌+◌, ◌-◌, ◌%◌, ◌^◌, ◌<◌, ◌≤◌, min, false, List, [], ◌∷◌, ◌++◌, length, set, get_or, drop, refl, sym, ap, ◌∙◌, subst, arith, length-set, get_or-set_same, get_or-set_other}
use mathlib.Core.Option.{some, some-ne-none, some-injective}
use lib.ListN.{get_elem?}
use Rattle.std.proofs.lemmas.Bool.Decides.{nat_tests}
use Rattle.atomic_table.specs.Table.{State, Me, step, keeps, Allows, Splits, Joins, opening, Final, Seen}
use Rattle.atomic_table.proofs.Lists.{set_else}
use Rattle.least_race.specs.declared.party.Offer.{Offer}
use Rattle.least_race.specs.declared.party.Party.{Party}
use Rattle.least_race.specs.Invariant.{KeptRace}
use Rattle.least_race.specs.Race.{Event, claim, propose, split, join, after, start, offer, times, once_below, least, starter, spent, claimed, proposed, kept_part, given_part, joined}
use Rattle.least_race.specs.Schedule.{Fits}
use Rattle.least_race.proofs.Schedules.{keeps_fits, fit_snoc, end_snoc}
use Rattle.least_race.specs.Rule.{race_of, LeastRule, Claims, Proposes}
use Rattle.least_race.proofs.Keeps.{starts, claims_low, claims_few, no_wrap, finds, all_claims, all_passes, all_least}

drop_set : (l : List ℕ) (a : ℕ) → drop 1 (set l 0 a) ≡ drop 1 l
drop_set [] a = refl
drop_set (x ∷ xs) a = refl

the_party : (vs : List Party) (p : ℕ) (v : Party) → get_elem? vs p ≡ some v → v ≡ get_or vs p spent
the_party [] p v e = absurd (some-ne-none v (sym e))
the_party (x ∷ xs) zero v e = sym (some-injective x v e)
the_party (x ∷ xs) (suc p) v e = the_party xs p v e

-- what the rule says of the table
pub kept_of : (width jobs : ℕ) (base : List ℕ) (s : State ℕ Party) → LeastRule width jobs base s → KeptRace width jobs base (race_of s)
kept_of width jobs base s r = subst (KeptRace width jobs base) r.reached (keeps_fits width jobs base (start width jobs base) r.events (starts width jobs base r.some_width r.small r.few) r.fit)

-- a step that is an event keeps the rule
goes_on : (width jobs : ℕ) (base : List ℕ) (s t : State ℕ Party) (e : Event) → LeastRule width jobs base s → Fits (length base) (race_of s) e → length t.words ≡ length s.words → after (race_of s) e ≡ race_of t → LeastRule width jobs base t
goes_on width jobs base s t e r fits long is = record {
  some_width = r.some_width;
  small = r.small;
  few = r.few;
  wide = long ∙ r.wide;
  events = r.events ++ e ∷ [];
  fit = fit_snoc width jobs base (start width jobs base) r.events e r.fit (subst (λ z. Fits (length base) z e) (sym r.reached) fits);
  reached = end_snoc width jobs base (start width jobs base) r.events e ∙ (ap (λ z. after z e) r.reached ∙ is);
}

pub claims : (width jobs : ℕ) (base : List ℕ) (slots id : ℕ) (me : Me ℕ Party) → me.0.ended ≡ false → 0 < me.0.width
    → Allows (LeastRule width jobs base) slots id me 0 (λ n. (n + 1) % 2 ^ 64) (Claims (step slots 0 1 0 mathlib.Core.Option.none) me)
claims width jobs base slots id me running wide s r _ at _ =
    let n : ℕ = get_or s.words 0 0 in
    let k = kept_of width jobs base s r in
    let top = no_wrap width jobs base n (drop 1 s.words) s.views id me.0 k at in
    let few = k.few in
    let w : Party = claimed me.0 n in
    let plain : (n + 1) % 2 ^ 64 ≡ n + 1 = omega arith in
    let wide' = r.wide in
    let now : get_or (set s.words 0 ((n + 1) % 2 ^ 64)) 0 0 ≡ n + 1 = get_or-set_same s.words 0 ((n + 1) % 2 ^ 64) 0 (omega arith) ∙ plain in
    let got = the_party s.views id me.0 at in
    let t : State ℕ Party = record { words = set s.words 0 ((n + 1) % 2 ^ 64); homes = s.homes; views = set s.views id w } in
    let fits : Fits (length base) (race_of s) (claim id) = (subst (λ (z : Party). 0 < z.width) got wide, subst (λ (z : Party). z.ended ≡ false) got running) in
    let is : after (race_of s) (claim id) ≡ race_of t = λ i. record { next = sym now i; words = sym (drop_set s.words ((n + 1) % 2 ^ 64)) i; parties = set s.views id (claimed (sym got i) n) } in
    (w, keeps, tt, goes_on width jobs base s t (claim id) r fits (length-set s.words 0 ((n + 1) % 2 ^ 64)) is, (refl, claims_low width jobs base n (drop 1 s.words) s.views id me.0 k at, claims_few width jobs base n (drop 1 s.words) s.views id me.0 k at wide))

drop_set_at : (l : List ℕ) (word a : ℕ) → 0 < word → drop 1 (set l word a) ≡ set (drop 1 l) (word - 1) a
drop_set_at l zero a some_word = absurd (omega arith)
drop_set_at [] (suc i) a some_word = refl
drop_set_at (x ∷ xs) (suc i) a some_word = let e : i ≡ suc i - 1 = omega arith in ap (λ (j : ℕ). set xs j a) e

read_at : (l : List ℕ) (word : ℕ) → 0 < word → get_or (drop 1 l) (word - 1) 0 ≡ get_or l word 0
read_at l zero some_word = absurd (omega arith)
read_at [] (suc i) some_word = refl
read_at (x ∷ xs) (suc i) some_word = let e : suc i - 1 ≡ i = omega arith in ap (λ (j : ℕ). get_or xs j 0) e

pub proposes : (width jobs : ℕ) (base : List ℕ) (slots id : ℕ) (me : Me ℕ Party) (word k : ℕ) → 0 < word → word - 1 < length base → 0 < me.0.width → me.0.base ≡ base
    → Allows (LeastRule width jobs base) slots id me word (λ n. min n k) (Proposes (step slots word k 0 mathlib.Core.Option.none) me)
proposes width jobs base slots id me word k some_word inside wide same s r _ at _ =
    let n : ℕ = get_or s.words word 0 in
    let i : ℕ = word - 1 in
    let o : Offer = offer i k in
    let next : ℕ = get_or s.words 0 0 in
    let names : List ℕ = drop 1 s.words in
    let e : Event = propose id 0 0 o in
    let found : get_or names i 0 ≡ n = read_at s.words word some_word in
    let first : get_or (set s.words word (min n k)) 0 0 ≡ next = get_or-set_other s.words word 0 (min n k) 0 (λ e. omega arith) in
    let others : drop 1 (set s.words word (min n k)) ≡ set names i (min (get_or names i 0) k) = drop_set_at s.words word (min n k) some_word ∙ ap (λ (z : ℕ). set names i (min z k)) (sym found) in
    let low = finds width jobs base next names s.views id me.0 (kept_of width jobs base s r) at i inside in
    let got = the_party s.views id me.0 at in
    let t : State ℕ Party = record { words = set s.words word (min n k); homes = s.homes; views = set s.views id (proposed me.0 o n) } in
    let fits : Fits (length base) (race_of s) e = (subst (λ (z : Party). 0 < z.width) got wide, inside) in
    let is : after (race_of s) e ≡ race_of t = λ j. record { next = sym first j; words = sym others j; parties = set s.views id (proposed (sym got j) o (found j)) } in (
      proposed me.0 o n,
      keeps,
      tt,
      goes_on width jobs base s t e r fits (length-set s.words word (min n k)) is,
      (refl, subst (λ (z : ℕ × List ℕ). z.0 ≤ least i (get_or z.1 i 0) me.0.proposals) (λ j. (found j, sym same j)) low),
    )

pub splits : (width jobs : ℕ) (base : List ℕ) (id : ℕ) (v : Party) (n : ℕ) → 1 ≤ n → n < v.width → Splits (LeastRule width jobs base) id v (kept_part n v) (given_part n v)
splits width jobs base id v n some_width less s r at = let got = the_party s.views id v at in let t : State ℕ Party = record { words = s.words; homes = s.homes; views = set s.views id (kept_part n v) ++ given_part n v ∷ [] } in
    goes_on width jobs base s t (split id n) r (some_width, subst (λ (z : Party). n < z.width) got less) refl (λ j. record { next = get_or s.words 0 0; words = drop 1 s.words; parties = set s.views id (kept_part n (sym got j)) ++ given_part n (sym got j) ∷ [] })

pub joins : (width jobs : ℕ) (base : List ℕ) (id : ℕ) (v : Party) (other : ℕ) (w : Party) → 0 < v.width → 0 < w.width → Joins (LeastRule width jobs base) id v other w (joined v w) spent
joins width jobs base id v other w wide wide' s r at apart there =
    let got = the_party s.views id v at in let theirs = the_party s.views other w (sym (set_else s.views id other (joined v w) apart) ∙ there) in
    let t : State ℕ Party = record { words = s.words; homes = s.homes; views = set (set s.views id (joined v w)) other spent } in
    goes_on width jobs base s t (join id other) r (subst (λ (z : Party). 0 < z.width) got wide, subst (λ (z : Party). 0 < z.width) theirs wide', apart) refl
    (λ j. record { next = get_or s.words 0 0; words = drop 1 s.words; parties = set (set s.views id (joined (sym got j) (sym theirs j))) other spent })

pub opens : (width jobs : ℕ) (base : List ℕ) → 1 ≤ width → width ≤ 64 → jobs < 2 ^ 31 → LeastRule width jobs base (opening (0 ∷ base) [] (starter width jobs base))
opens width jobs base some_width small few = record { some_width = some_width; small = small; few = few; wide = omega arith; events = []; fit = tt; reached = refl }

-- what the seat of whole width learns at the end
module _ (width jobs : ℕ) (base words xs : List ℕ) (id : ℕ) (v : Party) (final : Final (Seen (LeastRule width jobs base) id v) words xs) (whole : v.width ≡ width) where
  pub end_least : (i : ℕ) → i < length base → get_or words (i + 1) 0 ≡ least i (get_or base i 0) v.proposals
  end_least i inside = let s = final.0 in let k = kept_of width jobs base final.0 final.1.0 in let h = all_least width jobs base (get_or s.words 0 0) (drop 1 s.words) s.views id v k final.1.1 whole i inside in
      let some_word : 0 < i + 1 = omega arith in let e : (i + 1) - 1 ≡ i = omega arith in
      subst (λ (l : List ℕ). get_or l (i + 1) 0 ≡ least i (get_or base i 0) v.proposals) final.2 (sym (read_at s.words (i + 1) some_word) ∙ (ap (λ (j : ℕ). get_or (drop 1 s.words) j 0) e ∙ h))

  pub end_distinct : (x : ℕ) → times x v.claims ≤ 1
  end_distinct x = let s = final.0 in let k = kept_of width jobs base final.0 final.1.0 in let h = all_claims width jobs base (get_or s.words 0 0) (drop 1 s.words) s.views id v k final.1.1 whole x in
      let n : ℕ = min (get_or s.words 0 0) jobs in let o : once_below x n ≤ 1 = one x n in omega arith
    where
      one : (x n : ℕ) → once_below x n ≤ 1
      one x n = grind (arith, nat_tests)

  pub end_all : 0 < v.passes → (x : ℕ) → times x v.claims ≡ once_below x jobs
  end_all some_pass x = let s = final.0 in let k = kept_of width jobs base final.0 final.1.0 in let h = all_claims width jobs base (get_or s.words 0 0) (drop 1 s.words) s.views id v k final.1.1 whole x in
      let p = all_passes width jobs base (get_or s.words 0 0) (drop 1 s.words) s.views id v k final.1.1 whole in let m : min (get_or s.words 0 0) jobs ≡ jobs = omega arith in h ∙ ap (once_below x) m
