-- Each step on the table is an event of the marks.
use Rattle.std.proofs.Common.{◌≡◌, ◌≢◌, ℕ, zero, suc, ◌*◌, ◌/◌, ◌%◌, ◌^◌, ◌<◌, ◌≤◌, List, [], ◌∷◌, ◌++◌, length, set, get_or, replicate, refl, sym, ap, ◌∙◌, subst, arith, Bool, cond, eqb, eq-eqb, ne_eqb}
use Rattle.std.proofs.lemmas.Nat.Bits.{and_pow}
use Rattle.std.proofs.lemmas.Nat.{pow_below}
use Rattle.std.proofs.Math.Pow.{pow_pos}
use Rattle.std.proofs.Math.Nat.{zero-mul}
use Rattle.std.specs.Bool.{MatchBool}
use Rattle.std.specs.Int.{bit_at}
use Rattle.std.specs.Int.Bits.{bit_or, bit_and}
use mathlib.Core.Logic.{dite}
use mathlib.Core.Option.{some, some-ne-none, some-injective}
use native.Mathlib.Decide.{ℕ_discrete}
use lib.ListN.{get_elem?}
use Rattle.atomic_table.specs.Table.{State, Me, step, keeps, Allows, Splits, Joins, opening, Final, Seen}
use Rattle.atomic_table.proofs.Lists.{set_here, set_else, set_again}
use Rattle.mark_bits.specs.declared.party.Party.{Party}
use Rattle.mark_bits.specs.Words.{times, Among, word_count, bit_of}
use Rattle.mark_bits.specs.Marks.{starter, spent, with_mark, kept_part, joined, Marks, Event, mark, split, join, after, opening_marks, Fits}
use Rattle.mark_bits.specs.Kept.{Kept}
use Rattle.mark_bits.specs.Rule.{marks_of, MarkRule, Marked, Looked}
use Rattle.mark_bits.proofs.Keeps.{starts, keeps_fits, fit_snoc, end_snoc, once_of, all_firsts, all_set, all_marked}

the_party : (vs : List Party) (p : ℕ) (v : Party) → get_elem? vs p ≡ some v → v ≡ get_or vs p spent
the_party [] p v e = absurd (some-ne-none v (sym e))
the_party (x ∷ xs) zero v e = sym (some-injective x v e)
the_party (x ∷ xs) (suc p) v e = the_party xs p v e

-- what the rule says of the table
pub kept_of : (width chunks : ℕ) (s : State ℕ Party) → MarkRule width chunks s → Kept width chunks s.words s.views
kept_of width chunks s r = let P : Marks → Type 0 = λ z. Kept width chunks z.words z.parties in
    subst P r.reached (keeps_fits width chunks (opening_marks width chunks) r.events (starts width chunks) r.fit)

-- a step that is an event keeps the rule
goes_on : (width chunks : ℕ) (s t : State ℕ Party) (e : Event) → MarkRule width chunks s → Fits chunks (marks_of s) e → after (marks_of s) e ≡ marks_of t → MarkRule width chunks t
goes_on width chunks s t e r fits is = record {
  some_width = r.some_width;
  small = r.small;
  events = r.events ++ e ∷ [];
  fit = fit_snoc width chunks (opening_marks width chunks) r.events e r.fit (subst (λ z. Fits chunks z e) (sym r.reached) fits);
  reached = end_snoc width chunks (opening_marks width chunks) r.events e ∙ (ap (λ z. after z e) r.reached ∙ is);
}

at_inside : (xs : List Party) (q : ℕ) (u : Party) → get_elem? xs q ≡ some u → q < length xs
at_inside [] q u e = absurd (some-ne-none u (sym e))
at_inside (x ∷ xs) zero u e = omega arith
at_inside (x ∷ xs) (suc q) u e = let h = at_inside xs q u e in omega arith

pub marks : (width chunks slots id c bit m : ℕ) (me : Me ℕ Party) → m ≡ c → c < chunks → 0 < me.0.width → bit ≡ 2 ^ (c % 64)
    → Allows (MarkRule width chunks) slots id me (c / 64) (λ n. bit_or n bit) (Marked m (step slots (c / 64) bit 0 mathlib.Core.Option.none) me)
marks width chunks slots id c bit m me picked below wide is s r _ at _ =
    let got = the_party s.views id me.0 at in
    let w : Party = with_mark me.0 c (bit_of s.words c) in
    let n : ℕ = get_or s.words (c / 64) 0 in
    let t : State ℕ Party = record { words = set s.words (c / 64) (bit_or n bit); homes = s.homes; views = set s.views id w } in
    let fits : Fits chunks (marks_of s) (mark id c) = (subst (λ (z : Party). 0 < z.width) got wide, below) in
    let same : after (marks_of s) (mark id c) ≡ marks_of t = λ i. record { words = set s.words (c / 64) (bit_or n (sym is i)); parties = set s.views id (with_mark (sym got i) c (bit_of s.words c)) } in
    let rule = goes_on width chunks s t (mark id c) r fits same in
    let there : get_elem? t.views id ≡ some w = set_here s.views id w (at_inside s.views id me.0 at) in
    (w, keeps, tt, rule, ((λ i. (with_mark me.0 (sym picked i) (bit_at n ((sym picked i) % 64)), me.1)), λ x. once_of width chunks t.words t.views id w (kept_of width chunks t rule) there x))

set_same : (l : List ℕ) (i : ℕ) → set l i (get_or l i 0) ≡ l
set_same [] i = refl
set_same (x ∷ xs) zero = refl
set_same (x ∷ xs) (suc i) = ap (λ (l : List ℕ). x ∷ l) (set_same xs i)

pub looks : (width chunks slots id word : ℕ) (me : Me ℕ Party) → Allows (MarkRule width chunks) slots id me word (λ n. n) (Looked (step slots word 0 0 mathlib.Core.Option.none) me)
looks width chunks slots id word me s r _ at _ = (
  me.0,
  keeps,
  tt,
  record { some_width = r.some_width; small = r.small; events = r.events; fit = r.fit; reached = r.reached ∙ (λ i. record { words = sym (set_same s.words word) i; parties = sym (set_again s.views id me.0 at) i }) },
  (refl, λ x. once_of width chunks s.words s.views id me.0 (kept_of width chunks s r) at x),
)

pub splits : (width chunks id : ℕ) (v : Party) (n m : ℕ) → m ≡ n → 1 ≤ n → n < v.width → Splits (MarkRule width chunks) id v (kept_part m v) (starter m)
splits width chunks id v n m picked some_width less s r at = let got = the_party s.views id v at in let t : State ℕ Party = record { words = s.words; homes = s.homes; views = set s.views id (kept_part m v) ++ starter m ∷ [] } in
    goes_on width chunks s t (split id n) r (some_width, subst (λ (z : Party). n < z.width) got less) (λ j. record { words = s.words; parties = set s.views id (kept_part (sym picked j) (sym got j)) ++ starter (sym picked j) ∷ [] })

pub joins : (width chunks id : ℕ) (v : Party) (other : ℕ) (w : Party) → 0 < v.width → 0 < w.width → Joins (MarkRule width chunks) id v other w (joined v w) spent
joins width chunks id v other w wide wide' s r at apart there =
    let got = the_party s.views id v at in let theirs = the_party s.views other w (sym (set_else s.views id other (joined v w) apart) ∙ there) in
    let t : State ℕ Party = record { words = s.words; homes = s.homes; views = set (set s.views id (joined v w)) other spent } in
    goes_on width chunks s t (join id other) r (subst (λ (z : Party). 0 < z.width) got wide, subst (λ (z : Party). 0 < z.width) theirs wide', apart)
    (λ j. record { words = s.words; parties = set (set s.views id (joined (sym got j) (sym theirs j))) other spent })

pub opens : (width chunks : ℕ) (words : List ℕ) → 1 ≤ width → width ≤ 64 → words ≡ replicate (word_count chunks) 0 → MarkRule width chunks (opening words [] (starter width))
opens width chunks words some_width small clear = record { some_width = some_width; small = small; events = []; fit = tt; reached = λ i. record { words = sym clear i; parties = starter width ∷ [] } }

pub one_bit : (k : ℕ) → k < 64 → 1 * 2 ^ k % 18446744073709551616 ≡ 2 ^ k
one_bit k l = let p = pow_below k 64 l in let m : ℕ = 2 ^ k in let p' : m < 18446744073709551616 = p in let r : 1 * m % 18446744073709551616 ≡ m = omega arith in r

-- what the test of the word that was found says
pub told : {A : Type 0} (n k t : ℕ) (xs ys f : A) → t ≡ 2 ^ k → f ≡ cond (eqb (bit_at n k) 0) xs ys → MatchBool (eqb (bit_and n t) 0) (f ≡ xs) (f ≡ ys)
told n k t xs ys f is e = let a : bit_and n t ≡ bit_at n k * 2 ^ k = ap (bit_and n) is ∙ and_pow n k in dite (ℕ_discrete (bit_at n k) 0)
    (λ z. let none : bit_and n t ≡ 0 = a ∙ (ap (λ (b : ℕ). b * 2 ^ k) z ∙ zero-mul (2 ^ k)) in
    subst (λ (b : Bool). MatchBool b (f ≡ xs) (f ≡ ys)) (sym (eq-eqb (bit_and n t) 0 none)) (e ∙ ap (λ (b : Bool). cond b xs ys) (eq-eqb (bit_at n k) 0 z)))
    (λ ne. let one : bit_at n k ≡ 1 = omega arith in let some : bit_and n t ≡ 1 * 2 ^ k = a ∙ ap (λ (b : ℕ). b * 2 ^ k) one in let p = pow_pos k in let m : ℕ = 2 ^ k in
    let big : bit_and n t ≢ 0 = λ q. (let w : 0 < m = p in let v : bit_and n t ≡ 1 * m = some in absurd (omega arith)) in
    subst (λ (b : Bool). MatchBool b (f ≡ xs) (f ≡ ys)) (sym (ne_eqb (bit_and n t) 0 big)) (e ∙ ap (λ (b : Bool). cond b xs ys) (ne_eqb (bit_at n k) 0 ne)))

-- what the seat of whole width learns at the end
module _ (width chunks : ℕ) (words xs : List ℕ) (id : ℕ) (v : Party) (final : Final (Seen (MarkRule width chunks) id v) words xs) (whole : v.width ≡ width) where
  pub end_firsts : (c : ℕ) → times c v.first ≡ bit_of words c
  end_firsts c = let s = final.0 in subst (λ (l : List ℕ). times c v.first ≡ bit_of l c) final.2 (all_firsts width chunks s.words s.views id v (kept_of width chunks s final.1.0) final.1.1 whole c)

  pub end_set : (c : ℕ) → Among c v.marked → bit_of words c ≡ 1
  end_set c m = let s = final.0 in subst (λ (l : List ℕ). bit_of l c ≡ 1) final.2 (all_set width chunks s.words s.views id v (kept_of width chunks s final.1.0) final.1.1 whole c m)

  pub end_marked : (c : ℕ) → bit_of words c ≡ 1 → Among c v.marked
  end_marked c one = let s = final.0 in all_marked width chunks s.words s.views id v (kept_of width chunks s final.1.0) final.1.1 whole c (subst (λ (l : List ℕ). bit_of l c ≡ 1) (sym final.2) one)
