-- The least of offers that come one after another.
use Rattle.std.proofs.Common.{◌≡◌, inl, inr, ⊎_elim, ℕ, ◌≤◌, min, Bool, true, false, cond, nat_lt, List, [], ◌∷◌, ◌++◌, map, filter, Some, None, option_map, refl, sym, ap, subst, ◌∙◌, arith, ◌≢◌}
use Rattle.std.specs.Prelude.{Option}
use Rattle.std.proofs.lemmas.Bool.Decides.{nat_tests}
use mathlib.Core.Logic.{dite}
use native.Mathlib.Decide.{dec_le}
use Rattle.least_race.specs.declared.party.Offer.{Offer}
use Rattle.least_race.specs.Jobs.{Job, offers_in}
use Rattle.least_race.specs.Race.{offer}
use Rattle.name_entries.specs.name_rules.Entries.{InputSymbol}
use Rattle.name_entries.specs.name_rules.Meanings.{entry_rank, least, lesser}
use Rattle.least_race.proofs.Least.{In}
use Rattle.name_jobs.proofs.Items.{in_left, in_right, in_either, LeastIn}

-- the lesser of a rank and one that may be absent
abbrev pub lower : ℕ → Option ℕ → Option ℕ
lower r None = Some r
lower r (Some s) = Some (min r s)

-- an offer for another word
pub skips : (x : Offer) (os : List Offer) (i : ℕ) (m : Option ℕ) → x.word ≢ i → LeastIn os i m → LeastIn (x ∷ os) i m
skips x os i None other l = λ o m. ⊎_elim (λ (e : x ≡ o). λ w. other (ap (λ (z : Offer). z.word) e ∙ w)) (λ (t : In o os). l o t) m
skips x os i (Some r) other l = (
  (λ o m w. ⊎_elim (λ (e : x ≡ o). absurd (other (ap (λ (z : Offer). z.word) e ∙ w))) (λ (t : In o os). l.0 o t w) m),
  (let t = l.1 in (t.0, inr t.1, t.2, t.3)),
)

-- an offer for the word
pub takes : (x : Offer) (os : List Offer) (i : ℕ) (m : Option ℕ) → x.word ≡ i → LeastIn os i m → LeastIn (x ∷ os) i (lower x.rank m)
takes x os i None own l = (
  (λ o m w. ⊎_elim (λ (e : x ≡ o). let same = ap (λ (z : Offer). z.rank) e in let u : x.rank ≤ o.rank = omega arith in
      u) (λ (t : In o os). absurd (l o t w)) m),
  (x, inl refl, own, refl),
)
takes x os i (Some r) own l = (
  (λ o m w. ⊎_elim (λ (e : x ≡ o). let same = ap (λ (z : Offer). z.rank) e in let u : min x.rank r ≤ o.rank = omega arith in u)
      (λ (t : In o os). let low = l.0 o t w in let u : min x.rank r ≤ o.rank = omega arith in u) m),
  dite (dec_le x.rank r) (λ le. (x, inl refl, own, (let u : min x.rank r ≡ x.rank = omega arith in u)))
      (λ gt. let t = l.1 in let e = t.3 in (t.0, inr t.1, t.2, (let u : min x.rank r ≡ t.0.rank = omega arith in u))),
)

-- ---- one list behind another

abbrev pub lower_of : Option ℕ → Option ℕ → Option ℕ
lower_of None n = n
lower_of (Some r) n = lower r n

pub joins : (xs ys : List Offer) (i : ℕ) (m n : Option ℕ) → LeastIn xs i m → LeastIn ys i n → LeastIn (xs ++ ys) i (lower_of m n)
joins xs ys i None None h l = λ o m. ⊎_elim (λ (a : In o xs). h o a) (λ (b : In o ys). l o b) (in_either xs ys o m)
joins xs ys i None (Some s) h l = (
  (λ o m w. ⊎_elim (λ (a : In o xs). absurd (h o a w)) (λ (b : In o ys). l.0 o b w) (in_either xs ys o m)),
  (let t = l.1 in (t.0, in_right xs ys t.0 t.1, t.2, t.3)),
)
joins xs ys i (Some r) None h l = (
  (λ o m w. ⊎_elim (λ (a : In o xs). h.0 o a w) (λ (b : In o ys). absurd (l o b w)) (in_either xs ys o m)),
  (let t = h.1 in (t.0, in_left xs ys t.0 t.1, t.2, t.3)),
)
joins xs ys i (Some r) (Some s) h l = (
  (λ o m w. ⊎_elim (λ (a : In o xs). let low = h.0 o a w in let u : min r s ≤ o.rank = omega arith in u) (λ (b : In o ys). let low = l.0 o b w in
      let u : min r s ≤ o.rank = omega arith in u) (in_either xs ys o m)),
  dite (dec_le r s) (λ le. let t = h.1 in let e = t.3 in (t.0, in_left xs ys t.0 t.1, t.2, (let u : min r s ≡ t.0.rank = omega arith in u)))
      (λ gt. let t = l.1 in let e = t.3 in (t.0, in_right xs ys t.0 t.1, t.2, (let u : min r s ≡ t.0.rank = omega arith in u))),
)

-- ---- the least of entries

pick : (b : Bool) (e f : InputSymbol) (r s : ℕ) → entry_rank e ≡ r → entry_rank f ≡ s → nat_lt s r ≡ b
    → option_map entry_rank (cond b (Some f) (Some e)) ≡ Some (min r s)
pick true e f r s re rs t = ap Some (let u : entry_rank f ≡ min r s = rs ∙ grind (arith, nat_tests) in u)
pick false e f r s re rs t = ap Some (let u : entry_rank e ≡ min r s = re ∙ grind (arith, nat_tests) in u)

pub lesser_rank : (e : InputSymbol) (o : Option InputSymbol) → option_map entry_rank (lesser e o) ≡ lower (entry_rank e) (option_map entry_rank o)
lesser_rank e None = refl
lesser_rank e (Some f) = pick (nat_lt (entry_rank f) (entry_rank e)) e f (entry_rank e) (entry_rank f) refl refl refl

-- what an offer tells of a test: where it holds, the rank is offered for the word, and else nothing is
abbrev pub Tells : ℕ → ℕ → Bool → Option Offer → Type 0
Tells i r true o = o ≡ Some (offer i r)
Tells i r false None = Unit {0}
Tells i r false (Some o) = o.word ≢ i

next : (i : ℕ) (e : InputSymbol) (job : Job) (fs : List InputSymbol) (t : Bool) (o : Option Offer) → Tells i (entry_rank e) t o
    → LeastIn (offers_in job) i (option_map entry_rank (least fs))
    → LeastIn (offers_in (o ∷ job)) i (option_map entry_rank (least (cond t (e ∷ fs) fs)))
next i e job fs true o told l =
    subst (λ z. LeastIn (offers_in (z ∷ job)) i (option_map entry_rank (lesser e (least fs)))) (sym told)
    (subst (λ z. LeastIn (offer i (entry_rank e) ∷ offers_in job) i z) (sym (lesser_rank e (least fs)))
    (takes (offer i (entry_rank e)) (offers_in job) i (option_map entry_rank (least fs)) refl l))
next i e job fs false None told l = l
next i e job fs false (Some o) told l = skips o (offers_in job) i (option_map entry_rank (least fs)) told l

-- the least of what is offered is the rank of the least entry that passes the test
pub least_offer : (i : ℕ) (off : InputSymbol → Option Offer) (test : InputSymbol → Bool) → ((e : InputSymbol) → Tells i (entry_rank e) (test e) (off e))
    → (es : List InputSymbol) → LeastIn (offers_in (map off es)) i (option_map entry_rank (least (filter test es)))
least_offer i off test tells [] = λ o m. absurd m
least_offer i off test tells (e ∷ es) = next i e (map off es) (filter test es) (test e) (off e) (tells e) (least_offer i off test tells es)
