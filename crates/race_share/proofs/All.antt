-- Where each job was claimed once, the proposals are all offers.
use Rattle.std.proofs.Common.{◌≡◌, ◌⊎◌, inl, inr, ⊎_elim, ℕ, zero, suc, ◌<◌, ◌≤◌, Bool, cond, eqb, List, [], ◌∷◌, ◌++◌, length, get_or, refl, sym, ap, subst, arith, ne_eqb, Some, None}
use Rattle.std.proofs.lemmas.Bool.Decides.{nat_tests}
use mathlib.Core.Logic.{dite}
use native.Mathlib.Decide.{dec_lt, ℕ_discrete}
use Rattle.least_race.specs.declared.party.Offer.{Offer}
use Rattle.least_race.specs.Race.{times, once_below, least}
use Rattle.least_race.specs.Jobs.{Job, IsItem, IsLeastOf, offers_in, offers_from}
use Rattle.least_race.proofs.Least.{In, least_in, least_one}
use Rattle.least_race.proofs.Parties.{least_le}

in_left : (xs ys : List Offer) (o : Offer) → In o xs → In o (xs ++ ys)
in_left [] ys o m = absurd m
in_left (x ∷ xs) ys o m = ⊎_elim inl (λ (t : In o xs). inr (in_left xs ys o t)) m

in_right : (xs ys : List Offer) (o : Offer) → In o ys → In o (xs ++ ys)
in_right [] ys o m = m
in_right (x ∷ xs) ys o m = inr (in_right xs ys o m)

in_either : (xs ys : List Offer) (o : Offer) → In o (xs ++ ys) → In o xs ⊎ In o ys
in_either [] ys o m = inr m
in_either (x ∷ xs) ys o m = ⊎_elim (λ (e : x ≡ o). inl (inl e)) (λ (t : In o (xs ++ ys)). ⊎_elim (λ (l : In o xs). inl (inr l)) inr (in_either xs ys o t)) m

in_item : (xs : Job) (k : ℕ) (o : Offer) → k < length xs → get_or xs k None ≡ Some o → In o (offers_in xs)
in_item [] k o l e = absurd (omega arith)
in_item (None ∷ xs) zero o l e = absurd (cc)
in_item (Some x ∷ xs) zero o l e = let same : x ≡ o = cc in inl same
in_item (None ∷ xs) (suc k) o l e = in_item xs k o (omega arith) e
in_item (Some x ∷ xs) (suc k) o l e = inr (in_item xs k o (omega arith) e)

item_in : (xs : Job) (o : Offer) → In o (offers_in xs) → (k : ℕ) × (k < length xs) × (get_or xs k None ≡ Some o)
item_in [] o m = absurd m
item_in (None ∷ xs) o m = let h = item_in xs o m in let l = h.1 in (suc h.0, omega arith, h.2)
item_in (Some x ∷ xs) o m = ⊎_elim (λ (e : x ≡ o). (0, omega arith, ap Some e)) (λ (t : In o (offers_in xs)). let h = item_in xs o t in let l = h.1 in (suc h.0, omega arith, h.2)) m

from_in : (jobs : List Job) (claims : List ℕ) (job : ℕ) (o : Offer) → 0 < times job claims → In o (offers_in (get_or jobs job [])) → In o (offers_from jobs claims)
from_in jobs [] job o some_time m = absurd (omega arith)
from_in jobs (c ∷ cs) job o some_time m = dite (ℕ_discrete c job)
    (λ e. in_left (offers_in (get_or jobs c [])) (offers_from jobs cs) o (subst (λ (j : ℕ). In o (offers_in (get_or jobs j []))) (sym e) m))
    (λ ne. let z : cond {A = ℕ} (eqb c job) 1 0 ≡ 0 = ap (λ (b : Bool). cond {A = ℕ} b 1 0) (ne_eqb c job ne) in in_right (offers_in (get_or jobs c [])) (offers_from jobs cs) o (from_in jobs cs job o (omega arith) m))

past : (l : List Job) (k : ℕ) → length l ≤ k → get_or l k [] ≡ []
past [] k h = refl
past (x ∷ xs) zero h = absurd (omega arith)
past (x ∷ xs) (suc k) h = past xs k (omega arith)

in_from : (jobs : List Job) (claims : List ℕ) (o : Offer) → In o (offers_from jobs claims) → (job : ℕ) × (item : ℕ) × IsItem jobs job item o
in_from jobs [] o m = absurd m
in_from jobs (c ∷ cs) o m = ⊎_elim
    (λ (t : In o (offers_in (get_or jobs c []))). dite (dec_lt c (length jobs))
    (λ l. let h = item_in (get_or jobs c []) o t in (c, h.0, (l, h.1, h.2)))
    (λ n. absurd (subst (λ (j : Job). In o (offers_in j)) (past jobs c (omega arith)) t)))
    (λ (t : In o (offers_from jobs cs)). in_from jobs cs o t)
    (in_either (offers_in (get_or jobs c [])) (offers_from jobs cs) o m)

pub all_offers : (jobs : List Job) (claims : List ℕ) (i b : ℕ) → ((x : ℕ) → times x claims ≡ once_below x (length jobs)) → IsLeastOf jobs i b (least i b (offers_from jobs claims))
all_offers jobs claims i b all = let os = offers_from jobs claims in (
  least_le i b os,
  (λ job item o is e. let one : once_below job (length jobs) ≡ 1 = (let l = is.0 in grind (arith, nat_tests)) in let t = all job in
      least_in i b os o (from_in jobs claims job o (omega arith) (in_item (get_or jobs job []) item o is.1 is.2)) e),
  ⊎_elim inl (λ (t : (o : Offer) × In o os × (o.word ≡ i) × (least i b os ≡ o.rank)). let at = in_from jobs claims t.0 t.1 in inr (at.0, at.1, t.0, at.2, t.2, t.3)) (least_one i b os),
)
