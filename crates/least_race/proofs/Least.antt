-- The least of ranks, and the offers that it is the least of.
use Rattle.std.proofs.Common.{◌≡◌, ◌⊎◌, inl, inr, ℕ, zero, suc, ◌<◌, ◌≤◌, min, Bool, true, false, cond, eqb, List, [], ◌∷◌, length, get_or, refl, ap, ◌∙◌, ⊎_elim, arith, eq-eqb, ne_eqb}
use Rattle.std.specs.List.{Contains}
use mathlib.Core.Logic.{dite}
use native.Mathlib.Decide.{dec_le, ℕ_discrete}
use Rattle.least_race.specs.declared.party.Offer.{Offer}
use Rattle.least_race.specs.Race.{least}

-- the offer is one of the list
abbrev pub In : Offer → List Offer → Type 0
In o [] = ⊥
In o (x ∷ xs) = (x ≡ o) ⊎ In o xs

by_place : (os : List Offer) (k : ℕ) (o : Offer) → k < length os → get_or os k o ≡ o → In o os
by_place [] k o l e = absurd (omega arith)
by_place (x ∷ xs) zero o l e = inl e
by_place (x ∷ xs) (suc k) o l e = inr (by_place xs k o (omega arith) e)

pub contained : (os : List Offer) (o : Offer) → Contains os o → In o os
contained os o c = by_place os c.0 o c.1 c.2

cond_member : (t : Bool) (r m k : ℕ) → m ≤ k → cond t (min r m) m ≤ k
cond_member true r m k l = omega arith
cond_member false r m k l = omega arith

pub least_in : (i b : ℕ) (os : List Offer) (o : Offer) → In o os → o.word ≡ i → least i b os ≤ o.rank
least_in i b [] o m e = absurd m
least_in i b (x ∷ xs) o m e = ⊎_elim
    (λ (same : x ≡ o). let t : eqb x.word i ≡ true = eq-eqb x.word i (ap (λ (z : Offer). z.word) same ∙ e) in let r : x.rank ≡ o.rank = ap (λ (z : Offer). z.rank) same in
    let d : cond (eqb x.word i) (min x.rank (least i b xs)) (least i b xs) ≡ min x.rank (least i b xs) = ap (λ (z : Bool). cond z (min x.rank (least i b xs)) (least i b xs)) t in omega arith)
    (λ (rest : In o xs). cond_member (eqb x.word i) x.rank (least i b xs) o.rank (least_in i b xs o rest e)) m

-- the least is the base, or one of the ranks
pub least_one : (i b : ℕ) (os : List Offer) → (least i b os ≡ b) ⊎ ((o : Offer) × In o os × (o.word ≡ i) × (least i b os ≡ o.rank))
least_one i b [] = inl refl
least_one i b (x ∷ xs) = let R : Type 0 = (o : Offer) × In o (x ∷ xs) × (o.word ≡ i) × (least i b (x ∷ xs) ≡ o.rank) in
    let m : ℕ = least i b xs in
    let tail : least i b (x ∷ xs) ≡ m → (least i b (x ∷ xs) ≡ b) ⊎ R = λ same. ⊎_elim (λ (e : m ≡ b). inl (same ∙ e)) (λ (t : (o : Offer) × In o xs × (o.word ≡ i) × (m ≡ o.rank)). inr (t.0, inr t.1, t.2, same ∙ t.3)) (least_one i b xs) in
    dite (ℕ_discrete x.word i)
    (λ e. let d : least i b (x ∷ xs) ≡ min x.rank m = ap (λ (z : Bool). cond z (min x.rank m) m) (eq-eqb x.word i e) in
    dite (dec_le x.rank m) (λ l. inr (x, inl refl, e, omega arith)) (λ n. tail (omega arith)))
    (λ ne. tail (ap (λ (z : Bool). cond z (min x.rank m) m) (ne_eqb x.word i ne)))
