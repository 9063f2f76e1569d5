-- The offers of jobs, one after another, and where they stand.
use Rattle.std.proofs.Common.{◌≡◌, ◌⊎◌, inl, inr, ⊎_elim, ℕ, zero, suc, ◌<◌, ◌≤◌, List, [], ◌∷◌, ◌++◌, length, flat_map, slice_index_or, Some, None, refl, ap, arith, ◌≢◌}
use Rattle.std.specs.Prelude.{Option}
use Rattle.least_race.specs.declared.party.Offer.{Offer}
use Rattle.least_race.specs.Jobs.{Job, IsItem, offers_in}
use Rattle.least_race.proofs.Least.{In}
use Rattle.race_share.specs.Offered.{IsLeastOffer}

pub in_left : (xs ys : List Offer) (o : Offer) → In o xs → In o (xs ++ ys)
in_left [] ys o m = absurd m
in_left (x ∷ xs) ys o m = ⊎_elim (λ (e : x ≡ o). inl e) (λ (t : In o xs). inr (in_left xs ys o t)) m

pub in_right : (xs ys : List Offer) (o : Offer) → In o ys → In o (xs ++ ys)
in_right [] ys o m = m
in_right (x ∷ xs) ys o m = inr (in_right xs ys o m)

pub in_either : (xs ys : List Offer) (o : Offer) → In o (xs ++ ys) → In o xs ⊎ In o ys
in_either [] ys o m = inr m
in_either (x ∷ xs) ys o m = ⊎_elim (λ (e : x ≡ o). inl (inl e))
    (λ (t : In o (xs ++ ys)). ⊎_elim (λ (l : In o xs). inl (inr l)) (λ (r : In o ys). inr r) (in_either xs ys o t)) m

-- ---- the offers of jobs

abbrev pub all_offers : List Job → List Offer
all_offers jobs = flat_map offers_in jobs

item_of : (job : Job) (k : ℕ) (o : Offer) → slice_index_or job k None ≡ Some o → In o (offers_in job)
item_of [] k o e = absurd (let bad : None ≡ Some o = e in cc)
item_of (None ∷ xs) zero o e = absurd (let bad : None ≡ Some o = e in cc)
item_of (None ∷ xs) (suc k) o e = item_of xs k o e
item_of (Some x ∷ xs) zero o e = inl (let same : Some x ≡ Some o = e in cc)
item_of (Some x ∷ xs) (suc k) o e = inr (item_of xs k o e)

-- an item of the jobs is one of their offers
pub item_in : (jobs : List Job) (j k : ℕ) (o : Offer) → slice_index_or (slice_index_or jobs j []) k None ≡ Some o → In o (all_offers jobs)
item_in [] j k o e = absurd (let bad : None ≡ Some o = e in cc)
item_in (job ∷ jobs) zero k o e = in_left (offers_in job) (all_offers jobs) o (item_of job k o e)
item_in (job ∷ jobs) (suc j) k o e = in_right (offers_in job) (all_offers jobs) o (item_in jobs j k o e)

place_of : (job : Job) (o : Offer) → In o (offers_in job) → (k : ℕ) × (k < length job) × (slice_index_or job k None ≡ Some o)
place_of [] o m = absurd m
place_of (None ∷ xs) o m = let t = place_of xs o m in let l = t.1 in (suc t.0, omega arith, t.2)
place_of (Some x ∷ xs) o m = ⊎_elim (λ (e : x ≡ o). (0, omega arith, ap Some e))
    (λ (r : In o (offers_in xs)). let t = place_of xs o r in let l = t.1 in (suc t.0, omega arith, t.2)) m

-- an offer of the jobs is an item of them
pub in_item : (jobs : List Job) (o : Offer) → In o (all_offers jobs) → (j : ℕ) × (k : ℕ) × IsItem jobs j k o
in_item [] o m = absurd m
in_item (job ∷ jobs) o m = ⊎_elim
    (λ (here : In o (offers_in job)). let t = place_of job o here in (0, t.0, (omega arith, t.1, t.2)))
    (λ (there : In o (all_offers jobs)). let t = in_item jobs o there in let l = t.2.0 in (suc t.0, t.1, (omega arith, t.2.1, t.2.2)))
    (in_either (offers_in job) (all_offers jobs) o m)

-- ---- the least of a list of offers

-- m is the least rank that is offered for the word, or none where none is
abbrev pub LeastIn : List Offer → ℕ → Option ℕ → Type 0
LeastIn os i None = (o : Offer) → In o os → o.word ≢ i
LeastIn os i (Some m) = ((o : Offer) → In o os → o.word ≡ i → m ≤ o.rank) × ((o : Offer) × In o os × (o.word ≡ i) × (m ≡ o.rank))

-- two answers that are both the least are one
pub one_least : (jobs : List Job) (i : ℕ) (m n : Option ℕ) → IsLeastOffer jobs i m → LeastIn (all_offers jobs) i n → m ≡ n
one_least jobs i None None h l = refl
one_least jobs i None (Some n) h l = let t = l.1 in let at = in_item jobs t.0 t.1 in absurd (h at.0 at.1 t.0 at.2 t.2)
one_least jobs i (Some m) None h l = let t = h.1 in absurd (l t.2 (item_in jobs t.0 t.1 t.2 t.3.2) t.4)
one_least jobs i (Some m) (Some n) h l =
    let t = h.1 in let u = l.1 in let at = in_item jobs u.0 u.1 in
    let low = h.0 at.0 at.1 u.0 at.2 u.2 in
    let other = l.0 t.2 (item_in jobs t.0 t.1 t.2 t.3.2) t.4 in
    let e = t.5 in let f = u.3 in
    ap Some (let same : m ≡ n = omega arith in same)
