-- Offers of jobs, as a seat proposes them.
use Rattle.std.proofs.Common.{◌≡◌, ℕ, zero, suc, ◌+◌, ◌<◌, Bool, true, false, List, [], ◌∷◌, ◌++◌, length, get_or, take, refl, sym, ap, ◌∙◌, subst, arith, append_assoc, append-nil, Some, None}
use Rattle.std.specs.declared.option.Option.{Option}
use Rattle.least_race.specs.declared.party.Offer.{Offer}
use Rattle.least_race.specs.declared.party.Party.{Party}
use Rattle.least_race.specs.Race.{with_claim, proposed, joined}
use Rattle.least_race.specs.Jobs.{Job, offers_in, offers_from}
use Rattle.least_race.specs.Seats.{SeatView, RaceView, IsSeatOf}
use Rattle.race_share.specs.Shares.{Adds, IsShare}

pub offers_in_append : (xs ys : Job) → offers_in (xs ++ ys) ≡ offers_in xs ++ offers_in ys
offers_in_append [] ys = refl
offers_in_append (None ∷ xs) ys = offers_in_append xs ys
offers_in_append (Some o ∷ xs) ys = ap (λ (l : List Offer). o ∷ l) (offers_in_append xs ys)

pub offers_from_append : (jobs : List Job) (xs ys : List ℕ) → offers_from jobs (xs ++ ys) ≡ offers_from jobs xs ++ offers_from jobs ys
offers_from_append jobs [] ys = refl
offers_from_append jobs (x ∷ xs) ys = ap (λ (l : List Offer). offers_in (get_or jobs x []) ++ l) (offers_from_append jobs xs ys) ∙ sym (append_assoc (offers_in (get_or jobs x [])) (offers_from jobs xs) (offers_from jobs ys))

-- one item more
pub offers_more : (xs : Job) (i : ℕ) → i < length xs → offers_in (take (i + 1) xs) ≡ offers_in (take i xs) ++ offers_in (get_or xs i None ∷ [])
offers_more xs i inside = subst (λ (n : ℕ). offers_in (take n xs) ≡ offers_in (take i xs) ++ offers_in (get_or xs i None ∷ [])) (let e : suc i ≡ i + 1 = omega arith in e) (by_suc xs i inside)
  where
    by_suc : (xs : Job) (i : ℕ) → i < length xs → offers_in (take (suc i) xs) ≡ offers_in (take i xs) ++ offers_in (get_or xs i None ∷ [])
    by_suc [] i l = absurd (omega arith)
    by_suc (x ∷ xs) zero l = refl
    by_suc (None ∷ xs) (suc i) l = by_suc xs i (omega arith)
    by_suc (Some o ∷ xs) (suc i) l = ap (λ (l : List Offer). o ∷ l) (by_suc xs i (omega arith))

-- a proposal of the next item
pub adds_one : (old v w : Party) (xs : Job) (i : ℕ) (o : Offer) (n : ℕ) → i < length xs → Some o ≡ get_or xs i None → w ≡ proposed v o n → Adds old v (offers_in (take i xs)) → Adds old w (offers_in (take (i + 1) xs))
adds_one old v w xs i o n inside is e a = subst (λ (z : Party). Adds old z (offers_in (take (i + 1) xs))) (sym e) record {
  width = a.width;
  claims = a.claims;
  passes = a.passes;
  ended = a.ended;
  proposals = ap (λ (l : List Offer). l ++ o ∷ []) a.proposals ∙ (append_assoc old.proposals (offers_in (take i xs)) (o ∷ []) ∙ ap (λ (l : List Offer). old.proposals ++ l) (ap (λ (z : Option Offer). offers_in (take i xs) ++ offers_in (z ∷ [])) is ∙ sym (offers_more xs i inside)));
}

pub adds_none : (old v : Party) (xs : Job) (i : ℕ) → i < length xs → None ≡ get_or xs i None → Adds old v (offers_in (take i xs)) → Adds old v (offers_in (take (i + 1) xs))
adds_none old v xs i inside is a = record {
  width = a.width;
  claims = a.claims;
  passes = a.passes;
  ended = a.ended;
  proposals = a.proposals ∙ ap (λ (l : List Offer). old.proposals ++ l) (sym (append-nil (offers_in (take i xs))) ∙ (ap (λ (z : Option Offer). offers_in (take i xs) ++ offers_in (z ∷ [])) is ∙ sym (offers_more xs i inside)));
}

-- a job that was claimed and proposed whole
pub exact_more : (jobs : List Job) (v w u : Party) (n : ℕ) → v.proposals ≡ offers_from jobs v.claims → w ≡ with_claim v n → Adds w u (offers_in (get_or jobs n [])) → u.proposals ≡ offers_from jobs u.claims
exact_more jobs v w u n exact e a =
    a.proposals
    ∙ (ap (λ (z : Party). z.proposals ++ offers_in (get_or jobs n [])) e
    ∙ (ap (λ (l : List Offer). l ++ offers_in (get_or jobs n [])) exact
    ∙ (ap (λ (l : List Offer). offers_from jobs v.claims ++ l) (sym (append-nil (offers_in (get_or jobs n []))))
    ∙ (sym (offers_from_append jobs v.claims (n ∷ [])) ∙ ap (offers_from jobs) (sym (a.claims ∙ ap (λ (z : Party). z.claims) e))))))

-- two done shares of a race are one
pub joins_shares : (r r' : RaceView) (s t u : SeatView) (start n start' n' : ℕ) (d d' : Bool) → r' ≡ r → d ≡ true → d' ≡ true → start' ≡ start + n → IsShare r s start n d → IsShare r' t start' n' d'
    → IsSeatOf r u → u.party ≡ joined s.party t.party → IsShare r u start (n + n') d
joins_shares r r' s t u start n start' n' d d' same done done' beside a b own e = record {
  own = own;
  width = ap (λ (z : Party). z.width) e ∙ (λ i. a.width i + b.width i);
  room = (let f = b.room in omega arith);
  exact = ap (λ (z : Party). z.proposals) e ∙ ((λ i. a.exact i ++ (b.exact ∙ ap (λ (z : RaceView). offers_from z.jobs t.party.claims) same) i) ∙ (sym (offers_from_append r.jobs s.party.claims t.party.claims) ∙ ap (λ (z : Party). offers_from r.jobs z.claims) (sym e)));
  fresh = λ (no : d ≡ false). absurd (cc);
  worked = λ _. ap (λ (z : Party). z.passes) e ∙ (λ i. a.worked done i + b.worked done' i);
}
