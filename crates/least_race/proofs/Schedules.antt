-- What holds after every schedule.
use Rattle.std.proofs.Common.{◌≡◌, inl, inr, ℕ, zero, suc, ◌<◌, min, Bool, true, false, cond, eqb, List, [], ◌∷◌, ◌++◌, length, set, get_or, refl, sym, ap, ◌∙◌, subst, ⊎_elim, arith, eq-eqb, ne_eqb, length-set, get_or-set_other, get_or-set_same}
use mathlib.Core.Logic.{dite}
use mathlib.Core.Option.{some}
use native.Mathlib.Decide.{ℕ_discrete}
use lib.ListN.{get_elem?}
use Rattle.least_race.specs.declared.party.Offer.{Offer}
use Rattle.least_race.specs.declared.party.Party.{Party}
use Rattle.least_race.specs.Invariant.{Kept}
use Rattle.least_race.specs.Jobs.{Job, IsItem, WordsBelow, IsLeastOf}
use Rattle.least_race.specs.Race.{Race, Event, claim, propose, split, join, party_at, after, offers_of, end, least, spent}
use Rattle.least_race.specs.Schedule.{Fits, AllFit, Allowed, IsSchedule, begun, EverySchedule, EveryCompleteSchedule}
use Rattle.least_race.proofs.Least.{In, contained, least_in, least_one}
use Rattle.least_race.proofs.Parties.{least_le}
use Rattle.least_race.proofs.Keeps.{starts, claims_keep, proposes_keep, splits_keep, joins_keep}

-- a party that is read with a default stands there, where it isn't the default
pub reads : (vs : List Party) (p : ℕ) → 0 < (get_or vs p spent).width → get_elem? vs p ≡ some (get_or vs p spent)
reads [] p l = absurd (omega arith)
reads (x ∷ xs) zero l = refl
reads (x ∷ xs) (suc p) l = reads xs p l

module _ (width count : ℕ) (base : List ℕ) where
  keeps_fit : (r : Race) (e : Event) → Kept width count base r.next r.words r.parties → Fits (length base) r e → Kept width count base (after r e).next (after r e).words (after r e).parties
  keeps_fit r (claim p) k a = claims_keep width count base r.next r.words r.parties p (party_at r p) k (reads r.parties p a.0) a.1 a.0
  keeps_fit r (propose p job item o) k a = proposes_keep width count base r.next r.words r.parties p (party_at r p) k (reads r.parties p a.0) o (get_or r.words o.word 0) a.0 a.1
  keeps_fit r (split p w) k a = splits_keep width count base r.next r.words r.parties p (party_at r p) k (reads r.parties p (omega arith)) w a.0 a.1
  keeps_fit r (join p q) k a = joins_keep width count base r.next r.words r.parties p (party_at r p) k (reads r.parties p a.0) q (party_at r q) a.2 (reads r.parties q a.1) a.0

  pub keeps_fits : (r : Race) (es : List Event) → Kept width count base r.next r.words r.parties → AllFit (length base) r es → Kept width count base (end r es).next (end r es).words (end r es).parties
  keeps_fits r [] k s = k
  keeps_fits r (e ∷ es) k s = keeps_fits (after r e) es (keeps_fit r e k s.0) s.1

  pub fit_snoc : (r : Race) (es : List Event) (e : Event) → AllFit (length base) r es → Fits (length base) (end r es) e → AllFit (length base) r (es ++ e ∷ [])
  fit_snoc r [] e s f = (f, tt)
  fit_snoc r (x ∷ es) e s f = (s.0, fit_snoc (after r x) es e s.1 f)

  pub end_snoc : (r : Race) (es : List Event) (e : Event) → end r (es ++ e ∷ []) ≡ after (end r es) e
  end_snoc r [] e = refl
  end_snoc r (x ∷ es) e = end_snoc (after r x) es e

module _ (jobs : List Job) (base : List ℕ) (width : ℕ) (below : WordsBelow (length base) jobs) where
  -- what is allowed fits
  fits : (r : Race) (e : Event) → Allowed jobs r e → Fits (length base) r e
  fits r (claim p) a = a
  fits r (propose p job item o) a = (a.0, below job item o a.2)
  fits r (split p w) a = a
  fits r (join p q) a = a

  all_fit : (r : Race) (es : List Event) → IsSchedule jobs r es → AllFit (length base) r es
  all_fit r [] s = tt
  all_fit r (e ∷ es) s = (fits r e s.0, all_fit (after r e) es s.1)

  -- the words by the list of events
  words_end : (r : Race) (es : List Event) (i : ℕ) → IsSchedule jobs r es → length r.words ≡ length base → i < length base → get_or (end r es).words i 0 ≡ least i (get_or r.words i 0) (offers_of es)
  words_end r [] i s len l = refl
  words_end r (claim p ∷ es) i s len l = words_end (after r (claim p)) es i s.1 len l
  words_end r (split p w ∷ es) i s len l = words_end (after r (split p w)) es i s.1 len l
  words_end r (join p q ∷ es) i s len l = words_end (after r (join p q)) es i s.1 len l
  words_end r (propose p job item o ∷ es) i s len l =
      let m : ℕ = min (get_or r.words o.word 0) o.rank in
      let h = words_end (after r (propose p job item o)) es i s.1 (length-set r.words o.word m ∙ len) l in
      dite (ℕ_discrete o.word i)
      (λ e. let now : get_or (set r.words o.word m) i 0 ≡ min (get_or r.words i 0) o.rank = subst (λ (z : ℕ). get_or (set r.words z (min (get_or r.words z 0) o.rank)) i 0 ≡ min (get_or r.words i 0) o.rank) (sym e) (get_or-set_same r.words i (min (get_or r.words i 0) o.rank) 0 (omega arith)) in
      h ∙ (ap (λ (z : ℕ). least i z (offers_of es)) now ∙ (least_base i (get_or r.words i 0) o.rank (offers_of es) ∙ sym (ap (λ (t : Bool). cond t (min o.rank (least i (get_or r.words i 0) (offers_of es))) (least i (get_or r.words i 0) (offers_of es))) (eq-eqb o.word i e)))))
      (λ ne. let now = get_or-set_other r.words o.word i m 0 (λ (q : i ≡ o.word). ne (sym q)) in
      h ∙ (ap (λ (z : ℕ). least i z (offers_of es)) now ∙ sym (ap (λ (t : Bool). cond t (min o.rank (least i (get_or r.words i 0) (offers_of es))) (least i (get_or r.words i 0) (offers_of es))) (ne_eqb o.word i ne))))
    where
      bool_base : (t : Bool) (k b r' l' m' : ℕ) → m' ≡ min r' l' → cond t (min k m') m' ≡ min r' (cond t (min k l') l')
      bool_base true k b r' l' m' e = omega arith
      bool_base false k b r' l' m' e = omega arith

      least_base : (i b r' : ℕ) (os : List Offer) → least i (min b r') os ≡ min r' (least i b os)
      least_base i b r' [] = omega arith
      least_base i b r' (x ∷ xs) = bool_base (eqb x.word i) x.rank b r' (least i b xs) (least i (min b r') xs) (least_base i b r' xs)

pub every : EverySchedule
every jobs base width es run = let fit = all_fit jobs base width run.words (begun jobs base width) es run.schedule in
    let k = keeps_fits width (length jobs) base (begun jobs base width) es (starts width (length jobs) base run.some_width run.small run.few) fit in record {
      least_is = λ i l. words_end jobs base width run.words (begun jobs base width) es i run.schedule refl l;
      claims = k.claims;
      kept = k;
    }

-- each offer of a schedule is an offer of the jobs
offers_are : (jobs : List Job) (r : Race) (es : List Event) (o : Offer) → IsSchedule jobs r es → In o (offers_of es) → (job : ℕ) × (item : ℕ) × IsItem jobs job item o
offers_are jobs r [] o s m = absurd m
offers_are jobs r (claim p ∷ es) o s m = offers_are jobs (after r (claim p)) es o s.1 m
offers_are jobs r (split p w ∷ es) o s m = offers_are jobs (after r (split p w)) es o s.1 m
offers_are jobs r (join p q ∷ es) o s m = offers_are jobs (after r (join p q)) es o s.1 m
offers_are jobs r (propose p job item x ∷ es) o s m = ⊎_elim (λ (e : x ≡ o). (job, item, subst (IsItem jobs job item) e s.0.2)) (λ (t : In o (offers_of es)). offers_are jobs (after r (propose p job item x)) es o s.1 t) m

pub every_complete : EveryCompleteSchedule
every_complete jobs base width es run complete i l = let b : ℕ = get_or base i 0 in let os = offers_of es in
    let is = (every jobs base width es run).least_is i l in
    subst (IsLeastOf jobs i b) (sym is) (
      least_le i b os,
      (λ job item o item_is e. least_in i b os o (contained os o (complete.1 job item o item_is)) e),
      ⊎_elim inl (λ (t : (o : Offer) × In o os × (o.word ≡ i) × (least i b os ≡ o.rank)). let at = offers_are jobs (begun jobs base width) es t.0 run.schedule t.1 in inr (at.0, at.1, t.0, at.2, t.2, t.3)) (least_one i b os),
    )
