-- The words of a race as least ranks.
use Rattle.std.proofs.Common.{◌≡◌, ◌≢◌, ⊎_elim, ℕ, zero, suc, ◌<◌, ◌≤◌, Bool, cond, List, [], ◌∷◌, map, length, get_or, refl, sym, ap, ◌∙◌, subst, arith, eq-eqb, ne_eqb, Some, None}
use Rattle.std.proofs.lemmas.List.{get_or-map, length-map}
use Rattle.std.specs.Prelude.{slice_get}
use Rattle.std.specs.declared.option.Option.{Option}
use mathlib.Core.Logic.{dite}
use native.Mathlib.Decide.{dec_lt, ℕ_discrete}
use Rattle.least_race.specs.declared.party.Offer.{Offer}
use Rattle.least_race.specs.Jobs.{Job, IsItem, WordsBelow, IsLeastOf}
use Rattle.race_share.specs.Offered.{offered, RanksBelow, IsLeastOffer}

offered_top : (n : ℕ) → n ≡ 18446744073709551615 → offered n ≡ None
offered_top n e = ap (λ (t : Bool). cond t None (Some n)) (eq-eqb n 18446744073709551615 e)

offered_rank : (n : ℕ) → n ≢ 18446744073709551615 → offered n ≡ Some n
offered_rank n ne = ap (λ (t : Bool). cond t None (Some n)) (ne_eqb n 18446744073709551615 ne)

by_get : (ws : List ℕ) (i x : ℕ) → slice_get ws i ≡ Some x → get_or (map offered ws) i None ≡ offered x
by_get [] i x e = absurd (cc)
by_get (w ∷ ws) zero x e = let same : w ≡ x = cc in ap offered same
by_get (w ∷ ws) (suc i) x e = by_get ws i x e

pub of_top : (ws : List ℕ) (i x : ℕ) → slice_get ws i ≡ Some x → x ≡ 18446744073709551615 → None ≡ get_or (map offered ws) i None
of_top ws i x e top = sym (by_get ws i x e ∙ offered_top x top)

pub of_rank : (ws : List ℕ) (i x : ℕ) → slice_get ws i ≡ Some x → x ≢ 18446744073709551615 → Some x ≡ get_or (map offered ws) i None
of_rank ws i x e ne = sym (by_get ws i x e ∙ offered_rank x ne)

pub of_none : (ws : List ℕ) (i : ℕ) → slice_get ws i ≡ None → None ≡ get_or (map offered ws) i None
of_none [] i e = refl
of_none (w ∷ ws) zero e = absurd (cc)
of_none (w ∷ ws) (suc i) e = of_none ws i e

past : (l : List (Option ℕ)) (k : ℕ) → length l ≤ k → get_or l k None ≡ None
past [] k h = refl
past (x ∷ xs) zero h = absurd (omega arith)
past (x ∷ xs) (suc k) h = past xs k (omega arith)

pub leasts : (jobs : List Job) (ws : List ℕ) (n : ℕ) → length ws ≡ n → WordsBelow n jobs → RanksBelow 18446744073709551615 jobs → ((i : ℕ) → i < n → IsLeastOf jobs i 18446744073709551615 (get_or ws i 0))
    → (i : ℕ) → IsLeastOffer jobs i (get_or (map offered ws) i None)
leasts jobs ws n long below ranks all i = dite (dec_lt i n)
    (λ l. let m : ℕ = get_or ws i 0 in let h = all i l in let read = get_or-map offered ws i 0 None (omega arith) in dite (ℕ_discrete m 18446744073709551615)
    (λ e. subst (IsLeastOffer jobs i) (sym (read ∙ offered_top m e)) (λ job item o is q. let a = h.1 job item o is q in let b = ranks job item o is in omega arith))
    (λ ne. subst (IsLeastOffer jobs i) (sym (read ∙ offered_rank m ne)) (
      h.1,
      ⊎_elim (λ (t : m ≡ 18446744073709551615). absurd (ne t)) (λ (t : (job : ℕ) × (item : ℕ) × (o : Offer) × IsItem jobs job item o × (o.word ≡ i) × (m ≡ o.rank)). t) h.2,
    )))
    (λ far. subst (IsLeastOffer jobs i) (sym (past (map offered ws) i (let e = length-map ws offered in omega arith))) (λ job item o is q. let b = below job item o is in omega arith))
