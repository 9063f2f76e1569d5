-- What marking adds to a seat.
use Rattle.std.proofs.Common.{◌≡◌, ℕ, zero, suc, ◌+◌, ◌<◌, Bool, false, List, [], ◌∷◌, ◌++◌, length, get_or, take, drop, take-append-drop, filter_map, Option, Some, None, option_to_list, refl, sym, ap, ◌∙◌, arith, append_assoc}
use Rattle.std.specs.List.{cons_option}
use Rattle.std.proofs.lemmas.List.{take_more}
use Rattle.std.proofs.lemmas.List.Elements.{filter_map-append}
use Rattle.mark_bits.specs.declared.party.Party.{Party}
use Rattle.mark_bits.specs.Words.{times, Among}
use Rattle.mark_bits.specs.Marks.{marked_first, marked_again}
use Rattle.mark_bits.specs.Seats.{SeatView}
use Rattle.mark_bits.proofs.Lists.{times_append, one_here}
use Rattle.live_mark.specs.Shares.{Adds}

pub at_among : (xs : List ℕ) (i : ℕ) → i < length xs → Among (get_or xs i 0) xs
at_among [] i l = absurd (omega arith)
at_among (x ∷ xs) zero l = let o = one_here x in let t = times_append x (x ∷ []) xs in omega arith
at_among (x ∷ xs) (suc i) l = let h = at_among xs i (omega arith) in omega arith

-- one chunk more
module _ (s t : SeatView) (was now : List ℕ) (r r' : Bool) (c : ℕ) where
  pub adds_first : t.party ≡ marked_first s.party c → (r' ≡ false → r ≡ false) → (r' ≡ false → now ≡ was ++ c ∷ []) → Adds s t (c ∷ []) was now r r'
  adds_first e still noted = record {
    width = ap (λ (v : Party). v.width) e;
    marked = ap (λ (v : Party). v.marked) e;
    still = still;
    first = λ h xs w. ap (λ (v : Party). v.first) e ∙ (ap (λ (l : List ℕ). l ++ c ∷ []) w ∙ (append_assoc xs was (c ∷ []) ∙ ap (λ (l : List ℕ). xs ++ l) (sym (noted h))));
  }

  pub adds_again : t.party ≡ marked_again s.party c → Adds s t (c ∷ []) was was r r
  adds_again e = record {
    width = ap (λ (v : Party). v.width) e;
    marked = ap (λ (v : Party). v.marked) e;
    still = λ h. h;
    first = λ h xs w. ap (λ (v : Party). v.first) e ∙ w;
  }

-- what one item more leads to
module _ {A : Type 0} (lead : A → Option ℕ) (row : List A) (i : ℕ) (x : A) (inside : i < length row) (is : x ≡ get_or row i x) where
  listed : (o : Option ℕ) → cons_option o [] ≡ option_to_list o
  listed None = refl
  listed (Some c) = refl

  pub led_more : filter_map lead (take (i + 1) row) ≡ filter_map lead (take i row) ++ option_to_list (lead x)
  led_more =
      ap (filter_map lead) (take_more row i x inside ∙ ap (λ (y : A). take i row ++ y ∷ []) (sym is))
      ∙ filter_map-append lead (take i row) (x ∷ []) ∙ ap (λ (l : List ℕ). filter_map lead (take i row) ++ l) (listed (lead x))

  pub led_among : (c : ℕ) → Among c (option_to_list (lead x)) → Among c (filter_map lead row)
  led_among c m =
      let front : List A = take (i + 1) row in
      let rest : List A = drop (i + 1) row in
      let whole = ap (times c) (ap (filter_map lead) (sym (take-append-drop (i + 1) row)) ∙ filter_map-append lead front rest) in
      let both = times_append c (filter_map lead front) (filter_map lead rest) in
      let more = ap (times c) led_more in
      let last = times_append c (filter_map lead (take i row)) (option_to_list (lead x)) in
      omega (arith, whole, both, more, last, m)
