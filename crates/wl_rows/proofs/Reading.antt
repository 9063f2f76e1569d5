-- Lists in pieces: one piece more, and the list at a place.
use Rattle.std.proofs.Common.{◌≡◌, ℕ, ◌+◌, ◌-◌, ◌<◌, ◌≤◌, List, [], ◌∷◌, ◌++◌, length, drop, drop-cons, add-one, get_or, slice_get, Option, Some, None, zero, suc, refl, sym, ap, subst, ◌∙◌, arith}
use Rattle.std.specs.Prelude.{flat_map}
use Rattle.std.proofs.lemmas.Grind.{flat_map-append}
use Rattle.std.proofs.lemmas.List.{append_assoc, append-nil, get_or-append_right}
use Rattle.std.proofs.Math.ListN.{get_or-append}
use Rattle.std.proofs.lemmas.Option.{slice_get_within, get_or_from_slice_get}
use Rattle.wl_rows.specs.Rows.{all_rows}

module _ {A : Type 0} where
  abbrev pub flat : List (List (List A)) → List (List A)
  flat pieces = flat_map (λ rows. rows) pieces

  -- one piece alone, and one more
  pub alone : (first : List (List A)) (behind : List (List (List A))) → behind ≡ [] → all_rows first behind ≡ first
  alone first behind none = ap (λ (ps : List (List (List A))). first ++ flat ps) none ∙ append-nil first

  pub one_more : (first : List (List A)) (behind new : List (List (List A))) (rows : List (List A)) → new ≡ behind ++ rows ∷ [] → all_rows first new ≡ all_rows first behind ++ rows
  one_more first behind new rows is =
      ap (λ (ps : List (List (List A))). first ++ flat ps) is ∙ ap (λ (xs : List (List A)). first ++ xs) (flat_map-append (λ (rows : List (List A)). rows) behind (rows ∷ []) ∙ ap (λ (xs : List (List A)). flat behind ++ xs) (append-nil rows))
      ∙ sym (append_assoc first (flat behind) rows)

  -- the list at a place of the first piece, and behind it
  pub in_first : (first : List (List A)) (behind : List (List (List A))) (at : ℕ) (row : List A) → slice_get first at ≡ Some row → row ≡ get_or (all_rows first behind) at []
  in_first first behind at row is =
      sym (get_or_from_slice_get first at row [] is) ∙ sym (get_or-append first (flat behind) [] at (slice_get_within first at row is))

  pub in_rest : (rows rest : List (List A)) (at : ℕ) → length rows ≤ at → get_or rest (at - length rows) [] ≡ get_or (rows ++ rest) at []
  in_rest rows rest at past = sym (get_or-append_right rows rest (length rows) at [] refl past)

  -- ---- the list at a place of pieces that are looked at in turn

  dropped : (pieces : List (List (List A))) (n : ℕ) (rows : List (List A)) → slice_get pieces n ≡ Some rows → drop n pieces ≡ rows ∷ drop (n + 1) pieces
  dropped pieces n rows at =
      drop-cons pieces n rows (slice_get_within pieces n rows at)
      ∙ ap (λ (k : ℕ). get_or pieces n rows ∷ drop k pieces) (sym (add-one n))
      ∙ ap (λ (x : List (List A)). x ∷ drop (n + 1) pieces) (get_or_from_slice_get pieces n rows rows at)

  pub behind_it : (pieces : List (List (List A))) (n left : ℕ) (rows : List (List A)) (row : List A) → slice_get pieces n ≡ Some rows → length rows ≤ left
      → get_or (flat (drop n pieces)) left [] ≡ row → get_or (flat (drop (n + 1) pieces)) (left - length rows) [] ≡ row
  behind_it pieces n left rows row at past is =
      in_rest rows (flat (drop (n + 1) pieces)) left past ∙ sym (ap (λ (ps : List (List (List A))). get_or (flat ps) left []) (dropped pieces n rows at)) ∙ is

  pub in_it : (pieces : List (List (List A))) (n left : ℕ) (rows : List (List A)) (row : List A) → slice_get pieces n ≡ Some rows → left < length rows
      → get_or (flat (drop n pieces)) left [] ≡ row → get_or rows left [] ≡ row
  in_it pieces n left rows row at lt is =
      sym (get_or-append rows (flat (drop (n + 1) pieces)) [] left lt) ∙ sym (ap (λ (ps : List (List (List A))). get_or (flat ps) left []) (dropped pieces n rows at)) ∙ is

  none_left : (pieces : List (List (List A))) (n : ℕ) → length pieces ≤ n → drop n pieces ≡ []
  none_left [] zero past = refl
  none_left [] (suc n) past = refl
  none_left (rows ∷ pieces) zero past = absurd (omega (arith, past))
  none_left (rows ∷ pieces) (suc n) past = none_left pieces n (omega (arith, past))

  pub past_all : (pieces : List (List (List A))) (n left : ℕ) (row : List A) → length pieces ≤ n → get_or (flat (drop n pieces)) left [] ≡ row → [] ≡ row
  past_all pieces n left row past is = sym (ap (λ (ps : List (List (List A))). get_or (flat ps) left []) (none_left pieces n past)) ∙ is

  outside : (rows : List (List A)) (at : ℕ) → slice_get rows at ≡ None → length rows ≤ at
  outside [] at none = omega arith
  outside (x ∷ xs) zero none = absurd cc
  outside (x ∷ xs) (suc at) none = omega (arith, outside xs at none)

  pub in_behind : (first : List (List A)) (behind : List (List (List A))) (at : ℕ) → slice_get first at ≡ None
      → get_or (flat behind) (at - length first) [] ≡ get_or (all_rows first behind) at []
  in_behind first behind at none = in_rest first (flat behind) at (outside first at none)
