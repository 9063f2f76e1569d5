-- Where pieces begin, and that they are written one behind another.
use Rattle.std.proofs.Common.{◌≡◌, ℕ, zero, suc, ◌+◌, ◌-◌, ◌^◌, subst, ◌<◌, ◌≤◌, List, [], ◌∷◌, ◌++◌, length, take, drop, get_or, true, refl, sym, ap, ◌∙◌, arith, append_assoc}
use Rattle.std.specs.List.{list_all}
use Rattle.std.specs.Prelude.{slice_range, ◌&&◌}
use Rattle.std.proofs.lemmas.Bool.{and_parts}
use Rattle.std.proofs.Math.Seq.{take-length}
use Rattle.std.proofs.lemmas.List.{at_drop_more}
use Rattle.std.proofs.Math.ListN.{drop_of_length-le}
use Rattle.std.proofs.lemmas.List.Sums.{sum_by-drop_more}
use Rattle.image_emit.specs.Parts.{Rising}
use Rattle.image_emit.specs.Put.{IsPut}
use Rattle.partial_bytes.specs.declared.pieces.Piece.{Piece}
use Rattle.partial_bytes.specs.declared.pieces.Piece.TheVariants.{Front, Head, Part, Linking, RelocHead, Relocs}
use Rattle.partial_bytes.specs.Pieces.{piece_bytes, pieces_bytes, piece_len, pieces_len, starts_from, fits, Fit}
use Rattle.partial_bytes.specs.PieceLaws.{len_rises}
use Rattle.partial_bytes.proofs.Fitting.{part_long}

pub cons_len : (q : Piece) (qs : List Piece) → pieces_len (q ∷ qs) ≡ piece_len q + pieces_len qs
cons_len q qs = sum_by-drop_more piece_len (q ∷ qs) 0 q (omega arith)

pub starts_count : (at : ℕ) (qs : List Piece) → length (starts_from at qs) ≡ length qs
starts_count at [] = refl
starts_count at (q ∷ qs) = ap suc (starts_count (at + piece_len q) qs)

pub starts_at : (at : ℕ) (qs : List Piece) (k d : ℕ) → k < length qs → get_or (starts_from at qs) k d ≡ at + pieces_len (take k qs)
starts_at at [] k d lt = absurd (omega (arith, lt))
starts_at at (q ∷ qs) zero d lt = omega arith
starts_at at (q ∷ qs) (suc k) d lt = omega (arith, starts_at (at + piece_len q) qs k d (omega (arith, lt)), cons_len q (take k qs))

pub starts_rising : (qs : List Piece) → Rising (starts_from 0 qs)
starts_rising qs i j d le within =
    let count = starts_count 0 qs in
    omega (arith, starts_at 0 qs i d (omega (arith, le, within, count)), starts_at 0 qs j d (omega (arith, within, count)), len_rises qs i j le)

take_all : (k : ℕ) (qs : List Piece) → length qs ≤ k → take k qs ≡ qs
take_all zero [] le = refl
take_all (suc k) [] le = refl
take_all zero (q ∷ qs) le = absurd (omega (arith, le))
take_all (suc k) (q ∷ qs) le = ap (λ xs. q ∷ xs) (take_all k qs (omega (arith, le)))

-- behind the last one it is where all end
pub start_behind : (qs : List Piece) (k : ℕ) → length (starts_from 0 qs) ≤ k → pieces_len (take k qs) ≡ pieces_len qs
start_behind qs k le = ap pieces_len (take_all k qs (omega (arith, le, starts_count 0 qs)))

-- a piece is as long as it is counted
pub piece_long : (q : Piece) → fits q ≡ true → length (piece_bytes q) ≡ piece_len q
piece_long (Front t) h = refl
piece_long (Head id size count) h = refl
piece_long (Part kind p) h = part_long kind p h
piece_long (Linking t) h = refl
piece_long (RelocHead name size target count) h = refl
piece_long (Relocs from len p) h = refl

-- ---- one piece more

nothing_less : (qs : List Piece) (i : ℕ) (d : Piece) → i < length qs → pieces_len (drop i qs) ≡ piece_len (get_or qs i d) + pieces_len (drop (i + 1) qs)
nothing_less qs i d lt = sum_by-drop_more piece_len qs i d lt

module _ (qs : List Piece) (i : ℕ) (d : Piece) (lt : i < length qs) where
  pub starts_more : (starts new whole : List ℕ) (at end len : ℕ) → new ≡ starts ++ at ∷ [] → end ≡ at + piece_len (get_or qs i d)
      → (starts ++ starts_from at (drop i qs) ≡ whole) × (at + pieces_len (drop i qs) ≡ len)
      → (new ++ starts_from end (drop (i + 1) qs) ≡ whole) × (end + pieces_len (drop (i + 1) qs) ≡ len)
  starts_more starts new whole at end len put next so_far = (
    ap (λ xs. xs ++ starts_from end (drop (i + 1) qs)) put
        ∙ (ap (λ k. (starts ++ at ∷ []) ++ starts_from k (drop (i + 1) qs)) next
        ∙ (one_behind starts at (starts_from (at + piece_len (get_or qs i d)) (drop (i + 1) qs))
        ∙ (sym (at_drop_more (λ (xs : List Piece). starts ++ starts_from at xs) qs i d lt) ∙ so_far.0))),
    omega (arith, next, nothing_less qs i d lt, so_far.1),
  )
    where
      one_behind : (xs : List ℕ) (y : ℕ) (zs : List ℕ) → (xs ++ y ∷ []) ++ zs ≡ xs ++ y ∷ zs
      one_behind xs y zs = simp append_assoc

  -- there is room for it
  pub piece_room : d ≡ get_or qs i d → (at len : ℕ) → at + pieces_len (drop i qs) ≡ len → at + piece_len d ≤ len
  piece_room same at len is = omega (arith, is, nothing_less qs i d lt, ap piece_len same)

  pub piece_fits : Fit (drop i qs) → (fits (get_or qs i d) ≡ true) × Fit (drop (i + 1) qs)
  piece_fits fit =
      and_parts (fits (get_or qs i d)) (list_all fits (drop (i + 1) qs)) (subst Fit (at_drop_more (λ (xs : List Piece). xs) qs i d lt) fit)

  pub pieces_more : d ≡ get_or qs i d → (out new whole : List ℕ) (at end : ℕ)
      → IsPut out at (piece_bytes d) end new
      → (at + pieces_len (drop i qs) ≡ length out) × (take at out ++ pieces_bytes (drop i qs) ≡ whole) × Fit (drop i qs) × (length out < 2 ^ 31)
      → (end + pieces_len (drop (i + 1) qs) ≡ length new) × (take end new ++ pieces_bytes (drop (i + 1) qs) ≡ whole) × Fit (drop (i + 1) qs) × (length new < 2 ^ 31)
  pieces_more same out new whole at end is_put so_far =
      let put : IsPut out at (piece_bytes (get_or qs i d)) end new = subst (λ (q : Piece). IsPut out at (piece_bytes q) end new) same is_put in
      let fit = piece_fits so_far.2 in
      let long = piece_long (get_or qs i d) fit.0 in (
        omega (arith, put.place, put.len, long, nothing_less qs i d lt, so_far.0),
        ap (λ xs. xs ++ pieces_bytes (drop (i + 1) qs)) put.front
            ∙ (append_assoc (take at out) (piece_bytes (get_or qs i d)) (pieces_bytes (drop (i + 1) qs))
            ∙ (sym (at_drop_more (λ (xs : List Piece). take at out ++ pieces_bytes xs) qs i d lt) ∙ so_far.1)),
        fit.1,
        omega (arith, put.len, so_far.3),
      )

pub all_put : (qs : List Piece) (i at : ℕ) (out whole : List ℕ) → length qs ≤ i
    → (at + pieces_len (drop i qs) ≡ length out) → (take at out ++ pieces_bytes (drop i qs) ≡ whole) → out ≡ whole
all_put qs i at out whole le len so_far =
    let none : drop i qs ≡ [] = drop_of_length-le qs le in
    let at_end : at ≡ length out = omega (arith, len, ap pieces_len none) in
    sym (ap (λ k. take k out) at_end ∙ take-length out)
    ∙ (sym (nil_behind (take at out)) ∙ (ap (λ (xs : List Piece). take at out ++ pieces_bytes xs) (sym none) ∙ so_far))
  where
    nil_behind : (xs : List ℕ) → xs ++ [] ≡ xs
    nil_behind [] = refl
    nil_behind (x ∷ xs) = ap (λ ys. x ∷ ys) (nil_behind xs)

-- ---- runs of pieces

take_fits : (k : ℕ) (qs : List Piece) → Fit qs → Fit (take k qs)
take_fits zero qs h = refl
take_fits (suc k) [] h = refl
take_fits (suc k) (q ∷ qs) h =
    let p = and_parts (fits q) (list_all fits qs) h in
    ap (λ b. b && list_all fits (take k qs)) p.0 ∙ take_fits k qs p.1

drop_fits : (k : ℕ) (qs : List Piece) → Fit qs → Fit (drop k qs)
drop_fits zero qs h = h
drop_fits (suc k) [] h = refl
drop_fits (suc k) (q ∷ qs) h = drop_fits k qs (and_parts (fits q) (list_all fits qs) h).1

pub range_fits : (qs : List Piece) (i j : ℕ) → Fit qs → Fit (slice_range qs i j)
range_fits qs i j h = take_fits (j - i) (drop i qs) (drop_fits i qs h)

-- how long a run is
pub range_len : (qs : List Piece) (i j : ℕ) → i ≤ j → pieces_len (slice_range qs i j) ≡ pieces_len (take j qs) - pieces_len (take i qs)
range_len qs zero j le = let all : j - 0 ≡ j = omega arith in let none : pieces_len (take 0 qs) ≡ 0 = refl in omega (arith, ap (λ k. pieces_len (take k qs)) all, none)
range_len [] (suc i) j le = omega (arith, ap pieces_len (nothing (j - suc i)), ap pieces_len (nothing j))
  where
    nothing : (k : ℕ) → take {A = Piece} k [] ≡ []
    nothing zero = refl
    nothing (suc k) = refl
range_len (q ∷ qs) (suc i) zero le = absurd (omega (arith, le))
range_len (q ∷ qs) (suc i) (suc j) le =
    let less : suc j - suc i ≡ j - i = omega arith in
    let run = range_len qs i j (omega (arith, le)) in
    omega (arith, ap (λ k. pieces_len (take k (drop i qs))) less, run, cons_len q (take j qs), cons_len q (take i qs))

-- a run is no longer than the whole
pub take_most : (qs : List Piece) (k : ℕ) → pieces_len (take k qs) ≤ pieces_len qs
take_most qs zero = omega arith
take_most [] (suc k) = omega arith
take_most (q ∷ qs) (suc k) = omega (arith, cons_len q (take k qs), cons_len q qs, take_most qs k)
