-- The runs of pieces are the whole.
use Rattle.std.proofs.Common.{◌≡◌, ℕ, zero, suc, ◌+◌, ◌-◌, ◌<◌, ◌≤◌, List, [], ◌∷◌, ◌++◌, length, take, drop, slice_get, Some, None, ◌*◌, ◌/◌, refl, sym, ap, ◌∙◌, subst, arith}
use Rattle.std.specs.Prelude.{slice_range}
use Rattle.std.proofs.Math.Seq.{take-length}
use Rattle.std.proofs.lemmas.List.{drop-drop}
use Rattle.std.proofs.lemmas.Grind.{flat_map-append}
use Rattle.wl_fan.specs.Slices.{Works}
use Rattle.wl_fan.proofs.Whole.{whole}
use Rattle.partial_bytes.specs.declared.pieces.Piece.{Piece}
use Rattle.partial_bytes.specs.Pieces.{piece_bytes, pieces_bytes, pieces_len, starts_from, run_first, run_start, run_pieces}
use Rattle.std.proofs.Math.Nat.{div-mul-le_self, mul-le-mul_left}
use Rattle.std.proofs.lemmas.Option.{get_or_from_slice_get}
use Rattle.image_emit.specs.Parts.{below}
use Rattle.partial_bytes.specs.PieceLaws.{first_rises, first_zero, inner, outer, starts_rise}
use Rattle.partial_bytes.proofs.Placed.{starts_count, starts_at, start_behind}

no_more : (k : ℕ) → [] ≡ take {A = Piece} k []
no_more zero = refl
no_more (suc k) = refl

take_both : (m n : ℕ) (xs : List Piece) → take m xs ++ take n (drop m xs) ≡ take (m + n) xs
take_both zero n xs = let e : n ≡ 0 + n = omega arith in ap (λ k. take k xs) e
take_both (suc m) zero [] = no_more (suc m + 0)
take_both (suc m) (suc n) [] = no_more (suc m + suc n)
take_both (suc m) n (x ∷ xs) = let e : suc (m + n) ≡ suc m + n = omega arith in ap (λ zs. x ∷ zs) (take_both m n xs) ∙ ap (λ k. take k (x ∷ xs)) e

range_both : (xs : List Piece) (a b c : ℕ) → a ≤ b → b ≤ c → slice_range xs a b ++ slice_range xs b c ≡ slice_range xs a c
range_both xs a b c low high =
    let sum : (b - a) + (c - b) ≡ c - a = omega (arith, low, high) in
    let next : a + (b - a) ≡ b = omega (arith, low) in
    let from : drop b xs ≡ drop (b - a) (drop a xs) = ap (λ k. drop k xs) (sym next) ∙ sym (drop-drop (b - a) a xs) in
    ap (λ zs. take (b - a) (drop a xs) ++ take (c - b) zs) from ∙ take_both (b - a) (c - b) (drop a xs) ∙ ap (λ k. take k (drop a xs)) sum

module _ (qs : List Piece) (width : ℕ) (some : 1 ≤ width) where
  first : ℕ → ℕ
  first run = run_first (starts_from 0 qs) (pieces_len qs) width run

  rises : (p q : ℕ) → p ≤ q → first p ≤ first q
  unfolding first
  rises p q le = first_rises (starts_from 0 qs) (pieces_len qs) width p q le

  begin : run_start qs width 0 ≡ 0
  begin = ap (λ k. pieces_len (take k qs)) (first_zero (starts_from 0 qs) (pieces_len qs) width some)

  end : (run : ℕ) → width ≤ run → run_start qs width run ≡ pieces_len qs
  end run high =
      ap (λ k. pieces_len (take k qs)) (outer (starts_from 0 qs) (pieces_len qs) width run high) ∙ start_behind qs (length (starts_from 0 qs)) (omega arith)

  pub room : (out : List ℕ) → length out ≡ pieces_len qs → length out ≡ run_start qs width (0 + width) - run_start qs width 0
  room out is = omega (arith, is, begin, end (0 + width) (omega arith))

  Run : ℕ → ℕ → List ℕ → List ℕ → Type 0
  Run a b old new = (a ≤ b) × (new ≡ pieces_bytes (slice_range qs (first a) (first b)))

  -- the runs are the whole
  pub all_written : (old new : List ℕ) → length old ≡ pieces_len qs → length new ≡ length old
      → Works (λ run xs ys. ys ≡ pieces_bytes (run_pieces qs width run)) (run_start qs width) 0 width old new
      → new ≡ pieces_bytes qs
  unfolding Run first
  all_written old new is same works =
      let n : ℕ = width - 1 in
      let w : n + 1 ≡ width = omega (arith, some) in
      let last : 0 + (n + 1) ≡ width = omega (arith, some) in
      let long : length old ≡ run_start qs width (0 + (n + 1)) - run_start qs width 0 = omega (arith, is, end (0 + (n + 1)) (omega (arith, last)), begin) in
      let run : Run 0 (0 + (n + 1)) old new = whole (run_start qs width) (λ run xs ys. ys ≡ pieces_bytes (run_pieces qs width run)) (Run)
      (λ k xs ys worked. (omega arith, worked))
      (λ a b c xs xs' ys ys' lx ly f g. (
        omega (arith, f.0, g.0),
        ap (λ zs. zs ++ ys') f.1 ∙ ap (λ zs. pieces_bytes (slice_range qs (first a) (first b)) ++ zs) g.1
            ∙ sym (flat_map-append (piece_bytes) (slice_range qs (first a) (first b)) (slice_range qs (first b) (first c)))
            ∙ ap (pieces_bytes) (range_both qs (first a) (first b) (first c) (rises a b f.0) (rises b c g.0)),
      ))
      0 n (λ a b le below. starts_rise qs width a b le) old new long same
      (subst (λ k. Works (λ run xs ys. ys ≡ pieces_bytes (run_pieces qs width run)) (run_start qs width) 0 k old new) (sym w) works) in
      run.1
      ∙ ap (λ k. pieces_bytes (slice_range qs k (first (0 + (n + 1))))) (first_zero (starts_from 0 qs) (pieces_len qs) width some)
      ∙ ap (λ k. pieces_bytes (slice_range qs 0 k)) (ap first last ∙ outer (starts_from 0 qs) (pieces_len qs) width width (omega arith) ∙ starts_count 0 qs)
      ∙ ap (pieces_bytes) (whole_range qs)
    where
      whole_range : (xs : List Piece) → slice_range xs 0 (length xs) ≡ xs
      whole_range xs = let all : length xs - 0 ≡ length xs = omega arith in ap (λ k. take k xs) all ∙ take-length xs

-- ---- a division's own

module _ (qs : List Piece) (starts : List ℕ) (len width run : ℕ) (placed : starts ≡ starts_from 0 qs) (long : len ≡ pieces_len qs) where
  pub first_high : width ≤ run → length starts ≡ run_first (starts_from 0 qs) (pieces_len qs) width run
  first_high high = ap length placed ∙ sym (outer (starts_from 0 qs) (pieces_len qs) width run high)

  pub first_low : run < width → below (len / width * run) starts ≡ run_first (starts_from 0 qs) (pieces_len qs) width run
  first_low low =
      ap (below (len / width * run)) placed
      ∙ (ap (λ n. below (n / width * run) (starts_from 0 qs)) long ∙ sym (inner (starts_from 0 qs) (pieces_len qs) width run low))

  pub share_most : run < width → len / width * run ≤ len
  share_most low =
      let le : run ≤ width = omega (arith, low) in
      omega (arith, div-mul-le_self len width, mul-le-mul_left (len / width) le)

-- where a piece begins
module _ (qs : List Piece) (starts : List ℕ) (placed : starts ≡ starts_from 0 qs) where
  pub start_is : (k start : ℕ) → slice_get starts k ≡ Some start → start ≡ pieces_len (take k qs)
  start_is k start at =
      let own : slice_get (starts_from 0 qs) k ≡ Some start = ap (λ (xs : List ℕ). slice_get xs k) (sym placed) ∙ at in
      let lt = below_length (starts_from 0 qs) k start own in
      sym (get_or_from_slice_get (starts_from 0 qs) k start 0 own) ∙ (starts_at 0 qs k 0 (omega (arith, lt, starts_count 0 qs)) ∙ omega arith)
    where
      below_length : (xs : List ℕ) (k x : ℕ) → slice_get xs k ≡ Some x → k < length xs
      below_length [] k x e = absurd (grind arith)
      below_length (y ∷ ys) zero x e = omega arith
      below_length (y ∷ ys) (suc k) x e = omega (arith, below_length ys k x e)

  pub start_none : (k len : ℕ) → len ≡ pieces_len qs → slice_get starts k ≡ None → len ≡ pieces_len (take k qs)
  start_none k len long at =
      let own : slice_get (starts_from 0 qs) k ≡ None = ap (λ (xs : List ℕ). slice_get xs k) (sym placed) ∙ at in
      long ∙ sym (start_behind qs k (past (starts_from 0 qs) k own))
    where
      past : (xs : List ℕ) (k : ℕ) → slice_get xs k ≡ None → length xs ≤ k
      past [] k e = omega arith
      past (y ∷ ys) zero e = absurd (grind arith)
      past (y ∷ ys) (suc k) e = omega (arith, past ys k e)
