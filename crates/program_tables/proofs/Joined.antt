-- Pieces that workers made, joined.
use Rattle.std.proofs.Common.{◌≡◌, ℕ, zero, suc, ◌+◌, ◌-◌, ◌<◌, ◌≤◌, false, List, [], ◌∷◌, ◌++◌, length, take, drop, Some, refl, sym, ap, subst, ◌∙◌, arith}
use Rattle.std.specs.Prelude.{slice_get, slice_set, map, flat_map, replicate}
use Rattle.std.proofs.lemmas.List.{map-append, append_assoc, append-nil, length-replicate}
use Rattle.std.proofs.lemmas.Option.{same_Some, slice_get_within}
use Rattle.link_program.specs.made_symbols.declared.mode.Mode.{Mode}
use Rattle.link_program.specs.made_symbols.Made.{made}
use Rattle.link_program.specs.wl_fan.Slices.{piece, Works}
use Rattle.program_tables.specs.declared.pieces.Piece.{Piece}
use Rattle.program_tables.specs.declared.view.Lookups.{Lookups}
use Rattle.program_tables.specs.Inits.{call_names}
use Rattle.program_tables.specs.Rows.{Row, made_rows, rows_of_view, rows_from, rows_upto, all_rows}
use Rattle.program_tables.specs.Views.{view_at}
use Rattle.program_tables.specs.Gains.{AreGained, Gains}
use Rattle.wl_rows.specs.Ranges.{first_at, Rising}
use Rattle.program_tables.specs.Pieces.{no_piece, IsGrown, AreGrown}
use Rattle.wl_rows.proofs.Cuts.{first_past, first_low}
use Rattle.program_tables.proofs.Steps.{item_at}

-- ---- rows

pub rows_join : (l : Lookups) (from n : ℕ) → rows_upto l (from + n) ≡ rows_upto l from ++ rows_from l from n
rows_join l from zero = let e : from + zero ≡ from = omega arith in ap (rows_upto l) e ∙ sym (append-nil (rows_upto l from))
rows_join l from (suc n) =
    let e : from + suc n ≡ suc (from + n) = omega arith in
    ap (rows_upto l) e ∙ ap (λ rows. rows ++ rows_of_view (view_at l (from + n))) (rows_join l from n)
    ∙ append_assoc (rows_upto l from) (rows_from l from n) (rows_of_view (view_at l (from + n)))

pub rows_between : (l : Lookups) (a b : ℕ) → a ≤ b → rows_upto l a ++ rows_from l a (b - a) ≡ rows_upto l b
rows_between l a b le = let e : a + (b - a) ≡ b = omega arith in sym (rows_join l a (b - a)) ∙ ap (rows_upto l) e

-- ---- pieces

pub one_slot : {X : Type 0} (xs : List X) (k : ℕ) (x : X) → slice_get xs k ≡ Some x → slice_get (piece (λ (n : ℕ). n) 0 k xs) 0 ≡ Some x
one_slot {X} xs k x at =
    let from : k - 0 ≡ k = omega arith in
    let long : k + 1 - 0 - (k - 0) ≡ suc zero = omega arith in
    ap (λ (n : ℕ). slice_get (take n (drop (k - 0) xs)) 0) long ∙ ap (λ (n : ℕ). slice_get (take (suc zero) (drop n xs)) 0) from ∙ front xs k at
  where
    front : (ys : List X) (i : ℕ) → slice_get ys i ≡ Some x → slice_get (take (suc zero) (drop i ys)) 0 ≡ Some x
    front [] i e = absurd (let lt = slice_get_within [] i x e in omega (arith, lt))
    front (y ∷ ys) zero e = e
    front (y ∷ ys) (suc i) e = front ys i e

-- what the workers tell of their slots, of all slots
pub all_grown : (l : Lookups) (cuts : List ℕ) (count : ℕ) (old new : List Piece) → length old ≡ length cuts + 1 → length new ≡ length old
    → Works (λ k. IsGrown l (first_at cuts count k) (first_at cuts count (k + 1))) (λ k. k) 0 (length cuts + 1) old new → AreGrown l cuts count old new
all_grown l cuts count old new long same works = record {
  same = same;
  each = λ k p q at_p at_q.
      let lt = slice_get_within old k p at_p in
      works k (omega arith) (omega (arith, lt, long)) p q (one_slot old k p at_p) (one_slot new k q at_q);
}

same_at : {X : Type 0} (x : X) (n i : ℕ) → i < n → slice_get (replicate n x) i ≡ Some x
same_at x zero i lt = absurd (omega (arith, lt))
same_at x (suc n) zero lt = refl
same_at x (suc n) (suc i) lt = same_at x n i (omega (arith, lt))

-- the pieces behind a worker's beginning, behind the rows of the objects before it
module _ (l : Lookups) (cuts : List ℕ) (count : ℕ) (rising : Rising cuts count) {A : Type 0} (f : Row → A) (g : Piece → List A) where
  abbrev own_rows : ℕ → List A
  own_rows k = map f (rows_from l (first_at cuts count k) (first_at cuts count (k + 1) - first_at cuts count k))

  abbrev before : ℕ → List A
  before k = map f (rows_upto l (first_at cuts count k))

  before_more : (k : ℕ) (xs : List A) → xs ≡ own_rows k → before k ++ xs ≡ before (k + 1)
  before_more k xs own =
      let a = first_at cuts count k in
      let b = first_at cuts count (k + 1) in
      ap (λ ys. before k ++ ys) own ∙ sym (map-append f (rows_upto l a) (rows_from l a (b - a)))
      ∙ ap (map f) (rows_between l a b (rising k (k + 1) (omega arith)))

  rest_joined : (k : ℕ) (ps : List Piece) → k + length ps ≡ length cuts + 1 → ((i : ℕ) (q : Piece) → slice_get ps i ≡ Some q → g q ≡ own_rows (k + i))
      → before k ++ flat_map g ps ≡ map f (rows_upto l count)
  rest_joined k [] end each =
      let e : k ≡ length cuts + 1 = omega (arith, end) in
      append-nil (before k) ∙ ap (λ (n : ℕ). map f (rows_upto l n)) (ap (first_at cuts count) e ∙ first_past cuts count)
  rest_joined k (p ∷ ps) end each =
      let none : k + 0 ≡ k = omega arith in
      sym (append_assoc (before k) (g p) (flat_map g ps)) ∙ ap (λ xs. xs ++ flat_map g ps) (before_more k (g p) (each 0 p refl ∙ ap own_rows none))
      ∙ rest_joined (k + 1) ps (omega (arith, end)) (λ i q at. let e : k + suc i ≡ k + 1 + i = omega arith in each (suc i) q at ∙ ap own_rows e)

  -- the first piece has other rows before those of its objects
  pieces_joined : (made : List Row) (new : List Piece) → length new ≡ length cuts + 1
      → ((q : Piece) → slice_get new 0 ≡ Some q → g q ≡ map f made ++ own_rows 0) → ((i : ℕ) (q : Piece) → slice_get new (suc i) ≡ Some q → g q ≡ own_rows (1 + i))
      → flat_map g new ≡ map f (made ++ rows_upto l count)
  pieces_joined made [] long head rest = absurd (omega (arith, long))
  pieces_joined made (q ∷ ps) long head rest =
      ap (λ xs. xs ++ flat_map g ps) (head q refl) ∙ append_assoc (map f made) (own_rows 0) (flat_map g ps)
      ∙ ap (λ xs. map f made ++ (xs ++ flat_map g ps)) (before_more 0 (own_rows 0) refl)
      ∙ ap (λ xs. map f made ++ xs) (rest_joined 1 ps (omega (arith, long)) rest)
      ∙ sym (map-append f made (rows_upto l count))

-- all rows, from pieces of which none is short
pub all_joined : (mode : Mode) (l : Lookups) (cuts : List ℕ) (count : ℕ) (first : Piece) (new : List Piece) → Rising cuts count → count ≡ length l.entries.objects.now
    → AreGained (made_rows (call_names l) 0 (made mode)) first → AreGrown l cuts count (first ∷ replicate (length cuts) no_piece) new
    → ((k : ℕ) (p : Piece) → slice_get new k ≡ Some p → p.is_short ≡ false)
    → (flat_map (λ (p : Piece). p.parts) new ≡ map (λ (row : Row). row.part) (all_rows mode l)) × (flat_map (λ (p : Piece). p.named) new ≡ map (λ (row : Row). row.named) (all_rows mode l))
all_joined mode l cuts count first new rising whole gained grown kept =
    let rows = made_rows (call_names l) 0 (made mode) in
    let long : length new ≡ length cuts + 1 = omega (arith, grown.same, length-replicate (length cuts) no_piece) in
    let own : (k : ℕ) (p q : Piece) → slice_get (first ∷ replicate (length cuts) no_piece) k ≡ Some p → slice_get new k ≡ Some q
    → Gains (rows_from l (first_at cuts count k) (first_at cuts count (k + 1) - first_at cuts count k)) p q = λ k p q at_p at_q. grown.each k p q at_p at_q (kept k q at_q) in
    let other : (i : ℕ) (q : Piece) → slice_get new (suc i) ≡ Some q → slice_get (first ∷ replicate (length cuts) no_piece) (suc i) ≡ Some no_piece =
    λ i q at. let lt = slice_get_within new (suc i) q at in same_at no_piece (length cuts) i (omega (arith, lt, long)) in
    let all : rows ++ rows_upto l count ≡ all_rows mode l = ap (λ (n : ℕ). rows ++ rows_upto l n) whole in (
      pieces_joined l cuts count rising (λ (row : Row). row.part) (λ (p : Piece). p.parts) rows new long
          (λ q at. (own 0 first q refl at).parts ∙ ap (λ xs. xs ++ own_rows l cuts count rising (λ (row : Row). row.part) (λ (p : Piece). p.parts) 0) gained.parts)
          (λ i q at. let e : suc i ≡ 1 + i = omega arith in (own (suc i) no_piece q (other i q at) at).parts ∙ ap (own_rows l cuts count rising (λ (row : Row). row.part) (λ (p : Piece). p.parts)) e)
          ∙ ap (map (λ (row : Row). row.part)) all,
      pieces_joined l cuts count rising (λ (row : Row). row.named) (λ (p : Piece). p.named) rows new long
          (λ q at. (own 0 first q refl at).named ∙ ap (λ xs. xs ++ own_rows l cuts count rising (λ (row : Row). row.named) (λ (p : Piece). p.named) 0) gained.named)
          (λ i q at. let e : suc i ≡ 1 + i = omega arith in (own (suc i) no_piece q (other i q at) at).named ∙ ap (own_rows l cuts count rising (λ (row : Row). row.named) (λ (p : Piece). p.named)) e)
          ∙ ap (map (λ (row : Row). row.named)) all,
    )

-- a list that is written back whole
pub whole_back : {X : Type 0} (n : ℕ) (new rest : List X) → n ≡ length new → take n (new ++ rest) ≡ new
whole_back zero [] rest e = refl
whole_back (suc n) [] rest e = absurd (omega (arith, e))
whole_back zero (x ∷ new) rest e = absurd (omega (arith, e))
whole_back {X} (suc n) (x ∷ new) rest e = ap (λ (xs : List X). let ys : List X = x ∷ xs in ys) (whole_back n new rest (omega (arith, e)))

-- a worker's piece is put back into its slot
pub grown_here : (l : Lookups) (from to a b : ℕ) (old : List Piece) (was now : Piece) → from ≡ a → to ≡ b → slice_get old 0 ≡ Some was
    → (now.is_short ≡ false → Gains (rows_from l from (to - from)) was now) → IsGrown l a b old (slice_set old 0 now)
grown_here l from to a b [] was now e f at gains p q at_p at_q kept = absurd cc
grown_here l from to a b (x ∷ xs) was now e f at gains p q at_p at_q kept =
    let same : was ≡ p = same_Some was p (sym at ∙ at_p) in
    let own : now ≡ q = same_Some now q at_q in
    let rows : rows_from l from (to - from) ≡ rows_from l a (b - a) = λ i. rows_from l (e i) (f i - e i) in
    subst (λ (x : Piece). Gains (rows_from l a (b - a)) x q) same
    (subst (λ (x : Piece). Gains (rows_from l a (b - a)) was x) own
    (subst (λ rs. Gains rs was now) rows (gains (subst (λ (x : Piece). x.is_short ≡ false) (sym own) kept))))

-- one more piece without parts
replicate_more : {X : Type 0} (n : ℕ) (x : X) → replicate n x ++ x ∷ [] ≡ replicate (suc n) x
replicate_more zero x = refl
replicate_more (suc n) x = ap (λ xs. x ∷ xs) (replicate_more n x)

pub slot_more : (first : Piece) (w : ℕ) (old new : List Piece) (p : Piece) → 1 ≤ w → old ≡ first ∷ replicate (w - 1) no_piece → new ≡ old ++ p ∷ [] → p.parts ≡ [] → p.named ≡ [] → p.is_short ≡ false
    → new ≡ first ∷ replicate (w + 1 - 1) no_piece
slot_more first w old new p some before pushed parts named kept =
    let is : p ≡ no_piece = λ i. record { parts = parts i; named = named i; is_short = kept i } in
    let count : suc (w - 1) ≡ w + 1 - 1 = omega (arith, some) in
    pushed ∙ ap (λ ps. ps ++ p ∷ []) before ∙ ap (λ (q : Piece). first ∷ (replicate (w - 1) no_piece ++ q ∷ [])) is
    ∙ ap (λ (ps : List Piece). let all : List Piece = first ∷ ps in all) (replicate_more (w - 1) no_piece ∙ ap (λ (n : ℕ). replicate n no_piece) count)
