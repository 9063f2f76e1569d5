-- The table of what is looked up, made in pieces that are put together.
use Rattle.std.proofs.Common.{◌≡◌, ℕ, zero, suc, ◌+◌, ◌-◌, ◌<◌, ◌≤◌, Bool, true, false, List, [], ◌∷◌, ◌++◌, length, slice_get, get_or, take, drop, Option, Some, None, refl, sym, ap, subst, ◌∙◌, arith, nat_lt, length-append}
use Rattle.std.specs.Prelude.{slice_set, IfSome}
use Rattle.std.proofs.lemmas.Option.{same_Some, slice_get_within}
use Rattle.std.proofs.lemmas.Bool.Decides.{nat_tests}
use Rattle.name_rules.specs.object_file.declared.object.Object.{Object}
use Rattle.wl_fan.specs.Slices.{piece, Works}
use Rattle.wl_rows.specs.Ranges.{first_at}
use Rattle.wl_rows.proofs.Cuts.{first_past}
use Rattle.name_entries.specs.Parts.{ArePartsOf, AreParts}
use Rattle.name_entries.specs.Rows.{AreRowsOf, AreRows}
use Rattle.name_entries.specs.declared.pieces.Piece.{Piece}
use Rattle.name_entries.specs.declared.parts.ObjectParts.{ObjectParts}
use Rattle.name_entries.specs.declared.symbol_rows.EntryRow.{EntryRow}
use Rattle.name_entries.specs.Pieces.{Along, IsPiece, IsMade, AreMade}
use Rattle.name_entries.proofs.Found.{front, behind}

-- ---- lists side by side

pub along_both : {A B : Type 0} (P : ℕ → A → B → Type 0) (xs : List A) (from to : ℕ) (ys zs all : List B) → all ≡ ys ++ zs → from + length ys ≡ to → Along P from xs ys → Along P to xs zs
    → Along P from xs all
along_both {A = A} {B = B} P xs from to ys zs all is long first rest i x y there here = by (nat_lt i (length ys)) refl
  where
    at : slice_get (ys ++ zs) i ≡ Some y
    at = ap (λ (bs : List B). slice_get bs i) (sym is) ∙ here

    by : (b : Bool) → nat_lt i (length ys) ≡ b → P (from + i) x y
    by true lt =
        let below : i < length ys = grind (arith, nat_tests) in
        first i x y there (sym (front ys zs i below) ∙ at)
    by false ge =
        let above : length ys ≤ i = grind (arith, nat_tests) in
        let j : ℕ = i - length ys in
        let place : to + j ≡ from + i = omega (arith, above, long) in
        subst (λ (k : ℕ). P k x y) place
        (rest j x y (ap (slice_get xs) place ∙ there) (sym (behind ys zs j i (omega (arith, above))) ∙ at))

pub along_one : {A B : Type 0} (P : ℕ → A → B → Type 0) (xs : List A) (at : ℕ) (x : A) (y : B) → slice_get xs at ≡ Some x → P at x y → Along P at xs (y ∷ [])
along_one P xs at x y there is zero x' y' there' here =
    let none : at ≡ at + 0 = omega arith in
    let same : x ≡ x' = same_Some x x' (sym there ∙ ap (slice_get xs) none ∙ there') in
    let own : y ≡ y' = same_Some y y' here in
    subst (λ k. P k x' y') none (subst (λ x. P at x y') same (subst (λ y. P at x y) own is))
along_one P xs at x y there is (suc i) x' y' there' here = absurd cc

pub along_none : {A B : Type 0} (P : ℕ → A → B → Type 0) (xs : List A) (at : ℕ) (ys : List B) → ys ≡ [] → Along P at xs ys
along_none {B = B} P xs at ys is i x y there here = absurd (let e : slice_get [] i ≡ Some y = ap (λ (bs : List B). slice_get bs i) (sym is) ∙ here in cc)

-- ---- pieces

module _ (objects : List Object) (names : List (List (Option ℕ))) where
  -- one object more
  pub object_more : (from at : ℕ) (old new : Piece) (o : Object) (p : ObjectParts) (rs : List EntryRow) → new.parts ≡ old.parts ++ p ∷ [] → new.rows ≡ old.rows ++ rs ∷ []
      → slice_get objects at ≡ Some o → ArePartsOf objects o p → AreRowsOf objects o (get_or names at []) rs → IsPiece objects names from at old → IsPiece objects names from (at + 1) new
  object_more from at old new o p rs parts rows there own told so_far = record {
    parts = omega (arith, so_far.parts, ap (λ (ps : List ObjectParts). length ps) parts, length-append old.parts (p ∷ []));
    rows = omega (arith, so_far.rows, ap (λ (rss : List (List EntryRow)). length rss) rows, length-append old.rows (rs ∷ []));
    each_parts = along_both (λ i o p. ArePartsOf objects o p) objects from at old.parts (p ∷ []) new.parts parts so_far.parts so_far.each_parts
        (along_one (λ i o p. ArePartsOf objects o p) objects at o p there own);
    each_rows = along_both (λ i o rs. AreRowsOf objects o (get_or names i []) rs) objects from at old.rows (rs ∷ []) new.rows rows so_far.rows so_far.each_rows
        (along_one (λ i o rs. AreRowsOf objects o (get_or names i []) rs) objects at o rs there told);
  }

  pub no_object : (from : ℕ) (new : Piece) → new.parts ≡ [] → new.rows ≡ [] → IsPiece objects names from from new
  no_object from new parts rows = record {
    parts = omega (arith, ap (λ (ps : List ObjectParts). length ps) parts);
    rows = omega (arith, ap (λ (rss : List (List EntryRow)). length rss) rows);
    each_parts = along_none (λ i o p. ArePartsOf objects o p) objects from new.parts parts;
    each_rows = along_none (λ i o rs. AreRowsOf objects o (get_or names i []) rs) objects from new.rows rows;
  }

  both : (from mid to : ℕ) (a b new : Piece) → new.parts ≡ a.parts ++ b.parts → new.rows ≡ a.rows ++ b.rows → IsPiece objects names from mid a → IsPiece objects names mid to b
      → IsPiece objects names from to new
  both from mid to a b new parts rows first rest = record {
    parts = omega (arith, first.parts, rest.parts, ap (λ (ps : List ObjectParts). length ps) parts, length-append a.parts b.parts);
    rows = omega (arith, first.rows, rest.rows, ap (λ (rss : List (List EntryRow)). length rss) rows, length-append a.rows b.rows);
    each_parts = along_both (λ i o p. ArePartsOf objects o p) objects from mid a.parts b.parts new.parts parts first.parts first.each_parts rest.each_parts;
    each_rows = along_both (λ i o rs. AreRowsOf objects o (get_or names i []) rs) objects from mid a.rows b.rows new.rows rows first.rows first.each_rows rest.each_rows;
  }

  pub all_parts : (all : Piece) → IsPiece objects names 0 (length objects) all → AreParts objects all.parts
  all_parts all is = record { count = omega (arith, is.parts); each = λ i o p there here. let none : 0 + i ≡ i = omega arith in is.each_parts i o p (ap (slice_get objects) none ∙ there) here }

  pub all_rows : (all : Piece) → IsPiece objects names 0 (length objects) all → AreRows objects names all.rows
  all_rows all is = record { count = omega (arith, is.rows); each = λ i o rs there here. let none : 0 + i ≡ i = omega arith in subst (λ (k : ℕ). AreRowsOf objects o (get_or names k []) rs) none (is.each_rows i o rs (ap (slice_get objects) none ∙ there) here) }

  -- ---- slots

  -- The pieces of so many workers are put together, and those of the others are in what is left of the slots.
  pub record Joining (cuts : List ℕ) (count worker : ℕ) (left : List (Option Piece)) (all : Piece) : Type 0 where
    pub done : IsPiece objects names 0 (first_at cuts count worker) all
    pub rest : (i : ℕ) (p : Piece) → slice_get left i ≡ Some (Some p) → IsPiece objects names (first_at cuts count (worker + i)) (first_at cuts count (worker + i + 1)) p

  pub begun : (cuts : List ℕ) (count : ℕ) (slots left : List (Option Piece)) (first : Piece) → slots ≡ Some first ∷ left → AreMade objects names cuts count slots → Joining cuts count 1 left first
  begun cuts count slots left first is made = record {
    done = made.each 0 first (ap (λ (ss : List (Option Piece)). slice_get ss 0) is);
    rest = λ i p at.
        let e : suc i ≡ 1 + i = omega arith in
        subst (λ (k : ℕ). IsPiece objects names (first_at cuts count k) (first_at cuts count (k + 1)) p) e
        (made.each (suc i) p (ap (λ (ss : List (Option Piece)). slice_get ss (suc i)) is ∙ at));
  }

  pub joined_more : (cuts : List ℕ) (count worker : ℕ) (before left : List (Option Piece)) (piece old new : Piece) → before ≡ Some piece ∷ left → new.parts ≡ old.parts ++ piece.parts
      → new.rows ≡ old.rows ++ piece.rows → Joining cuts count worker before old → Joining cuts count (worker + 1) left new
  joined_more cuts count worker before left piece old new is parts rows so_far =
      let none : worker + 0 ≡ worker = omega arith in
      let own = subst (λ (k : ℕ). IsPiece objects names (first_at cuts count k) (first_at cuts count (k + 1)) piece) none
      (so_far.rest 0 piece (ap (λ (ss : List (Option Piece)). slice_get ss 0) is)) in
      record {
        done = both 0 (first_at cuts count worker) (first_at cuts count (worker + 1)) old piece new parts rows so_far.done own;
        rest = λ i p at.
            let e : worker + suc i ≡ worker + 1 + i = omega arith in
            subst (λ (k : ℕ). IsPiece objects names (first_at cuts count k) (first_at cuts count (k + 1)) p) e
            (so_far.rest (suc i) p (ap (λ (ss : List (Option Piece)). slice_get ss (suc i)) is ∙ at));
      }

  pub joined_all : (cuts : List ℕ) (count worker : ℕ) (left : List (Option Piece)) (all : Piece) → worker ≡ length cuts + 1 → Joining cuts count worker left all → IsPiece objects names 0 count all
  joined_all cuts count worker left all e so_far = subst (λ (n : ℕ). IsPiece objects names 0 n all) (ap (first_at cuts count) e ∙ first_past cuts count) so_far.done

  -- what the workers tell of their slots, of all slots
  one_slot : (slots : List (Option Piece)) (k : ℕ) (s : Option Piece) → slice_get slots k ≡ Some s → slice_get (piece (λ (n : ℕ). n) 0 k slots) 0 ≡ Some s
  one_slot slots k s at =
      let from : k - 0 ≡ k = omega arith in
      let long : k + 1 - 0 - (k - 0) ≡ suc zero = omega arith in
      ap (λ (n : ℕ). slice_get (take n (drop (k - 0) slots)) 0) long ∙ ap (λ (n : ℕ). slice_get (take (suc zero) (drop n slots)) 0) from ∙ first slots k at
    where
      first : (ss : List (Option Piece)) (i : ℕ) → slice_get ss i ≡ Some s → slice_get (take (suc zero) (drop i ss)) 0 ≡ Some s
      first [] i e = absurd (let lt = slice_get_within [] i s e in omega (arith, lt))
      first (x ∷ ss) zero e = e
      first (x ∷ ss) (suc i) e = first ss i e

  -- a worker's piece is put into its slot
  pub made_here : (from to : ℕ) (old : List (Option Piece)) (now : Option Piece) → 0 < length old → IfSome now (IsPiece objects names from to) → IsMade objects names from to (slice_set old 0 now)
  made_here from to [] now some is p at = absurd (omega (arith, some))
  made_here from to (x ∷ xs) now some is p at =
      let own : now ≡ Some p = same_Some now (Some p) at in
      subst (λ (o : Option Piece). IfSome o (IsPiece objects names from to)) own is

  pub all_made : (cuts : List ℕ) (count : ℕ) (old new : List (Option Piece)) → length new ≡ length cuts + 1
      → Works (λ k old new. IsMade objects names (first_at cuts count k) (first_at cuts count (k + 1)) new) (λ k. k) 0 (length cuts + 1) old new → AreMade objects names cuts count new
  all_made cuts count old new many works = record {
    many = many;
    each = λ k p at.
        let lt = slice_get_within new k (Some p) at in
        works k (omega arith) (omega (arith, lt, many)) p (one_slot new k (Some p) at);
  }

-- a list that is written back whole
pub whole_back : {X : Type 0} (n : ℕ) (new rest : List X) → n ≡ length new → take n (new ++ rest) ≡ new
whole_back zero [] rest e = refl
whole_back (suc n) [] rest e = absurd (omega (arith, e))
whole_back zero (x ∷ new) rest e = absurd (omega (arith, e))
whole_back {X} (suc n) (x ∷ new) rest e = ap (λ (xs : List X). let ys : List X = x ∷ xs in ys) (whole_back n new rest (omega (arith, e)))
