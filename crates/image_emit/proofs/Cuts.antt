-- Where parts begin.
use Rattle.std.proofs.Common.{◌≡◌, ◌^◌, ℕ, zero, suc, ◌+◌, ◌-◌, ◌<◌, ◌≤◌, List, [], ◌∷◌, ◌++◌, length, map, take, drop, slice_index_or, Bool, true, false, nat_lt, max, refl, sym, ap, ◌∙◌, arith, rules, append_assoc, length-append}
use Rattle.std.proofs.lemmas.List.{length-map, take-append-drop, drop-append-le, length-drop, append-nil}
use Rattle.std.proofs.Math.Seq.{take-length}
use Rattle.std.proofs.Math.ListN.{drop_of_length-le}
use Rattle.std.specs.List.{AllWithin}
use Rattle.std.specs.Prelude.{slice_range}
use Rattle.image_emit.specs.declared.tree.Image.{Image}
use Rattle.image_emit.specs.Bytes.{Tree, Block, bytes_of, tree_of, source_bytes, block_of}
use Rattle.image_emit.specs.Pieces.{Piece, joined, body_piece, block_pieces, data_pieces, pieces, front, places, source_places}
use Rattle.image_emit.specs.Parts.{no_piece, whole_piece, piece_at, upto, below, first_piece, part_first, part_start, Rising}
use Rattle.image_emit.specs.PartLaws.{below_step, first_most, first_some, first_zero, outer, upto_rises, start_zero, start_is, start_rises}
use Rattle.image_emit.specs.Put.{IsPut, HasRoom}
use Rattle.image_emit.proofs.Joined.{joined_both, pieces_are_bytes}

-- Counting what is below a number

-- the places before i are below n, and those from i on aren't
pub below_is : (n : ℕ) (ps : List ℕ) (i : ℕ) → i ≤ length ps → AllWithin (λ y. nat_lt y n ≡ true) ps 0 i → AllWithin (λ y. nat_lt y n ≡ false) ps i (length ps) → below n ps ≡ i
below_is n [] i most low high = omega (arith, most)
below_is n (p ∷ ps) zero most low high = below_step n p ps false (high 0 0 (omega arith) (omega arith))
below_is n (p ∷ ps) (suc i) most low high =
    below_step n p ps true (low 0 0 (omega arith) (omega arith))
    ∙ ap suc (below_is n ps i (omega (arith, most)) (λ k d from to. low (suc k) d (omega arith) (omega (arith, to))) (λ k d from to. high (suc k) d (omega (arith, from)) (omega (arith, to))))

most_step : (n p : ℕ) (ps : List ℕ) (b : Bool) → nat_lt p n ≡ b → below n ps ≤ length ps → below n (p ∷ ps) ≤ suc (length ps)
most_step n p ps true is rest = let e : below n (p ∷ ps) ≡ suc (below n ps) = below_step n p ps true is in omega (arith, e, rest)
most_step n p ps false is rest = let e : below n (p ∷ ps) ≡ 0 = below_step n p ps false is in omega (arith, e)

pub below_most : (n : ℕ) (ps : List ℕ) → below n ps ≤ length ps
below_most n [] = omega arith
below_most n (p ∷ ps) = most_step n p ps (nat_lt p n) refl (below_most n ps)

pub lower : (x y n : ℕ) → x ≤ y → nat_lt y n ≡ true → nat_lt x n ≡ true
lower x y n le holds = search rules

-- The bytes up to a piece

joined_more : (ps : List Piece) (j : ℕ) → j < length ps → joined (take (suc j) ps) ≡ joined (take j ps) ++ whole_piece (slice_index_or ps j no_piece)
joined_more [] j below = absurd (omega arith)
joined_more (p ∷ ps) zero below = search rules
joined_more (p ∷ ps) (suc j) below =
    ap (λ zs. whole_piece p ++ zs) (joined_more ps j (omega (arith, below))) ∙ sym (append_assoc (whole_piece p) (joined (take j ps)) (whole_piece (slice_index_or ps j no_piece)))

joined_rest : (ps : List Piece) (j : ℕ) → joined (take j ps) ++ joined (drop j ps) ≡ joined ps
joined_rest ps j = sym (joined_both (take j ps) (drop j ps)) ∙ ap joined (take-append-drop j ps)

places_count : (at : ℕ) (ps : List Piece) → length (places at ps) ≡ length ps
places_count at [] = refl
places_count at (p ∷ ps) = ap suc (places_count (at + length p.head + length p.bytes) ps)

blocks_count : (at : ℕ) (bs : List Block) → length (block_pieces at bs) ≡ length bs
blocks_count at [] = refl
blocks_count at (b ∷ bs) = ap suc (blocks_count (b.address + length b.bytes) bs)

place_low : (at : ℕ) (ps : List Piece) (j d : ℕ) → j < length ps → at ≤ slice_index_or (places at ps) j d
place_low at [] j d below = absurd (omega (arith, below))
place_low at (p ∷ ps) zero d below = omega arith
place_low at (p ∷ ps) (suc j) d below = omega (arith, place_low (at + length p.head + length p.bytes) ps j d (omega (arith, below)))

places_rise : (at : ℕ) (ps : List Piece) (i j d : ℕ) → i ≤ j → j < length ps → slice_index_or (places at ps) i d ≤ slice_index_or (places at ps) j d
places_rise at [] i j d le below = absurd (omega (arith, below))
places_rise at (p ∷ ps) zero zero d le below = omega arith
places_rise at (p ∷ ps) zero (suc j) d le below = omega (arith, place_low (at + length p.head + length p.bytes) ps j d (omega (arith, below)))
places_rise at (p ∷ ps) (suc i) zero d le below = absurd (omega (arith, le))
places_rise at (p ∷ ps) (suc i) (suc j) d le below = places_rise (at + length p.head + length p.bytes) ps i j d (omega (arith, le)) (omega (arith, below))

place_end : (at : ℕ) (ps : List Piece) (j d : ℕ) → j < length ps → slice_index_or (places at ps) j d + length (slice_index_or ps j no_piece).bytes ≡ at + length (joined (take (suc j) ps))
place_end at [] j d below = absurd (omega (arith, below))
place_end at (p ∷ ps) zero d below =
    let e : joined (take 1 (p ∷ ps)) ≡ whole_piece p = search rules in
    omega (arith, ap length e, length-append p.head p.bytes)
place_end at (p ∷ ps) (suc j) d below =
    omega (arith, place_end (at + length p.head + length p.bytes) ps j d (omega (arith, below)), length-append (whole_piece p) (joined (take (suc j) ps)), length-append p.head p.bytes)

module _ (t : Tree) where
  pub pieces_count : length (pieces t) ≡ length t.bodies + length t.blocks
  pieces_count = omega (arith, length-append (map body_piece t.bodies) (data_pieces t.data_offset t.blocks), length-map t.bodies body_piece, count t.blocks)
    where
      count : (bs : List Block) → length (data_pieces t.data_offset bs) ≡ length bs
      count [] = refl
      count (b ∷ bs) = ap suc (blocks_count (b.address + length b.bytes) bs)

  pub sources_count : length (source_places t) ≡ length t.bodies + length t.blocks
  sources_count = places_count (length (front t)) (pieces t) ∙ pieces_count

  pub rising : Rising (source_places t)
  rising i j d le below = places_rise (length (front t)) (pieces t) i j d le (omega (arith, below, places_count (length (front t)) (pieces t)))

  pub upto_more : (j : ℕ) → j < length (pieces t) → upto t (j + 1) ≡ upto t j ++ piece_at t j
  unfolding upto
  upto_more j below =
      let next : j + 1 ≡ suc j = omega arith in
      ap (λ k. front t ++ joined (take k (pieces t))) next
      ∙ ap (λ zs. front t ++ zs) (joined_more (pieces t) j below)
      ∙ sym (append_assoc (front t) (joined (take j (pieces t))) (piece_at t j))

  pub upto_none : upto t 0 ≡ front t
  unfolding upto
  upto_none = append-nil (front t)

  pub upto_rest : (j : ℕ) → upto t j ++ joined (drop j (pieces t)) ≡ bytes_of t
  unfolding upto
  upto_rest j = append_assoc (front t) (joined (take j (pieces t))) (joined (drop j (pieces t))) ∙ ap (λ zs. front t ++ zs) (joined_rest (pieces t) j) ∙ pieces_are_bytes t

  pub upto_most : (j : ℕ) → length (upto t j) ≤ length (bytes_of t)
  upto_most j = omega (arith, ap length (upto_rest j), length-append (upto t j) (joined (drop j (pieces t))))

  pub upto_end : (j d : ℕ) → j < length (pieces t) → slice_index_or (source_places t) j d + length (slice_index_or (pieces t) j no_piece).bytes ≡ length (upto t (j + 1))
  unfolding upto
  upto_end j d below =
      let next : j + 1 ≡ suc j = omega arith in
      place_end (length (front t)) (pieces t) j d below ∙ sym (length-append (front t) (joined (take (suc j) (pieces t)))) ∙ sym (ap (λ k. length (front t ++ joined (take k (pieces t)))) next)

  -- Parts
  module _ (width : ℕ) (some : 1 ≤ width) (few : width ≤ max 1 (length (source_places t))) where
    pub part_most : (part : ℕ) → part_first t width part ≤ length (pieces t)
    unfolding part_first
    part_most part = omega (arith, first_most (source_places t) (length (bytes_of t)) width some few part, places_count (length (front t)) (pieces t))

    pub part_some : (part : ℕ) → 0 < part → part < width → 0 < part_first t width part
    unfolding part_first
    part_some part one low = first_some (source_places t) (length (bytes_of t)) width some few part one low

    pub part_zero : part_first t width 0 ≡ 0
    unfolding part_first
    part_zero = first_zero (source_places t) (length (bytes_of t)) width some few

    part_past : (part : ℕ) → width ≤ part → part_first t width part ≡ length (pieces t)
    unfolding part_first
    part_past part high = outer (source_places t) (length (bytes_of t)) width part high ∙ places_count (length (front t)) (pieces t)

    pub start_past : (part : ℕ) → width ≤ part → part_start t width part ≡ length (bytes_of t)
    start_past part high =
        let n : ℕ = length (pieces t) in
        let e = start_is t width some few part (omega (arith, some, high)) in
        let l = ap (λ k. length (upto t k)) (part_past part high) in
        let all = ap length (upto_rest n) in
        let none : drop n (pieces t) ≡ [] = drop_of_length-le (pieces t) (omega arith) in
        let nothing : length (joined (drop n (pieces t))) ≡ 0 = ap (λ ps. length (joined ps)) none in
        omega (arith, e, l, all, nothing, length-append (upto t n) (joined (drop n (pieces t))))

    pub start_most : (part : ℕ) → part_start t width part ≤ length (bytes_of t)
    start_most zero = omega (arith, start_zero t width some few)
    start_most (suc p) = omega (arith, start_is t width some few (suc p) (omega arith), upto_most (part_first t width (suc p)))

    take_front : (xs ys : List ℕ) → take (length xs) (xs ++ ys) ≡ xs
    take_front [] ys = refl
    take_front (x ∷ xs) ys = ap (λ zs. x ∷ zs) (take_front xs ys)

    module _ (part : ℕ) where
      s : ℕ
      s = part_start t width part

      e : ℕ
      e = part_first t width (part + 1)

      end_is : part_start t width (part + 1) ≡ length (upto t e)
      unfolding e
      end_is = start_is t width some few (part + 1) (omega arith)

      -- a part begins behind the pieces before it, the first one at 0
      start_low : s ≤ length (upto t (part_first t width part))
      unfolding s
      start_low = by part
        where
          by : (p : ℕ) → part_start t width p ≤ length (upto t (part_first t width p))
          by zero = omega (arith, start_zero t width some few)
          by (suc p) = omega (arith, start_is t width some few (suc p) (omega arith))

      at_low : (job : ℕ) → part_first t width part ≤ job → s ≤ length (upto t job)
      at_low job from = omega (arith, start_low, upto_rises t (part_first t width part) job from)

      drop_more : (job : ℕ) → part_first t width part ≤ job → job < e → drop s (upto t (job + 1)) ≡ drop s (upto t job) ++ piece_at t job
      unfolding e
      drop_more job from below =
          ap (drop s) (upto_more job (omega (arith, below, part_most (part + 1)))) ∙ drop-append-le s (upto t job) (piece_at t job) (at_low job from)

      -- what a part holds
      part_is : slice_range (bytes_of t) s (part_start t width (part + 1)) ≡ drop s (upto t e)
      unfolding s
      part_is =
          let xs : List ℕ = upto t e in
          let rest : List ℕ = joined (drop e (pieces t)) in
          let le : part_start t width part ≤ part_start t width (part + 1) = start_rises t width some few part (part + 1) (omega arith) in
          let long : s ≤ length xs = s_long le in
          let len : length (drop s xs) ≡ part_start t width (part + 1) - s = omega (arith, end_is, length-drop s xs) in
          ap (λ zs. take (part_start t width (part + 1) - s) (drop s zs)) (sym (upto_rest e))
          ∙ ap (take (part_start t width (part + 1) - s)) (drop-append-le s xs rest long)
          ∙ ap (λ k. take k (drop s xs ++ rest)) (sym len)
          ∙ take_front (drop s xs) rest
        where
          s_long : part_start t width part ≤ part_start t width (part + 1) → s ≤ length (upto t e)
          s_long le = omega (arith, le, end_is)

      pub piece_room : (job at : ℕ) (old new : List ℕ) → part_first t width part ≤ job → job < part_first t width (part + 1)
          → length old ≡ part_start t width (part + 1) - part_start t width part → length old < 2 ^ 31
          → IsPut old 0 (drop (part_start t width part) (upto t job)) at new → HasRoom new at (piece_at t job)
      unfolding s e
      piece_room job at old new from below long short done =
          let more = ap length (drop_more job from below) in
          let up = upto_rises t (job + 1) e (omega (arith, below)) in (
            omega (arith, more, up, end_is, long, at_low job from, done.place, done.len, length-drop s (upto t (job + 1)), length-drop s (upto t job), length-append (drop s (upto t job)) (piece_at t job)),
            omega (arith, done.len, short),
          )

      pub piece_more : (job at end : ℕ) (old mid new : List ℕ) → part_first t width part ≤ job → job < part_first t width (part + 1)
          → IsPut old 0 (drop (part_start t width part) (upto t job)) at mid → IsPut mid at (piece_at t job) end new
          → IsPut old 0 (drop (part_start t width part) (upto t (job + 1))) end new
      unfolding s e
      piece_more job at end old mid new from below done step =
          let more = drop_more job from below in
          record {
            front = step.front ∙ ap (λ zs. zs ++ piece_at t job) done.front ∙ sym more;
            place = omega (arith, step.place, done.place, ap length more, length-append (drop s (upto t job)) (piece_at t job));
            len = step.len ∙ done.len;
          }

      pub part_done : (job at : ℕ) (old new : List ℕ) → job ≡ part_first t width (part + 1)
          → length old ≡ part_start t width (part + 1) - part_start t width part
          → IsPut old 0 (drop (part_start t width part) (upto t job)) at new
          → new ≡ slice_range (bytes_of t) (part_start t width part) (part_start t width (part + 1))
      unfolding s e
      part_done job at old new is long done =
          let last = ap (λ k. drop s (upto t k)) is in
          let all : at ≡ length new = omega (arith, done.place, done.len, long, end_is, ap length last, length-drop s (upto t e)) in
          sym (take-length new) ∙ ap (λ k. take k new) (sym all) ∙ done.front ∙ last ∙ sym part_is

      pub part_opens : 0 < part → drop (part_start t width part) (upto t (part_first t width part)) ≡ []
      part_opens some' = drop_of_length-le (upto t (part_first t width part)) (let i = start_is t width some few part some' in omega (arith, i))

    pub first_opens : drop (part_start t width 0) (upto t (part_first t width 0)) ≡ front t
    first_opens = ap (λ k. drop k (upto t (part_first t width 0))) (start_zero t width some few) ∙ ap (upto t) part_zero ∙ upto_none

    pub first_room : length (front t) ≤ part_start t width 1 - part_start t width 0
    first_room =
        let z = start_zero t width some few in
        let i = start_is t width some few 1 (omega arith) in
        let r = upto_rises t 0 (part_first t width 1) (omega arith) in
        omega (arith, z, i, r, ap length upto_none)

module _ (files : List (List ℕ)) (i : Image) where
  pub count : length (source_places (tree_of files i)) ≡ length i.bodies + length i.blocks
  count = omega (arith, sources_count (tree_of files i), length-map i.bodies (source_bytes files), length-map i.blocks (block_of files))

  module _ (ps : List ℕ) (placed : ps ≡ source_places (tree_of files i)) where
    -- where the piece ends whose source is at j
    pub ends_at : (j : ℕ) (bytes : List ℕ) → j < length ps → bytes ≡ (slice_index_or (pieces (tree_of files i)) j no_piece).bytes
        → slice_index_or ps j 0 + length bytes ≡ length (upto (tree_of files i) (j + 1))
    ends_at j bytes below is =
        let t = tree_of files i in
        let long = ap (λ (qs : List ℕ). length qs) placed in
        let few : j < length (pieces t) = omega (arith, below, long, places_count (length (front t)) (pieces t)) in
        let e : slice_index_or ps j 0 ≡ slice_index_or (source_places t) j 0 = ap (λ (qs : List ℕ). slice_index_or qs j 0) placed in
        let f : length bytes ≡ length (slice_index_or (pieces t) j no_piece).bytes = ap length is in
        omega (arith, e, f, upto_end t j 0 few)

    pub few_parts : (width : ℕ) → width ≤ max 1 (length ps) → width ≤ max 1 (length (source_places (tree_of files i)))
    few_parts width few = let long = ap (λ (qs : List ℕ). length qs) placed in omega (arith, few, long)

    pub is_first : (len width part : ℕ) → len ≡ length (bytes_of (tree_of files i)) → first_piece ps len width part ≡ part_first (tree_of files i) width part
    unfolding part_first
    is_first len width part long =
        ap (λ (qs : List ℕ). first_piece qs len width part) placed ∙ ap (λ n. first_piece (source_places (tree_of files i)) n width part) long
