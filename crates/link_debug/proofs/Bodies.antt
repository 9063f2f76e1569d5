-- Where bodies stand in the payload of the code section.
use Rattle.std.proofs.Common.{◌≡◌, ℕ, zero, suc, ◌+◌, ◌-◌, ◌<◌, List, [], ◌∷◌, ◌++◌, length, map, take, drop, flat_map, slice_index_or, Some, None, false, refl, sym, ap, ◌∙◌, arith, rules, append_assoc, length-append}
use Rattle.std.proofs.Math.Seq.{drop-append_seam, take-append_seam}
use Rattle.object_file.specs.leb_codec.Shortest.{u32}
use Rattle.object_file.specs.wl_base.declared.span.Span.{Span}
use Rattle.std.specs.Prelude.{◌==◌, if◌then◌else◌}
use Rattle.image_emit.specs.Bytes.{Tree, sized, vector}
use Rattle.image_emit.specs.Pieces.{Piece, body_piece, data_pieces, places, sections, code_head, front, code_place, source_places}
use Rattle.link_debug.specs.Places.{place_of, place_in}

sized_long : (b : List ℕ) → length (sized b) ≡ length (u32 (length b)) + length b
sized_long b = length-append (u32 (length b)) b

-- the place of a body, from the place at which the first size stands
body_places : (at : ℕ) (bodies : List (List ℕ)) (rest : List Piece) (k : ℕ) → k < length bodies
    → slice_index_or (places at (map body_piece bodies ++ rest)) k 0 ≡ at + length (flat_map sized (take k bodies)) + length (u32 (length (slice_index_or bodies k [])))
body_places at [] rest k lt = absurd (omega (arith, lt))
body_places at (b ∷ bs) rest zero lt = omega arith
body_places at (b ∷ bs) rest (suc k) lt =
    let next = body_places (at + length (u32 (length b)) + length b) bs rest k (omega (arith, lt)) in
    omega (arith, next, sized_long b, length-append (sized b) (flat_map sized (take k bs)))

-- so many bodies, one, and the others
cut_at : (bodies : List (List ℕ)) (k : ℕ) → k < length bodies → (others : List ℕ) × (flat_map sized bodies ≡ flat_map sized (take k bodies) ++ (sized (slice_index_or bodies k []) ++ others))
cut_at [] k lt = absurd (omega (arith, lt))
cut_at (b ∷ bs) zero lt = (flat_map sized bs, refl)
cut_at (b ∷ bs) (suc k) lt =
    let r = cut_at bs k (omega (arith, lt)) in
    (r.0, ap (λ z. sized b ++ z) r.1 ∙ sym (append_assoc (sized b) (flat_map sized (take k bs)) (sized (slice_index_or bs k []) ++ r.0)))

seam : (front body others whole : List ℕ) (n : ℕ) → whole ≡ front ++ (body ++ others) → n ≡ length front → take (length body) (drop n whole) ≡ body
seam front body others whole n is at =
    ap (λ k. take (length body) (drop k whole)) at
    ∙ (ap (λ z. take (length body) (drop (length front) z)) is
    ∙ (ap (take (length body)) (drop-append_seam front (body ++ others)) ∙ take-append_seam body others))

-- a body stands behind its size
stands_in : (head : List ℕ) (bodies : List (List ℕ)) (k n : ℕ) → k < length bodies
    → n ≡ length head + length (flat_map sized (take k bodies)) + length (u32 (length (slice_index_or bodies k [])))
    → take (length (slice_index_or bodies k [])) (drop n (head ++ flat_map sized bodies)) ≡ slice_index_or bodies k []
stands_in head bodies k n lt at =
    let b = slice_index_or bodies k [] in
    let before = flat_map sized (take k bodies) in
    let r = cut_at bodies k lt in
    let whole : head ++ flat_map sized bodies ≡ (head ++ (before ++ u32 (length b))) ++ (b ++ r.0) = ap (λ z. head ++ z) r.1 ∙ regrouped head before (u32 (length b)) b r.0 in
    seam (head ++ (before ++ u32 (length b))) b r.0 (head ++ flat_map sized bodies) n whole
    (omega (arith, at, length-append head (before ++ u32 (length b)), length-append before (u32 (length b))))
  where
    regrouped : (a b c d e : List ℕ) → a ++ (b ++ ((c ++ d) ++ e)) ≡ (a ++ (b ++ c)) ++ (d ++ e)
    regrouped a b c d e = simp append_assoc

some_is : {x y : ℕ} → Some x ≡ Some y → x ≡ y
some_is e = cc

not_none : (n k : ℕ) → k < n → (n == 0) ≡ false
not_none zero k lt = absurd (omega (arith, lt))
not_none (suc n) k lt = search rules

-- The body of a number stands at its place in the payload of the code section.
pub body_stands : (t : Tree) (k n : ℕ) → k < length t.bodies → place_of t (Some k) ≡ Some n
    → take (length (slice_index_or t.bodies k [])) (drop n (vector sized t.bodies)) ≡ slice_index_or t.bodies k []
unfolding code_place
body_stands t k n lt is =
    let payload = vector sized t.bodies in
    let count = u32 (length t.bodies) in
    let span : Span = record { start = length (sections t) + 1 + length (u32 (length payload)); len = length payload } in
    let some : (length t.bodies == 0) ≡ false = not_none (length t.bodies) k lt in
    let code : code_place t ≡ Some span = ap (λ c. if c then None else Some span) some in
    let place : slice_index_or (source_places t) k 0 - span.start ≡ n = some_is (sym (ap (place_in t k) code) ∙ is) in
    let head : code_head t.bodies ≡ 10 ∷ u32 (length payload) ++ count = ap (λ c. if c then [] else 10 ∷ u32 (length payload) ++ count) some in
    let long : length (front t) ≡ length (sections t) + (1 + length (u32 (length payload)) + length count) =
    length-append (sections t) (code_head t.bodies) ∙ ap (λ z. length (sections t) + length z) head ∙ head_long (length (sections t)) (u32 (length payload)) count in
    let at = body_places (length (front t)) t.bodies (data_pieces t.data_offset t.blocks) k lt in
    stands_in count t.bodies k n lt (omega (arith, place, long, at))
  where
    head_long : (n : ℕ) (a b : List ℕ) → n + length (10 ∷ a ++ b) ≡ n + (1 + length a + length b)
    head_long n a b = omega (arith, length-append a b)
