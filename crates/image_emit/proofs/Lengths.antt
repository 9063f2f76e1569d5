-- How long a tree with the sources of an image is, and where they stand.
use Rattle.std.proofs.Common.{◌≡◌, ℕ, suc, ◌+◌, ◌-◌, ◌≤◌, List, [], ◌∷◌, ◌++◌, length, map, replicate, refl, sym, ap, ◌∙◌, arith, rules, false, ◌==◌, length-append, Option, Some, None}
use Rattle.std.specs.Prelude.{if◌then◌else◌}
use Rattle.std.proofs.lemmas.List.{length-replicate, length-map}
use Rattle.std.specs.List.{flat_map}
use Rattle.wasm_module.specs.wasm_instr.wl_base.declared.span.Span.{Span}
use Rattle.wasm_module.specs.wasm_instr.wasm_types.declared.const_expr.ConstExpr.{ConstExpr}
use Rattle.wasm_module.specs.wasm_instr.leb_codec.Shortest.{u32}
use Rattle.image_emit.specs.declared.tree.Image.{Image}
use Rattle.image_emit.specs.declared.tree.Source.{Source}
use Rattle.image_emit.specs.declared.tree.Source.TheVariants.{File, Own}
use Rattle.image_emit.specs.declared.tree.PlacedSource.{PlacedSource}
use Rattle.image_emit.specs.Bytes.{Block, tree_of, sized, vector, laid, data_bytes, bytes_of, const_expr}
use Rattle.image_emit.specs.Pieces.{Piece, joined, body_piece, block_pieces, data_head, data_pieces, pieces, sections, code_head, front, places, code_place, source_places}
use Rattle.image_emit.specs.Sizes.{source_len, bodies_len, blocks_len, data_len, code_head_len, data_head_len, body_places, block_places, data_places, front_len, code_len, code_span, image_code, image_len, image_places}
use Rattle.image_emit.specs.Measures.{tree_with, blank, measured, measure_of, image_measure}
use Rattle.image_emit.specs.Some.{u32_some}
use Rattle.image_emit.proofs.Joined.{joined_both, pieces_are_bytes, laid_is}

some : {A : Type 0} (n : ℕ) (x y : A) → (if suc n == 0 then x else y) ≡ y
some n x y = let none : (suc n == 0) ≡ false = search rules in rw none refl

-- a body takes one byte at least
pub bodies_count : (ss : List Source) → length ss ≤ bodies_len ss
bodies_count [] = omega arith
bodies_count (s ∷ ss) = omega (arith, u32_some (source_len s), bodies_count ss)

module _ (f : Source → List ℕ) where
  -- the sources stand for as many bytes as they say
  abbrev pub Long : List Source → Type 0
  Long [] = Unit {0}
  Long (s ∷ ss) = (length (f s) ≡ source_len s) × Long ss

  abbrev pub PlacedLong : List PlacedSource → Type 0
  PlacedLong [] = Unit {0}
  PlacedLong (p ∷ ps) = (length (f p.source) ≡ source_len p.source) × PlacedLong ps

  abbrev pub block : PlacedSource → Block
  block p = record { address = p.address; bytes = f p.source }

  pub flat_len : (ss : List Source) → Long ss → length (flat_map sized (map f ss)) ≡ bodies_len ss
  flat_len [] l = refl
  flat_len (s ∷ ss) l =
      let e = ap (λ n. length (u32 n)) l.0 in
      omega (arith, e, l.0, flat_len ss l.1, length-append (sized (f s)) (flat_map sized (map f ss)), length-append (u32 (length (f s))) (f s))

  code_head_is : (ss : List Source) → Long ss → length (code_head (map f ss)) ≡ code_head_len (length ss) (bodies_len ss)
  code_head_is [] l = refl
  code_head_is (s ∷ ss) l =
      let bs = map f (s ∷ ss) in
      let count : length bs ≡ length (s ∷ ss) = length-map (s ∷ ss) f in
      let few = ap (λ n. length (u32 n)) count in
      let all : length (vector sized bs) ≡ length (u32 (length (s ∷ ss))) + bodies_len (s ∷ ss) = omega (arith, few, flat_len (s ∷ ss) l, length-append (u32 (length bs)) (flat_map sized bs)) in
      let size = ap (λ n. length (u32 n)) all in
      let both : length (10 ∷ u32 (length (vector sized bs)) ++ u32 (length bs)) ≡ 1 + length (u32 (length (u32 (length (s ∷ ss))) + bodies_len (s ∷ ss))) + length (u32 (length (s ∷ ss))) =
      omega (arith, few, size, length-append (u32 (length (vector sized bs))) (u32 (length bs))) in
      ap length (some (length (map f ss)) [] (10 ∷ u32 (length (vector sized bs)) ++ u32 (length bs))) ∙ both
      ∙ sym (some (length ss) 0 (1 + length (u32 (length (u32 (length (s ∷ ss))) + bodies_len (s ∷ ss))) + length (u32 (length (s ∷ ss)))))

  payload_len : (ss : List Source) → Long ss → length (vector sized (map f ss)) ≡ code_len (length ss) (bodies_len ss)
  payload_len ss l =
      let bs = map f ss in
      let few = ap (λ n. length (u32 n)) (length-map ss f) in
      omega (arith, few, flat_len ss l, length-append (u32 (length bs)) (flat_map sized bs))

  code_span_is : (before : ℕ) (ss : List Source) → Long ss
      → (if length (map f ss) == 0 then None else Some (record { start = before + 1 + length (u32 (length (vector sized (map f ss)))); len = length (vector sized (map f ss)) }))
      ≡ code_span before (length ss) (bodies_len ss)
  code_span_is before [] l = refl
  code_span_is before (s ∷ ss) l =
      let at : ℕ → Span = λ n. record { start = before + 1 + length (u32 n); len = n } in
      some (length (map f ss)) None (Some (at (length (vector sized (map f (s ∷ ss))))))
      ∙ ap (λ n. Some (at n)) (payload_len (s ∷ ss) l)
      ∙ sym (some (length ss) None (Some (at (code_len (length (s ∷ ss)) (bodies_len (s ∷ ss))))))

  bodies_joined : (ss : List Source) → Long ss → length (joined (map body_piece (map f ss))) ≡ bodies_len ss
  bodies_joined [] l = refl
  bodies_joined (s ∷ ss) l =
      let e = ap (λ n. length (u32 n)) l.0 in
      omega (arith, e, l.0, bodies_joined ss l.1, length-append (u32 (length (f s)) ++ f s) (joined (map body_piece (map f ss))), length-append (u32 (length (f s))) (f s))

  bodies_stand : (at : ℕ) (ss : List Source) (ps : List Piece) → Long ss → places at (map body_piece (map f ss) ++ ps) ≡ body_places at ss ++ places (at + bodies_len ss) ps
  bodies_stand at [] ps l = let e : at ≡ at + 0 = omega arith in ap (λ n. places n ps) e
  bodies_stand at (s ∷ ss) ps l =
      let head : length (u32 (length (f s))) ≡ length (u32 (source_len s)) = ap (λ n. length (u32 n)) l.0 in
      let first : at + length (u32 (length (f s))) ≡ at + length (u32 (source_len s)) = ap (λ n. at + n) head in
      let end : at + length (u32 (length (f s))) + length (f s) ≡ at + length (u32 (source_len s)) + source_len s = omega (arith, head, l.0) in
      let next : ℕ = at + length (u32 (source_len s)) + source_len s in
      let sum : next + bodies_len ss ≡ at + bodies_len (s ∷ ss) = omega arith in
      ap (λ n. n ∷ places (at + length (u32 (length (f s))) + length (f s)) (map body_piece (map f ss) ++ ps)) first
      ∙ ap (λ n. (at + length (u32 (source_len s))) ∷ places n (map body_piece (map f ss) ++ ps)) end
      ∙ ap (λ zs. (at + length (u32 (source_len s))) ∷ zs) (bodies_stand next ss ps l.1 ∙ ap (λ n. body_places next ss ++ places n ps) sum)

  laid_len : (at : ℕ) (ps : List PlacedSource) → PlacedLong ps → length (laid at (map block ps)) ≡ blocks_len at ps
  laid_len at [] l = refl
  laid_len at (p ∷ ps) l =
      let gap : List ℕ = replicate (p.address - at) 0 in
      let end : p.address + length (f p.source) ≡ p.address + source_len p.source = ap (λ n. p.address + n) l.0 in
      let rest : length (laid (p.address + length (f p.source)) (map block ps)) ≡ blocks_len (p.address + source_len p.source) ps = ap (λ n. length (laid n (map block ps))) end ∙ laid_len (p.address + source_len p.source) ps l.1 in
      omega (arith, rest, l.0, length-replicate {A = ℕ} (p.address - at) 0, length-append (gap ++ f p.source) (laid (p.address + length (f p.source)) (map block ps)), length-append gap (f p.source))

  blocks_stand : (at a : ℕ) (ps : List PlacedSource) → PlacedLong ps → places at (block_pieces a (map block ps)) ≡ block_places at a ps
  blocks_stand at a [] l = refl
  blocks_stand at a (p ∷ ps) l =
      let gap : List ℕ = replicate (p.address - a) 0 in
      let head : length gap ≡ p.address - a = length-replicate {A = ℕ} (p.address - a) 0 in
      let end : p.address + length (f p.source) ≡ p.address + source_len p.source = ap (λ n. p.address + n) l.0 in
      let next : at + length gap + length (f p.source) ≡ at + (p.address - a) + source_len p.source = omega (arith, head, l.0) in
      let first : at + length gap ≡ at + (p.address - a) = ap (λ n. at + n) head in
      ap (λ n. n ∷ places (at + length gap + length (f p.source)) (block_pieces (p.address + length (f p.source)) (map block ps))) first
      ∙ ap (λ n. (at + (p.address - a)) ∷ places n (block_pieces (p.address + length (f p.source)) (map block ps))) next
      ∙ ap (λ n. (at + (p.address - a)) ∷ places (at + (p.address - a) + source_len p.source) (block_pieces n (map block ps))) end
      ∙ ap (λ zs. (at + (p.address - a)) ∷ zs) (blocks_stand (at + (p.address - a) + source_len p.source) (p.address + source_len p.source) ps l.1)

  pub data_bytes_len : (ps : List PlacedSource) → PlacedLong ps → length (data_bytes (map block ps)) ≡ data_len ps
  data_bytes_len [] l = refl
  data_bytes_len (p ∷ ps) l = laid_len p.address (p ∷ ps) l

  head_len : (offset : ConstExpr) (p : PlacedSource) (ps : List PlacedSource) → PlacedLong (p ∷ ps)
      → length (data_head offset (data_bytes (map block (p ∷ ps)))) ≡ data_head_len offset (length (p ∷ ps)) (data_len (p ∷ ps))
  head_len offset p ps l =
      let bytes = data_bytes (map block (p ∷ ps)) in
      let e : length bytes ≡ data_len (p ∷ ps) = data_bytes_len (p ∷ ps) l in
      let count = ap (λ n. length (u32 n)) e in
      let lead : List ℕ = 1 ∷ 0 ∷ const_expr offset in
      let whole : length (lead ++ sized bytes) ≡ 2 + length (const_expr offset) + length (u32 (data_len (p ∷ ps))) + data_len (p ∷ ps) =
      omega (arith, e, count, length-append lead (sized bytes), length-append (u32 (length bytes)) bytes) in
      let size = ap (λ n. length (u32 n)) whole in
      let both : length (11 ∷ u32 (length (lead ++ sized bytes)) ++ (lead ++ u32 (length bytes)))
      ≡ 1 + length (u32 (2 + length (const_expr offset) + length (u32 (data_len (p ∷ ps))) + data_len (p ∷ ps))) + 2 + length (const_expr offset) + length (u32 (data_len (p ∷ ps))) =
      omega (arith, size, count, length-append (u32 (length (lead ++ sized bytes))) (lead ++ u32 (length bytes)), length-append lead (u32 (length bytes))) in
      both ∙ sym (some (length ps) 0 (1 + length (u32 (2 + length (const_expr offset) + length (u32 (data_len (p ∷ ps))) + data_len (p ∷ ps))) + 2 + length (const_expr offset) + length (u32 (data_len (p ∷ ps)))))

  data_joined : (offset : ConstExpr) (ps : List PlacedSource) → PlacedLong ps
      → length (joined (data_pieces offset (map block ps))) ≡ data_head_len offset (length ps) (data_len ps) + data_len ps
  data_joined offset [] l = refl
  data_joined offset (p ∷ ps) l =
      let head : List ℕ = data_head offset (data_bytes (map block (p ∷ ps))) in
      let rest : List ℕ = joined (block_pieces (p.address + length (f p.source)) (map block ps)) in
      let same : length rest ≡ length (laid (p.address + length (f p.source)) (map block ps)) = ap length (laid_is (p.address + length (f p.source)) (map block ps)) in
      let gap : List ℕ = replicate (p.address - p.address) 0 in
      let tail : List ℕ = laid (p.address + length (f p.source)) (map block ps) in
      omega (arith, head_len offset p ps l, same, data_bytes_len (p ∷ ps) l, length-replicate {A = ℕ} (p.address - p.address) 0, length-append (gap ++ f p.source) tail, length-append gap (f p.source), length-append (head ++ f p.source) rest, length-append head (f p.source))

  data_stand : (at : ℕ) (offset : ConstExpr) (ps : List PlacedSource) → PlacedLong ps
      → places at (data_pieces offset (map block ps)) ≡ data_places (at + data_head_len offset (length ps) (data_len ps)) ps
  data_stand at offset [] l = refl
  data_stand at offset (p ∷ ps) l =
      let head : length (data_head offset (data_bytes (map block (p ∷ ps)))) ≡ data_head_len offset (length (p ∷ ps)) (data_len (p ∷ ps)) = head_len offset p ps l in
      let start : ℕ = at + data_head_len offset (length (p ∷ ps)) (data_len (p ∷ ps)) in
      let none : start ≡ start + (p.address - p.address) = omega arith in
      let end : p.address + length (f p.source) ≡ p.address + source_len p.source = ap (λ n. p.address + n) l.0 in
      ap (λ n. (at + n) ∷ places (at + n + length (f p.source)) (block_pieces (p.address + length (f p.source)) (map block ps))) head
      ∙ ap (λ n. n ∷ places (n + length (f p.source)) (block_pieces (p.address + length (f p.source)) (map block ps))) none
      ∙ ap (λ n. (start + (p.address - p.address)) ∷ places (start + (p.address - p.address) + n) (block_pieces (p.address + length (f p.source)) (map block ps))) l.0
      ∙ ap (λ n. (start + (p.address - p.address)) ∷ places (start + (p.address - p.address) + source_len p.source) (block_pieces n (map block ps))) end
      ∙ ap (λ zs. (start + (p.address - p.address)) ∷ zs) (blocks_stand (start + (p.address - p.address) + source_len p.source) (p.address + source_len p.source) ps l.1)

  module _ (i : Image) (lb : Long i.bodies) (ld : PlacedLong i.blocks) where
    pub front_is : length (front (tree_with f i)) ≡ front_len i
    front_is = length-append (sections (tree_of [] i)) (code_head (map f i.bodies)) ∙ ap (λ n. length (sections (tree_of [] i)) + n) (code_head_is i.bodies lb)

    pub len_is : length (bytes_of (tree_with f i)) ≡ image_len i
    len_is =
        let t = tree_with f i in
        let bodies = map body_piece t.bodies in
        let blocks = data_pieces t.data_offset t.blocks in
        let whole = ap length (pieces_are_bytes t) in
        let parts = ap length (joined_both bodies blocks) in
        omega (arith, whole, parts, front_is, bodies_joined i.bodies lb, data_joined i.data_offset i.blocks ld, length-append (front t) (joined (pieces t)), length-append (joined bodies) (joined blocks))

    pub places_are : source_places (tree_with f i) ≡ image_places i
    places_are =
        let t = tree_with f i in
        ap (λ n. places n (pieces t)) front_is
        ∙ (bodies_stand (front_len i) i.bodies (data_pieces t.data_offset t.blocks) lb
        ∙ ap (λ zs. body_places (front_len i) i.bodies ++ zs) (data_stand (front_len i + bodies_len i.bodies) i.data_offset i.blocks ld))

    pub code_is_at : code_place (tree_with f i) ≡ image_code i
    unfolding image_code code_place
    code_is_at = code_span_is (length (sections (tree_of [] i))) i.bodies lb

    pub measure_is : measure_of (tree_with f i) ≡ measured (image_len i) (image_code i) (image_places i)
    measure_is =
        ap (λ n. measured n (code_place (tree_with f i)) (source_places (tree_with f i))) len_is
        ∙ ap (λ s. measured (image_len i) s (source_places (tree_with f i))) code_is_at
        ∙ ap (measured (image_len i) (image_code i)) places_are

blank_len : (s : Source) → length (blank s) ≡ source_len s
blank_len (File s) = length-replicate {A = ℕ} s.span.len 0
blank_len (Own bytes) = refl

blank_long : (ss : List Source) → Long blank ss
blank_long [] = tt
blank_long (s ∷ ss) = (blank_len s, blank_long ss)

blank_placed : (ps : List PlacedSource) → PlacedLong blank ps
blank_placed [] = tt
blank_placed (p ∷ ps) = (blank_len p.source, blank_placed ps)

pub blank_measure : (i : Image) → image_measure i ≡ measured (image_len i) (image_code i) (image_places i)
blank_measure i = measure_is blank i (blank_long i.bodies) (blank_placed i.blocks)
