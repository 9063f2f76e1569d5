-- One piece among the others.
use Rattle.std.proofs.Common.{◌≡◌, ℕ, zero, suc, ◌+◌, ◌-◌, ◌<◌, ◌≤◌, List, [], ◌∷◌, ◌++◌, length, map, slice_index_or, refl, sym, ap, ◌∙◌, arith, rules, false, ◌==◌}
use Rattle.std.proofs.lemmas.List.{length-map}
use Rattle.std.specs.Prelude.{if◌then◌else◌}
use Rattle.wasm_module.specs.wasm_instr.wasm_types.declared.const_expr.ConstExpr.{ConstExpr}
use Rattle.image_emit.specs.declared.tree.Image.{Image}
use Rattle.image_emit.specs.declared.tree.Source.{Source}
use Rattle.image_emit.specs.declared.tree.PlacedSource.{PlacedSource}
use Rattle.image_emit.specs.Bytes.{Block, tree_of, source_bytes, block_of, sized, data_bytes}
use Rattle.image_emit.specs.Pieces.{Piece, body_piece, block_pieces, data_head, data_pieces, pieces}
use Rattle.image_emit.specs.Parts.{no_piece, whole_piece, piece_at, no_block, gapped, block_piece}

some : {A : Type 0} (n : ℕ) (x y : A) → (if suc n == 0 then x else y) ≡ y
some n x y = let none : (suc n == 0) ≡ false = search rules in rw none refl

module _ {A : Type 0} where
  index_front : (xs ys : List A) (j : ℕ) (d : A) → j < length xs → slice_index_or (xs ++ ys) j d ≡ slice_index_or xs j d
  index_front [] ys j d below = absurd (omega arith)
  index_front (x ∷ xs) ys zero d below = refl
  index_front (x ∷ xs) ys (suc j) d below = index_front xs ys j d (omega arith)

  index_back : (xs ys : List A) (j : ℕ) (d : A) → slice_index_or (xs ++ ys) (length xs + j) d ≡ slice_index_or ys j d
  index_back [] ys j d = let e : 0 + j ≡ j = omega arith in ap (λ n. slice_index_or ys n d) e
  index_back (x ∷ xs) ys j d = let e : suc (length xs) + j ≡ suc (length xs + j) = omega arith in ap (λ n. slice_index_or (x ∷ xs ++ ys) n d) e ∙ index_back xs ys j d

  index_map : {B : Type 0} (f : A → B) (xs : List A) (j : ℕ) (d : A) (e : B) → j < length xs → slice_index_or (map f xs) j e ≡ f (slice_index_or xs j d)
  index_map f [] j d e below = absurd (omega arith)
  index_map f (x ∷ xs) zero d e below = refl
  index_map f (x ∷ xs) (suc j) d e below = index_map f xs j d e (omega arith)

-- the piece of a block behind another
later : (b : Block) (bs : List Block) (k : ℕ) → k < length bs
    → whole_piece (slice_index_or (block_pieces (b.address + length b.bytes) bs) k no_piece) ≡ gapped (slice_index_or (b ∷ bs) k no_block) (slice_index_or bs k no_block)
later b [] k below = absurd (omega arith)
later b (c ∷ bs) zero below = refl
later b (c ∷ bs) (suc k) below = later c bs k (omega arith)

later_block : (offset : ConstExpr) (bs : List Block) (k : ℕ) → block_piece offset bs (suc k) ≡ gapped (slice_index_or bs k no_block) (slice_index_or bs (suc k) no_block)
later_block offset bs k =
    let less : suc k - 1 ≡ k = omega arith in
    some k (data_head offset (data_bytes bs) ++ (slice_index_or bs 0 no_block).bytes) (gapped (slice_index_or bs (suc k - 1) no_block) (slice_index_or bs (suc k) no_block))
    ∙ ap (λ n. gapped (slice_index_or bs n no_block) (slice_index_or bs (suc k) no_block)) less

block_found : (offset : ConstExpr) (bs : List Block) (k : ℕ) → k < length bs → whole_piece (slice_index_or (data_pieces offset bs) k no_piece) ≡ block_piece offset bs k
block_found offset [] k below = absurd (omega arith)
block_found offset (b ∷ bs) zero below = refl
block_found offset (b ∷ bs) (suc k) below = later b bs k (omega arith) ∙ sym (later_block offset (b ∷ bs) k)

later_bytes : (at : ℕ) (bs : List Block) (k : ℕ) → k < length bs → (slice_index_or (block_pieces at bs) k no_piece).bytes ≡ (slice_index_or bs k no_block).bytes
later_bytes at [] k below = absurd (omega arith)
later_bytes at (b ∷ bs) zero below = refl
later_bytes at (b ∷ bs) (suc k) below = later_bytes (b.address + length b.bytes) bs k (omega arith)

data_bytes_at : (offset : ConstExpr) (bs : List Block) (k : ℕ) → k < length bs → (slice_index_or (data_pieces offset bs) k no_piece).bytes ≡ (slice_index_or bs k no_block).bytes
data_bytes_at offset [] k below = absurd (omega arith)
data_bytes_at offset (b ∷ bs) zero below = refl
data_bytes_at offset (b ∷ bs) (suc k) below = later_bytes (b.address + length b.bytes) bs k (omega arith)

-- the same of a list of sources, whatever stands for a source that isn't there
pub first_block : (files : List (List ℕ)) (offset : ConstExpr) (ps : List PlacedSource) (p : PlacedSource) → 0 < length ps → p ≡ slice_index_or ps 0 p
    → block_piece offset (map (block_of files) ps) 0 ≡ data_head offset (data_bytes (map (block_of files) ps)) ++ source_bytes files p.source
first_block files offset ps p some is =
    ap (λ (b : Block). data_head offset (data_bytes (map (block_of files) ps)) ++ b.bytes) (index_map (block_of files) ps 0 p no_block some ∙ ap (block_of files) (sym is))

pub next_block : (files : List (List ℕ)) (offset : ConstExpr) (ps : List PlacedSource) (k : ℕ) (p q : PlacedSource) → 0 < k → k < length ps
    → p ≡ slice_index_or ps (k - 1) p → q ≡ slice_index_or ps k q
    → block_piece offset (map (block_of files) ps) k ≡ gapped (block_of files p) (block_of files q)
next_block files offset ps zero p q some below before here = absurd (omega arith)
next_block files offset ps (suc k) p q some below before here =
    let less : suc k - 1 ≡ k = omega arith in
    let is : p ≡ slice_index_or ps k p = before ∙ ap (λ n. slice_index_or ps n p) less in
    later_block offset (map (block_of files) ps) k
    ∙ ap (λ b. gapped b (slice_index_or (map (block_of files) ps) (suc k) no_block)) (index_map (block_of files) ps k p no_block (omega (arith, below)) ∙ ap (block_of files) (sym is))
    ∙ ap (gapped (block_of files p)) (index_map (block_of files) ps (suc k) q no_block below ∙ ap (block_of files) (sym here))

module _ (files : List (List ℕ)) (i : Image) where
  body_found : (j : ℕ) (s : Source) → j < length i.bodies → s ≡ slice_index_or i.bodies j s → slice_index_or (pieces (tree_of files i)) j no_piece ≡ body_piece (source_bytes files s)
  body_found j s below is =
      let t = tree_of files i in
      let none : List ℕ = [] in
      let few : j < length t.bodies = omega (arith, below, length-map i.bodies (source_bytes files)) in
      let few' : j < length (map body_piece t.bodies) = omega (arith, few, length-map t.bodies body_piece) in
      index_front (map body_piece t.bodies) (data_pieces t.data_offset t.blocks) j no_piece few'
      ∙ index_map body_piece t.bodies j none no_piece few
      ∙ ap body_piece (index_map (source_bytes files) i.bodies j s none below ∙ ap (source_bytes files) (sym is))

  pub body_at : (j : ℕ) (s : Source) → j < length i.bodies → s ≡ slice_index_or i.bodies j s → piece_at (tree_of files i) j ≡ sized (source_bytes files s)
  body_at j s below is = ap whole_piece (body_found j s below is)

  pub body_bytes : (j : ℕ) (s : Source) → j < length i.bodies → s ≡ slice_index_or i.bodies j s → (slice_index_or (pieces (tree_of files i)) j no_piece).bytes ≡ source_bytes files s
  body_bytes j s below is = ap (λ (p : Piece). p.bytes) (body_found j s below is)

  behind : (j : ℕ) → length i.bodies ≤ j → slice_index_or (pieces (tree_of files i)) j no_piece ≡ slice_index_or (data_pieces i.data_offset (map (block_of files) i.blocks)) (j - length i.bodies) no_piece
  behind j le =
      let t = tree_of files i in
      let long : length (map body_piece t.bodies) ≡ length i.bodies = length-map t.bodies body_piece ∙ length-map i.bodies (source_bytes files) in
      let sum : j ≡ length (map body_piece t.bodies) + (j - length i.bodies) = omega (arith, le, long) in
      ap (λ n. slice_index_or (pieces t) n no_piece) sum
      ∙ index_back (map body_piece t.bodies) (data_pieces t.data_offset t.blocks) (j - length i.bodies) no_piece

  pub block_at : (j : ℕ) → length i.bodies ≤ j → j - length i.bodies < length i.blocks
      → piece_at (tree_of files i) j ≡ block_piece i.data_offset (map (block_of files) i.blocks) (j - length i.bodies)
  block_at j le below =
      let few : j - length i.bodies < length (map (block_of files) i.blocks) = omega (arith, below, length-map i.blocks (block_of files)) in
      ap whole_piece (behind j le) ∙ block_found i.data_offset (map (block_of files) i.blocks) (j - length i.bodies) few

  pub block_bytes : (j : ℕ) (p : PlacedSource) → length i.bodies ≤ j → j - length i.bodies < length i.blocks → p ≡ slice_index_or i.blocks (j - length i.bodies) p
      → (slice_index_or (pieces (tree_of files i)) j no_piece).bytes ≡ source_bytes files p.source
  block_bytes j p le below is =
      let few : j - length i.bodies < length (map (block_of files) i.blocks) = omega (arith, below, length-map i.blocks (block_of files)) in
      ap (λ (x : Piece). x.bytes) (behind j le) ∙ data_bytes_at i.data_offset (map (block_of files) i.blocks) (j - length i.bodies) few
      ∙ ap (λ (b : Block). b.bytes) (index_map (block_of files) i.blocks (j - length i.bodies) p no_block below ∙ ap (block_of files) (sym is))
