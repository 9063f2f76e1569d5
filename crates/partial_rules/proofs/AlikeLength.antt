-- The outputs of two programs that are one but for places are of one length, before windows are written too.
use Rattle.std.proofs.Common.{◌≡◌, ℕ, suc, ◌+◌, ◌-◌, ◌==◌, Bool, true, false, List, [], ◌∷◌, ◌++◌, map, length, refl, sym, ap, subst, ◌∙◌}
use Rattle.std.specs.Prelude.{flat_map, replicate, All, if◌then◌else◌}
use Rattle.std.specs.List.{AllZip}
use Rattle.std.proofs.lemmas.List.{length-append, length-map}
use Rattle.std.proofs.lemmas.List.Concat.{flat_map-cons}
use Rattle.std.proofs.lemmas.List.Elements.{All-head, All-tail}
use Rattle.object_file.specs.leb_codec.Shortest.{u32}
use Rattle.object_file.specs.wasm_types.declared.const_expr.ConstExpr.{ConstExpr}
use Rattle.made_symbols.specs.declared.mode.Mode.TheVariants.{Plain}
use Rattle.name_rules.specs.Entries.{InputSymbol}
use Rattle.mark_bits.specs.declared.chunk.Chunk.{Chunk}
use Rattle.ctor_call.specs.Body.{ctor_body}
use Rattle.image_emit.specs.Bytes.{Block, section, sized, vector, const_expr, laid, data_section, source_bytes, block_of, tree_of, bytes_of}
use Rattle.link_rules.specs.Program.{Program, Part}
use Rattle.link_rules.specs.Keys.{FunctionKey, outside, linker_function, stub, own}
use Rattle.link_rules.specs.Values.{Layout, solid_segments, segment_address}
use Rattle.link_rules.specs.Output.{image, defined, body_of, source_of, placed_source}
use Rattle.link_rules.specs.LinkOf.{output_fault, length_fault}
use Rattle.partial_rules.specs.Moving.{Moving, IsMoving, moved_function, AlikePart, AlikeStage}
use Rattle.partial_rules.proofs.AlikeOutput.{unwritten_is, heads_same, unwritten_len}
use Rattle.partial_rules.proofs.AlikeTypes.{IsTyped}
use Rattle.partial_rules.proofs.AlikeWindows.{AlikeLayout, segment_alike}
use Rattle.partial_rules.proofs.AlikeSections.{defined_alike, IsGlobalKnown}
use Rattle.partial_rules.proofs.AlikeSources.{IsBody, found_alike, calls_alike, solid_alike}

-- ---- lengths of what stands behind its size

sized_len : (x y : List ℕ) → length x ≡ length y → length (sized x) ≡ length (sized y)
sized_len x y same =
    length-append (u32 (length x)) x ∙ (ap (λ n. length (u32 n) + n) same ∙ sym (length-append (u32 (length y)) y))

append_len : (a b x y : List ℕ) → length a ≡ length b → length x ≡ length y → length (a ++ x) ≡ length (b ++ y)
append_len a b x y first second = length-append a x ∙ ((λ i. first i + second i) ∙ sym (length-append b y))

flat_len : (bs cs : List (List ℕ)) → map length bs ≡ map length cs → length (flat_map sized bs) ≡ length (flat_map sized cs)
flat_len [] [] same = refl
flat_len [] (c ∷ cs) same = absurd cc
flat_len (b ∷ bs) [] same = absurd cc
flat_len (b ∷ bs) (c ∷ cs) same =
    ap length (flat_map-cons sized b bs)
    ∙ (append_len (sized b) (sized c) (flat_map sized bs) (flat_map sized cs) (sized_len b c (head_of (length b) (length c) (map length bs) (map length cs) same)) (flat_len bs cs (tail_of (length b) (length c) (map length bs) (map length cs) same))
    ∙ sym (ap length (flat_map-cons sized c cs)))
  where
    head_of : (a b : ℕ) (as' bs : List ℕ) → a ∷ as' ≡ b ∷ bs → a ≡ b
    head_of a b as' bs e = cc

    tail_of : (a b : ℕ) (as' bs : List ℕ) → a ∷ as' ≡ b ∷ bs → as' ≡ bs
    tail_of a b as' bs e = cc

count_len : (bs cs : List (List ℕ)) → map length bs ≡ map length cs → length bs ≡ length cs
count_len bs cs same = sym (length-map bs length) ∙ (ap length same ∙ length-map cs length)

vector_len : (bs cs : List (List ℕ)) → map length bs ≡ map length cs → length (vector sized bs) ≡ length (vector sized cs)
vector_len bs cs same = append_len (u32 (length bs)) (u32 (length cs)) (flat_map sized bs) (flat_map sized cs) (ap (λ n. length (u32 n)) (count_len bs cs same)) (flat_len bs cs same)

section_len : (bs cs : List (List ℕ)) → map length bs ≡ map length cs → length (section 10 sized bs) ≡ length (section 10 sized cs)
section_len bs cs same =
    ap (λ n. length (if n == 0 then [] else 10 ∷ sized (vector sized bs))) (count_len bs cs same) ∙ by_test (length cs == 0)
  where
    by_test : (r : Bool) → length (if r then [] else 10 ∷ sized (vector sized bs)) ≡ length (if r then [] else 10 ∷ sized (vector sized cs))
    by_test true = refl
    by_test false = ap suc (sized_len (vector sized bs) (vector sized cs) (vector_len bs cs same))

-- ---- blocks

abbrev SameBlock : Block → Block → Type 0
SameBlock b c = (c.address ≡ b.address) × (length c.bytes ≡ length b.bytes)

laid_len : (at : ℕ) (bs cs : List Block) → AllZip SameBlock bs cs → length (laid at cs) ≡ length (laid at bs)
laid_len at [] [] z = refl
laid_len at [] (c ∷ cs) z = absurd z
laid_len at (b ∷ bs) [] z = absurd z
laid_len at (b ∷ bs) (c ∷ cs) z =
    let gap : replicate (c.address - at) 0 ≡ replicate (b.address - at) 0 = ap (λ n. replicate (n - at) 0) z.0.0 in
    let next : c.address + length c.bytes ≡ b.address + length b.bytes = λ i. z.0.0 i + z.0.1 i in
    let rest : length (laid (c.address + length c.bytes) cs) ≡ length (laid (b.address + length b.bytes) bs) =
    ap (λ n. length (laid n cs)) next ∙ laid_len (b.address + length b.bytes) bs cs z.1 in
    append_len (replicate (c.address - at) 0 ++ c.bytes) (replicate (b.address - at) 0 ++ b.bytes) (laid (c.address + length c.bytes) cs) (laid (b.address + length b.bytes) bs)
    (append_len (replicate (c.address - at) 0) (replicate (b.address - at) 0) c.bytes b.bytes (ap length gap) z.0.1) rest

data_len : (offset : ConstExpr) (bs cs : List Block) → AllZip SameBlock bs cs → length (data_section offset cs) ≡ length (data_section offset bs)
data_len offset [] [] z = refl
data_len offset [] (c ∷ cs) z = absurd z
data_len offset (b ∷ bs) [] z = absurd z
data_len offset (b ∷ bs) (c ∷ cs) z =
    let bytes : length (laid c.address (c ∷ cs)) ≡ length (laid b.address (b ∷ bs)) = ap (λ n. length (laid n (c ∷ cs))) z.0.0 ∙ laid_len b.address (b ∷ bs) (c ∷ cs) z in
    ap suc (sized_len (1 ∷ 0 ∷ const_expr offset ++ sized (laid c.address (c ∷ cs))) (1 ∷ 0 ∷ const_expr offset ++ sized (laid b.address (b ∷ bs)))
    (ap (λ n. suc (suc n)) (append_len (const_expr offset) (const_expr offset) (sized (laid c.address (c ∷ cs))) (sized (laid b.address (b ∷ bs))) refl (sized_len (laid c.address (c ∷ cs)) (laid b.address (b ∷ bs)) bytes))))

-- ---- the two outputs

module _ (m : Moving) (C : Chunk → Type 0) (K : InputSymbol → Type 0) (is : IsMoving m C K) (p q : Program) (xs ys : List Part) (ep eq : List InputSymbol) (l o : Layout) (s : AlikeStage m C K p q xs ys ep eq) (t : AlikeLayout m C K is l o) where
  abbrev raw_body : Program → List Part → List InputSymbol → Layout → FunctionKey → List ℕ
  raw_body r parts es z f = source_bytes r.files (body_of Plain r parts es z f)

  raw_len : (f : FunctionKey) → IsBody m C K is p q xs ys ep eq l o s t f → length (raw_body q ys eq o (moved_function m f)) ≡ length (raw_body p xs ep l f)
  raw_len (outside k) known = refl
  raw_len (linker_function n) known =
      subst (λ k. length (raw_body q ys eq o (linker_function k)) ≡ length (raw_body p xs ep l (linker_function k))) (sym known.0)
      (ap (λ cs. length (ctor_body cs)) (calls_alike m C K is p q xs ys ep eq l o s t known.1))
  raw_len (stub name) known = refl
  raw_len (own input index) held =
      found_alike m C K is p q xs ys ep eq l o s t input index held (λ found. length (source_bytes p.files (source_of Plain p xs ep l found))) (λ found. length (source_bytes q.files (source_of Plain q ys eq o found))) refl
      (λ x y a at. a.long)

  bodies_len : (fs : List FunctionKey) → All (IsBody m C K is p q xs ys ep eq l o s t) fs
      → map length (map (source_bytes q.files) (map (body_of Plain q ys eq o) (map (moved_function m) fs))) ≡ map length (map (source_bytes p.files) (map (body_of Plain p xs ep l) fs))
  bodies_len [] known = refl
  bodies_len (f ∷ fs) known =
      let one = raw_len f (All-head (IsBody m C K is p q xs ys ep eq l o s t) f fs known) in
      let rest = bodies_len fs (All-tail (IsBody m C K is p q xs ys ep eq l o s t) f fs known) in
      λ i. one i ∷ rest i

  blocks_zip : (us vs : List Part) → AllZip (AlikePart m C K p q) us vs
      → AllZip SameBlock (map (block_of p.files) (map (placed_source Plain p xs ep l) us)) (map (block_of q.files) (map (placed_source Plain q ys eq o) vs))
  blocks_zip [] [] z = tt
  blocks_zip [] (v ∷ vs) z = absurd z
  blocks_zip (u ∷ us) [] z = absurd z
  blocks_zip (u ∷ us) (v ∷ vs) z =
      ((ap (segment_address o) z.0.chunk ∙ segment_alike m C K is l o t u.chunk z.0.held, z.0.long), blocks_zip us vs z.1)

  pub lengths_same : All (IsTyped m C K is p q) (defined Plain p xs ep l) → All (IsGlobalKnown m C K is p q xs ys ep eq l o s t) l.numbers.globals → All (IsBody m C K is p q xs ys ep eq l o s t) (defined Plain p xs ep l)
      → output_fault q (image Plain q ys eq o) ≡ output_fault p (image Plain p xs ep l)
  unfolding output_fault
  lengths_same typed known bodies =
      let ds : List FunctionKey = defined Plain p xs ep l in
      let bs : List (List ℕ) = map (source_bytes p.files) (map (body_of Plain p xs ep l) ds) in
      let cs : List (List ℕ) = map (source_bytes q.files) (map (body_of Plain q ys eq o) (defined Plain q ys eq o)) in
      let us : List Block = map (block_of p.files) (map (placed_source Plain p xs ep l) (solid_segments p xs)) in
      let vs : List Block = map (block_of q.files) (map (placed_source Plain q ys eq o) (solid_segments q ys)) in
      let lens : map length cs ≡ map length bs =
      ap (λ fs. map length (map (source_bytes q.files) (map (body_of Plain q ys eq o) fs))) (defined_alike m C K is p q xs ys ep eq l o s t) ∙ bodies_len ds bodies in
      let blocks : AllZip SameBlock us vs = blocks_zip (solid_segments p xs) (solid_segments q ys) (solid_alike m C K is p q xs ys ep eq l o s t) in
      let long : length (bytes_of (tree_of q.files (image Plain q ys eq o))) ≡ length (bytes_of (tree_of p.files (image Plain p xs ep l))) =
      ap (λ tree. length (bytes_of tree)) (unwritten_is m C K is p q xs ys ep eq l o s t q ys eq o ∙ heads_same m C K is p q xs ys ep eq l o s t typed known cs vs)
      ∙ (unwritten_len m C K is p q xs ys ep eq l o s t bs cs us vs (section_len cs bs lens) (λ offset. data_len offset us vs blocks)
      ∙ sym (ap (λ tree. length (bytes_of tree)) (unwritten_is m C K is p q xs ys ep eq l o s t p xs ep l))) in
      ap length_fault long
