-- Windows that are written before or after the sources are joined.
use Rattle.std.proofs.Common.{◌≡◌, ℕ, suc, ◌+◌, ◌-◌, ◌==◌, List, [], ◌∷◌, ◌++◌, length, map, drop, replicate, refl, sym, ap, ◌∙◌, subst, arith, append_assoc, length-append}
use Rattle.std.specs.List.{flat_map, All}
use Rattle.std.specs.Prelude.{if◌then◌else◌}
use Rattle.wasm_module.specs.wasm_instr.leb_codec.Shortest.{u32}
use Rattle.wasm_module.specs.wasm_instr.wasm_types.declared.const_expr.ConstExpr.{ConstExpr}
use Rattle.reloc_apply.specs.declared.window.Patch.{Patch}
use Rattle.reloc_apply.specs.Windows.{filled}
use Rattle.reloc_apply.specs.Apart.{LiesIn, moved}
use Rattle.reloc_apply.proofs.Over.{within_all, long_all, filled_append}
use Rattle.image_emit.specs.Bytes.{Block, sized, vector, laid, data_bytes, const_expr}
use Rattle.image_emit.specs.Pieces.{Piece, joined, body_piece, block_pieces, data_head, data_pieces, pieces, sections, code_head, front, places, source_places}
use Rattle.image_emit.specs.Filled.{each_filled, blocks_filled, tree_filled, all_moved, AllLieIn, FillLaw}
use Rattle.image_emit.proofs.Joined.{pieces_are_bytes}
use Rattle.image_emit.proofs.Stands.{bytes_in, sources_in}

-- each piece with the windows of its source written
abbrev fill_pieces : List (List Patch) → List Piece → List Piece
fill_pieces pss [] = []
fill_pieces [] (p ∷ ps) = p ∷ ps
fill_pieces (ws ∷ pss) (p ∷ ps) = record { head = p.head; bytes = filled ws p.bytes } ∷ fill_pieces pss ps

-- Writing into the whole

-- one piece behind others
module _ (before : List ℕ) (p : Piece) (ws : List Patch) (lie : All (LiesIn (length p.bytes)) ws) (rest : List ℕ) where
  first_filled : filled (map (moved (length before + length p.head)) ws) (before ++ ((p.head ++ p.bytes) ++ rest)) ≡ (before ++ (p.head ++ filled ws p.bytes)) ++ rest
  first_filled =
      let lead : List ℕ = before ++ p.head in
      let at : length before + length p.head ≡ length lead = sym (length-append before p.head) in
      let apart : before ++ ((p.head ++ p.bytes) ++ rest) ≡ (lead ++ p.bytes) ++ rest = sym (append_assoc before (p.head ++ p.bytes) rest) ∙ ap (λ zs. zs ++ rest) (sym (append_assoc before p.head p.bytes)) in
      ap (λ n. filled (map (moved n) ws) (before ++ ((p.head ++ p.bytes) ++ rest))) at
      ∙ ap (filled (map (moved (length lead)) ws)) apart
      ∙ within_all lead p.bytes rest ws lie
      ∙ ap (λ zs. zs ++ rest) (append_assoc before p.head (filled ws p.bytes))

  first_long : length (before ++ (p.head ++ filled ws p.bytes)) ≡ length before + length p.head + length p.bytes
  first_long = omega (arith, length-append before (p.head ++ filled ws p.bytes), length-append p.head (filled ws p.bytes), long_all ws p.bytes lie)

whole_filled : (before : List ℕ) (ps : List Piece) (pss : List (List Patch)) → AllLieIn pss (map bytes_in ps)
    → filled (all_moved (places (length before) ps) pss) (before ++ joined ps) ≡ before ++ joined (fill_pieces pss ps)
whole_filled before [] [] lie = refl
whole_filled before [] (ws ∷ pss) lie = refl
whole_filled before (p ∷ ps) [] lie = absurd lie
whole_filled before (p ∷ ps) (ws ∷ pss) lie =
    let now : List ℕ = before ++ (p.head ++ filled ws p.bytes) in
    let next : ℕ = length before + length p.head + length p.bytes in
    filled_append (map (moved (length before + length p.head)) ws) (all_moved (places next ps) pss) (before ++ ((p.head ++ p.bytes) ++ joined ps))
    ∙ ap (filled (all_moved (places next ps) pss)) (first_filled before p ws lie.0 (joined ps))
    ∙ ap (λ n. filled (all_moved (places n ps) pss) (now ++ joined ps)) (sym (first_long before p ws lie.0 (joined ps)))
    ∙ whole_filled now ps pss lie.1
    ∙ append_assoc before (p.head ++ filled ws p.bytes) (joined (fill_pieces pss ps))

-- Writing into each source

count_filled : (pss : List (List Patch)) (bodies : List (List ℕ)) → length (each_filled pss bodies) ≡ length bodies
count_filled [] [] = refl
count_filled (ws ∷ pss) [] = refl
count_filled [] (b ∷ bs) = refl
count_filled (ws ∷ pss) (b ∷ bs) = ap suc (count_filled pss bs)

flat_filled : (pss : List (List Patch)) (bodies rest : List (List ℕ)) → AllLieIn pss (bodies ++ rest) → length (flat_map sized (each_filled pss bodies)) ≡ length (flat_map sized bodies)
flat_filled [] [] rest lie = refl
flat_filled (ws ∷ pss) [] rest lie = refl
flat_filled [] (b ∷ bs) rest lie = refl
flat_filled (ws ∷ pss) (b ∷ bs) rest lie =
    let long = long_all ws b lie.0 in
    let size = ap (λ n. length (u32 n)) long in
    omega (
      arith,
      long,
      size,
      flat_filled pss bs rest lie.1,
      length-append (sized (filled ws b)) (flat_map sized (each_filled pss bs)),
      length-append (u32 (length (filled ws b))) (filled ws b),
      length-append (sized b) (flat_map sized bs),
      length-append (u32 (length b)) b,
    )

head_filled : (pss : List (List Patch)) (bodies rest : List (List ℕ)) → AllLieIn pss (bodies ++ rest) → code_head (each_filled pss bodies) ≡ code_head bodies
head_filled pss bodies rest lie =
    let count = count_filled pss bodies in
    let few = ap (λ n. length (u32 n)) count in
    let size : length (vector sized (each_filled pss bodies)) ≡ length (vector sized bodies) =
    omega (arith, few, flat_filled pss bodies rest lie, length-append (u32 (length (each_filled pss bodies))) (flat_map sized (each_filled pss bodies)), length-append (u32 (length bodies)) (flat_map sized bodies)) in
    let none : List ℕ = [] in
    ap (λ n. if n == 0 then none else 10 ∷ u32 (length (vector sized (each_filled pss bodies))) ++ u32 n) count
    ∙ ap (λ n. if length bodies == 0 then none else 10 ∷ u32 n ++ u32 (length bodies)) size

abbrev bytes_of_block : Block → List ℕ
bytes_of_block b = b.bytes

laid_filled : (at : ℕ) (pss : List (List Patch)) (bs : List Block) → AllLieIn pss (map bytes_of_block bs) → length (laid at (blocks_filled pss bs)) ≡ length (laid at bs)
laid_filled at [] [] lie = refl
laid_filled at (ws ∷ pss) [] lie = refl
laid_filled at [] (b ∷ bs) lie = refl
laid_filled at (ws ∷ pss) (b ∷ bs) lie =
    let long = long_all ws b.bytes lie.0 in
    let gap : List ℕ = replicate (b.address - at) 0 in
    let end = ap (λ n. length (laid (b.address + n) (blocks_filled pss bs))) long in
    omega (
      arith,
      long,
      end,
      laid_filled (b.address + length b.bytes) pss bs lie.1,
      length-append (gap ++ filled ws b.bytes) (laid (b.address + length (filled ws b.bytes)) (blocks_filled pss bs)),
      length-append gap (filled ws b.bytes),
      length-append (gap ++ b.bytes) (laid (b.address + length b.bytes) bs),
      length-append gap b.bytes,
    )

blocks_in_pieces : (at : ℕ) (pss : List (List Patch)) (bs : List Block) → AllLieIn pss (map bytes_of_block bs) → block_pieces at (blocks_filled pss bs) ≡ fill_pieces pss (block_pieces at bs)
blocks_in_pieces at [] [] lie = refl
blocks_in_pieces at (ws ∷ pss) [] lie = refl
blocks_in_pieces at [] (b ∷ bs) lie = refl
blocks_in_pieces at (ws ∷ pss) (b ∷ bs) lie =
    let first : Piece = record { head = replicate (b.address - at) 0; bytes = filled ws b.bytes } in
    ap (λ n. first ∷ block_pieces (b.address + n) (blocks_filled pss bs)) (long_all ws b.bytes lie.0)
    ∙ ap (λ qs. first ∷ qs) (blocks_in_pieces (b.address + length b.bytes) pss bs lie.1)

same_head : (offset : ConstExpr) (xs ys : List ℕ) → length xs ≡ length ys → data_head offset xs ≡ data_head offset ys
same_head offset xs ys long =
    let lead : List ℕ = 1 ∷ 0 ∷ const_expr offset in
    let count = ap (λ n. length (u32 n)) long in
    let size : length (lead ++ sized xs) ≡ length (lead ++ sized ys) =
    omega (arith, long, count, length-append lead (sized xs), length-append lead (sized ys), length-append (u32 (length xs)) xs, length-append (u32 (length ys)) ys) in
    ap (λ n. 11 ∷ u32 n ++ (lead ++ u32 (length xs))) size ∙ ap (λ n. 11 ∷ u32 (length (lead ++ sized ys)) ++ (lead ++ u32 n)) long

data_in_pieces : (offset : ConstExpr) (pss : List (List Patch)) (bs : List Block) → AllLieIn pss (map bytes_of_block bs) → data_pieces offset (blocks_filled pss bs) ≡ fill_pieces pss (data_pieces offset bs)
data_in_pieces offset [] [] lie = refl
data_in_pieces offset (ws ∷ pss) [] lie = refl
data_in_pieces offset [] (b ∷ bs) lie = refl
data_in_pieces offset (ws ∷ pss) (b ∷ bs) lie =
    let same = same_head offset (data_bytes (blocks_filled (ws ∷ pss) (b ∷ bs))) (data_bytes (b ∷ bs)) (laid_filled b.address (ws ∷ pss) (b ∷ bs) lie) in
    let first : List ℕ → Piece = λ head. record { head = head; bytes = filled ws b.bytes } in
    ap (λ head. first head ∷ block_pieces (b.address + length (filled ws b.bytes)) (blocks_filled pss bs)) same
    ∙ ap (λ n. first (data_head offset (data_bytes (b ∷ bs))) ∷ block_pieces (b.address + n) (blocks_filled pss bs)) (long_all ws b.bytes lie.0)
    ∙ ap (λ qs. first (data_head offset (data_bytes (b ∷ bs))) ∷ qs) (blocks_in_pieces (b.address + length b.bytes) pss bs lie.1)

all_in_pieces : (offset : ConstExpr) (pss : List (List Patch)) (bodies : List (List ℕ)) (bs : List Block) → AllLieIn pss (bodies ++ map bytes_of_block bs)
    → map body_piece (each_filled pss bodies) ++ data_pieces offset (blocks_filled (drop (length bodies) pss) bs) ≡ fill_pieces pss (map body_piece bodies ++ data_pieces offset bs)
all_in_pieces offset pss [] bs lie = data_in_pieces offset pss bs lie
all_in_pieces offset [] (b ∷ bodies) bs lie = absurd lie
all_in_pieces offset (ws ∷ pss) (b ∷ bodies) bs lie =
    ap (λ n. record { head = u32 n; bytes = filled ws b } ∷ (map body_piece (each_filled pss bodies) ++ data_pieces offset (blocks_filled (drop (length bodies) pss) bs))) (long_all ws b lie.0)
    ∙ ap (λ qs. record { head = u32 (length b); bytes = filled ws b } ∷ qs) (all_in_pieces offset pss bodies bs lie.1)

pub fill_law : FillLaw
fill_law pss t lie =
    let inside : AllLieIn pss (map bytes_in (pieces t)) = subst (AllLieIn pss) (sym (sources_in t)) lie in
    ap (filled (all_moved (source_places t) pss)) (sym (pieces_are_bytes t))
    ∙ whole_filled (front t) (pieces t) pss inside
    ∙ ap (λ zs. (sections t ++ zs) ++ joined (fill_pieces pss (pieces t))) (sym (head_filled pss t.bodies (map bytes_of_block t.blocks) lie))
    ∙ ap (λ ps. front (tree_filled pss t) ++ joined ps) (sym (all_in_pieces t.data_offset pss t.bodies t.blocks lie))
    ∙ pieces_are_bytes (tree_filled pss t)
