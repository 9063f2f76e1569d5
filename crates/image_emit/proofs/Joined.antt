-- The pieces are the bytes.
use Rattle.std.proofs.Common.{◌≡◌, ◌+◌, ◌-◌, ℕ, List, [], ◌∷◌, ◌++◌, length, map, replicate, refl, sym, ap, ◌∙◌, append_assoc, rules, arith}
use Rattle.std.specs.List.{flat_map}
use Rattle.wasm_module.specs.wasm_instr.wasm_types.declared.const_expr.ConstExpr.{ConstExpr}
use Rattle.wasm_module.specs.wasm_instr.leb_codec.Shortest.{u32}
use Rattle.image_emit.specs.Bytes.{Tree, Block, section, sized, laid, data_bytes, data_section, bytes_of, const_expr}
use Rattle.image_emit.specs.Pieces.{Piece, joined, body_piece, code_head, front, data_head, block_pieces, data_pieces, pieces, sections}

pub joined_both : (ps qs : List Piece) → joined (ps ++ qs) ≡ joined ps ++ joined qs
joined_both [] qs = refl
joined_both (p ∷ ps) qs = ap (λ zs. (p.head ++ p.bytes) ++ zs) (joined_both ps qs) ∙ sym (append_assoc (p.head ++ p.bytes) (joined ps) (joined qs))

pub joined_bodies : (bodies : List (List ℕ)) → joined (map body_piece bodies) ≡ flat_map sized bodies
joined_bodies [] = refl
joined_bodies (b ∷ bs) = ap (λ zs. sized b ++ zs) (joined_bodies bs)

code_is : (bodies : List (List ℕ)) → section 10 sized bodies ≡ code_head bodies ++ joined (map body_piece bodies)
unfolding u32
code_is [] = refl
code_is (b ∷ bs) = rw (joined_bodies (b ∷ bs)) (search rules)

pub laid_is : (at : ℕ) (bs : List Block) → joined (block_pieces at bs) ≡ laid at bs
laid_is at [] = refl
laid_is at (b ∷ bs) = ap (λ zs. replicate (b.address - at) 0 ++ b.bytes ++ zs) (laid_is (b.address + length b.bytes) bs)

regrouped : (a b c d : List ℕ) → a ++ (b ++ c) ++ d ≡ a ++ (b ++ (c ++ d))
regrouped a b c d = append_assoc a (b ++ c) d ∙ ap (λ zs. a ++ zs) (append_assoc b c d)

data_head_is : (offset : ConstExpr) (bytes : List ℕ) → data_head offset bytes ++ bytes ≡ 11 ∷ sized (1 ∷ 0 ∷ const_expr offset ++ sized bytes)
data_head_is offset bytes =
    let lead : List ℕ = 1 ∷ 0 ∷ const_expr offset in
    ap (λ zs. 11 ∷ zs) (regrouped (u32 (length (lead ++ sized bytes))) lead (u32 (length bytes)) bytes)

no_gap : (at : ℕ) (bytes : List ℕ) → replicate (at - at) 0 ++ bytes ≡ bytes
no_gap at bytes = let none : at - at ≡ 0 = omega arith in rw none refl

pub data_is : (offset : ConstExpr) (bs : List Block) → joined (data_pieces offset bs) ≡ data_section offset bs
data_is offset [] = refl
data_is offset (b ∷ bs) =
    let end = b.address + length b.bytes in
    let all = data_bytes (b ∷ bs) in
    let whole : b.bytes ++ joined (block_pieces end bs) ≡ all = ap (λ zs. b.bytes ++ zs) (laid_is end bs) ∙ sym (ap (λ front. front ++ laid end bs) (no_gap b.address b.bytes)) in
    append_assoc (data_head offset all) b.bytes (joined (block_pieces end bs)) ∙ (ap (λ zs. data_head offset all ++ zs) whole ∙ data_head_is offset all)

module _ (t : Tree) where
  -- what stands before the first source and the pieces are the bytes of the module
  pub pieces_are_bytes : front t ++ joined (pieces t) ≡ bytes_of t
  unfolding bytes_of
  pieces_are_bytes =
      ap (λ zs. front t ++ zs) (joined_both (map body_piece t.bodies) (data_pieces t.data_offset t.blocks))
      ∙ (sym (append_assoc (front t) (joined (map body_piece t.bodies)) (joined (data_pieces t.data_offset t.blocks)))
      ∙ rw (data_is t.data_offset t.blocks, code_is t.bodies) (ap (λ zs. zs ++ data_section t.data_offset t.blocks) (append_assoc (sections t) (code_head t.bodies) (joined (map body_piece t.bodies)))))
