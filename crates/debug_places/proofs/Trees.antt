-- Windows that are written move no body.
use Rattle.std.proofs.Common.{◌≡◌, ℕ, zero, suc, ◌+◌, ◌<◌, List, [], ◌∷◌, ◌++◌, length, map, Option, Some, None, refl, ap, ◌∙◌, arith, length-append}
use Rattle.std.specs.Prelude.{◌==◌, if◌then◌else◌, flat_map, slice_index_or}
use Rattle.link_program.specs.wasm_module.wasm_instr.leb_codec.Shortest.{u32}
use Rattle.link_program.specs.wl_base.declared.span.Span.{Span}
use Rattle.link_program.specs.reloc_apply.declared.window.Patch.{Patch}
use Rattle.link_program.specs.reloc_apply.Windows.{filled}
use Rattle.link_program.proofs.reloc_apply_lemmas.Over.{long_all}
use Rattle.link_program.specs.image_emit.Bytes.{Tree, Block, sized, vector}
use Rattle.link_program.specs.image_emit.Filled.{each_filled, tree_filled, AllLieIn}
use Rattle.link_program.specs.image_emit.Pieces.{Piece, body_piece, data_pieces, places, sections, code_head, front, code_place, source_places, sources}

count_filled : (pss : List (List Patch)) (bodies : List (List ℕ)) → length (each_filled pss bodies) ≡ length bodies
count_filled [] [] = refl
count_filled (ws ∷ pss) [] = refl
count_filled [] (b ∷ bs) = refl
count_filled (ws ∷ pss) (b ∷ bs) = ap suc (count_filled pss bs)

flat_filled : (pss : List (List Patch)) (bodies rest : List (List ℕ)) → AllLieIn pss (bodies ++ rest) → length (flat_map sized (each_filled pss bodies)) ≡ length (flat_map sized bodies)
flat_filled [] [] rest lie = refl
flat_filled (ws ∷ pss) [] rest lie = refl
flat_filled [] (b ∷ bs) rest lie = refl
flat_filled (ws ∷ pss) (b ∷ bs) rest lie =
    let long = long_all ws b lie.0 in
    let size = ap (λ n. length (u32 n)) long in
    omega (
      arith,
      long,
      size,
      flat_filled pss bs rest lie.1,
      length-append (sized (filled ws b)) (flat_map sized (each_filled pss bs)),
      length-append (u32 (length (filled ws b))) (filled ws b),
      length-append (sized b) (flat_map sized bs),
      length-append (u32 (length b)) b,
    )

-- the code section's payload is as long
size_filled : (pss : List (List Patch)) (bodies rest : List (List ℕ)) → AllLieIn pss (bodies ++ rest) → length (vector sized (each_filled pss bodies)) ≡ length (vector sized bodies)
size_filled pss bodies rest lie =
    let few = ap (λ n. length (u32 n)) (count_filled pss bodies) in
    omega (arith, few, flat_filled pss bodies rest lie, length-append (u32 (length (each_filled pss bodies))) (flat_map sized (each_filled pss bodies)), length-append (u32 (length bodies)) (flat_map sized bodies))

head_filled : (pss : List (List Patch)) (bodies rest : List (List ℕ)) → AllLieIn pss (bodies ++ rest) → code_head (each_filled pss bodies) ≡ code_head bodies
head_filled pss bodies rest lie =
    let none : List ℕ = [] in
    ap (λ n. if n == 0 then none else 10 ∷ u32 (length (vector sized (each_filled pss bodies))) ++ u32 n) (count_filled pss bodies)
    ∙ ap (λ n. if length bodies == 0 then none else 10 ∷ u32 n ++ u32 (length bodies)) (size_filled pss bodies rest lie)

-- bodies stand where they stood
places_filled : (at : ℕ) (pss : List (List Patch)) (bodies more : List (List ℕ)) (rest other : List Piece) → AllLieIn pss (bodies ++ more) → (k : ℕ) → k < length bodies
    → slice_index_or (places at (map body_piece (each_filled pss bodies) ++ rest)) k 0 ≡ slice_index_or (places at (map body_piece bodies ++ other)) k 0
places_filled at pss [] more rest other lie k lt = absurd (omega (arith, lt))
places_filled at [] (b ∷ bs) more rest other lie k lt = absurd lie
places_filled at (ws ∷ pss) (b ∷ bs) more rest other lie zero lt = ap (λ n. at + length (u32 n)) (long_all ws b lie.0)
places_filled at (ws ∷ pss) (b ∷ bs) more rest other lie (suc k) lt =
    ap (λ n. slice_index_or (places (at + length (u32 n) + n) (map body_piece (each_filled pss bs) ++ rest)) k 0) (long_all ws b lie.0)
    ∙ places_filled (at + length (u32 (length b)) + length b) pss bs more rest other lie.1 k (omega (arith, lt))

module _ (pss : List (List Patch)) (t : Tree) (lie : AllLieIn pss (sources t)) where
  abbrev blocks : List (List ℕ)
  blocks = map (λ (b : Block). b.bytes) t.blocks

  pub code_filled : code_place (tree_filled pss t) ≡ code_place t
  unfolding code_place
  code_filled =
      let none : Option Span = None in
      let span : ℕ → Option Span = λ n. Some (record { start = length (sections t) + 1 + length (u32 n); len = n }) in
      ap (λ n. if n == 0 then none else span (length (vector sized (each_filled pss t.bodies)))) (count_filled pss t.bodies)
      ∙ ap (λ n. if length t.bodies == 0 then none else span n) (size_filled pss t.bodies blocks lie)

  pub place_filled : (k : ℕ) → k < length t.bodies → slice_index_or (source_places (tree_filled pss t)) k 0 ≡ slice_index_or (source_places t) k 0
  place_filled k lt =
      let f = tree_filled pss t in
      ap (λ h. slice_index_or (places (length (sections t ++ h)) (map body_piece f.bodies ++ data_pieces f.data_offset f.blocks)) k 0) (head_filled pss t.bodies blocks lie)
      ∙ places_filled (length (front t)) pss t.bodies blocks (data_pieces f.data_offset f.blocks) (data_pieces t.data_offset t.blocks) lie k lt
