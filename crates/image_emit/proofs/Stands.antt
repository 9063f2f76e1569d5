-- Each source stands at its place.
use Rattle.std.proofs.Common.{◌≡◌, ℕ, zero, suc, ◌+◌, ◌<◌, ◌==◌, List, [], ◌∷◌, ◌++◌, length, map, take, drop, slice_index_or, false, refl, sym, ap, ◌∙◌, subst, arith, rules, append_assoc, length-append, Option, Some, None}
use Rattle.std.specs.Prelude.{if◌then◌else◌}
use Rattle.wasm_module.specs.wasm_instr.leb_codec.Shortest.{u32}
use Rattle.wasm_module.specs.wasm_instr.wl_base.declared.span.Span.{Span}
use Rattle.image_emit.specs.Bytes.{Tree, Block, bytes_of, vector, sized, section, data_section}
use Rattle.image_emit.specs.Pieces.{Piece, joined, body_piece, block_pieces, data_pieces, pieces, front, sections, code_place, places, source_places, sources}
use Rattle.image_emit.proofs.Joined.{pieces_are_bytes}

abbrev pub bytes_in : Piece → List ℕ
bytes_in p = p.bytes

blocks_in : (at : ℕ) (bs : List Block) → map bytes_in (block_pieces at bs) ≡ map (λ b. b.bytes) bs
blocks_in at [] = refl
blocks_in at (b ∷ bs) = ap (λ xs. b.bytes ∷ xs) (blocks_in (b.address + length b.bytes) bs)

bodies_in : (bodies : List (List ℕ)) → map bytes_in (map body_piece bodies) ≡ bodies
bodies_in [] = refl
bodies_in (b ∷ bs) = ap (λ xs. b ∷ xs) (bodies_in bs)

pub sources_in : (t : Tree) → map bytes_in (pieces t) ≡ sources t
sources_in t = both (map body_piece t.bodies) (data_pieces t.data_offset t.blocks) ∙ ap (λ xs. xs ++ map bytes_in (data_pieces t.data_offset t.blocks)) (bodies_in t.bodies) ∙ ap (λ xs. t.bodies ++ xs) (blocks t.blocks)
  where
    both : (ps qs : List Piece) → map bytes_in (ps ++ qs) ≡ map bytes_in ps ++ map bytes_in qs
    both [] qs = refl
    both (p ∷ ps) qs = ap (λ xs. p.bytes ∷ xs) (both ps qs)

    blocks : (bs : List Block) → map bytes_in (data_pieces t.data_offset bs) ≡ map (λ b. b.bytes) bs
    blocks [] = refl
    blocks (b ∷ bs) = ap (λ xs. b.bytes ∷ xs) (blocks_in (b.address + length b.bytes) bs)

take_front : (xs ys : List ℕ) → take (length xs) (xs ++ ys) ≡ xs
take_front [] ys = refl
take_front (x ∷ xs) ys = ap (λ zs. x ∷ zs) (take_front xs ys)

drop_front : (xs ys : List ℕ) → drop (length xs) (xs ++ ys) ≡ ys
drop_front [] ys = refl
drop_front (x ∷ xs) ys = drop_front xs ys

-- the payload of the code section stands behind the sections before it, its number and its size
abbrev place : List ℕ → List (List ℕ) → Option Span
place before bodies =
    let payload = vector sized bodies in
    if length bodies == 0 then None else Some (record { start = length before + 1 + length (u32 (length payload)); len = length payload })

some_body : {A : Type 0} (n : ℕ) (x y : A) → (if suc n == 0 then x else y) ≡ y
some_body n x y = let none : (suc n == 0) ≡ false = search rules in rw none refl

payload_stands : (before after : List ℕ) (bodies : List (List ℕ)) (s : Span) → place before bodies ≡ Some s
    → take s.len (drop s.start ((before ++ section 10 sized bodies) ++ after)) ≡ vector sized bodies
payload_stands before after [] s e = absurd (cc)
payload_stands before after (b ∷ bs) s e =
    let payload : List ℕ = vector sized (b ∷ bs) in
    let lead : List ℕ = 10 ∷ u32 (length payload) in
    let here : Span = record { start = length before + 1 + length (u32 (length payload)); len = length payload } in
    let told : Some here ≡ Some s = sym (some_body (length bs) None (Some here)) ∙ e in
    let same : here ≡ s = cc in
    let start : length before + 1 + length (u32 (length payload)) ≡ length (before ++ lead) = omega (arith, length-append before lead) in
    let whole : (before ++ section 10 sized (b ∷ bs)) ++ after ≡ (before ++ lead) ++ (payload ++ after) =
    ap (λ zs. (before ++ zs) ++ after) (some_body (length bs) [] (lead ++ payload)) ∙ ap (λ zs. zs ++ after) (sym (append_assoc before lead payload)) ∙ append_assoc (before ++ lead) payload after in
    subst (λ (z : Span). take z.len (drop z.start ((before ++ section 10 sized (b ∷ bs)) ++ after)) ≡ payload) same
    (ap (λ zs. take (length payload) (drop (length before + 1 + length (u32 (length payload))) zs)) whole
    ∙ ap (λ n. take (length payload) (drop n ((before ++ lead) ++ (payload ++ after)))) start
    ∙ ap (take (length payload)) (drop_front (before ++ lead) (payload ++ after))
    ∙ take_front payload after)

pub code_stands : (t : Tree) (s : Span) → code_place t ≡ Some s → take s.len (drop s.start (bytes_of t)) ≡ vector sized t.bodies
unfolding bytes_of code_place
code_stands t s e = payload_stands (sections t) (data_section t.data_offset t.blocks) t.bodies s e

pub no_code : (t : Tree) → code_place t ≡ None → t.bodies ≡ []
unfolding code_place
no_code t e = by_bodies (sections t) t.bodies e
  where
    by_bodies : (before : List ℕ) (bodies : List (List ℕ)) → place before bodies ≡ None → bodies ≡ []
    by_bodies before [] e = refl
    by_bodies before (b ∷ bs) e =
        let payload : List ℕ = vector sized (b ∷ bs) in
        let here : Span = record { start = length before + 1 + length (u32 (length payload)); len = length payload } in
        let told : Some here ≡ None = sym (some_body (length bs) None (Some here)) ∙ e in
        absurd (cc)

-- behind what stands before the pieces
stands : (before : List ℕ) (ps : List Piece) (k : ℕ) → k < length (map bytes_in ps)
    → take (length (slice_index_or (map bytes_in ps) k [])) (drop (slice_index_or (places (length before) ps) k 0) (before ++ joined ps)) ≡ slice_index_or (map bytes_in ps) k []
stands before [] k below = absurd (omega (arith, below))
stands before (p ∷ ps) zero below =
    let at : length before + length p.head ≡ length (before ++ p.head) = sym (length-append before p.head) in
    let split : before ++ ((p.head ++ p.bytes) ++ joined ps) ≡ (before ++ p.head) ++ (p.bytes ++ joined ps) =
    ap (λ zs. before ++ zs) (append_assoc p.head p.bytes (joined ps)) ∙ sym (append_assoc before p.head (p.bytes ++ joined ps)) in
    ap (λ n. take (length p.bytes) (drop n (before ++ ((p.head ++ p.bytes) ++ joined ps)))) at
    ∙ ap (λ zs. take (length p.bytes) (drop (length (before ++ p.head)) zs)) split
    ∙ ap (take (length p.bytes)) (drop_front (before ++ p.head) (p.bytes ++ joined ps))
    ∙ take_front p.bytes (joined ps)
stands before (p ∷ ps) (suc k) below =
    let all : List ℕ = before ++ (p.head ++ p.bytes) in
    let at : length before + length p.head + length p.bytes ≡ length all = omega (arith, length-append before (p.head ++ p.bytes), length-append p.head p.bytes) in
    let item : List ℕ = slice_index_or (map bytes_in ps) k [] in
    ap (λ n. take (length item) (drop (slice_index_or (places n ps) k 0) (before ++ ((p.head ++ p.bytes) ++ joined ps)))) at
    ∙ ap (λ zs. take (length item) (drop (slice_index_or (places (length all) ps) k 0) zs)) (sym (append_assoc before (p.head ++ p.bytes) (joined ps)))
    ∙ stands all ps k (omega (arith, below))

pub sources_stand : (t : Tree) (k : ℕ) → k < length (sources t)
    → take (length (slice_index_or (sources t) k [])) (drop (slice_index_or (source_places t) k 0) (bytes_of t)) ≡ slice_index_or (sources t) k []
sources_stand t k below =
    subst (λ (zs : List ℕ). take (length (slice_index_or (sources t) k [])) (drop (slice_index_or (source_places t) k 0) zs) ≡ slice_index_or (sources t) k []) (pieces_are_bytes t)
    (subst (λ (ss : List (List ℕ)). take (length (slice_index_or ss k [])) (drop (slice_index_or (source_places t) k 0) (front t ++ joined (pieces t))) ≡ slice_index_or ss k []) (sources_in t)
    (stands (front t) (pieces t) k (subst (λ (ss : List (List ℕ)). k < length ss) (sym (sources_in t)) below)))
