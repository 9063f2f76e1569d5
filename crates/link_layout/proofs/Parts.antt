-- What the tables tell of the parts of a program.
use Rattle.std.proofs.Common.{◌≡◌, ℕ, ◌≤◌, ◌==◌, Bool, true, false, ◌&&◌, List, [], ◌∷◌, map, length, slice_get, position, Some, option_map, refl, sym, ap, subst, ◌∙◌, arith, eq-eqb, ne_eqb}
use Rattle.std.specs.List.{list_all, list_any}
use Rattle.std.proofs.lemmas.List.Elements.{All-cons}
use Rattle.std.proofs.lemmas.List.{length-map}
use Rattle.std.proofs.lemmas.Option.{slice_get-map, slice_get_within, get_or_from_slice_get}
use Rattle.link_program.specs.wasm_types.declared.function.FuncType.{FuncType}
use Rattle.link_program.specs.memory_layout.declared.rules.SegmentShape.{SegmentShape}
use Rattle.link_program.specs.memory_layout.Steps.{AreAligned}
use Rattle.link_program.specs.image_emit.Bytes.{file_part}
use Rattle.link_program.specs.name_rules.Entries.{ImportKey}
use Rattle.link_program.specs.link_rules.Program as rules
use Rattle.link_program.specs.link_rules.Program.{function, segment, global, linker_made, same_chunk}
use Rattle.link_program.specs.link_rules.Values.{segments, content_align, shape_of, shapes}
use Rattle.link_program.specs.declared.part.Content.{Content}
use Rattle.link_program.specs.declared.part.Content.TheVariants as contents
use Rattle.link_program.specs.declared.part.Part.{Part}
use Rattle.link_program.specs.declared.program.Tables.{Tables}
use Rattle.link_program.specs.Seen.{SeenContent, a_function, a_segment, a_global, the_linkers, seen_content, seen_part, told_content, told_part, seen_named, told_named}
use Rattle.link_program.specs.Program.{AreTables, ChunksDiffer}
use Rattle.link_program.specs.Stand.{PartsStand, PartStands, IsAligned}
use Rattle.link_program.specs.Live.{AreLive}
use Rattle.link_program.specs.Look.{no_part, part_at, row_at}
use Rattle.link_layout.specs.Segments.{is_segment_at, segment_numbers, align_of, shape_at}
use Rattle.link_layout.specs.Placed.{chunks_of}
use Rattle.link_layout.proofs.Pairs.{map_pairs, filter_pairs, at_told, same_position, same_any, map_twice}
use Rattle.link_program.proofs.Chunks.{chunk_is, chunk_itself}

-- ---- alignments

abbrev seen_align : SeenContent → ℕ
seen_align (a_function t) = 0
seen_align (a_segment align flags) = align
seen_align (a_global kind value) = 0
seen_align the_linkers = 0

align_seen : (types : List FuncType) (c : Content) → align_of c ≡ seen_align (seen_content types c)
align_seen types (contents.Function number) = refl
align_seen types (contents.Segment align flags) = refl
align_seen types (contents.Global kind value) = refl
align_seen types contents.Made = refl

align_told : (c : rules.Content) → seen_align (told_content c) ≡ content_align c
align_told (function t) = refl
align_told (segment info) = refl
align_told (global g) = refl
align_told (linker_made m) = refl

aligned_content : (c : rules.Content) → IsAligned c → content_align c ≤ 31
aligned_content (function t) is = omega arith
aligned_content (segment info) is = is
aligned_content (global g) is = omega arith
aligned_content (linker_made m) is = omega arith

module _ (names : List (List ℕ)) (imports : List ImportKey) (t : Tables) (p : rules.Program) (are : AreTables names imports t p) where
  pub part_told : (n : ℕ) (part : rules.Part) → slice_get p.parts n ≡ Some part → seen_part t.types (part_at t n) ≡ told_part part
  part_told n part at = at_told (seen_part t.types) told_part t.parts p.parts n part no_part are.parts at

  pub chunk_told : (n : ℕ) (part : rules.Part) → slice_get p.parts n ≡ Some part → (part_at t n).chunk ≡ part.chunk
  chunk_told n part at = ap (λ x. x.chunk) (part_told n part at)

  pub row_told : (n : ℕ) (part : rules.Part) → slice_get p.parts n ≡ Some part → map (seen_named t.symbols t.types) (row_at t n) ≡ map (told_named names imports) part.named
  row_told n part at = at_told (map (seen_named t.symbols t.types)) (λ (x : rules.Part). map (told_named names imports) x.named) t.named p.parts n part [] are.named at

  pub shape_told : (files : List (List ℕ)) → files ≡ p.files → (n : ℕ) (part : rules.Part) → slice_get p.parts n ≡ Some part → shape_at t files n ≡ shape_of p part
  shape_told files same n part at =
      let told = part_told n part at in
      let source : (part_at t n).source ≡ part.source = ap (λ x. x.source) told in
      let align : align_of (part_at t n).content ≡ content_align part.content = align_seen t.types (part_at t n).content ∙ ap (λ x. seen_align x.content) told ∙ align_told part.content in
      let long : length (row_at t n) ≡ length part.named =
      sym (length-map (row_at t n) (seen_named t.symbols t.types)) ∙ ap length (row_told n part at) ∙ length-map part.named (told_named names imports) in
      λ i. record { len = (source i).span.len; align = align i; zero = (long i == 0) && list_all (λ b. b == 0) (file_part (same i) (source i)) }

  pub segment_told : (n : ℕ) (part : rules.Part) → slice_get p.parts n ≡ Some part → is_segment_at t n ≡ (part.chunk.kind == 1)
  segment_told n part at = ap (λ c. c.kind == 1) (chunk_told n part at)

  module _ (live : List ℕ) (parts : List rules.Part) (lives : AreLive p live parts) where
    pub segments_are : map (slice_get p.parts) (segment_numbers t live) ≡ map Some (segments parts)
    segments_are = filter_pairs p.parts (is_segment_at t) (λ (part : rules.Part). part.chunk.kind == 1) segment_told live parts lives.are

    pub shapes_are : (files : List (List ℕ)) → files ≡ p.files → map (shape_at t files) (segment_numbers t live) ≡ shapes p parts
    unfolding shapes
    shapes_are files same = map_pairs p.parts (shape_at t files) (shape_of p) (shape_told files same) (segment_numbers t live) (segments parts) segments_are

    aligned_numbers : (files : List (List ℕ)) → files ≡ p.files → PartsStand p → (ns : List ℕ) (xs : List rules.Part) → map (slice_get p.parts) ns ≡ map Some xs → AreAligned (map (shape_at t files) ns)
    aligned_numbers files same stand [] xs e = λ k d below. absurd (omega arith)
    aligned_numbers files same stand (n ∷ ns) [] e = absurd cc
    aligned_numbers files same stand (n ∷ ns) (x ∷ xs) e =
        let at : slice_get p.parts n ≡ Some x = cc in
        let rest : map (slice_get p.parts) ns ≡ map Some xs = cc in
        let stands = part_stands n x at in
        let low : (shape_at t files n).align ≤ 31 = subst (λ (s : SegmentShape). s.align ≤ 31) (sym (shape_told files same n x at)) (aligned_content x.content stands.align) in
        consed (shape_at t files n) (map (shape_at t files) ns) low (aligned_numbers files same stand ns xs rest)
      where
        part_stands : (n : ℕ) (x : rules.Part) → slice_get p.parts n ≡ Some x → PartStands p x
        part_stands n x at = subst (PartStands p) (get_or_from_slice_get p.parts n x x at) (stand n x (slice_get_within p.parts n x at))

        consed : (s : SegmentShape) (ss : List SegmentShape) → s.align ≤ 31 → AreAligned ss → AreAligned (s ∷ ss)
        consed s ss low all = All-cons (λ s. s.align ≤ 31) s ss low all

    pub aligned : (files : List (List ℕ)) → files ≡ p.files → PartsStand p → AreAligned (map (shape_at t files) (segment_numbers t live))
    aligned files same stand = aligned_numbers files same stand (segment_numbers t live) (segments parts) segments_are

-- ---- chunks among the parts of a program

module _ (parts : List rules.Part) (differ : ChunksDiffer (chunks_of parts)) where
  chunk_at_number : (n : ℕ) (part : rules.Part) → slice_get parts n ≡ Some part → slice_get (chunks_of parts) n ≡ Some part.chunk
  chunk_at_number n part at = slice_get-map (λ (x : rules.Part). x.chunk) parts n ∙ ap (option_map (λ (x : rules.Part). x.chunk)) at

  -- two parts of one chunk are one
  pub same_number : (m n : ℕ) (a b : rules.Part) → slice_get parts m ≡ Some a → slice_get parts n ≡ Some b → a.chunk ≡ b.chunk → m ≡ n
  same_number m n a b at_m at_n same = differ m n a.chunk (chunk_at_number m a at_m) (chunk_at_number n b at_n ∙ ap Some (sym same))

  pub same_part : (m n : ℕ) (a b : rules.Part) → slice_get parts m ≡ Some a → slice_get parts n ≡ Some b → a.chunk ≡ b.chunk → a ≡ b
  same_part m n a b at_m at_n same = let e : m ≡ n = same_number m n a b at_m at_n same in let f : Some a ≡ Some b = sym at_m ∙ ap (slice_get parts) e ∙ at_n in cc

  -- the test of a chunk is that of the number
  pub chunk_or_number : (m : ℕ) (a : rules.Part) → slice_get parts m ≡ Some a → (n : ℕ) (b : rules.Part) → slice_get parts n ≡ Some b → (m == n) ≡ same_chunk a.chunk b.chunk
  chunk_or_number m a at_m n b at_n = by_test (same_chunk a.chunk b.chunk) refl
    where
      by_test : (r : Bool) → same_chunk a.chunk b.chunk ≡ r → (m == n) ≡ r
      by_test true is = eq-eqb m n (same_number m n a b at_m at_n (chunk_is a.chunk b.chunk is))
      by_test false is = ne_eqb m n (λ e.
          let f : Some a ≡ Some b = sym at_m ∙ ap (slice_get parts) e ∙ at_n in
          let g : a ≡ b = cc in
          let h : same_chunk a.chunk b.chunk ≡ true = ap (λ (x : rules.Part). same_chunk a.chunk x.chunk) (sym g) ∙ chunk_itself a.chunk in
          absurd cc)

  -- where parts stand by number, a chunk's place among them is that of its number
  pub place_by_number : (m : ℕ) (a : rules.Part) → slice_get parts m ≡ Some a → (ns : List ℕ) (xs : List rules.Part) → map (slice_get parts) ns ≡ map Some xs
      → position (λ n. m == n) ns ≡ position (same_chunk a.chunk) (chunks_of xs)
  place_by_number m a at ns xs are =
      same_position (λ n. m == n) (same_chunk a.chunk) ns (chunks_of xs)
      (map_pairs parts (λ n. m == n) (λ (x : rules.Part). same_chunk a.chunk x.chunk) (chunk_or_number m a at) ns xs are
      ∙ sym (map_twice (same_chunk a.chunk) (λ (x : rules.Part). x.chunk) xs))

  pub among_by_number : (m : ℕ) (a : rules.Part) → slice_get parts m ≡ Some a → (ns : List ℕ) (xs : List rules.Part) → map (slice_get parts) ns ≡ map Some xs
      → list_any (λ n. m == n) ns ≡ list_any (same_chunk a.chunk) (chunks_of xs)
  among_by_number m a at ns xs are =
      same_any (λ n. m == n) (same_chunk a.chunk) ns (chunks_of xs)
      (map_pairs parts (λ n. m == n) (λ (x : rules.Part). same_chunk a.chunk x.chunk) (chunk_or_number m a at) ns xs are
      ∙ sym (map_twice (same_chunk a.chunk) (λ (x : rules.Part). x.chunk) xs))
