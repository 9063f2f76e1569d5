-- Where bodies and segments stand in the bytes of a relocatable object: what is read there is what was written.
use Rattle.std.proofs.Common.{◌≡◌, ℕ, ◌+◌, ◌-◌, List, [], ◌∷◌, ◌++◌, length, refl, sym, ap, ◌∙◌, arith, append_assoc}
use Rattle.std.specs.Prelude.{take, drop, flat_map}
use Rattle.std.specs.List.{AllZip}
use Rattle.std.proofs.Math.Seq.{drop-append_seam, take-append_seam}
use Rattle.std.proofs.lemmas.List.{length-append}
use Rattle.std.proofs.lemmas.List.Concat.{flat_map-cons}
use Rattle.name_rules.specs.object_file.wl_base.declared.span.Span.{Span}
use Rattle.name_rules.specs.object_file.wasm_module.declared.parts.Export.{Export}
use Rattle.name_rules.specs.object_file.reloc_section.declared.entry.Reloc.{Reloc}
use Rattle.name_rules.specs.object_file.linking_section.declared.segment.SegmentInfo.{SegmentInfo}
use Rattle.name_rules.specs.object_file.object_columns.declared.functions.FunctionDef.{FunctionDef}
use Rattle.name_rules.specs.object_file.object_columns.declared.segments.SegmentDef.{SegmentDef}
use Rattle.object_file.specs.Objects.{functions_from, segments_from, other_infos}
use Rattle.object_rules.specs.object_parts.Placed.{span_before}
use Rattle.object_rules.specs.object_parts.Code.{behind, end_in}
use Rattle.partial_rules.specs.Relocatable.{Windowed, body, body_head, segment, segment_head}
use Rattle.partial_rules.specs.WellFormed.{Coded}
use Rattle.partial_rules.specs.ReadAs.{told_from, data_part, coded_bytes, bodies_told}

-- ---- bytes at a span

-- So many bytes stand there.
pub record StandAt (bytes own : List ℕ) (s : Span) : Type 0 where
  pub long : s.len ≡ length own
  pub are : take s.len (drop s.start bytes) ≡ own

seam : (bytes front own back : List ℕ) (start : ℕ) → bytes ≡ front ++ (own ++ back) → start ≡ length front → take (length own) (drop start bytes) ≡ own
seam bytes front own back start is at =
    ap (λ n. take (length own) (drop n bytes)) at
    ∙ (ap (λ bs. take (length own) (drop (length front) bs)) is
    ∙ (ap (take (length own)) (drop-append_seam front (own ++ back)) ∙ take-append_seam own back))

-- what ends where the rest begins
stand_before : (bytes front own rest back : List ℕ) (end : ℕ) → bytes ≡ front ++ (own ++ (rest ++ back)) → end ≡ length front + length own + length rest → StandAt bytes own (span_before end (length own) rest)
stand_before bytes front own rest back end is ends =
    record { long = refl; are = seam bytes front own (rest ++ back) (end - length rest - length own) is (omega (arith, ends)) }

-- one item and those behind it
next_item : (bytes front head own rest back : List ℕ) (end : ℕ) → bytes ≡ front ++ (((head ++ own) ++ rest) ++ back) → end ≡ length front + length ((head ++ own) ++ rest)
    → (bytes ≡ (front ++ head) ++ (own ++ (rest ++ back))) × (end ≡ length (front ++ head) + length own + length rest)
    × (bytes ≡ (front ++ (head ++ own)) ++ (rest ++ back)) × (end ≡ length (front ++ (head ++ own)) + length rest)
next_item bytes front head own rest back end is ends =
    let a : ((head ++ own) ++ rest) ++ back ≡ (head ++ own) ++ (rest ++ back) = append_assoc (head ++ own) rest back in
    let b : (head ++ own) ++ (rest ++ back) ≡ head ++ (own ++ (rest ++ back)) = append_assoc head own (rest ++ back) in
    let all : length ((head ++ own) ++ rest) ≡ length (head ++ own) + length rest = length-append (head ++ own) rest in
    let item : length (head ++ own) ≡ length head + length own = length-append head own in (
      is ∙ (ap (λ xs. front ++ xs) (a ∙ b) ∙ sym (append_assoc front head (own ++ (rest ++ back)))),
      omega (arith, ends, all, item, length-append front head),
      is ∙ (ap (λ xs. front ++ xs) a ∙ sym (append_assoc front (head ++ own) (rest ++ back))),
      omega (arith, ends, all, length-append front (head ++ own)),
    )

-- ---- bodies

pub bodies_at : (bytes back : List ℕ) (exports : List Export) (index end : ℕ) (front : List ℕ) (types : List ℕ) (cs : List Coded) → length types ≡ length cs → bytes ≡ front ++ (flat_map coded_bytes cs ++ back)
    → end ≡ length front + length (flat_map coded_bytes cs) → AllZip (λ (c : Coded) (f : FunctionDef). StandAt bytes c.windowed.bytes f.span) cs (functions_from exports index types (bodies_told end cs))
bodies_at bytes back exports index end front [] [] same is ends = tt
bodies_at bytes back exports index end front (t ∷ types) [] same is ends = absurd (omega (arith, same))
bodies_at bytes back exports index end front [] (c ∷ cs) same is ends = absurd (omega (arith, same))
bodies_at bytes back exports index end front (t ∷ types) (c ∷ cs) same is ends =
    let w : Windowed = c.windowed in
    let cut : flat_map coded_bytes (c ∷ cs) ≡ body w ++ flat_map coded_bytes cs = flat_map-cons coded_bytes c cs in
    let n = next_item bytes front (body_head w.bytes) w.bytes (flat_map coded_bytes cs) back end (is ∙ ap (λ xs. front ++ (xs ++ back)) cut) (ends ∙ ap (λ xs. length front + length xs) cut) in (
      stand_before bytes (front ++ body_head w.bytes) w.bytes (flat_map coded_bytes cs) back end n.0 n.1,
      bodies_at bytes back exports (index + 1) end (front ++ body w) types cs (omega (arith, same)) n.2 n.3,
    )

-- ---- segments

pub segments_at : (bytes back : List ℕ) (start end : ℕ) (front : List ℕ) (relocs : List Reloc) (infos : List SegmentInfo) (ws : List Windowed) → bytes ≡ front ++ (flat_map segment ws ++ back)
    → end ≡ length front + length (flat_map segment ws) → AllZip (λ (w : Windowed) (g : SegmentDef). StandAt bytes w.bytes g.span) ws (segments_from start relocs infos (told_from (data_part end) segment ws))
segments_at bytes back start end front relocs infos [] is ends = tt
segments_at bytes back start end front relocs infos (w ∷ ws) is ends =
    let cut : flat_map segment (w ∷ ws) ≡ segment w ++ flat_map segment ws = flat_map-cons segment w ws in
    let n = next_item bytes front (segment_head w.bytes) w.bytes (flat_map segment ws) back end (is ∙ ap (λ xs. front ++ (xs ++ back)) cut) (ends ∙ ap (λ xs. length front + length xs) cut) in (
      stand_before bytes (front ++ segment_head w.bytes) w.bytes (flat_map segment ws) back end n.0 n.1,
      segments_at bytes back start end (front ++ segment w) (behind (end_in start (span_before end (length w.bytes) (flat_map segment ws))) relocs) (other_infos infos) ws n.2 n.3,
    )
