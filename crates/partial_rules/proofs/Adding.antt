-- Sections one behind another add their parts in turn, where each does by itself.
use Rattle.std.proofs.Common.{◌≡◌, ℕ, ◌-◌, List, [], ◌∷◌, ◌++◌, length, sym, ap, subst, ◌∙◌, arith, append_assoc}
use Rattle.std.specs.Prelude.{take, drop}
use Rattle.std.proofs.lemmas.List.{length-append}
use Rattle.object_file.specs.leb_codec.Shortest.{u32}
use Rattle.wasm_instr.specs.wl_base.declared.span.Span.{Span}
use Rattle.wasm_sections.specs.declared.section.SectionSpan.{SectionSpan}
use Rattle.reloc_section.specs.declared.entry.Reloc.{Reloc}
use Rattle.object_parts.specs.declared.parts.Parts.{Parts}
use Rattle.object_parts.specs.Kinds.{kind_of}
use Rattle.object_parts.specs.Adding.{AddsKind}
use Rattle.object_parts.specs.Sections.{bytes_in, AddInTurn}
use Rattle.partial_rules.specs.Sections.{Raw, raw_bytes, raws_bytes, spans}
use Rattle.partial_rules.proofs.Framing.{payload_at}

-- where the payload of a section stands before these
abbrev pub payload_span : ℕ → Raw → List Raw → Span
payload_span end s ss = record { start = end - length (s.payload ++ raws_bytes ss); len = length s.payload }

-- Each adds its part by its own payload.
abbrev pub AddAll : List SectionSpan → List Reloc → ℕ → Parts → List Raw → Parts → Type 0
AddAll all relocs end parts [] after = parts ≡ after
AddAll all relocs end parts (s ∷ ss) after =
    (mid : Parts) × AddsKind all relocs (kind_of s.id) parts (payload_span end s ss) s.payload mid × AddAll all relocs end mid ss after

-- the payload of a section is what stands in its span
pub payload_is : (front : List ℕ) (s : Raw) (ss : List Raw) (bytes : List ℕ) → bytes ≡ front ++ (raw_bytes s ++ raws_bytes ss) → bytes_in bytes (payload_span (length bytes) s ss) ≡ s.payload
payload_is front s ss bytes cut =
    let head : List ℕ = s.id ∷ u32 (length s.payload) in
    let behind : List ℕ = s.payload ++ raws_bytes ss in
    let parts : bytes ≡ (front ++ head) ++ behind =
    cut ∙ (ap (λ xs. front ++ xs) (append_assoc head s.payload (raws_bytes ss)) ∙ sym (append_assoc front head behind)) in
    let start : length bytes - length behind ≡ length (front ++ head) = omega (arith, ap length parts, length-append (front ++ head) behind) in
    ap (λ n. take (length s.payload) (drop n bytes)) start
    ∙ (ap (λ xs. take (length s.payload) (drop (length (front ++ head)) xs)) parts ∙ payload_at (front ++ head) s.payload (raws_bytes ss))

pub adds_in_turn : (all : List SectionSpan) (relocs : List Reloc) (front : List ℕ) (ss : List Raw) (bytes : List ℕ) (parts after : Parts) → bytes ≡ front ++ raws_bytes ss
    → AddAll all relocs (length bytes) parts ss after → AddInTurn all relocs bytes parts (spans (length bytes) ss) after
adds_in_turn all relocs front [] bytes parts after cut adds = adds
adds_in_turn all relocs front (s ∷ ss) bytes parts after cut adds =
    let own : bytes_in bytes (payload_span (length bytes) s ss) ≡ s.payload = payload_is front s ss bytes cut in
    let next : bytes ≡ (front ++ raw_bytes s) ++ raws_bytes ss = cut ∙ sym (append_assoc front (raw_bytes s) (raws_bytes ss)) in (
      adds.0,
      subst (λ payload. AddsKind all relocs (kind_of s.id) parts (payload_span (length bytes) s ss) payload adds.0) (sym own) adds.1,
      adds_in_turn all relocs (front ++ raw_bytes s) ss bytes adds.0 after next adds.2,
    )
