-- The sections of a relocatable object one by one, and where they stand in its bytes.
use Rattle.std.specs.Prelude.{ℕ, List, ◌∷◌, ◌+◌, [], ◌++◌, ◌-◌, length, codes}
use Rattle.image_emit.specs.Bytes.{sized, vector, func_type, import_entry, export}
use Rattle.wasm_sections.specs.declared.section.SectionSpan.{SectionSpan}
use Rattle.wasm_sections.specs.Sections.{span_at}
use Rattle.object_file.specs.leb_codec.Shortest.{u32}
use Rattle.reloc_section.specs.declared.entry.Reloc.{Reloc}
use Rattle.partial_rules.specs.Relocatable.{reloc, Relocatable, linking, code_place, section_relocs, body_head, data_place, segment_head, spelled_global, body, segment, relocatable_bytes}

-- A section, as it stands.
pub record Raw : Type 0 where
  pub id : ℕ
  pub payload : List ℕ

abbrev pub raw_bytes : Raw → List ℕ
raw_bytes s = s.id ∷ sized s.payload

abbrev pub raws_bytes : List Raw → List ℕ
raws_bytes [] = []
raws_bytes (s ∷ ss) = raw_bytes s ++ raws_bytes ss

-- Where each stands in bytes that reach to an end.
abbrev pub spans : ℕ → List Raw → List SectionSpan
spans end [] = []
spans end (s ∷ ss) = span_at s.id (end - length (s.payload ++ raws_bytes ss)) (length s.payload) ∷ spans end ss

-- A section of these entries, left out where there is none.
abbrev pub sec : {A : Type 0} → ℕ → (A → List ℕ) → List A → List Raw
sec id item [] = []
sec id item (x ∷ xs) = record { id = id; payload = vector item (x ∷ xs) } ∷ []

-- A section of relocations, left out where there is none.
abbrev pub rel : List ℕ → ℕ → List Reloc → List Raw
rel name target [] = []
rel name target (x ∷ xs) = record { id = 0; payload = sized name ++ (u32 target ++ vector reloc (x ∷ xs)) } ∷ []

abbrev pub linking_raw : Relocatable → Raw
linking_raw r = record { id = 0; payload = sized (codes "linking") ++ linking r }

abbrev pub code_rel : Relocatable → List Raw
code_rel r = rel (codes "reloc.CODE") (code_place r) (section_relocs body_head r.bodies)

abbrev pub data_rel : Relocatable → List Raw
data_rel r = rel (codes "reloc.DATA") (data_place r) (section_relocs segment_head r.segments)

abbrev pub raws : Relocatable → List Raw
raws r =
    sec 1 func_type r.types ++ (sec 2 import_entry r.imports ++ (sec 3 (λ (n : ℕ). u32 n) r.functions ++ (sec 6 spelled_global r.globals ++ (sec 7 export r.exports
    ++ (sec 10 body r.bodies ++ (sec 11 segment r.segments ++ (linking_raw r ∷ (code_rel r ++ data_rel r))))))))

-- ---- the sections behind those of globals, bodies and segments, and where these stand

abbrev pub behind_data : Relocatable → List Raw
behind_data r = linking_raw r ∷ (code_rel r ++ data_rel r)

abbrev pub behind_code : Relocatable → List Raw
behind_code r = sec 11 segment r.segments ++ behind_data r

abbrev pub behind_globals : Relocatable → List Raw
behind_globals r = sec 7 export r.exports ++ (sec 10 body r.bodies ++ behind_code r)

-- Where a payload of these bytes stands before these sections.
abbrev pub start_of : ℕ → List ℕ → List Raw → ℕ
start_of end payload ss = end - length (payload ++ raws_bytes ss)

abbrev pub globals_end : ℕ → Relocatable → ℕ
globals_end end r = start_of end (vector spelled_global r.globals) (behind_globals r) + length (vector spelled_global r.globals)

abbrev pub code_start : ℕ → Relocatable → ℕ
code_start end r = start_of end (vector body r.bodies) (behind_code r)

abbrev pub data_end : ℕ → Relocatable → ℕ
data_end end r = start_of end (vector segment r.segments) (behind_data r) + length (vector segment r.segments)

-- Where all its sections stand.
abbrev pub sections_told : Relocatable → List SectionSpan
sections_told r = spans (length (relocatable_bytes r)) (raws r)
