-- The sections of an object that is well formed add its parts, and the code is read with its own relocations.
use Rattle.std.proofs.Common.{◌≡◌, ℕ, suc, ◌+◌, ◌<◌, ◌≤◌, ◌^◌, List, [], ◌∷◌, ◌++◌, length, refl, sym, ap, subst, ◌∙◌, arith}
use Rattle.std.specs.Prelude.{None, All, flat_map, map, codes}
use Rattle.std.proofs.lemmas.Bool.{lt-ltb}
use Rattle.std.proofs.lemmas.List.{length-append, append-nil}
use Rattle.std.proofs.lemmas.List.Concat.{flat_map-cons}
use Rattle.object_file.specs.leb_codec.Shortest.{u32}
use Rattle.wasm_instr.proofs.leb_codec_lemmas.Computed.{u32_spells}
use Rattle.wasm_sections.specs.declared.section.SectionSpan.{SectionSpan}
use Rattle.wasm_sections.specs.Sections.{header}
use Rattle.reloc_section.specs.declared.entry.Reloc.{Reloc}
use Rattle.reloc_section.specs.Relocs.{SpellsRelocSection}
use Rattle.object_parts.specs.Adding.{no_parts}
use Rattle.object_parts.specs.Sections.{AddInTurn}
use Rattle.object_parts.specs.Reading.{code_relocs}
use Rattle.object_parts.specs.Turns.{AreEntries}
use Rattle.object_parts.specs.Code.{SpellsCodeBody, left_behind}
use Rattle.object_rules.specs.Rules.{broken_rule}
use Rattle.object_file.specs.Objects.{object_from}
use Rattle.object_file.specs.ObjectOf.{IsObject}
use Rattle.image_emit.specs.Bytes.{sized, vector, func_type, import_entry, export}
use Rattle.partial_rules.specs.Relocatable.{Relocatable, Windowed, present, spelled_global, body, segment, linking, reloc, code_place, data_place, relocs_from, section_relocs, body_head, segment_head, relocatable_bytes}
use Rattle.partial_rules.specs.Sections.{Raw, raw_bytes, raws_bytes, spans, sec, rel, linking_raw, code_rel, data_rel, raws, behind_code, behind_data, globals_end, code_start, data_end, sections_told}
use Rattle.partial_rules.specs.ReadAs.{told_from, data_part, global_def, coded_bytes, bodies_told, rels, read_parts, globals_told, codes_told, data_told, parts_told}
use Rattle.partial_rules.specs.WellFormed.{Coded, IsCoded, IsWritable}
use Rattle.partial_rules.proofs.Spelling.{Fits, left_fits, right_fits, relocs_of, linking_spelled}
use Rattle.partial_rules.proofs.Turns.{segments_of, globals_of}
use Rattle.partial_rules.proofs.Coding.{bodies_spelled}
use Rattle.partial_rules.proofs.Importing.{types_of, functions_of, exports_of, imports_of}
use Rattle.partial_rules.proofs.Sectioned.{raws_append, sectioned, object_framed}
use Rattle.partial_rules.proofs.Added.{AreSpelled, parts_added}
use Rattle.partial_rules.proofs.CodeRelocs.{relocs_are}

-- ---- each section is short, as all the bytes are

left_raws : (a b : List Raw) → Fits (raws_bytes (a ++ b)) → Fits (raws_bytes a)
left_raws a b fits = left_fits (raws_bytes a) (raws_bytes b) (subst Fits (raws_append a b) fits)

right_raws : (a b : List Raw) → Fits (raws_bytes (a ++ b)) → Fits (raws_bytes b)
right_raws a b fits = right_fits (raws_bytes a) (raws_bytes b) (subst Fits (raws_append a b) fits)

first_fits : (s : Raw) (ss : List Raw) → Fits (raws_bytes (s ∷ ss)) → Fits s.payload
first_fits s ss fits = right_fits (u32 (length s.payload)) s.payload (right_fits (s.id ∷ []) (sized s.payload) (left_fits (raw_bytes s) (raws_bytes ss) fits))

small : (n : ℕ) → n < 128 → length (u32 n) ≡ 1
unfolding u32
small n few = rw (lt-ltb n 128 few) refl

none_fits : (before : List ℕ) → length before ≤ 1 → Fits (before ++ (u32 0 ++ []))
none_fits before few = omega (arith, few, length-append before (u32 0 ++ []), length-append (u32 0) [], small 0 (omega arith))

sec_fits : {A : Type 0} (id : ℕ) (item : A → List ℕ) (xs : List A) (ss : List Raw) → Fits (raws_bytes (sec id item xs ++ ss)) → Fits (vector item xs)
sec_fits id item [] ss fits = none_fits [] (omega arith)
sec_fits id item (x ∷ xs) ss fits = first_fits (record { id = id; payload = vector item (x ∷ xs) }) ss fits

rel_fits : (name : List ℕ) (target : ℕ) (xs : List Reloc) (ss : List Raw) → target < 128 → Fits (raws_bytes (rel name target xs ++ ss)) → Fits (u32 target ++ vector reloc xs)
rel_fits name target [] ss few fits = none_fits (u32 target) (omega (arith, small target few))
rel_fits name target (x ∷ xs) ss few fits =
    right_fits (sized name) (u32 target ++ vector reloc (x ∷ xs)) (first_fits (record { id = 0; payload = sized name ++ (u32 target ++ vector reloc (x ∷ xs)) }) ss fits)

one_present : {A : Type 0} (xs : List A) → present xs ≤ 1
one_present [] = omega arith
one_present (x ∷ xs) = omega arith

few_before : (r : Relocatable) → code_place r ≤ 5
few_before r = omega (arith, one_present r.types, one_present r.imports, one_present r.functions, one_present r.globals, one_present r.exports)

few_before_data : (r : Relocatable) → data_place r ≤ 6
few_before_data r = omega (arith, few_before r, one_present r.bodies)

-- ---- bodies

long_map : (cs : List Coded) → length (map {A = Coded} {B = Windowed} (λ c. c.windowed) cs) ≡ length cs
long_map [] = refl
long_map (c ∷ cs) = ap suc (long_map cs)

flat_same : (cs : List Coded) → flat_map body (map {A = Coded} {B = Windowed} (λ c. c.windowed) cs) ≡ flat_map coded_bytes cs
flat_same [] = refl
flat_same (c ∷ cs) =
    flat_map-cons body c.windowed (map {A = Coded} {B = Windowed} (λ c. c.windowed) cs) ∙ (ap (λ xs. body c.windowed ++ xs) (flat_same cs) ∙ sym (flat_map-cons coded_bytes c cs))

vector_same : (cs : List Coded) → vector coded_bytes cs ≡ vector body (map {A = Coded} {B = Windowed} (λ c. c.windowed) cs)
vector_same cs = ap (λ xs. u32 (length cs) ++ xs) (sym (flat_same cs)) ∙ ap (λ n. u32 n ++ flat_map body (map {A = Coded} {B = Windowed} (λ c. c.windowed) cs)) (sym (long_map cs))

told_nothing : (end : ℕ) (cs : List Coded) → map {A = Coded} {B = Windowed} (λ c. c.windowed) cs ≡ [] → bodies_told end cs ≡ []
told_nothing end [] e = refl
told_nothing end (c ∷ cs) e = absurd cc

none_told : {A B : Type 0} (tell : List ℕ → B → A) (item : B → List ℕ) (ys : List B) → ys ≡ [] → told_from tell item ys ≡ []
none_told tell item [] e = refl
none_told tell item (y ∷ ys) e = absurd cc

-- ---- all

-- Its bodies are spelled, behind any start.
codes_spelled : (start : ℕ) (ws : List Windowed) (cs : List Coded) → ws ≡ map {A = Coded} {B = Windowed} (λ c. c.windowed) cs → All IsCoded cs → Fits (vector body ws)
    → AreEntries (SpellsCodeBody start) (left_behind start) (section_relocs body_head ws) (start + length (vector body ws)) (bodies_told (start + length (vector body ws)) cs) (vector body ws)
codes_spelled start ws cs are all fits =
    let ms : List Windowed = map {A = Coded} {B = Windowed} (λ c. c.windowed) cs in
    let plain = bodies_spelled start cs all (subst Fits (sym (vector_same cs)) (subst (λ ws. Fits (vector body ws)) are fits)) in
    let by_bytes = subst (λ bytes. AreEntries (SpellsCodeBody start) (left_behind start) (relocs_from body_head (length (u32 (length cs))) ms) (start + length bytes) (bodies_told (start + length bytes) cs) bytes) (vector_same cs) plain in
    let by_count = subst (λ n. AreEntries (SpellsCodeBody start) (left_behind start) (relocs_from body_head (length (u32 n)) ms) (start + length (vector body ms)) (bodies_told (start + length (vector body ms)) cs) (vector body ms)) (sym (long_map cs)) by_bytes in
    subst (λ ws. AreEntries (SpellsCodeBody start) (left_behind start) (section_relocs body_head ws) (start + length (vector body ws)) (bodies_told (start + length (vector body ws)) cs) (vector body ws)) (sym are) by_count

pub object_added : (r : Relocatable) (cs : List Coded) → IsWritable r cs → Fits (relocatable_bytes r)
    → AddInTurn (spans (length (relocatable_bytes r)) (raws r)) (code_relocs (spans (length (relocatable_bytes r)) (raws r)) (relocatable_bytes r) (spans (length (relocatable_bytes r)) (raws r)))
    (relocatable_bytes r) no_parts (spans (length (relocatable_bytes r)) (raws r))
    (read_parts r (globals_told r) (codes_told r cs) (data_told r) (rels (code_place r) (section_relocs body_head r.bodies) ++ rels (data_place r) (section_relocs segment_head r.segments)))
object_added r cs w fits =
    let bytes : List ℕ = relocatable_bytes r in
    let end : ℕ = length bytes in
    let all : List SectionSpan = spans end (raws r) in
    let h : List Raw = code_rel r ++ data_rel r in
    let f : List Raw = sec 10 body r.bodies ++ behind_code r in
    let e : List Raw = sec 7 export r.exports ++ f in
    let d : List Raw = sec 6 spelled_global r.globals ++ e in
    let b : List Raw = sec 3 (λ (n : ℕ). u32 n) r.functions ++ d in
    let a : List Raw = sec 2 import_entry r.imports ++ b in
    let fits_0 : Fits (raws_bytes (raws r)) = right_fits header (raws_bytes (raws r)) (subst Fits (sym (sectioned r)) fits) in
    let fits_a : Fits (raws_bytes a) = right_raws (sec 1 func_type r.types) a fits_0 in
    let fits_b : Fits (raws_bytes b) = right_raws (sec 2 import_entry r.imports) b fits_a in
    let fits_d : Fits (raws_bytes d) = right_raws (sec 3 (λ (n : ℕ). u32 n) r.functions) d fits_b in
    let fits_e : Fits (raws_bytes e) = right_raws (sec 6 spelled_global r.globals) e fits_d in
    let fits_f : Fits (raws_bytes f) = right_raws (sec 7 export r.exports) f fits_e in
    let fits_g : Fits (raws_bytes (behind_code r)) = right_raws (sec 10 body r.bodies) (behind_code r) fits_f in
    let fits_l : Fits (raws_bytes (behind_data r)) = right_raws (sec 11 segment r.segments) (behind_data r) fits_g in
    let fits_h : Fits (raws_bytes h) = right_raws (linking_raw r ∷ []) h fits_l in
    let fits_i : Fits (raws_bytes (data_rel r ++ [])) = subst (λ ss. Fits (raws_bytes ss)) (sym (append-nil (data_rel r))) (right_raws (code_rel r) (data_rel r) fits_h) in
    let coded : SpellsRelocSection (record { target = code_place r; entries = section_relocs body_head r.bodies }) (u32 (code_place r) ++ vector reloc (section_relocs body_head r.bodies)) =
    relocs_of (code_place r) (section_relocs body_head r.bodies) (omega (arith, few_before r)) w.in_code
    (rel_fits (codes "reloc.CODE") (code_place r) (section_relocs body_head r.bodies) (data_rel r) (omega (arith, few_before r)) fits_h) in
    let datums : SpellsRelocSection (record { target = data_place r; entries = section_relocs segment_head r.segments }) (u32 (data_place r) ++ vector reloc (section_relocs segment_head r.segments)) =
    relocs_of (data_place r) (section_relocs segment_head r.segments) (omega (arith, few_before_data r)) w.in_data
    (rel_fits (codes "reloc.DATA") (data_place r) (section_relocs segment_head r.segments) [] (omega (arith, few_before_data r)) fits_i) in
    let spelled : AreSpelled r (section_relocs body_head r.bodies) end (globals_told r) (codes_told r cs) (data_told r) = record {
      types = types_of r.types (sec_fits 1 func_type r.types a fits_0);
      imports = λ end. imports_of end r.imports w.taken w.imports (sec_fits 2 import_entry r.imports b fits_a);
      functions = functions_of r.functions w.functions (sec_fits 3 (λ (n : ℕ). u32 n) r.functions d fits_b);
      globals = globals_of (globals_end end r) r.globals w.globals (sec_fits 6 spelled_global r.globals e fits_d);
      exports = exports_of r.exports w.exports (sec_fits 7 export r.exports f fits_e);
      bodies = codes_spelled (code_start end r) r.bodies cs w.bodies w.coded (sec_fits 10 body r.bodies (behind_code r) fits_f);
      segments = segments_of (data_end end r) r.segments (sec_fits 11 segment r.segments (behind_data r) fits_g);
      no_globals = none_told (global_def (globals_end end r)) spelled_global r.globals;
      no_bodies = λ none. told_nothing (code_start end r + length (vector body r.bodies)) cs (sym w.bodies ∙ none);
      no_segments = none_told (data_part (data_end end r)) segment r.segments;
      linked = linking_spelled r w.linking (right_fits (sized (codes "linking")) (linking r) (first_fits (linking_raw r) h fits_l));
      coded = coded;
      datums = datums;
    } in
    subst (λ relocs. AddInTurn all relocs bytes no_parts all (read_parts r (globals_told r) (codes_told r cs) (data_told r) (rels (code_place r) (section_relocs body_head r.bodies) ++ rels (data_place r) (section_relocs segment_head r.segments))))
    (sym (relocs_are r coded (u32_spells (code_place r) (omega (arith, few_before r))) datums (u32_spells (data_place r) (omega (arith, few_before_data r)))))
    (parts_added r (section_relocs body_head r.bodies) (globals_told r) (codes_told r cs) (data_told r) spelled)

-- ---- the object

-- So its bytes are an object, where its parts break no rule.
pub is_object : (n : ℕ) (r : Relocatable) (cs : List Coded) → IsWritable r cs → length (relocatable_bytes r) ≤ 2 ^ 30 → broken_rule (sections_told r) (relocatable_bytes r) (parts_told r cs) ≡ None
    → IsObject n (relocatable_bytes r) (object_from n (sections_told r) (parts_told r cs))
is_object n r cs w short agrees =
    let fits : Fits (relocatable_bytes r) = omega (arith, short) in
    record {
      sections = sections_told r;
      parts = parts_told r cs;
      short = short;
      framed = object_framed r fits;
      spelled = object_added r cs w fits;
      agrees = agrees;
      is = refl;
    }
