-- The sections of a relocatable object add its parts.
use Rattle.std.proofs.Common.{rules, eqb, ◌≡◌, ℕ, suc, ◌+◌, ◌<◌, List, [], ◌∷◌, ◌++◌, length, refl, sym, ap, subst, ◌∙◌, arith, true, false}
use Rattle.std.specs.Prelude.{codes, None, IsUtf8}
use Rattle.std.proofs.lemmas.Str.{IsUtf8-from_ascii}
use Rattle.std.proofs.lemmas.List.{append-nil}
use Rattle.object_file.specs.leb_codec.Shortest.{u32}
use Rattle.wasm_instr.proofs.leb_codec_lemmas.Computed.{u32_spells}
use Rattle.wasm_instr.specs.wasm_grammar.Grammar.{SpellsU32, SpellsName, SpellsVector}
use Rattle.wasm_instr.specs.wasm_types.declared.function.FuncType.{FuncType}
use Rattle.wasm_instr.specs.wasm_types.declared.import.Import.{Import}
use Rattle.wasm_instr.specs.wasm_types.Types.{SpellsFuncType}
use Rattle.wasm_sections.specs.declared.section.SectionSpan.{SectionSpan}
use Rattle.wasm_module.specs.declared.parts.Export.{Export}
use Rattle.wasm_module.specs.Parts.{SpellsExport}
use Rattle.linking_section.specs.Linking.{SpellsLinking}
use Rattle.reloc_section.specs.declared.entry.Reloc.{Reloc}
use Rattle.reloc_section.specs.declared.section.RelocSection.{RelocSection}
use Rattle.reloc_section.specs.Relocs.{SpellsRelocSection}
use Rattle.object_parts.specs.declared.parts.GlobalDef.{GlobalDef}
use Rattle.object_parts.specs.declared.parts.DataPart.{DataPart}
use Rattle.object_parts.specs.declared.parts.CodeBody.{CodeBody}
use Rattle.object_parts.specs.declared.parts.Parts.{Parts}
use Rattle.object_parts.specs.Kinds.{kind_of, custom_kind_of}
use Rattle.object_parts.specs.Adding.{AddsKind, no_parts, has_id, AddsCustom, SpellsRelocsFor}
use Rattle.wasm_sections.specs.Sections.{header}
use Rattle.object_parts.specs.Sections.{AddInTurn}
use Rattle.object_parts.specs.Turns.{AreEntries}
use Rattle.object_parts.specs.Imports.{SpellsObjectImport, seen_import, none_seen}
use Rattle.object_parts.specs.Placed.{SpellsGlobalDef, SpellsDataPart, stays}
use Rattle.object_parts.specs.Code.{SpellsCodeBody, left_behind}
use Rattle.image_emit.specs.Bytes.{sized, vector, func_type, import_entry, export}
use Rattle.object_parts.specs.declared.kind.CustomKind.TheVariants as customs
use Rattle.partial_rules.specs.Relocatable.{Relocatable, Windowed, present, relocatable_bytes, spelled_global, body, segment, linking, reloc, code_place, data_place, section_relocs, body_head, segment_head}
use Rattle.partial_rules.specs.ReadAs.{linking_for, rels, read_parts}
use Rattle.partial_rules.specs.Sections.{Raw, spans, sec, rel, code_rel, data_rel, raws, behind_data, behind_code, start_of, globals_end, code_start, data_end}
use Rattle.partial_rules.proofs.Adding.{payload_span, AddAll, adds_in_turn}
use Rattle.partial_rules.proofs.Sectioned.{sectioned}

-- a section of entries adds them, where there are some
add_sec : {A : Type 0} (all : List SectionSpan) (relocs : List Reloc) (end id : ℕ) (item : A → List ℕ) (xs : List A) (rest : List Raw) (parts mid after : Parts)
    → (xs ≡ [] → mid ≡ parts) → AddsKind all relocs (kind_of id) parts (payload_span end (record { id = id; payload = vector item xs }) rest) (vector item xs) mid
    → AddAll all relocs end mid rest after → AddAll all relocs end parts (sec id item xs ++ rest) after
add_sec all relocs end id item [] rest parts mid after none some next = subst (λ p. AddAll all relocs end p rest after) (none refl) next
add_sec all relocs end id item (x ∷ xs) rest parts mid after none some next = (mid, some, next)

-- the parts so far
abbrev pub parts_of : List FuncType → List Import → List ℕ → List GlobalDef → List Export → List CodeBody → List DataPart → Parts
parts_of ts is fs gs es bs ds = record {
  types = ts;
  imports = is;
  functions = fs;
  globals = gs;
  exports = es;
  elements = [];
  data_count = None;
  bodies = bs;
  segments = ds;
  linking = None;
  relocs = [];
  in_order = true;
}

add_rel : (all : List SectionSpan) (relocs : List Reloc) (end : ℕ) (name : List ℕ) (target : ℕ) (xs : List Reloc) (rest : List Raw) (r : Relocatable) (gs : List GlobalDef) (bs : List CodeBody) (ds : List DataPart) (rs : List RelocSection) (after : Parts)
    → custom_kind_of name ≡ customs.Relocs → SpellsName name (sized name) → ((x : Reloc) (ys : List Reloc) → xs ≡ x ∷ ys → has_id 0 all target ≡ false)
    → SpellsRelocSection (record { target = target; entries = xs }) (u32 target ++ vector reloc xs)
    → AddAll all relocs end (read_parts r gs bs ds (rs ++ rels target xs)) rest after → AddAll all relocs end (read_parts r gs bs ds rs) (rel name target xs ++ rest) after
add_rel all relocs end name target [] rest r gs bs ds rs after kind named other spelled next =
    subst (λ rs. AddAll all relocs end (read_parts r gs bs ds rs) rest after) (append-nil rs) next
add_rel all relocs end name target (x ∷ xs) rest r gs bs ds rs after kind named other spelled next =
    let s : RelocSection = record { target = target; entries = x ∷ xs } in
    let bytes : List ℕ = u32 target ++ vector reloc (x ∷ xs) in
    let mid : Parts = read_parts r gs bs ds (rs ++ s ∷ []) in (
      mid,
      (
        name,
        sized name,
        bytes,
        named,
        refl,
        subst (λ k. AddsCustom all k (read_parts r gs bs ds rs) bytes mid) (sym kind) (s, subst (λ b. SpellsRelocsFor b s bytes) (sym (other x xs refl)) spelled, refl),
      ),
      next,
    )

-- What the sections of the object spell, each where it stands.
pub record AreSpelled (r : Relocatable) (relocs : List Reloc) (end : ℕ) (gs : List GlobalDef) (bs : List CodeBody) (ds : List DataPart) : Type 0 where
  pub types : SpellsVector SpellsFuncType r.types (vector func_type r.types)
  pub imports : (end : ℕ) → AreEntries SpellsObjectImport seen_import none_seen end r.imports (vector import_entry r.imports)
  pub functions : SpellsVector SpellsU32 r.functions (vector (λ (n : ℕ). u32 n) r.functions)
  pub globals : AreEntries SpellsGlobalDef stays tt (globals_end end r) gs (vector spelled_global r.globals)
  pub exports : SpellsVector SpellsExport r.exports (vector export r.exports)
  pub bodies : AreEntries (SpellsCodeBody (code_start end r)) (left_behind (code_start end r)) relocs (code_start end r + length (vector body r.bodies)) bs (vector body r.bodies)
  pub segments : AreEntries SpellsDataPart stays tt (data_end end r) ds (vector segment r.segments)
  pub no_globals : r.globals ≡ [] → gs ≡ []
  pub no_bodies : r.bodies ≡ [] → bs ≡ []
  pub no_segments : r.segments ≡ [] → ds ≡ []
  pub linked : SpellsLinking (linking_for r) (linking r)
  pub coded : SpellsRelocSection (record { target = code_place r; entries = section_relocs body_head r.bodies }) (u32 (code_place r) ++ vector reloc (section_relocs body_head r.bodies))
  pub datums : SpellsRelocSection (record { target = data_place r; entries = section_relocs segment_head r.segments }) (u32 (data_place r) ++ vector reloc (section_relocs segment_head r.segments))

-- a short name
pub named : (name : List ℕ) → IsUtf8 name → length name < 128 → SpellsName name (sized name)
named name utf8 few = (utf8, (u32 (length name), name, u32_spells (length name) (omega (arith, few)), refl, refl))

pub utf_l : IsUtf8 (codes "linking")
utf_l = IsUtf8-from_ascii (codes "linking") (search rules)

pub utf_c : IsUtf8 (codes "reloc.CODE")
utf_c = IsUtf8-from_ascii (codes "reloc.CODE") (search rules)

pub utf_d : IsUtf8 (codes "reloc.DATA")
utf_d = IsUtf8-from_ascii (codes "reloc.DATA") (search rules)

-- ---- the places of the sections of code and data

-- the section at a place, behind one that may be left out
has_behind : {A : Type 0} (want end id : ℕ) (item : A → List ℕ) (xs : List A) (ss : List Raw) (n : ℕ) → has_id want (spans end (sec id item xs ++ ss)) (present xs + n) ≡ has_id want (spans end ss) n
has_behind want end id item [] ss n = let same : 0 + n ≡ n = omega arith in ap (λ k. has_id want (spans end ss) k) same
has_behind want end id item (x ∷ xs) ss n = let same : 1 + n ≡ suc n = omega arith in ap (λ k. has_id want (spans end (sec id item (x ∷ xs) ++ ss)) k) same

has_first : {A : Type 0} (want end id : ℕ) (item : A → List ℕ) (xs : List A) (x : A) (ys : List A) (ss : List Raw) → xs ≡ x ∷ ys → has_id want (spans end (sec id item xs ++ ss)) 0 ≡ eqb id want
has_first want end id item xs x ys ss e = ap (λ xs. has_id want (spans end (sec id item xs ++ ss)) 0) e

-- sections without relocations have none behind one another
some_from : (head : List ℕ → List ℕ) (ws : List Windowed) (x : Reloc) (xs : List Reloc) → section_relocs head ws ≡ x ∷ xs → (w : Windowed) × (vs : List Windowed) × (ws ≡ w ∷ vs)
some_from head [] x xs e = absurd cc
some_from head (w ∷ ws) x xs e = (w, ws, refl)

to_code : (want : ℕ) (r : Relocatable) (end n : ℕ) → has_id want (spans end (raws r)) (code_place r + n) ≡ has_id want (spans end (sec 10 body r.bodies ++ behind_code r)) n
to_code want r end n =
    let f : List Raw = sec 10 body r.bodies ++ behind_code r in
    let e : List Raw = sec 7 export r.exports ++ f in
    let d : List Raw = sec 6 spelled_global r.globals ++ e in
    let b : List Raw = sec 3 (λ (n : ℕ). u32 n) r.functions ++ d in
    let a : List Raw = sec 2 import_entry r.imports ++ b in
    let k5 : ℕ = present r.exports + n in
    let k4 : ℕ = present r.globals + k5 in
    let k3 : ℕ = present r.functions + k4 in
    let k2 : ℕ = present r.imports + k3 in
    let place : code_place r + n ≡ present r.types + k2 = omega arith in
    ap (λ k. has_id want (spans end (raws r)) k) place
    ∙ (has_behind want end 1 func_type r.types a k2 ∙ (has_behind want end 2 import_entry r.imports b k3 ∙ (has_behind want end 3 (λ (n : ℕ). u32 n) r.functions d k4
    ∙ (has_behind want end 6 spelled_global r.globals e k5 ∙ has_behind want end 7 export r.exports f n))))

-- What a section of relocations names is the section of code, or of data.
pub code_is : (want : ℕ) (r : Relocatable) (end : ℕ) (x : Reloc) (xs : List Reloc) → section_relocs body_head r.bodies ≡ x ∷ xs → has_id want (spans end (raws r)) (code_place r) ≡ eqb 10 want
code_is want r end x xs e =
    let some = some_from body_head r.bodies x xs e in
    let place : code_place r ≡ code_place r + 0 = omega arith in
    ap (λ k. has_id want (spans end (raws r)) k) place ∙ (to_code want r end 0 ∙ has_first want end 10 body r.bodies some.0 some.1 (behind_code r) some.2)

pub data_is : (want : ℕ) (r : Relocatable) (end : ℕ) (x : Reloc) (xs : List Reloc) → section_relocs segment_head r.segments ≡ x ∷ xs → has_id want (spans end (raws r)) (data_place r) ≡ eqb 11 want
data_is want r end x xs e =
    let some = some_from segment_head r.segments x xs e in
    let place : data_place r ≡ code_place r + (present r.bodies + 0) = omega arith in
    ap (λ k. has_id want (spans end (raws r)) k) place
    ∙ (to_code want r end (present r.bodies + 0) ∙ (has_behind want end 10 body r.bodies (behind_code r) 0 ∙ has_first want end 11 segment r.segments some.0 some.1 (behind_data r) some.2))

-- ---- all

adds_all : (r : Relocatable) (relocs : List Reloc) (end : ℕ) (gs : List GlobalDef) (bs : List CodeBody) (ds : List DataPart) → AreSpelled r relocs end gs bs ds
    → AddAll (spans end (raws r)) relocs end no_parts (raws r) (read_parts r gs bs ds (rels (code_place r) (section_relocs body_head r.bodies) ++ rels (data_place r) (section_relocs segment_head r.segments)))
adds_all r relocs end gs bs ds s =
    let all : List SectionSpan = spans end (raws r) in
    let cs : List Reloc = section_relocs body_head r.bodies in
    let es : List Reloc = section_relocs segment_head r.segments in
    let after : Parts = read_parts r gs bs ds (rels (code_place r) cs ++ rels (data_place r) es) in
    let g : List Raw = behind_code r in
    let f : List Raw = sec 10 body r.bodies ++ g in
    let e : List Raw = sec 7 export r.exports ++ f in
    let d : List Raw = sec 6 spelled_global r.globals ++ e in
    let b : List Raw = sec 3 (λ (n : ℕ). u32 n) r.functions ++ d in
    let a : List Raw = sec 2 import_entry r.imports ++ b in
    let p1 : Parts = parts_of r.types [] [] [] [] [] [] in
    let p2 : Parts = parts_of r.types r.imports [] [] [] [] [] in
    let p3 : Parts = parts_of r.types r.imports r.functions [] [] [] [] in
    let p4 : Parts = parts_of r.types r.imports r.functions gs [] [] [] in
    let p5 : Parts = parts_of r.types r.imports r.functions gs r.exports [] [] in
    let p6 : Parts = parts_of r.types r.imports r.functions gs r.exports bs [] in
    let p7 : Parts = parts_of r.types r.imports r.functions gs r.exports bs ds in
    let at_data : AddAll all relocs end (read_parts r gs bs ds (rels (code_place r) cs)) (data_rel r) after =
    subst (λ ss. AddAll all relocs end (read_parts r gs bs ds (rels (code_place r) cs)) ss after) (append-nil (data_rel r))
    (add_rel all relocs end (codes "reloc.DATA") (data_place r) es [] r gs bs ds (rels (code_place r) cs) after refl (named (codes "reloc.DATA") utf_d (omega arith)) (data_is 0 r end) s.datums refl) in
    let at_code : AddAll all relocs end (read_parts r gs bs ds []) (code_rel r ++ data_rel r) after =
    add_rel all relocs end (codes "reloc.CODE") (code_place r) cs (data_rel r) r gs bs ds [] after refl (named (codes "reloc.CODE") utf_c (omega arith)) (code_is 0 r end) s.coded at_data in
    let at_linking : AddAll all relocs end p7 (behind_data r) after = (
      read_parts r gs bs ds [],
      (codes "linking", sized (codes "linking"), linking r, named (codes "linking") utf_l (omega arith), refl, (linking_for r, s.linked, refl)),
      at_code,
    ) in
    add_sec all relocs end 1 func_type r.types a no_parts p1 after (λ e. ap (λ ts. parts_of ts [] [] [] [] [] []) e) (r.types, s.types, refl)
    (add_sec all relocs end 2 import_entry r.imports b p1 p2 after (λ e. ap (λ is. parts_of r.types is [] [] [] [] []) e) (r.imports, s.imports (start_of end (vector import_entry r.imports) b + length (vector import_entry r.imports)), refl)
    (add_sec all relocs end 3 (λ (n : ℕ). u32 n) r.functions d p2 p3 after (λ e. ap (λ fs. parts_of r.types r.imports fs [] [] [] []) e) (r.functions, s.functions, refl)
    (add_sec all relocs end 6 spelled_global r.globals e p3 p4 after (λ e. ap (λ gs. parts_of r.types r.imports r.functions gs [] [] []) (s.no_globals e)) (gs, s.globals, refl)
    (add_sec all relocs end 7 export r.exports f p4 p5 after (λ e. ap (λ es. parts_of r.types r.imports r.functions gs es [] []) e) (r.exports, s.exports, refl)
    (add_sec all relocs end 10 body r.bodies g p5 p6 after (λ e. ap (λ bs. parts_of r.types r.imports r.functions gs r.exports bs []) (s.no_bodies e)) (bs, s.bodies, refl)
    (add_sec all relocs end 11 segment r.segments (behind_data r) p6 p7 after (λ e. ap (λ ds. parts_of r.types r.imports r.functions gs r.exports bs ds) (s.no_segments e)) (ds, s.segments, refl)
    at_linking))))))

-- So the bytes of the object tell its parts, section by section.
pub parts_added : (r : Relocatable) (relocs : List Reloc) (gs : List GlobalDef) (bs : List CodeBody) (ds : List DataPart) → AreSpelled r relocs (length (relocatable_bytes r)) gs bs ds
    → AddInTurn (spans (length (relocatable_bytes r)) (raws r)) relocs (relocatable_bytes r) no_parts (spans (length (relocatable_bytes r)) (raws r))
    (read_parts r gs bs ds (rels (code_place r) (section_relocs body_head r.bodies) ++ rels (data_place r) (section_relocs segment_head r.segments)))
parts_added r relocs gs bs ds s =
    let bytes : List ℕ = relocatable_bytes r in
    adds_in_turn (spans (length bytes) (raws r)) relocs header (raws r) bytes no_parts
    (read_parts r gs bs ds (rels (code_place r) (section_relocs body_head r.bodies) ++ rels (data_place r) (section_relocs segment_head r.segments)))
    (sym (sectioned r)) (adds_all r relocs (length bytes) gs bs ds s)
