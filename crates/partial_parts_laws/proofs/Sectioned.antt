-- The sections of a relocatable object, one by one: where the bodies and segments stand in its bytes, and which relocations are the data's.
use Rattle.std.proofs.Common.{◌≡◌, ℕ, suc, ◌+◌, ◌-◌, ◌<◌, ◌==◌, eqb, Bool, true, false, List, [], ◌∷◌, ◌++◌, map, length, refl, sym, ap, ◌∙◌, subst, arith, append_assoc}
use Rattle.std.specs.Prelude.{codes, flat_map, if◌then◌else◌}
use Rattle.std.specs.List.{AllZip}
use Rattle.std.proofs.lemmas.Bool.{ne_eqb}
use Rattle.std.proofs.lemmas.List.{append-nil, length-append}
use Rattle.list_places.specs.Has.{Has}
use Rattle.name_rules.specs.object_file.wasm_module.declared.parts.Export.{Export}
use Rattle.name_rules.specs.object_file.linking_section.declared.segment.SegmentInfo.{SegmentInfo}
use Rattle.name_rules.specs.object_file.reloc_section.declared.entry.Reloc.{Reloc}
use Rattle.object_rules.specs.reloc_section.declared.section.RelocSection.{RelocSection}
use Rattle.object_rules.specs.wasm_sections.declared.section.SectionSpan.{SectionSpan}
use Rattle.object_rules.specs.object_parts.Adding.{has_id}
use Rattle.object_rules.specs.Windows.{relocs_for, start_of as start_in}
use Rattle.name_rules.specs.object_file.object_columns.declared.functions.FunctionDef.{FunctionDef}
use Rattle.name_rules.specs.object_file.object_columns.declared.segments.SegmentDef.{SegmentDef}
use Rattle.object_file.specs.Objects.{functions_from, segments_from}
use Rattle.object_file.specs.leb_codec.Shortest.{u32}
use Rattle.image_emit.specs.Bytes.{vector, sized, section, func_type, import_entry, export, header}
use Rattle.partial_rules.specs.Relocatable.{Relocatable, Windowed, body, body_head, segment, segment_head, spelled_global, linking, custom, reloc, reloc_section, section_relocs, present, code_place, data_place, relocatable_bytes}
use Rattle.partial_rules.specs.WellFormed.{Coded}
use Rattle.partial_rules.specs.Sections.{Raw, raw_bytes, raws_bytes, spans, sec, rel, linking_raw, code_rel, data_rel, raws, behind_code, behind_data, start_of, code_start, data_end, sections_told}
use Rattle.partial_rules.specs.ReadAs.{told_from, data_part, coded_bytes, rels, codes_told, data_told}
use Rattle.partial_laws.proofs.Symbols.{flat_of_map}
use Rattle.partial_parts_laws.proofs.Spans.{StandAt, bodies_at, segments_at}
use Rattle.partial_parts_laws.proofs.Windows.{own_windows}

-- ---- their bytes

pub raws_append : (a b : List Raw) → raws_bytes (a ++ b) ≡ raws_bytes a ++ raws_bytes b
raws_append [] b = refl
raws_append (s ∷ ss) b = ap (λ bytes. raw_bytes s ++ bytes) (raws_append ss b) ∙ sym (append_assoc (raw_bytes s) (raws_bytes ss) (raws_bytes b))

sec_bytes : {A : Type 0} (id : ℕ) (item : A → List ℕ) (xs : List A) → raws_bytes (sec id item xs) ≡ section id item xs
sec_bytes id item [] = refl
sec_bytes id item (x ∷ xs) =
    append-nil (id ∷ sized (vector item (x ∷ xs)))
    ∙ ap (λ (none : Bool). if none then [] else id ∷ sized (vector item (x ∷ xs))) (sym (ne_eqb (length (x ∷ xs)) 0 (λ e. absurd (omega (arith, e)))))

rel_bytes : (name : List ℕ) (target : ℕ) (xs : List Reloc) → raws_bytes (rel name target xs) ≡ reloc_section name target xs
rel_bytes name target [] = refl
rel_bytes name target (x ∷ xs) = append-nil (custom name (u32 target ++ vector reloc (x ∷ xs)))

-- one list more behind what stands
further : (before : List ℕ) (a b : List Raw) (bytes whole : List ℕ) → raws_bytes a ≡ bytes → (before ++ bytes) ++ raws_bytes b ≡ whole → before ++ raws_bytes (a ++ b) ≡ whole
further before a b bytes whole own next =
    ap (λ xs. before ++ xs) (raws_append a b) ∙ (ap (λ xs. before ++ (xs ++ raws_bytes b)) own ∙ (sym (append_assoc before bytes (raws_bytes b)) ∙ next))

pub sectioned : (r : Relocatable) → header ++ raws_bytes (raws r) ≡ relocatable_bytes r
unfolding relocatable_bytes
sectioned r =
    let c : List Raw = code_rel r ++ data_rel r in
    let l : List Raw = linking_raw r ∷ c in
    let g : List Raw = sec 11 segment r.segments ++ l in
    let f : List Raw = sec 10 body r.bodies ++ g in
    let e : List Raw = sec 7 export r.exports ++ f in
    let d : List Raw = sec 6 spelled_global r.globals ++ e in
    let b : List Raw = sec 3 (λ (n : ℕ). u32 n) r.functions ++ d in
    let a : List Raw = sec 2 import_entry r.imports ++ b in
    let h1 : List ℕ = header ++ section 1 func_type r.types in
    let h2 : List ℕ = h1 ++ section 2 import_entry r.imports in
    let h3 : List ℕ = h2 ++ section 3 (λ (n : ℕ). u32 n) r.functions in
    let h4 : List ℕ = h3 ++ section 6 spelled_global r.globals in
    let h5 : List ℕ = h4 ++ section 7 export r.exports in
    let h6 : List ℕ = h5 ++ section 10 body r.bodies in
    let h7 : List ℕ = h6 ++ section 11 segment r.segments in
    let h8 : List ℕ = h7 ++ custom (codes "linking") (linking r) in
    let code : List ℕ = reloc_section (codes "reloc.CODE") (code_place r) (section_relocs body_head r.bodies) in
    let whole : List ℕ = relocatable_bytes r in
    further header (sec 1 func_type r.types) a (section 1 func_type r.types) whole (sec_bytes 1 func_type r.types)
    (further h1 (sec 2 import_entry r.imports) b (section 2 import_entry r.imports) whole (sec_bytes 2 import_entry r.imports)
    (further h2 (sec 3 (λ (n : ℕ). u32 n) r.functions) d (section 3 (λ (n : ℕ). u32 n) r.functions) whole (sec_bytes 3 (λ (n : ℕ). u32 n) r.functions)
    (further h3 (sec 6 spelled_global r.globals) e (section 6 spelled_global r.globals) whole (sec_bytes 6 spelled_global r.globals)
    (further h4 (sec 7 export r.exports) f (section 7 export r.exports) whole (sec_bytes 7 export r.exports)
    (further h5 (sec 10 body r.bodies) g (section 10 body r.bodies) whole (sec_bytes 10 body r.bodies)
    (further h6 (sec 11 segment r.segments) l (section 11 segment r.segments) whole (sec_bytes 11 segment r.segments)
    (sym (append_assoc h7 (custom (codes "linking") (linking r)) (raws_bytes c))
    ∙ further h8 (code_rel r) (data_rel r) code whole (rel_bytes (codes "reloc.CODE") (code_place r) (section_relocs body_head r.bodies))
    (ap (λ xs. (h8 ++ code) ++ xs) (rel_bytes (codes "reloc.DATA") (data_place r) (section_relocs segment_head r.segments))))))))))

-- ---- the places of the sections of code and data

-- the section at a place, behind one that may be left out
has_behind : {A : Type 0} (want end id : ℕ) (item : A → List ℕ) (xs : List A) (ss : List Raw) (n : ℕ) → has_id want (spans end (sec id item xs ++ ss)) (present xs + n) ≡ has_id want (spans end ss) n
has_behind want end id item [] ss n = let same : 0 + n ≡ n = omega arith in ap (λ k. has_id want (spans end ss) k) same
has_behind want end id item (x ∷ xs) ss n = let same : 1 + n ≡ suc n = omega arith in ap (λ k. has_id want (spans end (sec id item (x ∷ xs) ++ ss)) k) same

has_first : {A : Type 0} (want end id : ℕ) (item : A → List ℕ) (xs : List A) (x : A) (ys : List A) (ss : List Raw) → xs ≡ x ∷ ys → has_id want (spans end (sec id item xs ++ ss)) 0 ≡ eqb id want
has_first want end id item xs x ys ss e = ap (λ xs. has_id want (spans end (sec id item xs ++ ss)) 0) e

-- sections without relocations have none behind one another
pub some_from : (head : List ℕ → List ℕ) (ws : List Windowed) (x : Reloc) (xs : List Reloc) → section_relocs head ws ≡ x ∷ xs → (w : Windowed) × (vs : List Windowed) × (ws ≡ w ∷ vs)
some_from head [] x xs e = absurd cc
some_from head (w ∷ ws) x xs e = (w, ws, refl)

to_code : (want : ℕ) (r : Relocatable) (end n : ℕ) → has_id want (spans end (raws r)) (code_place r + n) ≡ has_id want (spans end (sec 10 body r.bodies ++ behind_code r)) n
to_code want r end n =
    let f : List Raw = sec 10 body r.bodies ++ behind_code r in
    let e : List Raw = sec 7 export r.exports ++ f in
    let d : List Raw = sec 6 spelled_global r.globals ++ e in
    let b : List Raw = sec 3 (λ (n : ℕ). u32 n) r.functions ++ d in
    let a : List Raw = sec 2 import_entry r.imports ++ b in
    let k5 : ℕ = present r.exports + n in
    let k4 : ℕ = present r.globals + k5 in
    let k3 : ℕ = present r.functions + k4 in
    let k2 : ℕ = present r.imports + k3 in
    let place : code_place r + n ≡ present r.types + k2 = omega arith in
    ap (λ k. has_id want (spans end (raws r)) k) place
    ∙ (has_behind want end 1 func_type r.types a k2 ∙ (has_behind want end 2 import_entry r.imports b k3 ∙ (has_behind want end 3 (λ (n : ℕ). u32 n) r.functions d k4
    ∙ (has_behind want end 6 spelled_global r.globals e k5 ∙ has_behind want end 7 export r.exports f n))))

-- What a section of relocations names is the section of code, or of data.
pub code_is : (want : ℕ) (r : Relocatable) (end : ℕ) (x : Reloc) (xs : List Reloc) → section_relocs body_head r.bodies ≡ x ∷ xs → has_id want (spans end (raws r)) (code_place r) ≡ eqb 10 want
code_is want r end x xs e =
    let some = some_from body_head r.bodies x xs e in
    let place : code_place r ≡ code_place r + 0 = omega arith in
    ap (λ k. has_id want (spans end (raws r)) k) place ∙ (to_code want r end 0 ∙ has_first want end 10 body r.bodies some.0 some.1 (behind_code r) some.2)

pub data_is : (want : ℕ) (r : Relocatable) (end : ℕ) (x : Reloc) (xs : List Reloc) → section_relocs segment_head r.segments ≡ x ∷ xs → has_id want (spans end (raws r)) (data_place r) ≡ eqb 11 want
data_is want r end x xs e =
    let some = some_from segment_head r.segments x xs e in
    let place : data_place r ≡ code_place r + (present r.bodies + 0) = omega arith in
    ap (λ k. has_id want (spans end (raws r)) k) place
    ∙ (to_code want r end (present r.bodies + 0) ∙ (has_behind want end 10 body r.bodies (behind_code r) 0 ∙ has_first want end 11 segment r.segments some.0 some.1 (behind_data r) some.2))

-- ---- where the payload of a section stands

behind_head : (before a b f s : List ℕ) (id : ℕ) → before ++ ((id ∷ (a ++ (b ++ f))) ++ s) ≡ (before ++ (id ∷ (a ++ b))) ++ (f ++ s)
behind_head before a b f s id =
    let inner : (a ++ (b ++ f)) ++ s ≡ (a ++ b) ++ (f ++ s) = ap (λ xs. xs ++ s) (sym (append_assoc a b f)) ∙ append_assoc (a ++ b) f s in
    ap (λ xs. before ++ (id ∷ xs)) inner ∙ sym (append_assoc before (id ∷ (a ++ b)) (f ++ s))

one_section : {A : Type 0} (id : ℕ) (item : A → List ℕ) (xs : List A) (x : A) (ys : List A) (ss : List Raw) → xs ≡ x ∷ ys
    → raws_bytes (sec id item xs ++ ss) ≡ (id ∷ sized (vector item xs)) ++ raws_bytes ss
one_section id item xs x ys ss e = subst (λ zs. raws_bytes (sec id item zs ++ ss) ≡ (id ∷ sized (vector item zs)) ++ raws_bytes ss) (sym e) refl

pub record StandsIn {A : Type 0} (item : A → List ℕ) (xs : List A) (ss : List Raw) (bytes : List ℕ) : Type 0 where
  pub front : List ℕ
  pub are : bytes ≡ front ++ (flat_map item xs ++ raws_bytes ss)
  pub from : start_of (length bytes) (vector item xs) ss + length (u32 (length xs)) ≡ length front
  pub to : start_of (length bytes) (vector item xs) ss + length (vector item xs) ≡ length front + length (flat_map item xs)

pub stands_in : {A : Type 0} (id : ℕ) (item : A → List ℕ) (xs : List A) (x : A) (ys : List A) (before : List ℕ) (ss : List Raw) (bytes : List ℕ) → xs ≡ x ∷ ys → bytes ≡ before ++ raws_bytes (sec id item xs ++ ss) → StandsIn item xs ss bytes
stands_in id item xs x ys before ss bytes some is = record { front = front; are = all; from = from; to = to }
  where
    a : List ℕ
    a = u32 (length (vector item xs))

    b : List ℕ
    b = u32 (length xs)

    f : List ℕ
    f = flat_map item xs

    front : List ℕ
    front = before ++ (id ∷ (a ++ b))

    all : bytes ≡ front ++ (f ++ raws_bytes ss)
    all = is ∙ (ap (λ zs. before ++ zs) (one_section id item xs x ys ss some) ∙ behind_head before a b f (raws_bytes ss) id)

    payload : length (vector item xs) ≡ length b + length f
    payload = length-append b f

    whole : length bytes ≡ length front + (length f + length (raws_bytes ss))
    whole = ap (λ zs. length zs) all ∙ (length-append front (f ++ raws_bytes ss) ∙ ap (λ n. length front + n) (length-append f (raws_bytes ss)))

    head : length front ≡ length before + (1 + (length a + length b))
    head = omega (arith, length-append before (id ∷ (a ++ b)), length-append a b)

    start : start_of (length bytes) (vector item xs) ss ≡ length bytes - (length (vector item xs) + length (raws_bytes ss))
    start = ap (λ n. length bytes - n) (length-append (vector item xs) (raws_bytes ss))

    from : start_of (length bytes) (vector item xs) ss + length b ≡ length front
    from = omega (arith, start, whole, payload, head)

    to : start_of (length bytes) (vector item xs) ss + length (vector item xs) ≡ length front + length f
    to = omega (arith, start, whole, payload, head)

next : (before : List ℕ) (a b : List Raw) → before ++ raws_bytes (a ++ b) ≡ (before ++ raws_bytes a) ++ raws_bytes b
next before a b = ap (λ xs. before ++ xs) (raws_append a b) ∙ sym (append_assoc before (raws_bytes a) (raws_bytes b))

-- ---- the sections of code and data

module _ (r : Relocatable) where
  abbrev pub bytes : List ℕ
  bytes = relocatable_bytes r

  pub before_code : (front : List ℕ) × (bytes ≡ front ++ raws_bytes (sec 10 body r.bodies ++ behind_code r))
  before_code =
      let f : List Raw = sec 10 body r.bodies ++ behind_code r in
      let e : List Raw = sec 7 export r.exports ++ f in
      let d : List Raw = sec 6 spelled_global r.globals ++ e in
      let b : List Raw = sec 3 (λ (n : ℕ). u32 n) r.functions ++ d in
      let a : List Raw = sec 2 import_entry r.imports ++ b in
      let h1 : List ℕ = header ++ raws_bytes (sec 1 func_type r.types) in
      let h2 : List ℕ = h1 ++ raws_bytes (sec 2 import_entry r.imports) in
      let h3 : List ℕ = h2 ++ raws_bytes (sec 3 (λ (n : ℕ). u32 n) r.functions) in
      let h4 : List ℕ = h3 ++ raws_bytes (sec 6 spelled_global r.globals) in (
        h4 ++ raws_bytes (sec 7 export r.exports),
        sym (sectioned r) ∙ (next header (sec 1 func_type r.types) a ∙ (next h1 (sec 2 import_entry r.imports) b ∙ (next h2 (sec 3 (λ (n : ℕ). u32 n) r.functions) d
            ∙ (next h3 (sec 6 spelled_global r.globals) e ∙ next h4 (sec 7 export r.exports) f)))),
      )

  pub before_data : (front : List ℕ) × (bytes ≡ front ++ raws_bytes (sec 11 segment r.segments ++ behind_data r))
  before_data = (before_code.0 ++ raws_bytes (sec 10 body r.bodies), before_code.1 ∙ next before_code.0 (sec 10 body r.bodies) (behind_code r))

  flat_coded : (cs : List Coded) → flat_map body (map {A = Coded} {B = Windowed} (λ c. c.windowed) cs) ≡ flat_map coded_bytes cs
  flat_coded cs = flat_of_map (λ (c : Coded). c.windowed) body cs

  -- each body where it is told to stand
  pub bodies_placed : (cs : List Coded) → r.bodies ≡ map {A = Coded} {B = Windowed} (λ c. c.windowed) cs → (exports : List Export) (index : ℕ) (types : List ℕ) → length types ≡ length cs
      → AllZip (λ (c : Coded) (f : FunctionDef). StandAt bytes c.windowed.bytes f.span) cs (functions_from exports index types (codes_told r cs))
  bodies_placed [] are exports index [] same = tt
  bodies_placed [] are exports index (t ∷ types) same = absurd (omega (arith, same))
  bodies_placed (c ∷ cs) are exports index types same =
      let s = stands_in 10 body r.bodies c.windowed (map {A = Coded} {B = Windowed} (λ c. c.windowed) cs) before_code.0 (behind_code r) bytes are before_code.1 in
      let flat : flat_map body r.bodies ≡ flat_map coded_bytes (c ∷ cs) = ap (flat_map body) are ∙ flat_coded (c ∷ cs) in
      bodies_at bytes (raws_bytes (behind_code r)) exports index (code_start (length bytes) r + length (vector body r.bodies)) s.front types (c ∷ cs) same
      (s.are ∙ ap (λ xs. s.front ++ (xs ++ raws_bytes (behind_code r))) flat)
      (s.to ∙ ap (λ xs. length s.front + length xs) flat)

  -- ---- segments

  start_skips : {A : Type 0} (end id : ℕ) (item : A → List ℕ) (xs : List A) (ss : List Raw) → (id == 11) ≡ false → start_in 11 (spans end (sec id item xs ++ ss)) ≡ start_in 11 (spans end ss)
  start_skips end id item [] ss other = refl
  start_skips end id item (x ∷ xs) ss other =
      ap (λ (b : Bool). if b then end - length (vector item (x ∷ xs) ++ raws_bytes ss) else start_in 11 (spans end ss)) other

  data_first : (end : ℕ) (xs : List Windowed) (w : Windowed) (ws : List Windowed) (ss : List Raw) → xs ≡ w ∷ ws → start_in 11 (spans end (sec 11 segment xs ++ ss)) ≡ start_of end (vector segment xs) ss
  data_first end xs w ws ss some = subst (λ zs. start_in 11 (spans end (sec 11 segment zs ++ ss)) ≡ start_of end (vector segment zs) ss) (sym some) refl

  pub data_start : (w : Windowed) (ws : List Windowed) → r.segments ≡ w ∷ ws → start_in 11 (sections_told r) ≡ start_of (length bytes) (vector segment r.segments) (behind_data r)
  data_start w ws some =
      let end : ℕ = length bytes in
      let f : List Raw = sec 10 body r.bodies ++ behind_code r in
      let e : List Raw = sec 7 export r.exports ++ f in
      let d : List Raw = sec 6 spelled_global r.globals ++ e in
      let b : List Raw = sec 3 (λ (n : ℕ). u32 n) r.functions ++ d in
      let a : List Raw = sec 2 import_entry r.imports ++ b in
      start_skips end 1 func_type r.types a refl ∙ (start_skips end 2 import_entry r.imports b refl ∙ (start_skips end 3 (λ (n : ℕ). u32 n) r.functions d refl
      ∙ (start_skips end 6 spelled_global r.globals e refl ∙ (start_skips end 7 export r.exports f refl ∙ (start_skips end 10 body r.bodies (behind_code r) refl
      ∙ data_first end r.segments w ws (behind_data r) some)))))

  by_other : (all : List SectionSpan) (target : ℕ) (xs : List Reloc) (rest : List RelocSection) → ((x : Reloc) (ys : List Reloc) → xs ≡ x ∷ ys → has_id 11 all target ≡ false)
      → relocs_for 11 all (rels target xs ++ rest) ≡ relocs_for 11 all rest
  by_other all target [] rest other = refl
  by_other all target (x ∷ xs) rest other = ap (λ (b : Bool). if b then x ∷ xs else relocs_for 11 all rest) (other x xs refl)

  by_own : (all : List SectionSpan) (target : ℕ) (xs : List Reloc) → ((x : Reloc) (ys : List Reloc) → xs ≡ x ∷ ys → has_id 11 all target ≡ true) → relocs_for 11 all (rels target xs) ≡ xs
  by_own all target [] own = refl
  by_own all target (x ∷ xs) own = ap (λ (b : Bool). if b then x ∷ xs else relocs_for 11 all []) (own x xs refl)

  -- The relocations for the data are those of the segments.
  pub data_relocs : relocs_for 11 (sections_told r) (rels (code_place r) (section_relocs body_head r.bodies) ++ rels (data_place r) (section_relocs segment_head r.segments)) ≡ section_relocs segment_head r.segments
  data_relocs =
      by_other (sections_told r) (code_place r) (section_relocs body_head r.bodies) (rels (data_place r) (section_relocs segment_head r.segments)) (code_is 11 r (length bytes))
      ∙ by_own (sections_told r) (data_place r) (section_relocs segment_head r.segments) (data_is 11 r (length bytes))

  abbrev pub segment_defs : List SegmentInfo → List SegmentDef
  segment_defs infos = segments_from (start_in 11 (sections_told r)) (section_relocs segment_head r.segments) infos (data_told r)

  pub segments_placed : (ws : List Windowed) → r.segments ≡ ws → (infos : List SegmentInfo) → AllZip (λ (w : Windowed) (g : SegmentDef). StandAt bytes w.bytes g.span) r.segments (segment_defs infos)
  segments_placed [] none infos =
      subst (λ ws. AllZip (λ (w : Windowed) (g : SegmentDef). StandAt bytes w.bytes g.span) ws (segments_from (start_in 11 (sections_told r)) (section_relocs segment_head ws) infos (told_from (data_part (data_end (length bytes) r)) segment ws))) (sym none) tt
  segments_placed (w ∷ ws) some infos =
      let s = stands_in 11 segment r.segments w ws before_data.0 (behind_data r) bytes some before_data.1 in
      segments_at bytes (raws_bytes (behind_data r)) (start_in 11 (sections_told r)) (data_end (length bytes) r) s.front (section_relocs segment_head r.segments) infos r.segments s.are s.to

  pub segments_windowed : (ws : List Windowed) → r.segments ≡ ws → (infos : List SegmentInfo) → ((w : Windowed) → Has r.segments w → (x : Reloc) → Has w.relocs x → x.offset < length w.bytes)
      → AllZip (λ (w : Windowed) (g : SegmentDef). g.windows ≡ w.relocs) r.segments (segment_defs infos)
  segments_windowed [] none infos inside =
      subst (λ ws. AllZip (λ (w : Windowed) (g : SegmentDef). g.windows ≡ w.relocs) ws (segments_from (start_in 11 (sections_told r)) (section_relocs segment_head ws) infos (told_from (data_part (data_end (length bytes) r)) segment ws))) (sym none) tt
  segments_windowed (w ∷ ws) some infos inside =
      let s = stands_in 11 segment r.segments w ws before_data.0 (behind_data r) bytes some before_data.1 in
      own_windows (start_in 11 (sections_told r)) (length (u32 (length r.segments))) (data_end (length bytes) r) infos r.segments (omega (arith, s.from, s.to, data_start w ws some)) inside
