-- The bytes of a relocatable object are a header and a list of sections, in Core's order.
use Rattle.std.proofs.Common.{◌≡◌, ℕ, ◌<◌, ◌≤◌, List, [], ◌∷◌, ◌++◌, length, refl, sym, ap, subst, ◌∙◌, arith, append_assoc, Bool, max}
use Rattle.std.specs.Prelude.{codes, if◌then◌else◌}
use Rattle.std.proofs.lemmas.Bool.{ne_eqb}
use Rattle.std.proofs.lemmas.List.{append-nil}
use Rattle.object_file.specs.leb_codec.Shortest.{u32}
use Rattle.reloc_section.specs.declared.entry.Reloc.{Reloc}
use Rattle.wasm_sections.specs.Sections.{rank_of, IsFrame, header}
use Rattle.image_emit.specs.Bytes.{sized, vector, section, func_type, import_entry, export}
use Rattle.partial_rules.specs.Relocatable.{Relocatable, spelled_global, body, segment, linking, custom, reloc, reloc_section, code_place, data_place, section_relocs, body_head, segment_head, relocatable_bytes}
use Rattle.partial_rules.specs.Sections.{Raw, raw_bytes, raws_bytes, spans, sec, rel, linking_raw, code_rel, data_rel, raws}
use Rattle.partial_rules.proofs.Spelling.{Fits}
use Rattle.partial_rules.proofs.Framing.{InOrder, order_low, order_custom, framed}

-- ---- their bytes

pub raws_append : (a b : List Raw) → raws_bytes (a ++ b) ≡ raws_bytes a ++ raws_bytes b
raws_append [] b = refl
raws_append (s ∷ ss) b = ap (λ bytes. raw_bytes s ++ bytes) (raws_append ss b) ∙ sym (append_assoc (raw_bytes s) (raws_bytes ss) (raws_bytes b))

sec_bytes : {A : Type 0} (id : ℕ) (item : A → List ℕ) (xs : List A) → raws_bytes (sec id item xs) ≡ section id item xs
sec_bytes id item [] = refl
sec_bytes id item (x ∷ xs) =
    append-nil (id ∷ sized (vector item (x ∷ xs)))
    ∙ ap (λ (none : Bool). if none then [] else id ∷ sized (vector item (x ∷ xs))) (sym (ne_eqb (length (x ∷ xs)) 0 (λ e. absurd (omega (arith, e)))))

rel_bytes : (name : List ℕ) (target : ℕ) (xs : List Reloc) → raws_bytes (rel name target xs) ≡ reloc_section name target xs
rel_bytes name target [] = refl
rel_bytes name target (x ∷ xs) = append-nil (custom name (u32 target ++ vector reloc (x ∷ xs)))

-- one list more behind what stands
further : (before : List ℕ) (a b : List Raw) (bytes whole : List ℕ) → raws_bytes a ≡ bytes → (before ++ bytes) ++ raws_bytes b ≡ whole → before ++ raws_bytes (a ++ b) ≡ whole
further before a b bytes whole own next =
    ap (λ xs. before ++ xs) (raws_append a b) ∙ (ap (λ xs. before ++ (xs ++ raws_bytes b)) own ∙ (sym (append_assoc before bytes (raws_bytes b)) ∙ next))

pub sectioned : (r : Relocatable) → header ++ raws_bytes (raws r) ≡ relocatable_bytes r
unfolding relocatable_bytes
sectioned r =
    let c : List Raw = code_rel r ++ data_rel r in
    let l : List Raw = linking_raw r ∷ c in
    let g : List Raw = sec 11 segment r.segments ++ l in
    let f : List Raw = sec 10 body r.bodies ++ g in
    let e : List Raw = sec 7 export r.exports ++ f in
    let d : List Raw = sec 6 spelled_global r.globals ++ e in
    let b : List Raw = sec 3 (λ (n : ℕ). u32 n) r.functions ++ d in
    let a : List Raw = sec 2 import_entry r.imports ++ b in
    let h1 : List ℕ = header ++ section 1 func_type r.types in
    let h2 : List ℕ = h1 ++ section 2 import_entry r.imports in
    let h3 : List ℕ = h2 ++ section 3 (λ (n : ℕ). u32 n) r.functions in
    let h4 : List ℕ = h3 ++ section 6 spelled_global r.globals in
    let h5 : List ℕ = h4 ++ section 7 export r.exports in
    let h6 : List ℕ = h5 ++ section 10 body r.bodies in
    let h7 : List ℕ = h6 ++ section 11 segment r.segments in
    let h8 : List ℕ = h7 ++ custom (codes "linking") (linking r) in
    let code : List ℕ = reloc_section (codes "reloc.CODE") (code_place r) (section_relocs body_head r.bodies) in
    let whole : List ℕ = relocatable_bytes r in
    further header (sec 1 func_type r.types) a (section 1 func_type r.types) whole (sec_bytes 1 func_type r.types)
    (further h1 (sec 2 import_entry r.imports) b (section 2 import_entry r.imports) whole (sec_bytes 2 import_entry r.imports)
    (further h2 (sec 3 (λ (n : ℕ). u32 n) r.functions) d (section 3 (λ (n : ℕ). u32 n) r.functions) whole (sec_bytes 3 (λ (n : ℕ). u32 n) r.functions)
    (further h3 (sec 6 spelled_global r.globals) e (section 6 spelled_global r.globals) whole (sec_bytes 6 spelled_global r.globals)
    (further h4 (sec 7 export r.exports) f (section 7 export r.exports) whole (sec_bytes 7 export r.exports)
    (further h5 (sec 10 body r.bodies) g (section 10 body r.bodies) whole (sec_bytes 10 body r.bodies)
    (further h6 (sec 11 segment r.segments) l (section 11 segment r.segments) whole (sec_bytes 11 segment r.segments)
    (sym (append_assoc h7 (custom (codes "linking") (linking r)) (raws_bytes c))
    ∙ further h8 (code_rel r) (data_rel r) code whole (rel_bytes (codes "reloc.CODE") (code_place r) (section_relocs body_head r.bodies))
    (ap (λ xs. (h8 ++ code) ++ xs) (rel_bytes (codes "reloc.DATA") (data_place r) (section_relocs segment_head r.segments))))))))))

-- ---- their order

sec_order : {A : Type 0} (last id : ℕ) (item : A → List ℕ) (xs : List A) (ss : List Raw) → last < rank_of id → id ≤ 13 → InOrder (rank_of id) ss → InOrder last (sec id item xs ++ ss)
sec_order last id item [] ss low few order = order_low last (rank_of id) ss (omega (arith, low)) order
sec_order last id item (x ∷ xs) ss low few order =
    let top : max (rank_of id) last ≡ rank_of id = omega (arith, low) in
    (λ some. low, few, subst (λ r. InOrder r ss) (sym top) order)

rel_order : (last : ℕ) (name : List ℕ) (target : ℕ) (xs : List Reloc) (ss : List Raw) → InOrder last ss → InOrder last (rel name target xs ++ ss)
rel_order last name target [] ss order = order
rel_order last name target (x ∷ xs) ss order = order_custom last (sized name ++ (u32 target ++ vector reloc (x ∷ xs))) ss order

last_order : (last : ℕ) (name : List ℕ) (target : ℕ) (xs : List Reloc) → InOrder last (rel name target xs)
last_order last name target [] = tt
last_order last name target (x ∷ xs) = order_custom last (sized name ++ (u32 target ++ vector reloc (x ∷ xs))) [] tt

pub in_order : (r : Relocatable) → InOrder 0 (raws r)
in_order r =
    let c : List Raw = code_rel r ++ data_rel r in
    let l : List Raw = linking_raw r ∷ c in
    let g : List Raw = sec 11 segment r.segments ++ l in
    let f : List Raw = sec 10 body r.bodies ++ g in
    let e : List Raw = sec 7 export r.exports ++ f in
    let d : List Raw = sec 6 spelled_global r.globals ++ e in
    let b : List Raw = sec 3 (λ (n : ℕ). u32 n) r.functions ++ d in
    let a : List Raw = sec 2 import_entry r.imports ++ b in
    sec_order 0 1 func_type r.types a (omega arith) (omega arith)
    (sec_order 1 2 import_entry r.imports b (omega arith) (omega arith)
    (sec_order 2 3 (λ (n : ℕ). u32 n) r.functions d (omega arith) (omega arith)
    (sec_order 3 6 spelled_global r.globals e (omega arith) (omega arith)
    (sec_order 7 7 export r.exports f (omega arith) (omega arith)
    (sec_order 8 10 body r.bodies g (omega arith) (omega arith)
    (sec_order 12 11 segment r.segments l (omega arith) (omega arith)
    (order_custom 13 (sized (codes "linking") ++ linking r) c
    (rel_order 13 (codes "reloc.CODE") (code_place r) (section_relocs body_head r.bodies) (data_rel r)
    (last_order 13 (codes "reloc.DATA") (data_place r) (section_relocs segment_head r.segments))))))))))

-- So they are a frame.
pub object_framed : (r : Relocatable) → Fits (relocatable_bytes r) → IsFrame (spans (length (relocatable_bytes r)) (raws r)) (relocatable_bytes r)
object_framed r fits =
    subst (λ bytes. IsFrame (spans (length bytes) (raws r)) bytes) (sectioned r) (framed (raws r) (in_order r) (subst Fits (sym (sectioned r)) fits))
