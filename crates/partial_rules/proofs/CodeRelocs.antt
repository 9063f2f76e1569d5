-- The relocations that an object's code is read with are those of its bodies.
use Rattle.std.proofs.Common.{◌≡◌, ℕ, List, [], ◌∷◌, ◌++◌, length, refl, sym, ap, ◌∙◌, arith, append_assoc, Bool, true, false, eqb}
use Rattle.std.specs.Prelude.{codes, Option, Some, None, if◌then◌else◌, ◌==◌}
use Rattle.object_file.specs.leb_codec.Shortest.{u32}
use Rattle.wasm_instr.specs.wasm_grammar.Grammar.{SpellsU32, SpellsName}
use Rattle.wasm_instr.specs.wasm_grammar.Reading.{name_at, u32_at}
use Rattle.wasm_instr.specs.wasm_grammar.ReaderLaws.{u32_reader, name_reader}
use Rattle.wasm_sections.specs.declared.section.SectionSpan.{SectionSpan}
use Rattle.wasm_sections.specs.Sections.{header}
use Rattle.reloc_section.specs.declared.entry.Reloc.{Reloc}
use Rattle.reloc_section.specs.Relocs.{SpellsRelocSection, relocs_at}
use Rattle.reloc_section.specs.RelocLaws.{relocs_again}
use Rattle.object_parts.specs.Kinds.{custom_kind_of}
use Rattle.object_parts.specs.Adding.{has_id, end_of}
use Rattle.object_parts.specs.Sections.{bytes_in}
use Rattle.object_parts.specs.Reading.{entries_or_none, code_target, code_relocs_of, code_relocs_named, or_else, code_relocs}
use Rattle.image_emit.specs.Bytes.{sized, vector, func_type, import_entry, export}
use Rattle.object_parts.specs.declared.kind.CustomKind.TheVariants as customs
use Rattle.partial_rules.specs.Relocatable.{Relocatable, spelled_global, body, segment, linking, reloc, code_place, data_place, section_relocs, body_head, segment_head, relocatable_bytes}
use Rattle.partial_rules.specs.Sections.{Raw, raw_bytes, raws_bytes, spans, sec, rel, linking_raw, code_rel, data_rel, raws, behind_code, behind_data}
use Rattle.partial_rules.proofs.Adding.{payload_span, payload_is}
use Rattle.partial_rules.proofs.Sectioned.{sectioned}
use Rattle.partial_rules.proofs.Added.{named, utf_l, utf_c, utf_d, code_is, data_is}

-- what one section gives, by its payload
abbrev pub given : List SectionSpan → ℕ → ℕ → List ℕ → Option (List Reloc)
given all end id payload = if id == 0 then code_relocs_named all end (name_at end payload) else None

abbrev pub payload_end : ℕ → Raw → List Raw → ℕ
payload_end end s ss = end_of (payload_span end s ss)

abbrev pub given_by : List SectionSpan → ℕ → List Raw → List Reloc
given_by all end [] = []
given_by all end (s ∷ ss) = or_else (given all (payload_end end s ss) s.id s.payload) (given_by all end ss)

by_payloads : (all : List SectionSpan) (front : List ℕ) (ss : List Raw) (bytes : List ℕ) → bytes ≡ front ++ raws_bytes ss → code_relocs all bytes (spans (length bytes) ss) ≡ given_by all (length bytes) ss
unfolding code_relocs
by_payloads all front [] bytes cut = refl
by_payloads all front (s ∷ ss) bytes cut =
    let own : bytes_in bytes (payload_span (length bytes) s ss) ≡ s.payload = payload_is front s ss bytes cut in
    let next : bytes ≡ (front ++ raw_bytes s) ++ raws_bytes ss = cut ∙ sym (append_assoc front (raw_bytes s) (raws_bytes ss)) in
    ap (λ payload. or_else (given all (payload_end (length bytes) s ss) s.id payload) (code_relocs all bytes (spans (length bytes) ss))) own
    ∙ ap (λ rs. or_else (given all (payload_end (length bytes) s ss) s.id s.payload) rs) (by_payloads all (front ++ raw_bytes s) ss bytes next)

-- a section that isn't custom gives none
none_by : {A : Type 0} (all : List SectionSpan) (end id : ℕ) (item : A → List ℕ) (xs : List A) (ss : List Raw) → eqb id 0 ≡ false → given_by all end (sec id item xs ++ ss) ≡ given_by all end ss
none_by all end id item [] ss other = refl
none_by all end id item (x ∷ xs) ss other =
    ap (λ (b : Bool). or_else (if b then code_relocs_named all (payload_end end (record { id = id; payload = vector item (x ∷ xs) }) ss) (name_at (payload_end end (record { id = id; payload = vector item (x ∷ xs) }) ss) (vector item (x ∷ xs))) else None) (given_by all end ss)) other

-- a custom section, by its name
custom_gives : (all : List SectionSpan) (end : ℕ) (name payload : List ℕ) → SpellsName name (sized name) → given all end 0 (sized name ++ payload) ≡ code_relocs_of all (custom_kind_of name) end payload
custom_gives all end name payload spelled = ap (λ r. code_relocs_named all end r) (name_reader.again end name (sized name) payload spelled)

target_is : (all : List SectionSpan) (end target : ℕ) (entries : List Reloc) (own : Bool) → SpellsRelocSection (record { target = target; entries = entries }) (u32 target ++ vector reloc entries) → SpellsU32 target (u32 target) → has_id 10 all target ≡ own
    → code_target all end (u32 target ++ vector reloc entries) (u32_at end (u32 target ++ vector reloc entries)) ≡ (if own then Some entries else None)
target_is all end target entries own spelled low is =
    let bytes : List ℕ = u32 target ++ vector reloc entries in
    ap (λ r. code_target all end bytes r) (u32_reader.again end target (u32 target) (vector reloc entries) low)
    ∙ (ap (λ (b : Bool). if b then Some (entries_or_none (relocs_at end bytes)) else None) is
    ∙ ap (λ r. if own then Some (entries_or_none r) else None) (relocs_again end bytes (record { target = target; entries = entries }) spelled))

rel_gives : (all : List SectionSpan) (end : ℕ) (name : List ℕ) (target : ℕ) (entries : List Reloc) (own : Bool) → SpellsName name (sized name) → custom_kind_of name ≡ customs.Relocs
    → SpellsRelocSection (record { target = target; entries = entries }) (u32 target ++ vector reloc entries) → SpellsU32 target (u32 target) → has_id 10 all target ≡ own
    → given all end 0 (sized name ++ (u32 target ++ vector reloc entries)) ≡ (if own then Some entries else None)
rel_gives all end name target entries own spelled kind section low is =
    let bytes : List ℕ = u32 target ++ vector reloc entries in
    custom_gives all end name bytes spelled
    ∙ (ap (λ k. code_relocs_of all k end bytes) kind ∙ target_is all end target entries own section low is)

-- a section of relocations of the code gives its own, and another one none
own_by : (all : List SectionSpan) (end : ℕ) (name : List ℕ) (target : ℕ) (xs : List Reloc) (ss : List Raw) → SpellsName name (sized name) → custom_kind_of name ≡ customs.Relocs
    → SpellsRelocSection (record { target = target; entries = xs }) (u32 target ++ vector reloc xs) → SpellsU32 target (u32 target)
    → ((x : Reloc) (ys : List Reloc) → xs ≡ x ∷ ys → has_id 10 all target ≡ true) → given_by all end ss ≡ [] → given_by all end (rel name target xs ++ ss) ≡ xs
own_by all end name target [] ss spelled kind section low is none = none
own_by all end name target (x ∷ xs) ss spelled kind section low is none =
    let e : ℕ = payload_end end (record { id = 0; payload = sized name ++ (u32 target ++ vector reloc (x ∷ xs)) }) ss in
    ap (λ r. or_else r (given_by all end ss)) (rel_gives all e name target (x ∷ xs) true spelled kind section low (is x xs refl))

other_by : (all : List SectionSpan) (end : ℕ) (name : List ℕ) (target : ℕ) (xs : List Reloc) → SpellsName name (sized name) → custom_kind_of name ≡ customs.Relocs
    → SpellsRelocSection (record { target = target; entries = xs }) (u32 target ++ vector reloc xs) → SpellsU32 target (u32 target)
    → ((x : Reloc) (ys : List Reloc) → xs ≡ x ∷ ys → has_id 10 all target ≡ false) → given_by all end (rel name target xs) ≡ []
other_by all end name target [] spelled kind section low is = refl
other_by all end name target (x ∷ xs) spelled kind section low is =
    let e : ℕ = payload_end end (record { id = 0; payload = sized name ++ (u32 target ++ vector reloc (x ∷ xs)) }) [] in
    ap (λ r. or_else r []) (rel_gives all e name target (x ∷ xs) false spelled kind section low (is x xs refl))

pub relocs_are : (r : Relocatable)
    → SpellsRelocSection (record { target = code_place r; entries = section_relocs body_head r.bodies }) (u32 (code_place r) ++ vector reloc (section_relocs body_head r.bodies)) → SpellsU32 (code_place r) (u32 (code_place r))
    → SpellsRelocSection (record { target = data_place r; entries = section_relocs segment_head r.segments }) (u32 (data_place r) ++ vector reloc (section_relocs segment_head r.segments)) → SpellsU32 (data_place r) (u32 (data_place r))
    → code_relocs (spans (length (relocatable_bytes r)) (raws r)) (relocatable_bytes r) (spans (length (relocatable_bytes r)) (raws r)) ≡ section_relocs body_head r.bodies
relocs_are r code code_low datums data_low =
    let bytes : List ℕ = relocatable_bytes r in
    let end : ℕ = length bytes in
    let all : List SectionSpan = spans end (raws r) in
    let f : List Raw = sec 10 body r.bodies ++ behind_code r in
    let e : List Raw = sec 7 export r.exports ++ f in
    let d : List Raw = sec 6 spelled_global r.globals ++ e in
    let b : List Raw = sec 3 (λ (n : ℕ). u32 n) r.functions ++ d in
    let a : List Raw = sec 2 import_entry r.imports ++ b in
    let c : List Raw = code_rel r ++ data_rel r in
    by_payloads all header (raws r) bytes (sym (sectioned r))
    ∙ (none_by all end 1 func_type r.types a refl ∙ (none_by all end 2 import_entry r.imports b refl ∙ (none_by all end 3 (λ (n : ℕ). u32 n) r.functions d refl
    ∙ (none_by all end 6 spelled_global r.globals e refl ∙ (none_by all end 7 export r.exports f refl ∙ (none_by all end 10 body r.bodies (behind_code r) refl
    ∙ (none_by all end 11 segment r.segments (behind_data r) refl
    ∙ (ap (λ x. or_else x (given_by all end c)) (custom_gives all (payload_end end (linking_raw r) c) (codes "linking") (linking r) (named (codes "linking") utf_l (omega arith)))
    ∙ own_by all end (codes "reloc.CODE") (code_place r) (section_relocs body_head r.bodies) (data_rel r) (named (codes "reloc.CODE") utf_c (omega arith)) refl code code_low (code_is 10 r end)
    (other_by all end (codes "reloc.DATA") (data_place r) (section_relocs segment_head r.segments) (named (codes "reloc.DATA") utf_d (omega arith)) refl datums data_low (data_is 10 r end))))))))))
