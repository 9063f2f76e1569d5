-- What plain data say is what the definition says of the object that they stand for.
use Rattle.std.proofs.Common.{◌≡◌, ℕ, suc, ◌+◌, ◌<◌, ◌==◌, true, false, List, [], ◌∷◌, ◌++◌, length, map, refl, sym, ap, ◌∙◌, arith, rules, append_assoc, length-append}
use Rattle.std.specs.Prelude.{if◌then◌else◌, codes}
use Rattle.std.specs.List.{flat_map, list_all}
use Rattle.std.proofs.lemmas.List.{length-map}
use Rattle.leb_codec.specs.Shortest.{u32, s32}
use Rattle.reloc_section.specs.declared.entry.Reloc.{Reloc}
use Rattle.image_emit.specs.Bytes.{header, section, sized, vector, func_type, import_entry, export}
use Rattle.partial_rules.specs.Relocatable.{Windowed, init, subsection, reloc, later, body_head, segment_head, relocs_from, section_relocs, custom, reloc_section, spelled_global, segment_info, symbol, group, present, linking, relocatable_bytes}
use Rattle.partial_bytes.specs.declared.tree.Part.{Part}
use Rattle.partial_bytes.specs.declared.tree.Tree.{Tree}
use Rattle.partial_bytes.specs.declared.part.PartKind.{PartKind}
use Rattle.partial_bytes.specs.declared.part.PartKind.TheVariants.{Body, Segment}
use Rattle.partial_bytes.specs.Relocs.{reloc_by, relocs_of}
use Rattle.partial_bytes.specs.Told.{emptied, part_told, global_told, info_told, symbol_told, group_told, tree_told, TreeFits}
use Rattle.partial_bytes.specs.Items.{symbol_row}
use Rattle.partial_bytes.specs.Written.{lead, head_of, head_len, part_len, parts_len, payload_len, part_spelled, parts_section, relocs_at, relocs_in, part_entries, front_of, linking_of, linking_section, code_at, data_at, written, part_fits}
use Rattle.partial_bytes.proofs.Fitting.{emptied_long, head_long, part_long, parts_judged}
use Rattle.std.proofs.lemmas.Bool.{and_parts}
use Rattle.std.proofs.lemmas.List.Sums.{sum_by-drop_more}

pub some : {A : Type 0} (n : ℕ) (x y : A) → (if suc n == 0 then x else y) ≡ y
some n x y = let none : (suc n == 0) ≡ false = search rules in rw none refl

-- ---- lists of records

pub flat_told : {A B : Type 0} (item : B → List ℕ) (told : A → B) (xs : List A) → flat_map (λ x. item (told x)) xs ≡ flat_map item (map told xs)
flat_told item told [] = refl
flat_told item told (x ∷ xs) = ap (λ zs. item (told x) ++ zs) (flat_told item told xs)

-- the entries of a part are those of its relocations
pub entries_made : (from : ℕ) (p : Part) → part_entries from p ≡ flat_map reloc (map {A = Reloc} {B = Reloc} (later from) (relocs_of p))
entries_made from p =
    flat_told (λ x. reloc (later from x)) (reloc_by p.numbers.now) p.named.now
    ∙ flat_told reloc (later from) (relocs_of p)

vector_told : {A B : Type 0} (item : B → List ℕ) (told : A → B) (xs : List A) → vector (λ x. item (told x)) xs ≡ vector item (map told xs)
vector_told item told xs =
    ap (λ n. u32 n ++ flat_map (λ x. item (told x)) xs) (sym (length-map xs told))
    ∙ ap (λ zs. u32 (length (map told xs)) ++ zs) (flat_told item told xs)

section_told : {A B : Type 0} (id : ℕ) (item : B → List ℕ) (told : A → B) (xs : List A) → section id (λ x. item (told x)) xs ≡ section id item (map told xs)
section_told id item told xs =
    ap (λ n. if n == 0 then [] else id ∷ sized (vector (λ x. item (told x)) xs)) (sym (length-map xs told))
    ∙ ap (λ (zs : List ℕ). if length (map told xs) == 0 then [] else id ∷ sized zs) (vector_told item told xs)

subsection_is : {A : Type 0} (kind : ℕ) (item : A → List ℕ) (xs : List A) → section kind item xs ≡ subsection kind item xs
subsection_is kind item [] = refl
subsection_is kind item (x ∷ xs) = some (length xs) [] (kind ∷ sized (vector item (x ∷ xs)))

present_told : {A B : Type 0} (told : A → B) (xs : List A) → present xs ≡ present (map told xs)
present_told told [] = refl
present_told told (x ∷ xs) = refl

-- ---- the section `linking`

linking_told : (t : Tree) → linking_of t ≡ linking (tree_told t)
linking_told t =
    let ss : List ℕ = u32 2 ++ (8 ∷ sized (vector symbol_row t.symbols.now)) in
    let a = ap (λ zs. u32 2 ++ (8 ∷ sized zs)) (vector_told symbol symbol_told t.symbols.now) in
    let b = section_told 5 segment_info info_told t.infos.now ∙ subsection_is 5 segment_info (map info_told t.infos.now) in
    let c = subsection_is 6 init t.inits.now in
    let d = section_told 7 group group_told t.groups.now ∙ subsection_is 7 group (map group_told t.groups.now) in
    λ i. a i ++ b i ++ c i ++ d i

-- ---- parts

-- what leads to a part, in the definition
heads : PartKind → List ℕ → List ℕ
heads Body = body_head
heads Segment = segment_head

heads_are : (kind : PartKind) (bytes : List ℕ) → head_of kind bytes ≡ heads kind bytes
unfolding heads s32
heads_are Body bytes = refl
heads_are Segment bytes = refl

whole : PartKind → Windowed → List ℕ
whole kind w = heads kind w.bytes ++ w.bytes

head_told : (kind : PartKind) (bytes other : List ℕ) → length other ≡ length bytes → head_of kind bytes ≡ heads kind other
head_told kind bytes other is = ap (λ n. lead kind ++ u32 n) (sym is) ∙ heads_are kind other

parts_told : (kind : PartKind) (ps : List Part) → list_all part_fits ps ≡ true → flat_map (part_spelled kind) ps ≡ flat_map (whole kind) (map part_told ps)
unfolding whole
parts_told kind [] h = refl
parts_told kind (p ∷ ps) h =
    let fits = and_parts (part_fits p) (list_all part_fits ps) h in
    let head = head_told kind p.bytes.now (emptied (relocs_of p) p.bytes.now) (emptied_long (relocs_of p) p.bytes.now fits.0) in
    λ i. (head i ++ emptied (relocs_of p) p.bytes.now) ++ parts_told kind ps fits.1 i

sum_cons : (kind : PartKind) (p : Part) (ps : List Part) → parts_len kind (p ∷ ps) ≡ part_len kind p + parts_len kind ps
sum_cons kind p ps = sum_by-drop_more (part_len kind) (p ∷ ps) 0 p (omega arith)

pub parts_long : (kind : PartKind) (ps : List Part) → list_all part_fits ps ≡ true → length (flat_map (part_spelled kind) ps) ≡ parts_len kind ps
parts_long kind [] h = refl
parts_long kind (p ∷ ps) h =
    let fits = and_parts (part_fits p) (list_all part_fits ps) h in
    omega (arith, length-append (part_spelled kind p) (flat_map (part_spelled kind) ps), part_long kind p fits.0, parts_long kind ps fits.1, sum_cons kind p ps)

section_parts : (id : ℕ) (kind : PartKind) (ps : List Part) → list_all part_fits ps ≡ true → parts_section id kind ps ≡ section id (whole kind) (map part_told ps)
section_parts id kind [] h = refl
section_parts id kind (p ∷ ps) h =
    let qs : List Part = p ∷ ps in
    let ws : List Windowed = map part_told qs in
    let count : length ws ≡ length qs = length-map qs part_told in
    let same = parts_told kind qs h in
    let number = ap (λ n. length (u32 n)) count in
    let long : payload_len kind qs ≡ length (vector (whole kind) ws) =
    omega (arith, length-append (u32 (length ws)) (flat_map (whole kind) ws), number, ap (λ (zs : List ℕ). length zs) same, parts_long kind qs h) in
    append_assoc (id ∷ u32 (payload_len kind qs)) (u32 (length qs)) (flat_map (part_spelled kind) qs)
    ∙ (λ i. id ∷ u32 (long i) ++ (u32 (sym count i) ++ same i))
    ∙ sym (some (length (map part_told ps)) [] (id ∷ sized (vector (whole kind) ws)))

-- ---- how long a section of parts is

pub section_long : (id : ℕ) (kind : PartKind) (ps : List Part) (payload n : ℕ) → 0 < length ps → payload ≡ payload_len kind ps → list_all part_fits ps ≡ true
    → n ≡ 1 + length (u32 payload) + payload → n ≡ length (parts_section id kind ps)
section_long id kind [] payload n there is h all = absurd (omega (arith, there))
section_long id kind (p ∷ ps) payload n there is h all =
    let qs : List Part = p ∷ ps in
    let size = payload_len kind qs in
    let number = ap (λ k. length (u32 k)) is in
    omega (arith, is, all, number, parts_long kind qs h, length-append (id ∷ u32 size ++ u32 (length qs)) (flat_map (part_spelled kind) qs), length-append (u32 size) (u32 (length qs)))

-- ---- relocations

relocs_told : (kind : PartKind) (at : ℕ) (ps : List Part) → list_all part_fits ps ≡ true → relocs_at kind at ps ≡ relocs_from (heads kind) at (map part_told ps)
relocs_told kind at [] h = refl
relocs_told kind at (p ∷ ps) h =
    let fits = and_parts (part_fits p) (list_all part_fits ps) h in
    let e = emptied (relocs_of p) p.bytes.now in
    let long : length p.bytes.now ≡ length e = sym (emptied_long (relocs_of p) p.bytes.now fits.0) in
    let number = ap (λ n. length (u32 n)) long in
    let head : head_len kind p ≡ length (heads kind e) = omega (arith, head_long kind e, number, ap (λ (zs : List ℕ). length zs) (heads_are kind e)) in
    (λ i. map {A = Reloc} {B = Reloc} (later (at + head i)) (relocs_of p) ++ relocs_at kind (at + head i + long i) ps)
    ∙ ap (λ (zs : List Reloc). map {A = Reloc} {B = Reloc} (later (at + length (heads kind e))) (relocs_of p) ++ zs) (relocs_told kind (at + length (heads kind e) + length e) ps fits.1)

section_told_relocs : (kind : PartKind) (ps : List Part) → list_all part_fits ps ≡ true → relocs_in kind ps ≡ section_relocs (heads kind) (map part_told ps)
section_told_relocs kind ps h =
    relocs_told kind (length (u32 (length ps))) ps h
    ∙ ap (λ n. relocs_from (heads kind) (length (u32 n)) (map part_told ps)) (sym (length-map ps part_told))

-- ---- the whole

pub told_written : (t : Tree) → TreeFits t → written t ≡ relocatable_bytes (tree_told t)
unfolding whole heads relocatable_bytes
told_written t fits =
    let hb = parts_judged t.bodies.now fits.bodies in
    let hs = parts_judged t.segments.now fits.segments in
    let globals = section_told 6 spelled_global global_told t.globals.now in
    let bodies = section_parts 10 Body t.bodies.now hb in
    let segments = section_parts 11 Segment t.segments.now hs in
    let link = linking_told t in
    let some_globals = present_told global_told t.globals.now in
    let some_bodies = present_told part_told t.bodies.now in
    let code = section_told_relocs Body t.bodies.now hb in
    let later_code = section_told_relocs Segment t.segments.now hs in
    λ i.
    header ++ section 1 func_type t.types.now ++ section 2 import_entry t.imports.now ++ section 3 u32 t.functions.now ++ globals i ++ section 7 export t.exports.now
    ++ bodies i ++ segments i ++ custom (codes "linking") (link i)
    ++ reloc_section (codes "reloc.CODE") (present t.types.now + present t.imports.now + present t.functions.now + some_globals i + present t.exports.now) (code i)
    ++ reloc_section (codes "reloc.DATA") (present t.types.now + present t.imports.now + present t.functions.now + some_globals i + present t.exports.now + some_bodies i) (later_code i)

pub all_long : (t : Tree) → TreeFits t → (front code later_code link rest a b c len : ℕ)
    → front ≡ length (front_of t) → code ≡ length (parts_section 10 Body t.bodies.now) → later_code ≡ length (parts_section 11 Segment t.segments.now) → link ≡ length (linking_section t)
    → rest ≡ length (reloc_section (codes "reloc.CODE") (code_at t) (relocs_in Body t.bodies.now)) + length (reloc_section (codes "reloc.DATA") (data_at t) (relocs_in Segment t.segments.now))
    → a ≡ front + code → b ≡ a + later_code → c ≡ b + link → len ≡ c + rest → len ≡ length (relocatable_bytes (tree_told t))
all_long t fits front code later_code link rest a b c len f g h l r first second third last =
    let bodies = parts_section 10 Body t.bodies.now in
    let segments = parts_section 11 Segment t.segments.now in
    let linking_is = linking_section t in
    let relocs = reloc_section (codes "reloc.CODE") (code_at t) (relocs_in Body t.bodies.now) in
    let more = reloc_section (codes "reloc.DATA") (data_at t) (relocs_in Segment t.segments.now) in
    omega (
      arith,
      f,
      g,
      h,
      l,
      r,
      first,
      second,
      third,
      last,
      length-append (front_of t) bodies,
      length-append (front_of t ++ bodies) segments,
      length-append (front_of t ++ bodies ++ segments) linking_is,
      length-append (front_of t ++ bodies ++ segments ++ linking_is) relocs,
      length-append (front_of t ++ bodies ++ segments ++ linking_is ++ relocs) more,
      ap (λ (zs : List ℕ). length zs) (told_written t fits),
    )
