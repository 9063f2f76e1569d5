-- Rules on windows that a program's relocatable object keeps: they lie apart in their sections, and those of data in their segments.
use Rattle.std.proofs.Common.{◌≡◌, ℕ, suc, ◌+◌, ◌<◌, ◌≤◌, ◌==◌, Bool, true, false, not, ◌&&◌, ◌||◌, List, [], ◌∷◌, ◌++◌, map, length, inl, inr, refl, sym, ap, ◌∙◌, subst, arith}
use Rattle.std.specs.Prelude.{nat_le, nat_eq, Option, Some, None, option_map, flat_map, slice_get, All, if◌then◌else◌}
use Rattle.std.specs.List.{list_all, AllByRecursion, prefix_len}
use Rattle.std.proofs.lemmas.Bool.{and_from, or_left, or_right, ne_eqb}
use Rattle.std.proofs.lemmas.Bool.Decides.{nat_tests}
use Rattle.std.proofs.lemmas.List.{length-append}
use Rattle.std.proofs.lemmas.List.Concat.{flat_map-cons}
use Rattle.list_places.specs.Has.{Has}
use Rattle.list_places.proofs.Lists.{all_has, has_at, has_map, has_pick, some_is}
use Rattle.object_file.specs.leb_codec.Shortest.{u32}
use Rattle.object_rules.specs.wl_base.declared.span.Span.{Span}
use Rattle.object_rules.specs.Differ.{all_differ}
use Rattle.object_rules.specs.Relocs.{target_stands, lie_apart, payload_len, windows_lie, targets_stand}
use Rattle.object_rules.specs.Windows.{relocs_for, start_of as start_in, is_placed, in_segment, data_windows_stand, is_set_or_read, windows_stand}
use Rattle.object_rules.specs.object_parts.Adding.{has_id}
use Rattle.object_rules.specs.object_parts.Code.{begins_before, before, behind, end_in, base_in}
use Rattle.object_rules.specs.object_parts.Placed.{span_before}
use Rattle.object_rules.specs.reloc_section.declared.section.RelocSection.{RelocSection}
use Rattle.object_rules.specs.wasm_sections.declared.section.SectionSpan.{SectionSpan}
use Rattle.name_rules.specs.object_file.reloc_section.declared.entry.Reloc.{Reloc}
use Rattle.name_rules.specs.object_file.reloc_section.declared.kinds.TheConstants.{TABLE_INDEX_I32, MEMORY_ADDR_I32}
use Rattle.name_rules.specs.object_file.linking_section.declared.symbol.Symbol.{Symbol}
use Rattle.name_rules.specs.object_file.body_windows.declared.operand.Operand.{Operand}
use Rattle.name_rules.specs.object_file.body_windows.declared.operand.Operand.TheVariants as operands
use Rattle.name_rules.specs.object_file.object_columns.declared.functions.FunctionDef.{FunctionDef}
use Rattle.name_rules.specs.object_file.object_columns.declared.segments.SegmentDef.{SegmentDef}
use Rattle.name_rules.specs.object_file.declared.object.Object.{Object}
use Rattle.object_file.specs.Sound.{Sound, is_data_type, OperandNames, WindowNames}
use Rattle.image_emit.specs.Bytes.{vector, func_type, import_entry, export}
use Rattle.reloc_apply.specs.declared.window.Patch.{Patch}
use Rattle.reloc_apply.specs.Apart.{AreApart, LiesIn, size_of}
use Rattle.reloc_apply.proofs.Apart.{apart_le}
use Rattle.reloc_apply.proofs.Over.{filled_long}
use Rattle.link_rules.specs.Program.{Program, Part, Ref, Named, a_symbol, a_type, ref_to, operand_named, window_named}
use Rattle.link_rules.specs.Values.{part_bytes, form_of}
use Rattle.partial_rules.specs.Relocatable.{Relocatable, Windowed, body, body_head, segment, segment_head, spelled_global, later, relocs_from, section_relocs, present, code_place, data_place, relocatable_bytes}
use Rattle.partial_rules.specs.Partial.{kept, empty_window, named_reloc, windowed, relocatable}
use Rattle.partial_rules.specs.WellFormed.{Coded}
use Rattle.partial_rules.specs.Sections.{Raw, spans, sec, behind_code, behind_data, data_end, sections_told}
use Rattle.partial_rules.specs.ReadAs.{told_from, data_part, bodies_told, rels, codes_told, data_told, parts_told}
use Rattle.partial_laws.proofs.Loading.{rise_above}
use Rattle.partial_parts_laws.specs.Linked.{Linked, program}
use Rattle.partial_parts_laws.specs.ReadBack.{AreLinked}
use Rattle.partial_parts_laws.proofs.Parts.{res}
use Rattle.partial_parts_laws.proofs.Built.{code_size, data_size}
use Rattle.partial_parts_laws.proofs.Windows.{later_behind, own_before, others_behind}
use Rattle.partial_parts_laws.proofs.Sectioned.{stands_in, some_from, code_is, data_is, before_data, data_start, data_relocs}
use Rattle.partial_parts_laws.proofs.KeptParts.{IsWhole, of_function, of_segment, function_whole, segment_whole}
use Rattle.partial_parts_laws.proofs.RulesKept.{all_from}
use Rattle.partial_parts_laws.proofs.Stood.{ref_told}

-- ---- relocations of so many bytes, one behind another from a place up to an end

abbrev pub LieApart : ℕ → ℕ → ℕ → List Reloc → Type 0
LieApart width from end [] = from ≤ end
LieApart width from end (r ∷ rs) = (from ≤ r.offset) × LieApart width (r.offset + width) end rs

apart_from : (p : Program) (width at end : ℕ) (ns : List Named) → ((n : Named) → Has ns n → size_of (empty_window n).form ≡ width) → AreApart at end (map empty_window ns) → LieApart width at end (map (named_reloc p) ns)
apart_from p width at end [] sizes h = h
apart_from p width at end (a_symbol ref ∷ ns) sizes h =
    (h.0, apart_from p width (ref.place + width) end ns (λ n hn. sizes n (inr hn)) (subst (λ k. AreApart (ref.place + k) end (map empty_window ns)) (sizes (a_symbol ref) (inl refl)) h.1))
apart_from p width at end (a_type w ∷ ns) sizes h =
    (h.0, apart_from p width (w.place + width) end ns (λ n hn. sizes n (inr hn)) (subst (λ k. AreApart (w.place + k) end (map empty_window ns)) (sizes (a_type w) (inl refl)) h.1))

apart_end : (width from end : ℕ) (rs : List Reloc) → LieApart width from end rs → from ≤ end
apart_end width from end [] h = h
apart_end width from end (r ∷ rs) h = omega (arith, h.0, apart_end width (r.offset + width) end rs h.1)

pub apart_has : (width from end : ℕ) (rs : List Reloc) → LieApart width from end rs → (r : Reloc) → Has rs r → r.offset + width ≤ end
apart_has width from end [] h r has = absurd has
apart_has width from end (x ∷ rs) h r (inl e) = subst (λ (y : Reloc). y.offset + width ≤ end) e (apart_end width (x.offset + width) end rs h.1)
apart_has width from end (x ∷ rs) h r (inr has) = apart_has width (x.offset + width) end rs h.1 r has

apart_lower : (width from at end : ℕ) (rs : List Reloc) → from ≤ at → LieApart width at end rs → LieApart width from end rs
apart_lower width from at end [] le h = omega (arith, le, h)
apart_lower width from at end (r ∷ rs) le h = (omega (arith, le, h.0), h.1)

apart_later : (width q from end : ℕ) (rs : List Reloc) → LieApart width from end rs → LieApart width (q + from) (q + end) (map {A = Reloc} {B = Reloc} (later q) rs)
apart_later width q from end [] h = omega (arith, h)
apart_later width q from end (r ∷ rs) h =
    let same : q + (r.offset + width) ≡ q + r.offset + width = omega arith in
    (omega (arith, h.0), subst (λ k. LieApart width k (q + end) (map {A = Reloc} {B = Reloc} (later q) rs)) same (apart_later width q (r.offset + width) end rs h.1))

apart_append : (width a b c : ℕ) (xs ys : List Reloc) → LieApart width a b xs → LieApart width b c ys → LieApart width a c (xs ++ ys)
apart_append width a b c [] ys h k = apart_lower width a b c ys h k
apart_append width a b c (x ∷ xs) ys h k = (h.0, apart_append width (x.offset + width) b c xs ys h.1 k)

apart_section : (head : List ℕ → List ℕ) (width at : ℕ) (ws : List Windowed) → ((w : Windowed) → Has ws w → LieApart width 0 (length w.bytes) w.relocs)
    → LieApart width at (at + length (flat_map (λ (w : Windowed). head w.bytes ++ w.bytes) ws)) (relocs_from head at ws)
apart_section head width at [] own = omega arith
apart_section head width at (w ∷ ws) own =
    let item : Windowed → List ℕ = λ v. head v.bytes ++ v.bytes in
    let q : ℕ = at + length (head w.bytes) in
    let len : ℕ = length w.bytes in
    let long : length (flat_map item (w ∷ ws)) ≡ length (head w.bytes) + len + length (flat_map item ws) = ap (λ (xs : List ℕ). length xs) (flat_map-cons item w ws) ∙ (length-append (item w) (flat_map item ws) ∙ ap (λ n. n + length (flat_map item ws)) (length-append (head w.bytes) w.bytes)) in
    let mine : LieApart width at (q + len) (map {A = Reloc} {B = Reloc} (later q) w.relocs) = apart_lower width at (q + 0) (q + len) (map {A = Reloc} {B = Reloc} (later q) w.relocs) (omega arith) (apart_later width q 0 len w.relocs (own w (inl refl))) in
    let rest : LieApart width (q + len) (q + len + length (flat_map item ws)) (relocs_from head (q + len) ws) = apart_section head width (q + len) ws (λ v h. own v (inr h)) in
    let ends : q + len + length (flat_map item ws) ≡ at + length (flat_map item (w ∷ ws)) = omega (arith, long) in
    subst (λ n. LieApart width at n (relocs_from head at (w ∷ ws))) ends (apart_append width at (q + len) (q + len + length (flat_map item ws)) (map {A = Reloc} {B = Reloc} (later q) w.relocs) (relocs_from head (q + len) ws) mine rest)

lie_true : (width len from : ℕ) (rs : List Reloc) → LieApart width from len rs → lie_apart width len from rs ≡ true
lie_true width len from [] h = refl
lie_true width len from (r ∷ rs) h =
    let low : from ≤ r.offset = h.0 in
    let high : r.offset + width ≤ len = apart_end width (r.offset + width) len rs h.1 in
    and_from (nat_le from r.offset && nat_le (r.offset + width) len) (lie_apart width len (r.offset + width) rs)
    (and_from (nat_le from r.offset) (nat_le (r.offset + width) len) (grind (arith, nat_tests, low)) (grind (arith, nat_tests, high))) (lie_true width len (r.offset + width) rs h.1)

-- ---- the sections of relocations

-- what holds of both where they are there
both_rels : (f : RelocSection → Bool) (t u : ℕ) (xs ys : List Reloc) → ((x : Reloc) (zs : List Reloc) → xs ≡ x ∷ zs → f (record { target = t; entries = xs }) ≡ true) → ((y : Reloc) (zs : List Reloc) → ys ≡ y ∷ zs → f (record { target = u; entries = ys }) ≡ true)
    → list_all f (rels t xs ++ rels u ys) ≡ true
both_rels f t u [] [] first second = refl
both_rels f t u [] (y ∷ ys) first second = and_from (f (record { target = u; entries = y ∷ ys })) true (second y ys refl) refl
both_rels f t u (x ∷ xs) [] first second = and_from (f (record { target = t; entries = x ∷ xs })) true (first x xs refl) refl
both_rels f t u (x ∷ xs) (y ∷ ys) first second =
    and_from (f (record { target = t; entries = x ∷ xs })) (f (record { target = u; entries = y ∷ ys }) && true) (first x xs refl) (and_from (f (record { target = u; entries = y ∷ ys })) true (second y ys refl) refl)

targets_differ : (t u : ℕ) (xs ys : List Reloc) → ((x : Reloc) (zs : List Reloc) → xs ≡ x ∷ zs → t ≡ u → ⊥) → all_differ nat_eq (map (λ (r : RelocSection). r.target) (rels t xs ++ rels u ys)) ≡ true
targets_differ t u [] [] other = refl
targets_differ t u [] (y ∷ ys) other = refl
targets_differ t u (x ∷ xs) [] other = refl
targets_differ t u (x ∷ xs) (y ∷ ys) other = ap (λ (b : Bool). not (b || false) && true) (ne_eqb t u (other x xs refl))

module _ (r : Relocatable) where
  abbrev all : List SectionSpan
  all = sections_told r

  abbrev end : ℕ
  end = length (relocatable_bytes r)

  get_behind : {A : Type 0} (id : ℕ) (item : A → List ℕ) (xs : List A) (ss : List Raw) (n : ℕ) → slice_get (spans end (sec id item xs ++ ss)) (present xs + n) ≡ slice_get (spans end ss) n
  get_behind id item [] ss n = let same : 0 + n ≡ n = omega arith in ap (λ k. slice_get (spans end ss) k) same
  get_behind id item (x ∷ xs) ss n = let same : 1 + n ≡ suc n = omega arith in ap (λ k. slice_get (spans end (sec id item (x ∷ xs) ++ ss)) k) same

  get_code : (n : ℕ) → slice_get all (code_place r + n) ≡ slice_get (spans end (sec 10 body r.bodies ++ behind_code r)) n
  get_code n =
      let f : List Raw = sec 10 body r.bodies ++ behind_code r in
      let e : List Raw = sec 7 export r.exports ++ f in
      let d : List Raw = sec 6 spelled_global r.globals ++ e in
      let b : List Raw = sec 3 (λ (n : ℕ). u32 n) r.functions ++ d in
      let a : List Raw = sec 2 import_entry r.imports ++ b in
      let k5 : ℕ = present r.exports + n in
      let k4 : ℕ = present r.globals + k5 in
      let k3 : ℕ = present r.functions + k4 in
      let k2 : ℕ = present r.imports + k3 in
      let place : code_place r + n ≡ present r.types + k2 = omega arith in
      ap (λ k. slice_get all k) place
      ∙ (get_behind 1 func_type r.types a k2 ∙ (get_behind 2 import_entry r.imports b k3 ∙ (get_behind 3 (λ (n : ℕ). u32 n) r.functions d k4
      ∙ (get_behind 6 spelled_global r.globals e k5 ∙ get_behind 7 export r.exports f n))))

  first_len : {A : Type 0} (id : ℕ) (item : A → List ℕ) (xs : List A) (x : A) (ys : List A) (ss : List Raw) → xs ≡ x ∷ ys → payload_len (slice_get (spans end (sec id item xs ++ ss)) 0) ≡ length (vector item xs)
  first_len id item xs x ys ss some = subst (λ zs. payload_len (slice_get (spans end (sec id item zs ++ ss)) 0) ≡ length (vector item zs)) (sym some) refl

  code_len : (x : Reloc) (xs : List Reloc) → section_relocs body_head r.bodies ≡ x ∷ xs → payload_len (slice_get all (code_place r)) ≡ length (vector body r.bodies)
  code_len x xs some =
      let w = some_from body_head r.bodies x xs some in
      let place : code_place r ≡ code_place r + 0 = omega arith in
      ap (λ k. payload_len (slice_get all k)) place ∙ (ap payload_len (get_code 0) ∙ first_len 10 body r.bodies w.0 w.1 (behind_code r) w.2)

  data_len : (x : Reloc) (xs : List Reloc) → section_relocs segment_head r.segments ≡ x ∷ xs → payload_len (slice_get all (data_place r)) ≡ length (vector segment r.segments)
  data_len x xs some =
      let w = some_from segment_head r.segments x xs some in
      let place : data_place r ≡ code_place r + (present r.bodies + 0) = omega arith in
      ap (λ k. payload_len (slice_get all k)) place ∙ (ap payload_len (get_code (present r.bodies + 0) ∙ get_behind 10 body r.bodies (behind_code r) 0) ∙ first_len 11 segment r.segments w.0 w.1 (behind_data r) w.2)

  pub section_apart : (head : List ℕ → List ℕ) (width : ℕ) (ws : List Windowed) → ((w : Windowed) → Has ws w → LieApart width 0 (length w.bytes) w.relocs)
      → LieApart width 0 (length (vector (λ (w : Windowed). head w.bytes ++ w.bytes) ws)) (section_relocs head ws)
  section_apart head width ws own =
      let item : Windowed → List ℕ = λ w. head w.bytes ++ w.bytes in
      let long : length (vector item ws) ≡ length (u32 (length ws)) + length (flat_map item ws) = length-append (u32 (length ws)) (flat_map item ws) in
      apart_lower width 0 (length (u32 (length ws))) (length (vector item ws)) (section_relocs head ws) (omega arith)
      (subst (λ n. LieApart width (length (u32 (length ws))) n (section_relocs head ws)) (sym long) (apart_section head width (length (u32 (length ws))) ws own))

  -- a section's relocations lie apart in its payload
  section_lies : (head : List ℕ → List ℕ) (width : ℕ) (ws : List Windowed) → ((w : Windowed) → Has ws w → LieApart width 0 (length w.bytes) w.relocs)
      → lie_apart width (length (vector (λ (w : Windowed). head w.bytes ++ w.bytes) ws)) 0 (section_relocs head ws) ≡ true
  section_lies head width ws own = lie_true width (length (vector (λ (w : Windowed). head w.bytes ++ w.bytes) ws)) 0 (section_relocs head ws) (section_apart head width ws own)

  other_places : (x : Reloc) (xs : List Reloc) → section_relocs body_head r.bodies ≡ x ∷ xs → code_place r ≡ data_place r → ⊥
  other_places x xs some same =
      let w = some_from body_head r.bodies x xs some in
      let one : present r.bodies ≡ 1 = ap (λ ws. present ws) w.2 in
      omega (arith, one, same)

  pub targets_there : ((w : Windowed) → Has r.bodies w → LieApart 5 0 (length w.bytes) w.relocs) → ((w : Windowed) → Has r.segments w → LieApart 4 0 (length w.bytes) w.relocs)
      → targets_stand all (rels (code_place r) (section_relocs body_head r.bodies) ++ rels (data_place r) (section_relocs segment_head r.segments)) ≡ true
  targets_there bodies segments =
      let cs : List Reloc = section_relocs body_head r.bodies in
      let es : List Reloc = section_relocs segment_head r.segments in
      let relocs : List RelocSection = rels (code_place r) cs ++ rels (data_place r) es in
      and_from (list_all (target_stands all) relocs && all_differ nat_eq (map (λ (s : RelocSection). s.target) relocs)) (list_all (windows_lie all) relocs)
      (and_from (list_all (target_stands all) relocs) (all_differ nat_eq (map (λ (s : RelocSection). s.target) relocs))
      (both_rels (target_stands all) (code_place r) (data_place r) cs es
      (λ x xs some. or_left (has_id 10 all (code_place r) || has_id 11 all (code_place r)) (has_id 0 all (code_place r)) (or_left (has_id 10 all (code_place r)) (has_id 11 all (code_place r)) (code_is 10 r end x xs some)))
      (λ x xs some. or_left (has_id 10 all (data_place r) || has_id 11 all (data_place r)) (has_id 0 all (data_place r)) (or_right (has_id 10 all (data_place r)) (has_id 11 all (data_place r)) (data_is 11 r end x xs some))))
      (targets_differ (code_place r) (data_place r) cs es other_places))
      (both_rels (windows_lie all) (code_place r) (data_place r) cs es
      (λ x xs some. ap (λ (b : Bool). lie_apart (if b then 5 else 4) (payload_len (slice_get all (code_place r))) 0 cs) (code_is 10 r end x xs some)
      ∙ (ap (λ n. lie_apart 5 n 0 cs) (code_len x xs some) ∙ section_lies body_head 5 r.bodies bodies))
      (λ x xs some. ap (λ (b : Bool). lie_apart (if b then 5 else 4) (payload_len (slice_get all (data_place r))) 0 es) (data_is 10 r end x xs some)
      ∙ (ap (λ n. lie_apart 4 n 0 es) (data_len x xs some) ∙ section_lies segment_head 4 r.segments segments)))

  -- ---- windows of segments

  abbrev pub is_data : Reloc → Bool
  is_data x = (x.kind == TABLE_INDEX_I32) || (x.kind == MEMORY_ADDR_I32)

  data_from : (start at to : ℕ) (ws : List Windowed) → to ≡ start + at + length (flat_map segment ws) → ((w : Windowed) → Has ws w → LieApart 4 0 (length w.bytes) w.relocs) → ((w : Windowed) → Has ws w → (x : Reloc) → Has w.relocs x → is_data x ≡ true)
      → data_windows_stand start (relocs_from segment_head at ws) (told_from (data_part to) segment ws) ≡ true
  data_from start at to [] place lie typed = refl
  data_from start at to (w ∷ ws) place lie typed =
      let rest : List ℕ = flat_map segment ws in
      let q : ℕ = at + length (segment_head w.bytes) in
      let len : ℕ = length w.bytes in
      let span : Span = span_before to len rest in
      let others : List Reloc = relocs_from segment_head (q + len) ws in
      let own : List Reloc = map {A = Reloc} {B = Reloc} (later q) w.relocs in
      let state : List Reloc = own ++ others in
      let long : length (flat_map segment (w ∷ ws)) ≡ length (segment_head w.bytes) + len + length rest =
      ap (λ (xs : List ℕ). length xs) (flat_map-cons segment w ws) ∙ (length-append (segment w) rest ∙ ap (λ n. n + length rest) (length-append (segment_head w.bytes) w.bytes)) in
      let ends : to ≡ start + (q + len) + length rest = omega (arith, place, long) in
      let base : base_in start span ≡ q = omega (arith, ends) in
      let top : end_in start span ≡ q + len = omega (arith, ends) in
      let none : prefix_len (begins_before (q + len)) others ≡ 0 = later_behind segment_head (q + len) (q + len) ws (omega arith) in
      let inside : (x : Reloc) → Has w.relocs x → x.offset < len = λ x hx. omega (arith, apart_has 4 0 len w.relocs (lie w (inl refl)) x hx) in
      let mine : before (end_in start span) state ≡ own = ap (λ n. before n state) top ∙ own_before q len w.relocs others inside none in
      let left : behind (end_in start span) state ≡ others = ap (λ n. behind n state) top ∙ others_behind q len w.relocs others inside none in
      and_from (list_all (in_segment start span) (before (end_in start span) state)) (data_windows_stand start (behind (end_in start span) state) (told_from (data_part to) segment ws))
      (ap (list_all (in_segment start span)) mine
      ∙ all_from (in_segment start span) own
      (λ y hy.
      let m = has_map {X = Reloc} {Y = Reloc} (later q) w.relocs y hy in
      let fits = apart_has 4 0 len w.relocs (lie w (inl refl)) m.0 m.1 in
      let low : base_in start span ≤ q + m.0.offset = omega (arith, base) in
      let high : q + m.0.offset + 4 ≤ end_in start span = omega (arith, top, fits) in
      subst (λ (z : Reloc). in_segment start span z ≡ true) m.2
      (and_from (is_data m.0 && nat_le (base_in start span) (q + m.0.offset)) (nat_le (q + m.0.offset + 4) (end_in start span))
      (and_from (is_data m.0) (nat_le (base_in start span) (q + m.0.offset)) (typed w (inl refl) m.0 m.1) (grind (arith, nat_tests, low))) (grind (arith, nat_tests, high)))))
      (ap (λ rs. data_windows_stand start rs (told_from (data_part to) segment ws)) left ∙ data_from start (q + len) to ws ends (λ v h. lie v (inr h)) (λ v h. typed v (inr h)))

  data_there : (ws : List Windowed) → r.segments ≡ ws → ((w : Windowed) → Has r.segments w → LieApart 4 0 (length w.bytes) w.relocs) → ((w : Windowed) → Has r.segments w → (x : Reloc) → Has w.relocs x → is_data x ≡ true)
      → data_windows_stand (start_in 11 all) (section_relocs segment_head r.segments) (data_told r) ≡ true
  data_there [] none lie typed = subst (λ ws. data_windows_stand (start_in 11 all) (section_relocs segment_head ws) (told_from (data_part (data_end end r)) segment ws) ≡ true) (sym none) refl
  data_there (w ∷ ws) some lie typed =
      let b = before_data r in
      let s = stands_in 11 segment r.segments w ws b.0 (behind_data r) (relocatable_bytes r) some b.1 in
      data_from (start_in 11 all) (length (u32 (length r.segments))) (data_end end r) r.segments (omega (arith, s.from, s.to, data_start r w ws some)) lie typed

  -- ---- those of code

  code_first : (xs : List Reloc) (t : ℕ) (rest : List RelocSection) → ((x : Reloc) (zs : List Reloc) → xs ≡ x ∷ zs → has_id 10 all t ≡ true) → (relocs_for 10 all rest ≡ []) → relocs_for 10 all (rels t xs ++ rest) ≡ xs
  code_first [] t rest own none = none
  code_first (x ∷ xs) t rest own none = ap (λ (b : Bool). if b then x ∷ xs else relocs_for 10 all rest) (own x xs refl)

  data_none : (xs : List Reloc) (t : ℕ) → ((x : Reloc) (zs : List Reloc) → xs ≡ x ∷ zs → has_id 10 all t ≡ false) → relocs_for 10 all (rels t xs) ≡ []
  data_none [] t other = refl
  data_none (x ∷ xs) t other = ap (λ (b : Bool). if b then x ∷ xs else relocs_for 10 all []) (other x xs refl)

  pub code_relocs : relocs_for 10 all (rels (code_place r) (section_relocs body_head r.bodies) ++ rels (data_place r) (section_relocs segment_head r.segments)) ≡ section_relocs body_head r.bodies
  code_relocs = code_first (section_relocs body_head r.bodies) (code_place r) (rels (data_place r) (section_relocs segment_head r.segments)) (code_is 10 r end) (data_none (section_relocs segment_head r.segments) (data_place r) (data_is 10 r end))

  placed_all : (to : ℕ) (cs : List Coded) → list_all (λ b. is_placed b.windows) (bodies_told to cs) ≡ true
  placed_all to [] = refl
  placed_all to (c ∷ cs) = placed_all to cs

  bodies_or_none : (ws : List Windowed) (cs : List Coded) (to : ℕ) → ws ≡ map {A = Coded} {B = Windowed} (λ c. c.windowed) cs → (not (length (bodies_told to cs) == 0) || (length (section_relocs body_head ws) == 0)) ≡ true
  bodies_or_none ws [] to are = ap (λ vs. length (section_relocs body_head vs) == 0) are
  bodies_or_none ws (c ∷ cs) to are = ap (λ (b : Bool). not b || (length (section_relocs body_head ws) == 0)) (ne_eqb (suc (length (bodies_told to cs))) 0 (λ e. omega (arith, e)))

  -- So windows stand, where what reads an address reads it.
  pub windows_there : (codes : List Coded) (symbols : List Symbol) → r.bodies ≡ map {A = Coded} {B = Windowed} (λ c. c.windowed) codes
      → ((w : Windowed) → Has r.segments w → LieApart 4 0 (length w.bytes) w.relocs) → ((w : Windowed) → Has r.segments w → (x : Reloc) → Has w.relocs x → is_data x ≡ true)
      → list_all (is_set_or_read (relocatable_bytes r) (start_in 10 all) symbols) (section_relocs body_head r.bodies) ≡ true
      → windows_stand all (relocatable_bytes r) (parts_told r codes) symbols ≡ true
  windows_there codes symbols bodies lie typed reads =
      let relocs : List RelocSection = rels (code_place r) (section_relocs body_head r.bodies) ++ rels (data_place r) (section_relocs segment_head r.segments) in
      let told = codes_told r codes in
      and_from
      (list_all (λ b. is_placed b.windows) told && (not (length told == 0) || (length (relocs_for 10 all relocs) == 0)) && list_all (is_set_or_read (relocatable_bytes r) (start_in 10 all) symbols) (relocs_for 10 all relocs))
      (data_windows_stand (start_in 11 all) (relocs_for 11 all relocs) (data_told r))
      (and_from (list_all (λ b. is_placed b.windows) told && (not (length told == 0) || (length (relocs_for 10 all relocs) == 0))) (list_all (is_set_or_read (relocatable_bytes r) (start_in 10 all) symbols) (relocs_for 10 all relocs))
      (and_from (list_all (λ b. is_placed b.windows) told) (not (length told == 0) || (length (relocs_for 10 all relocs) == 0)) (placed_all _ codes)
      (ap (λ rs. not (length told == 0) || (length rs == 0)) code_relocs ∙ bodies_or_none r.bodies codes _ bodies))
      (ap (list_all (is_set_or_read (relocatable_bytes r) (start_in 10 all) symbols)) code_relocs ∙ reads))
      (ap (λ rs. data_windows_stand (start_in 11 all) rs (data_told r)) (data_relocs r) ∙ data_there r.segments refl lie typed)

-- ---- of a program

within : (at to : ℕ) (ps : List Patch) → AreApart at to ps → AllByRecursion (LiesIn to) ps
within at to [] h = tt
within at to (x ∷ ps) h = (apart_le (x.place + size_of x.form) to ps h.1, within (x.place + size_of x.form) to ps h.1)

-- a window that is made of a reference
pub made_symbol : (o : Option Ref) (n : Named) → option_map a_symbol o ≡ Some n → (ref : Ref) × (o ≡ Some ref) × (n ≡ a_symbol ref)
made_symbol None n e = absurd cc
made_symbol (Some ref) n e = (ref, refl, sym (some_is (a_symbol ref) n e))

module _ (l : Linked) (objects : List Object) (is : AreLinked l objects) where
  abbrev p : Program
  p = program l objects

  above : All (λ (y : Object). 0 < y.input) objects
  above = rise_above 0 objects is.rise

  code_sizes : (x : Part) → Has (kept p 0) x → (n : Named) → Has x.named n → size_of (empty_window n).form ≡ 5
  code_sizes x has n hn =
      let o = of_function l objects is.strict above x has in
      let so = all_has (λ (y : Object). (size : ℕ) × Sound size y) objects is.sound o.object o.there in
      let it : Sound so.0 o.object = so.1 in
      let told = all_has (OperandNames o.object) o.definition.operands (all_has (λ (f : FunctionDef). All (OperandNames o.object) f.operands) o.object.functions it.operand_names o.definition (has_at o.object.functions o.place o.definition o.at)) in
      let h = has_pick (λ op. operand_named (res l objects o.object) op) o.definition.operands n (subst (λ (y : Part). Has y.named n) (sym o.is) hn) in
      by_operand o.object h.0 (told h.0 h.1) h.2
    where
      by_operand : (o : Object) (op : Operand) → OperandNames o op → operand_named (res l objects o) op ≡ Some n → size_of (empty_window n).form ≡ 5
      by_operand o operands.Number named e = absurd cc
      by_operand o (operands.Symbol kind place symbol addend) named e =
          let m = made_symbol (ref_to place kind addend (slice_get (res l objects o).symbols symbol) (slice_get (res l objects o).meanings symbol)) n e in
          let t = ref_told place kind addend (slice_get (res l objects o).symbols symbol) (slice_get (res l objects o).meanings symbol) m.0 m.1 in
          ap (λ y. size_of (empty_window y).form) m.2 ∙ (ap (λ k. size_of (form_of k)) t.1 ∙ code_size kind named.0)
      by_operand o (operands.TypeRef place index) named e = ap (λ y. size_of (empty_window y).form) (sym (some_is _ n e))
      by_operand o operands.TableZero named e = absurd cc

  data_kinds : (x : Part) → Has (kept p 1) x → (n : Named) → Has x.named n → (ref : Ref) × (n ≡ a_symbol ref) × (is_data_type ref.kind ≡ true)
  data_kinds x has n hn =
      let o = of_segment l objects is.strict above x has in
      let so = all_has (λ (y : Object). (size : ℕ) × Sound size y) objects is.sound o.object o.there in
      let it : Sound so.0 o.object = so.1 in
      let told = all_has (WindowNames o.object) o.definition.windows (all_has (λ (g : SegmentDef). All (WindowNames o.object) g.windows) o.object.segments it.window_names o.definition (has_at o.object.segments o.place o.definition o.at)) in
      let h = has_pick (λ w. window_named (res l objects o.object) w) o.definition.windows n (subst (λ (y : Part). Has y.named n) (sym o.is) hn) in
      let m = made_symbol (ref_to h.0.offset h.0.kind h.0.addend (slice_get (res l objects o.object).symbols h.0.index) (slice_get (res l objects o.object).meanings h.0.index)) n h.2 in
      let t = ref_told h.0.offset h.0.kind h.0.addend (slice_get (res l objects o.object).symbols h.0.index) (slice_get (res l objects o.object).meanings h.0.index) m.0 m.1 in
      (m.0, m.2, ap is_data_type t.1 ∙ (told h.0 h.1).0)

  windowed_apart : (width : ℕ) (x : Part) → IsWhole l objects is.strict above is.sound is.lie x → ((n : Named) → Has x.named n → size_of (empty_window n).form ≡ width) → LieApart width 0 (length (windowed p x).bytes) (windowed p x).relocs
  windowed_apart width x whole sizes =
      let same : length (windowed p x).bytes ≡ length (part_bytes p x) = filled_long (map empty_window x.named) (part_bytes p x) (within 0 (length (part_bytes p x)) (map empty_window x.named) whole.windows) in
      subst (λ n. LieApart width 0 n (map (named_reloc p) x.named)) (sym same) (apart_from p width 0 (length (part_bytes p x)) x.named sizes whole.windows)

  pub bodies_apart : (w : Windowed) → Has (relocatable p).bodies w → LieApart 5 0 (length w.bytes) w.relocs
  unfolding relocatable
  bodies_apart w has =
      let m = has_map (λ part. windowed p part) (kept p 0) w has in
      subst (λ (v : Windowed). LieApart 5 0 (length v.bytes) v.relocs) m.2 (windowed_apart 5 m.0 (function_whole l objects is.strict above is.sound is.lie m.0 m.1) (code_sizes m.0 m.1))

  pub segments_apart : (w : Windowed) → Has (relocatable p).segments w → LieApart 4 0 (length w.bytes) w.relocs
  unfolding relocatable
  segments_apart w has =
      let m = has_map (λ part. windowed p part) (kept p 1) w has in
      subst (λ (v : Windowed). LieApart 4 0 (length v.bytes) v.relocs) m.2 (windowed_apart 4 m.0 (segment_whole l objects is.strict above is.sound is.lie m.0 m.1)
      (λ n hn. let d = data_kinds m.0 m.1 n hn in ap (λ y. size_of (empty_window y).form) d.1 ∙ data_size d.0.kind d.2))

  pub segments_data : (w : Windowed) → Has (relocatable p).segments w → (x : Reloc) → Has w.relocs x → is_data (relocatable p) x ≡ true
  unfolding relocatable
  segments_data w has x hx =
      let m = has_map (λ part. windowed p part) (kept p 1) w has in
      let n = has_map (named_reloc p) m.0.named x (subst (λ (v : Windowed). Has v.relocs x) (sym m.2) hx) in
      let d = data_kinds m.0 m.1 n.0 n.1 in
      ap is_data_type (ap (λ (y : Reloc). y.kind) (sym n.2 ∙ ap (named_reloc p) d.1)) ∙ d.2
