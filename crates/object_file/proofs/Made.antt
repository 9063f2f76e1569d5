-- Functions and symbols of an object, as loops make them.
use Rattle.std.proofs.Common.{◌≡◌, ℕ, zero, suc, ◌+◌, ◌<◌, ◌≤◌, List, [], ◌∷◌, ◌++◌, length, drop, map, max, get_or, Some, None, refl, sym, ap, ◌∙◌, append_assoc, arith}
use Rattle.std.specs.Prelude.{slice_get}
use Rattle.std.proofs.lemmas.Option.{get_or_from_slice_get}
use Rattle.std.proofs.lemmas.List.{at_drop_more, drop_all, append-nil, length-append}
use Rattle.object_rules.specs.wasm_module.declared.parts.Export.{Export}
use Rattle.object_rules.specs.object_parts.declared.parts.CodeBody.{CodeBody}
use Rattle.object_rules.specs.wasm_sections.declared.section.SectionSpan.{SectionSpan}
use Rattle.object_rules.specs.wasm_sections.Sections.{rank_of, AreSections, header, IsFrame}
use Rattle.object_columns.specs.declared.functions.FunctionDef.{FunctionDef}
use Rattle.object_columns.specs.declared.segments.SegmentDef.{SegmentDef}
use Rattle.object_rules.specs.reloc_section.declared.entry.Reloc.{Reloc}
use Rattle.object_rules.specs.linking_section.declared.segment.SegmentInfo.{SegmentInfo}
use Rattle.object_rules.specs.object_parts.declared.parts.DataPart.{DataPart}
use Rattle.object_rules.specs.object_parts.Code.{before, behind, end_in, base_in}
use Rattle.object_file.specs.Objects.{export_name, operands_of, functions_from, first_info, other_infos, window_from, segments_from}

abbrev pub made : List Export → ℕ → ℕ → CodeBody → FunctionDef
made exports index t b = record { type_index = t; span = b.span; operands = operands_of b.windows; export_name = export_name exports index }

abbrev pub segment_made : ℕ → List Reloc → List SegmentInfo → DataPart → SegmentDef
segment_made start left infos d = record { span = d.span; info = first_info infos; windows = map (window_from (base_in start d.span)) (before (end_in start d.span) left) }

-- ---- the item at a place, and those behind it

inside : {A : Type 0} (xs : List A) (i : ℕ) (x : A) → slice_get xs i ≡ Some x → i < length xs
inside [] i x is = absurd cc
inside (y ∷ ys) zero x is = omega arith
inside (y ∷ ys) (suc i) x is = omega (arith, inside ys i x is)

outside : {A : Type 0} (xs : List A) (i : ℕ) → slice_get xs i ≡ None → length xs ≤ i
outside [] i is = omega arith
outside (y ∷ ys) zero is = absurd cc
outside (y ∷ ys) (suc i) is = omega (arith, outside ys i is)

here : {A : Type 0} (xs : List A) (i : ℕ) (x : A) → slice_get xs i ≡ Some x → drop i xs ≡ x ∷ drop (i + 1) xs
here xs i x is = at_drop_more (λ ys. ys) xs i x (inside xs i x is) ∙ ap (λ y. y ∷ drop (i + 1) xs) (get_or_from_slice_get xs i x x is)

-- ---- functions

pub function_more : (exports : List Export) (first i : ℕ) (types : List ℕ) (bodies : List CodeBody) (b : CodeBody) (front total : List FunctionDef) → i < length types → slice_get bodies i ≡ Some b
    → front ++ functions_from exports (first + i) (drop i types) (drop i bodies) ≡ total → (front ++ made exports (first + i) (get_or types i 0) b ∷ []) ++ functions_from exports (first + (i + 1)) (drop (i + 1) types) (drop (i + 1) bodies) ≡ total
function_more exports first i types bodies b front total lt is so_far =
    let rest : List FunctionDef = functions_from exports (first + (i + 1)) (drop (i + 1) types) (drop (i + 1) bodies) in
    let split : functions_from exports (first + i) (drop i types) (drop i bodies) ≡ made exports (first + i) (get_or types i 0) b ∷ rest
    = at_drop_more (λ ts. functions_from exports (first + i) ts (drop i bodies)) types i 0 lt
    ∙ ap (functions_from exports (first + i) (get_or types i 0 ∷ drop (i + 1) types)) (here bodies i b is)
    ∙ ap (λ n. made exports (first + i) (get_or types i 0) b ∷ functions_from exports n (drop (i + 1) types) (drop (i + 1) bodies)) (omega arith) in
    append_assoc front (made exports (first + i) (get_or types i 0) b ∷ []) rest ∙ ap (λ fs. front ++ fs) (sym split) ∙ so_far

no_bodies : (exports : List Export) (index : ℕ) (types : List ℕ) → functions_from exports index types [] ≡ []
no_bodies exports index [] = refl
no_bodies exports index (t ∷ ts) = refl

pub bodies_end : (exports : List Export) (first i : ℕ) (types : List ℕ) (bodies : List CodeBody) (front total : List FunctionDef) → slice_get bodies i ≡ None
    → front ++ functions_from exports (first + i) (drop i types) (drop i bodies) ≡ total → front ≡ total
bodies_end exports first i types bodies front total is so_far =
    let none : functions_from exports (first + i) (drop i types) (drop i bodies) ≡ []
    = ap (functions_from exports (first + i) (drop i types)) (drop_all i bodies (outside bodies i is)) ∙ no_bodies exports (first + i) (drop i types) in
    sym (append-nil front) ∙ ap (λ fs. front ++ fs) (sym none) ∙ so_far

pub types_end : (exports : List Export) (first i : ℕ) (types : List ℕ) (bodies : List CodeBody) (front total : List FunctionDef) → length types ≤ i
    → front ++ functions_from exports (first + i) (drop i types) (drop i bodies) ≡ total → front ≡ total
types_end exports first i types bodies front total le so_far =
    let none : functions_from exports (first + i) (drop i types) (drop i bodies) ≡ [] = rw (drop_all i types le) refl in
    sym (append-nil front) ∙ ap (λ fs. front ++ fs) (sym none) ∙ so_far

-- ---- segments

behind_first : (infos : List SegmentInfo) (i : ℕ) → other_infos (drop i infos) ≡ drop (suc i) infos
behind_first [] zero = refl
behind_first [] (suc i) = refl
behind_first (x ∷ xs) zero = refl
behind_first (x ∷ xs) (suc i) = behind_first xs i

others : (infos : List SegmentInfo) (i : ℕ) → other_infos (drop i infos) ≡ drop (i + 1) infos
others infos i =
    let next : suc i ≡ i + 1 = omega arith in
    behind_first infos i ∙ ap (λ n. drop n infos) next

pub segment_more : (start i : ℕ) (left : List Reloc) (infos : List SegmentInfo) (parts : List DataPart) (d : DataPart) (front total : List SegmentDef) → i < length parts
    → front ++ segments_from start left (drop i infos) (drop i parts) ≡ total
    → (front ++ segment_made start left (drop i infos) (get_or parts i d) ∷ []) ++ segments_from start (behind (end_in start (get_or parts i d).span) left) (drop (i + 1) infos) (drop (i + 1) parts) ≡ total
segment_more start i left infos parts d front total lt so_far =
    let part : DataPart = get_or parts i d in
    let rest : List SegmentDef = segments_from start (behind (end_in start part.span) left) (drop (i + 1) infos) (drop (i + 1) parts) in
    let split : segments_from start left (drop i infos) (drop i parts) ≡ segment_made start left (drop i infos) part ∷ rest
    = at_drop_more (segments_from start left (drop i infos)) parts i d lt
    ∙ ap (λ is. segment_made start left (drop i infos) part ∷ segments_from start (behind (end_in start part.span) left) is (drop (i + 1) parts)) (others infos i) in
    append_assoc front (segment_made start left (drop i infos) part ∷ []) rest ∙ ap (λ ss. front ++ ss) (sym split) ∙ so_far

-- a frame has no more sections than bytes
pub few_sections : (last end : ℕ) (ss : List SectionSpan) (bytes : List ℕ) → AreSections last end ss bytes → length ss ≤ length bytes
few_sections last end [] bytes s = omega arith
few_sections last end (x ∷ xs) bytes s =
    let others : length xs ≤ length s.2 = few_sections (max (rank_of x.id) last) end xs s.2 s.8 in
    let whole : length bytes ≡ length (x.id ∷ (s.0 ++ (s.1 ++ s.2))) = ap length s.3 in
    omega (arith, length-append s.0 (s.1 ++ s.2), length-append s.1 s.2)

pub few_in_frame : (ss : List SectionSpan) (bytes : List ℕ) → IsFrame ss bytes → length ss ≤ length bytes
few_in_frame ss bytes h = omega (arith, few_sections _ _ ss h.0 h.2, ap length h.1, length-append header h.0)
