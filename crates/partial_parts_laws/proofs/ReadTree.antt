-- What is read of the bytes of a program's relocatable object.
use Rattle.std.proofs.Common.{◌≡◌, ℕ, ◌+◌, List, [], ◌∷◌, ◌++◌, map, length, inl, inr, refl, sym, ap, ◌∙◌, subst, arith}
use Rattle.std.specs.Prelude.{Option, Some, filter_map, flat_map, slice_index_or}
use Rattle.std.proofs.lemmas.List.{length-map}
use Rattle.std.specs.List.{AllZip, cons_option}
use Rattle.list_places.specs.Has.{Has}
use Rattle.list_places.proofs.Lists.{has_left, has_right, map_has}
use Rattle.name_rules.specs.object_file.object_parts.declared.parts.GlobalDef.{GlobalDef}
use Rattle.object_file.specs.Objects.{functions_from, segments_from, object_from}
use Rattle.name_rules.specs.object_file.wasm_module.declared.parts.Export.{Export}
use Rattle.name_rules.specs.object_file.reloc_section.declared.entry.Reloc.{Reloc}
use Rattle.name_rules.specs.object_file.linking_section.declared.segment.SegmentInfo.{SegmentInfo}
use Rattle.name_rules.specs.object_file.linking_section.declared.symbol.SymbolKind.TheVariants.{Function}
use Rattle.name_rules.specs.object_file.object_parts.declared.parts.DataPart.{DataPart}
use Rattle.name_rules.specs.object_file.object_columns.declared.functions.FunctionDef.{FunctionDef}
use Rattle.name_rules.specs.object_file.object_columns.declared.segments.SegmentDef.{SegmentDef}
use Rattle.name_rules.specs.object_file.declared.object.Object.{Object}
use Rattle.name_rules.specs.object_file.Spaces.{no_type, written_type, defined_type}
use Rattle.object_rules.specs.Spaces.{imports_of}
use Rattle.object_rules.specs.Windows.{relocs_for, start_of}
use Rattle.object_rules.specs.object_parts.Code.{behind, end_in}
use Rattle.image_emit.specs.Bytes.{vector}
use Rattle.link_rules.specs.Keys.{content_type, window_types}
use Rattle.link_rules.specs.Program.{Program, Part, global}
use Rattle.link_rules.specs.Output.{content_global}
use Rattle.partial_rules.specs.Relocatable.{Windowed, body, segment, spelled_global, relocatable_bytes}
use Rattle.partial_rules.specs.Partial.{kept, windowed, content_info, types, type_number, import_types, imports, global_in, expression_in, relocatable}
use Rattle.partial_rules.specs.WellFormed.{Coded}
use Rattle.partial_rules.specs.Sections.{sections_told, globals_end, code_start, data_end}
use Rattle.partial_rules.specs.ReadAs.{parts_told, told_from, global_def, bodies_told, data_part}
use Rattle.partial_parts_laws.proofs.Zips.{zip_has}
use Rattle.partial_parts_laws.proofs.Inside.{type_found, merged_has}
use Rattle.partial_parts_laws.specs.ReadBack.{TreeRead, TreesAreRead}

-- what is told of each that is picked
told_zip : {A B C : Type 0} (Q : A → C → Type 0) (f : A → Option B) (tell : List ℕ → B → C) (item : B → List ℕ) (xs : List A) → ((x : A) → Has xs x → (y : B) × (f x ≡ Some y) × ((rest : List ℕ) → Q x (tell rest y)))
    → AllZip Q xs (told_from tell item (filter_map f xs))
told_zip Q f tell item [] each = tt
told_zip {A} {B} {C} Q f tell item (x ∷ xs) each =
    let it = each x (inl refl) in
    subst (λ o. AllZip Q (x ∷ xs) (told_from tell item (cons_option o (filter_map f xs)))) (sym it.1)
    (it.2 (flat_map item (filter_map f xs)), told_zip Q f tell item xs (λ y h. each y (inr h)))

-- functions and segments in turn
zip_functions : (t : Part → ℕ) (exports : List Export) (index end : ℕ) (xs : List Part) (cs : List Coded) → length cs ≡ length xs
    → AllZip (λ (x : Part) (f : FunctionDef). f.type_index ≡ t x) xs (functions_from exports index (map (λ x. t x) xs) (bodies_told end cs))
zip_functions t exports index end [] cs same = tt
zip_functions t exports index end (x ∷ xs) [] same = absurd (omega (arith, same))
zip_functions t exports index end (x ∷ xs) (c ∷ cs) same = (refl, zip_functions t exports (index + 1) end xs cs (omega (arith, same)))

zip_segments : (i : Part → SegmentInfo) (tell : List ℕ → Windowed → DataPart) (item : Windowed → List ℕ) (w : Part → Windowed) (start : ℕ) (relocs : List Reloc) (xs : List Part)
    → AllZip (λ (x : Part) (g : SegmentDef). g.info ≡ i x) xs (segments_from start relocs (map (λ x. i x) xs) (told_from tell item (map (λ x. w x) xs)))
zip_segments i tell item w start relocs [] = tt
zip_segments i tell item w start relocs (x ∷ xs) =
    (refl, zip_segments i tell item w start (behind (end_in start (tell (flat_map item (map (λ y. w y) xs)) (w x)).span) relocs) xs)

module _ (p : Program) (are_globals : (part : Part) → Has (kept p 2) part → (g : GlobalDef) × (part.content ≡ global g)) where
  globals_read : (end : ℕ) → AllZip (λ (part : Part) (g : GlobalDef). content_global (global g) ≡ content_global part.content) (kept p 2)
      (told_from (global_def end) spelled_global (filter_map (λ part. global_in p part.chunk.input part.content) (kept p 2)))
  globals_read end =
      told_zip (λ (part : Part) (g : GlobalDef). content_global (global g) ≡ content_global part.content) (λ part. global_in p part.chunk.input part.content) (global_def end) spelled_global (kept p 2)
      (λ part has. let g = are_globals part has in
      (record { kind = g.0.kind; value = g.0.value; bytes = expression_in p part.chunk.input g.0 }, ap (global_in p part.chunk.input) g.1, λ rest. ap content_global (sym g.1)))

  types_found : (o : Object) → o.types ≡ types p → (part : Part) (f : FunctionDef) → Has (kept p 0) part → f.type_index ≡ type_number p (content_type part.content) → defined_type o f ≡ content_type part.content
  types_found o same part f has is =
      ap (written_type o) is ∙ (ap (λ ts. slice_index_or ts (type_number p (content_type part.content)) no_type) same
      ∙ type_found (types p) (content_type part.content)
      (merged_has (import_types p ++ map (λ x. content_type x.content) (kept p 0) ++ window_types (kept p 0)) (content_type part.content)
      (has_left (import_types p ++ map (λ x. content_type x.content) (kept p 0)) (window_types (kept p 0)) (content_type part.content)
      (has_right (import_types p) (map (λ x. content_type x.content) (kept p 0)) (content_type part.content) (map_has (λ (x : Part). content_type x.content) (kept p 0) part has)))))

  as_many : (codes : List Coded) → (relocatable p).bodies ≡ map {A = Coded} {B = Windowed} (λ c. c.windowed) codes → length codes ≡ length (kept p 0)
  unfolding relocatable
  as_many codes same = sym (length-map codes (λ (c : Coded). c.windowed)) ∙ (sym (ap (λ ws. length ws) same) ∙ length-map (kept p 0) (λ part. windowed p part))

  tree_read : (input : ℕ) (codes : List Coded) → (relocatable p).bodies ≡ map {A = Coded} {B = Windowed} (λ c. c.windowed) codes → TreeRead p (object_from input (sections_told (relocatable p)) (parts_told (relocatable p) codes))
  unfolding object_from relocatable
  tree_read input codes bodies = record {
    types_are = refl;
    imports_are = refl;
    inits = refl;
    groups = refl;
    functions =
        zip_has (λ (x : Part) (f : FunctionDef). f.type_index ≡ type_number p (content_type x.content)) (λ (x : Part) (f : FunctionDef). defined_type o f ≡ content_type x.content) (kept p 0) o.functions
        (λ x f hx hf same. types_found o refl x f hx same)
        (zip_functions (λ x. type_number p (content_type x.content)) (relocatable p).exports (length (imports_of Function (imports p))) (code_start (length (relocatable_bytes (relocatable p))) (relocatable p) + length (vector body (relocatable p).bodies)) (kept p 0) codes (as_many codes bodies));
    segments =
        zip_segments (λ x. content_info p x.content) (data_part (data_end (length (relocatable_bytes (relocatable p))) (relocatable p))) segment (λ x. windowed p x) (start_of 11 (sections_told (relocatable p)))
        (relocs_for 11 (sections_told (relocatable p)) (parts_told (relocatable p) codes).relocs) (kept p 1);
    globals = globals_read (globals_end (length (relocatable_bytes (relocatable p))) (relocatable p));
  }
    where
      o : Object
      o = object_from input (sections_told (relocatable p)) (parts_told (relocatable p) codes)

pub trees_are_read : TreesAreRead
trees_are_read input p codes globals bodies = tree_read p globals input codes bodies
