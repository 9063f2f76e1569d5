-- What is read of a program's relocatable object: its kept parts, with their windows, names and bytes.
use Rattle.std.proofs.Common.{◌≡◌, ℕ, ◌+◌, ◌<◌, ◌==◌, false, List, [], ◌∷◌, map, filter, length, inl, inr, refl, sym, ap, ◌∙◌, subst, arith}
use Rattle.std.specs.Prelude.{Some, filter_map, take, drop, slice_index_or, All}
use Rattle.std.specs.List.{AllZip, AllByRecursion}
use Rattle.std.proofs.lemmas.List.{length-map}
use Rattle.list_places.specs.Has.{Has}
use Rattle.list_places.proofs.Lists.{all_has, has_map}
use Rattle.name_rules.specs.object_file.wl_base.declared.span.Span.{Span}
use Rattle.name_rules.specs.object_file.wl_base.declared.span.FileSpan.{FileSpan}
use Rattle.name_rules.specs.object_file.wasm_module.declared.parts.Export.{Export}
use Rattle.name_rules.specs.object_file.linking_section.declared.segment.SegmentInfo.{SegmentInfo}
use Rattle.name_rules.specs.object_file.linking_section.declared.symbol.SymbolKind.TheVariants.{Function, GlobalVar}
use Rattle.name_rules.specs.object_file.reloc_section.declared.entry.Reloc.{Reloc}
use Rattle.object_rules.specs.body_windows.Immediates.{immediates, AreInOrder}
use Rattle.object_rules.specs.Spaces.{imports_of}
use Rattle.object_rules.specs.Windows.{start_of as start_in}
use Rattle.object_rules.proofs.body_windows_lemmas.Order.{body_order}
use Rattle.name_rules.specs.object_file.object_columns.declared.functions.FunctionDef.{FunctionDef}
use Rattle.name_rules.specs.object_file.object_columns.declared.segments.SegmentDef.{SegmentDef}
use Rattle.name_rules.specs.object_file.declared.object.Object.{Object}
use Rattle.name_rules.specs.object_file.Spaces.{defined_type, function_imports, global_imports}
use Rattle.object_file.specs.Objects.{functions_from, segments_from, object_from}
use Rattle.reloc_apply.specs.declared.window.Patch.{Patch}
use Rattle.reloc_apply.specs.Apart.{AreApart, LiesIn, size_of}
use Rattle.reloc_apply.proofs.Apart.{apart_le}
use Rattle.reloc_apply.proofs.Over.{filled_long}
use Rattle.image_emit.specs.Bytes.{vector, file_part}
use Rattle.link_rules.specs.Program.{Program, Part, Ref, Named, a_symbol, a_type, span_in, span_of}
use Rattle.link_rules.specs.Keys.{content_type}
use Rattle.link_rules.specs.Values.{part_bytes}
use Rattle.partial_rules.specs.Relocatable.{Relocatable, Windowed, body, relocatable_bytes}
use Rattle.partial_rules.specs.Partial.{kept, windowed, content_info, type_number, named_reloc, empty_window, export_for, exported_name, open_of, imports, relocatable}
use Rattle.partial_rules.specs.WellFormed.{Coded, IsCoded, IsWritable}
use Rattle.partial_rules.specs.Sections.{code_start, sections_told}
use Rattle.partial_rules.specs.ReadAs.{bodies_told, codes_told, data_told, parts_told}
use Rattle.partial_laws.specs.Names.{IsOf}
use Rattle.partial_laws.proofs.Loading.{rise_above}
use Rattle.partial_laws.proofs.Programs.{programs_are_of}
use Rattle.partial_parts_laws.specs.Linked.{Linked, program, bytes_at}
use Rattle.partial_parts_laws.specs.PartsRead.{names_something, operand_for, IsWritten, IsFunction, IsSegment, PartsRead}
use Rattle.partial_parts_laws.specs.ReadBack.{TreeRead, AreLinked, IsFile, PartsAreRead}
use Rattle.partial_parts_laws.proofs.Zips.{zip_has, zip_chain}
use Rattle.partial_parts_laws.proofs.Once.{parts_apart}
use Rattle.partial_parts_laws.proofs.Operands.{named_by, operands_named}
use Rattle.partial_parts_laws.proofs.Imported.{function_count, global_count}
use Rattle.partial_parts_laws.proofs.Exported.{export_names}
use Rattle.partial_parts_laws.proofs.Spans.{StandAt}
use Rattle.partial_parts_laws.proofs.Sectioned.{bodies_placed, data_relocs, segments_placed, segments_windowed, segment_defs}
use Rattle.partial_parts_laws.proofs.KeptParts.{IsWhole, relocs_inside, of_global, function_whole, segment_whole, symbols_named}
use Rattle.partial_parts_laws.proofs.ReadTree.{trees_are_read}

zip_both : {A B : Type 0} (R S : A → B → Type 0) (xs : List A) (ys : List B) → AllZip R xs ys → AllZip S xs ys → AllZip (λ x y. R x y × S x y) xs ys
zip_both R S [] [] r s = tt
zip_both R S [] (y ∷ ys) r s = absurd r
zip_both R S (x ∷ xs) [] r s = absurd r
zip_both R S (x ∷ xs) (y ∷ ys) r s = ((r.0, s.0), zip_both R S xs ys r.1 s.1)

zip_from_map : {A B C : Type 0} (f : A → B) (R : B → C → Type 0) (xs : List A) (ys : List C) → AllZip R (map f xs) ys → AllZip (λ x y. R (f x) y) xs ys
zip_from_map f R [] [] r = tt
zip_from_map f R [] (y ∷ ys) r = absurd r
zip_from_map f R (x ∷ xs) [] r = absurd r
zip_from_map f R (x ∷ xs) (y ∷ ys) r = (r.0, zip_from_map f R xs ys r.1)

zip_maps : {A B C : Type 0} (f : A → C) (g : B → C) (xs : List A) (ys : List B) → map f xs ≡ map g ys → AllZip (λ x y. g y ≡ f x) xs ys
zip_maps f g [] [] e = tt
zip_maps f g [] (y ∷ ys) e = absurd cc
zip_maps f g (x ∷ xs) [] e = absurd cc
zip_maps {A} {B} {C} f g (x ∷ xs) (y ∷ ys) e = (first (f x) (g y) (map f xs) (map g ys) e, zip_maps f g xs ys (rest (f x) (g y) (map f xs) (map g ys) e))
  where
    first : (a b : C) (as' bs : List C) → a ∷ as' ≡ b ∷ bs → b ≡ a
    first a b as' bs e = cc

    rest : (a b : C) (as' bs : List C) → a ∷ as' ≡ b ∷ bs → as' ≡ bs
    rest a b as' bs e = cc

-- ---- operands

relocs_named : (o : Object) (k : Linked) (p : Program) (ns : List Named) → ((ref : Ref) → Has ns (a_symbol ref) → (ref.kind == 6) ≡ false) → map named_by (map (named_reloc p) ns) ≡ map (operand_for o k p) ns
relocs_named o k p [] symbols = refl
relocs_named o k p (a_type w ∷ ns) symbols = ap (λ xs. operand_for o k p (a_type w) ∷ xs) (relocs_named o k p ns (λ ref h. symbols ref (inr h)))
relocs_named o k p (a_symbol ref ∷ ns) symbols =
    let first : named_by (named_reloc p (a_symbol ref)) ≡ operand_for o k p (a_symbol ref) = rw (symbols ref (inl refl)) refl in
    let others = relocs_named o k p ns (λ r h. symbols r (inr h)) in
    λ i. first i ∷ others i

operands_zip : (exports : List Export) (index end : ℕ) (types : List ℕ) (cs : List Coded) → length types ≡ length cs → AllZip (λ (c : Coded) (f : FunctionDef). f.operands ≡ c.operands) cs (functions_from exports index types (bodies_told end cs))
operands_zip exports index end [] [] same = tt
operands_zip exports index end (t ∷ types) [] same = absurd (omega (arith, same))
operands_zip exports index end [] (c ∷ cs) same = absurd (omega (arith, same))
operands_zip exports index end (t ∷ types) (c ∷ cs) same = (refl, operands_zip exports (index + 1) end types cs (omega (arith, same)))

bodies_long : (end : ℕ) (cs : List Coded) → length (bodies_told end cs) ≡ length cs
bodies_long end [] = refl
bodies_long end (c ∷ cs) = omega (arith, bodies_long end cs)

-- ---- windows that lie in bytes

within : (at end : ℕ) (ps : List Patch) → AreApart at end ps → AllByRecursion (LiesIn end) ps
within at end [] h = tt
within at end (x ∷ ps) h = (apart_le (x.place + size_of x.form) end ps h.1, within (x.place + size_of x.form) end ps h.1)

-- ---- the parts

module _ (l : Linked) (objects : List Object) (is : AreLinked l objects) (codes : List Coded) (writable : IsWritable (relocatable (program l objects)) codes)
    (other : Linked) (input : ℕ) (file : IsFile other input (relocatable_bytes (relocatable (program l objects)))) where
  abbrev p : Program
  p = program l objects

  abbrev r : Relocatable
  r = relocatable p

  abbrev o : Object
  o = object_from input (sections_told r) (parts_told r codes)

  above : All (λ (x : Object). 0 < x.input) objects
  above = rise_above 0 objects is.rise

  of_objects : IsOf p objects
  of_objects = programs_are_of l.plan l.files l.all objects

  imported : length (imports_of Function (imports p)) ≡ length (open_of p Function)
  imported = function_count p objects of_objects is.no_clash

  -- ---- their bytes

  long : (part : Part) → IsWhole l objects is.strict above is.sound is.lie part → length (windowed p part).bytes ≡ part.source.span.len
  long part whole = filled_long (map empty_window part.named) (part_bytes p part) (within 0 (length (part_bytes p part)) (map empty_window part.named) whole.windows) ∙ whole.long

  there : (s : Span) → span_of other.all input s ≡ span_in (Some file.candidate) s
  there s = ap (λ c. span_in c s) file.found

  bytes_there : (s : Span) → bytes_at other input s ≡ take s.len (drop s.start (relocatable_bytes r))
  bytes_there s =
      ap (λ f. file_part other.files f) (there s)
      ∙ (ap (λ n. take s.len (drop (n + s.start) (slice_index_or other.files file.candidate.file []))) file.start
      ∙ (ap (λ bs. take s.len (drop (0 + s.start) bs)) file.file ∙ ap (λ n. take s.len (drop n (relocatable_bytes r))) (zero_plus s.start)))
    where
      zero_plus : (n : ℕ) → 0 + n ≡ n
      zero_plus n = omega arith

  written : (part : Part) (s : Span) → IsWhole l objects is.strict above is.sound is.lie part → StandAt (relocatable_bytes r) (windowed p part).bytes s → IsWritten o other p part s
  unfolding object_from
  written part s whole stands = record { len = ap (λ (f : FileSpan). f.span.len) (there s) ∙ (stands.long ∙ long part whole); bytes = bytes_there s ∙ stands.are }

  -- ---- functions

  bodies_are : map (λ part. windowed p part) (kept p 0) ≡ map {A = Coded} {B = Windowed} (λ c. c.windowed) codes
  unfolding relocatable
  bodies_are = writable.bodies

  as_many : length codes ≡ length (kept p 0)
  as_many = sym (length-map codes (λ (c : Coded). c.windowed)) ∙ (sym (ap (λ ws. length ws) bodies_are) ∙ length-map (kept p 0) (λ part. windowed p part))

  abbrev function_types : List ℕ
  function_types = map (λ part. type_number p (content_type part.content)) (kept p 0)

  types_long : length function_types ≡ length (kept p 0)
  types_long = length-map (kept p 0) (λ part. type_number p (content_type part.content))

  abbrev defined : List FunctionDef
  defined = functions_from (filter_map (λ part. export_for p part) (kept p 0)) (length (imports_of Function (imports p))) function_types (codes_told r codes)

  record Told (part : Part) (f : FunctionDef) : Type 0 where
    names : filter names_something f.operands ≡ map (operand_for o other p) part.named
    stands : StandAt (relocatable_bytes r) (windowed p part).bytes f.span

  coded_zip : AllZip (λ (part : Part) (c : Coded). c.windowed ≡ windowed p part) (kept p 0) codes
  coded_zip = zip_maps (λ part. windowed p part) (λ (c : Coded). c.windowed) (kept p 0) codes bodies_are

  functions_zip : AllZip (λ (c : Coded) (f : FunctionDef). IsCoded c × (f.operands ≡ c.operands) × StandAt (relocatable_bytes r) c.windowed.bytes f.span) codes defined
  functions_zip =
      zip_has (λ (c : Coded) (f : FunctionDef). (f.operands ≡ c.operands) × StandAt (relocatable_bytes r) c.windowed.bytes f.span)
      (λ (c : Coded) (f : FunctionDef). IsCoded c × (f.operands ≡ c.operands) × StandAt (relocatable_bytes r) c.windowed.bytes f.span) codes defined
      (λ c f hc hf both. (all_has IsCoded codes writable.coded c hc, both.0, both.1))
      (zip_both (λ (c : Coded) (f : FunctionDef). f.operands ≡ c.operands) (λ (c : Coded) (f : FunctionDef). StandAt (relocatable_bytes r) c.windowed.bytes f.span) codes defined
      (operands_zip (filter_map (λ part. export_for p part) (kept p 0)) (length (imports_of Function (imports p))) (code_start (length (relocatable_bytes r)) r + length (vector body r.bodies)) function_types codes (types_long ∙ sym as_many))
      (bodies_placed r codes writable.bodies (filter_map (λ part. export_for p part) (kept p 0)) (length (imports_of Function (imports p))) function_types (types_long ∙ sym as_many)))

  both_zip : AllZip (λ (part : Part) (f : FunctionDef). (c : Coded) × (c.windowed ≡ windowed p part) × IsCoded c × (f.operands ≡ c.operands) × StandAt (relocatable_bytes r) c.windowed.bytes f.span) (kept p 0) defined
  both_zip =
      zip_chain (λ (part : Part) (c : Coded). c.windowed ≡ windowed p part) (λ (c : Coded) (f : FunctionDef). IsCoded c × (f.operands ≡ c.operands) × StandAt (relocatable_bytes r) c.windowed.bytes f.span)
      (λ (part : Part) (f : FunctionDef). (c : Coded) × (c.windowed ≡ windowed p part) × IsCoded c × (f.operands ≡ c.operands) × StandAt (relocatable_bytes r) c.windowed.bytes f.span)
      (λ part c f same told. (c, same, told.0, told.1, told.2)) (kept p 0) codes defined coded_zip functions_zip

  told_zip : AllZip Told (kept p 0) defined
  told_zip =
      zip_has (λ (part : Part) (f : FunctionDef). (c : Coded) × (c.windowed ≡ windowed p part) × IsCoded c × (f.operands ≡ c.operands) × StandAt (relocatable_bytes r) c.windowed.bytes f.span) Told (kept p 0) defined
      (λ part f hp hf t.
      let c : Coded = t.0 in
      let order : AreInOrder 0 (length c.windowed.bytes) (immediates c.code.code) = (body_order c.code c.windowed.bytes t.2.spelled).0 in
      record {
        names = ap (filter names_something) t.3
            ∙ (operands_named c.windowed.relocs c.code (length c.windowed.bytes) c.operands order t.2.stand
            ∙ (ap (λ (w : Windowed). map named_by w.relocs) t.1 ∙ relocs_named o other p part.named (λ ref h. symbols_named l objects is.strict above is.sound is.lie part hp ref h)));
        stands = subst (λ (w : Windowed). StandAt (relocatable_bytes r) w.bytes f.span) t.1 t.4;
      })
      both_zip

  names_zip : AllZip (λ (part : Part) (f : FunctionDef). f.export_name ≡ exported_name p part.chunk) (kept p 0) defined
  names_zip =
      export_names p (parts_apart l objects is.rise is.strict) (length (imports_of Function (imports p))) function_types (codes_told r codes) imported types_long
      (bodies_long (code_start (length (relocatable_bytes r)) r + length (vector body r.bodies)) codes ∙ as_many)

  tree : TreeRead p o
  tree = trees_are_read input p codes (λ part has. of_global l objects is.strict above part has) writable.bodies

  functions : AllZip (IsFunction o other p) (kept p 0) o.functions
  unfolding object_from relocatable
  functions =
      zip_has (λ (part : Part) (f : FunctionDef). (defined_type o f ≡ content_type part.content) × (Told part f × (f.export_name ≡ exported_name p part.chunk))) (IsFunction o other p) (kept p 0) o.functions
      (λ part f hp hf t. record {
        type = t.0;
        operands_are = t.1.0.names;
        export_name = t.1.1;
        written = written part f.span (function_whole l objects is.strict above is.sound is.lie part hp) t.1.0.stands;
      })
      (zip_both (λ (part : Part) (f : FunctionDef). defined_type o f ≡ content_type part.content) (λ (part : Part) (f : FunctionDef). Told part f × (f.export_name ≡ exported_name p part.chunk)) (kept p 0) o.functions
      tree.functions
      (zip_both Told (λ (part : Part) (f : FunctionDef). f.export_name ≡ exported_name p part.chunk) (kept p 0) defined told_zip names_zip))

  -- ---- segments

  segments_are : r.segments ≡ map (λ part. windowed p part) (kept p 1)
  unfolding relocatable
  segments_are = refl

  inside : (w : Windowed) → Has r.segments w → (x : Reloc) → Has w.relocs x → x.offset < length w.bytes
  inside w has x hx =
      let m = has_map (λ part. windowed p part) (kept p 1) w (subst (λ ws. Has ws w) segments_are has) in
      let whole = segment_whole l objects is.strict above is.sound is.lie m.0 m.1 in
      let in_part : x.offset < length (part_bytes p m.0) = relocs_inside p 0 (length (part_bytes p m.0)) m.0.named whole.windows x (subst (λ (v : Windowed). Has v.relocs x) (sym m.2) hx) in
      let same : length (windowed p m.0).bytes ≡ length (part_bytes p m.0) = filled_long (map empty_window m.0.named) (part_bytes p m.0) (within 0 (length (part_bytes p m.0)) (map empty_window m.0.named) whole.windows) in
      subst (λ (v : Windowed). x.offset < length v.bytes) m.2 (omega (arith, in_part, same))

  abbrev infos : List SegmentInfo
  infos = map (λ part. content_info p part.content) (kept p 1)

  abbrev TellsSegment : Windowed → SegmentDef → Type 0
  TellsSegment w g = StandAt (relocatable_bytes r) w.bytes g.span × (g.windows ≡ w.relocs)

  segments_zip : AllZip TellsSegment r.segments (segment_defs r infos)
  segments_zip =
      zip_both (λ (w : Windowed) (g : SegmentDef). StandAt (relocatable_bytes r) w.bytes g.span) (λ (w : Windowed) (g : SegmentDef). g.windows ≡ w.relocs) r.segments (segment_defs r infos)
      (segments_placed r r.segments refl infos) (segments_windowed r r.segments refl infos inside)

  segments_by_parts : AllZip (λ (part : Part) (g : SegmentDef). TellsSegment (windowed p part) g) (kept p 1) (segment_defs r infos)
  segments_by_parts = zip_from_map (λ part. windowed p part) TellsSegment (kept p 1) (segment_defs r infos) (subst (λ ws. AllZip TellsSegment ws (segment_defs r infos)) segments_are segments_zip)

  segments_told : o.segments ≡ segment_defs r infos
  unfolding object_from relocatable
  segments_told = ap (λ rs. segments_from (start_in 11 (sections_told r)) rs infos (data_told r)) (data_relocs r)

  segments : AllZip (IsSegment o other p) (kept p 1) o.segments
  segments =
      zip_has (λ (part : Part) (g : SegmentDef). (g.info ≡ content_info p part.content) × TellsSegment (windowed p part) g) (IsSegment o other p) (kept p 1) o.segments
      (λ part g hp hg t. record {
        info = t.0;
        windows = t.1.1;
        written = written part g.span (segment_whole l objects is.strict above is.sound is.lie part hp) t.1.0;
      })
      (zip_both (λ (part : Part) (g : SegmentDef). g.info ≡ content_info p part.content) (λ (part : Part) (g : SegmentDef). TellsSegment (windowed p part) g) (kept p 1) o.segments
      tree.segments
      (subst (λ gs. AllZip (λ (part : Part) (g : SegmentDef). TellsSegment (windowed p part) g) (kept p 1) gs) (sym segments_told) segments_by_parts))

  -- ---- all

  functions_imported : length (function_imports o) ≡ length (open_of p Function)
  functions_imported = ap (λ is. length (imports_of Function is)) tree.imports_are ∙ imported

  globals_imported : length (global_imports o) ≡ length (open_of p GlobalVar)
  globals_imported = ap (λ is. length (imports_of GlobalVar is)) tree.imports_are ∙ global_count p objects of_objects is.no_clash

  all_read : PartsRead o other p
  all_read = record {
    functions = functions;
    segments = segments;
    globals = tree.globals;
    inits = tree.inits;
    groups = tree.groups;
    types_are = tree.types_are;
    functions_imported = functions_imported;
    globals_imported = globals_imported;
  }

pub parts_are_read : PartsAreRead
parts_are_read l objects is codes writable other input file = all_read l objects is codes writable other input file
