-- The parts of the whole link and of the later one, side by side.
use Rattle.std.proofs.Common.{◌≡◌, ℕ, ◌+◌, ◌<◌, ◌≤◌, ◌==◌, Bool, true, false, ◌&&◌, List, [], ◌∷◌, ◌++◌, map, filter, length, inl, inr, refl, sym, ap, ◌∙◌, subst, arith}
use Rattle.std.specs.Prelude.{if◌then◌else◌, Option, Some, None, option_map, slice_get, filter_map, flat_map, All}
use Rattle.std.specs.List.{AllZip, list_all, cons_option}
use Rattle.list_places.specs.Has.{Has}
use Rattle.list_places.proofs.Lists.{all_has, any_has, has_at, has_filter, has_pick, pick_has, some_is, has_flat, flat_has, map_has, has_left, has_right}
use Rattle.std.proofs.lemmas.Bool.{and_parts, eqb-true}
use Rattle.made_symbols.specs.declared.mode.Mode.TheVariants.{Plain}
use Rattle.made_symbols.specs.Made.{MadeSymbol, made, call_ctors}
use Rattle.name_rules.specs.object_file.reloc_section.declared.entry.Reloc.{Reloc}
use Rattle.name_rules.specs.object_file.body_windows.declared.operand.Operand.{Operand}
use Rattle.name_rules.specs.object_file.body_windows.declared.operand.Operand.TheVariants as operands
use Rattle.name_rules.specs.object_file.object_parts.declared.parts.GlobalDef.{GlobalDef}
use Rattle.name_rules.specs.object_file.object_columns.declared.functions.FunctionDef.{FunctionDef}
use Rattle.name_rules.specs.object_file.object_columns.declared.segments.SegmentDef.{SegmentDef}
use Rattle.object_file.specs.Sound.{Sound, OperandNames, WindowNames, WindowsStandIn}
use Rattle.name_rules.specs.object_file.declared.object.Object.{Object}
use Rattle.name_rules.specs.Entries.{made_entry}
use Rattle.image_emit.specs.Bytes.{file_part}
use Rattle.mark_bits.specs.declared.kinds.TheConstants as chunks
use Rattle.reloc_apply.specs.Windows.{filled}
use Rattle.reloc_apply.specs.Apart.{AreApart}
use Rattle.object_file.specs.body_windows.Operands.{StandIn}
use Rattle.name_rules.specs.object_file.Spaces.{defined_type}
use Rattle.name_rules.specs.object_file.linking_section.declared.segment.SegmentInfo.{SegmentInfo}
use Rattle.name_rules.specs.object_file.wl_base.declared.span.FileSpan.{FileSpan}
use Rattle.link_rules.specs.Program.{Program, Part, function, segment, global, named_ref, Named, a_symbol, a_type, TypeWindow, Ref, named_type, types_named, ref_in, operand_named, window_named, init_calls, made_parts_from, function_part, segment_part, global_part, kept_in, chunk_at, same_chunk, no_source}
use Rattle.link_rules.specs.Marks.{table_of, is_object_part, is_retained}
use Rattle.link_rules.specs.Keys.{parts_of_kind, window_types, content_type}
use Rattle.link_rules.specs.Values.{part_bytes}
use Rattle.link_rules.specs.Output.{content_global}
use Rattle.partial_rules.specs.Partial.{kept, place_of, import_types, named_reloc, content_info, empty_window}
use Rattle.partial_rules.specs.Moving.{AlikeRef, AlikePart, AlikeContent}
use Rattle.partial_laws.specs.Inputs.{Run, Objects, as_input, alone, later, whole_objects, run_objects, later_objects, AreCut}
use Rattle.partial_laws.proofs.Lists.{none_asked}
use Rattle.partial_laws.proofs.Members.{chunk_itself}
use Rattle.partial_parts_laws.specs.Linked.{Linked, Links, program, alone_program, whole_program, later_program}
use Rattle.partial_parts_laws.specs.PartsRead.{IsFunction, IsSegment, IsGlobal, operand_for, names_something}
use Rattle.partial_parts_laws.specs.Moves.{moving, StandsInLinks}
use Rattle.partial_parts_laws.specs.Alike.{HeldChunk, HeldSymbol, CallsAlike}
use Rattle.partial_parts_laws.proofs.Zips.{zip_more, zip_has, zip_filter, zip_length, flat_alike, indexed_all}
use Rattle.partial_parts_laws.proofs.Parts.{make_function, make_segment, make_global, res, own_parts, object_parts, parts_by, files_are, function_parts, segment_parts, global_parts, functions_in, segments_in, globals_in, of_three}
use Rattle.partial_parts_laws.proofs.ByKind.{whole_zip, before_zip, behind_zip}
use Rattle.partial_parts_laws.proofs.RunParts.{own_part}
use Rattle.partial_parts_laws.proofs.Runs.{kept_is}
use Rattle.partial_parts_laws.proofs.Middles.{functions_middle, segments_middle, globals_middle}
use Rattle.partial_parts_laws.proofs.Chunks.{own_zip, chunk_before}
use Rattle.partial_parts_laws.proofs.Built.{code_apart, data_apart, Alikes, AlikeSides}
use Rattle.partial_parts_laws.proofs.Outside.{before_stays, behind_stays, function_stays, segment_stays, global_stays}
use Rattle.partial_parts_laws.proofs.Inside.{RunPart, JoinedPart, joined_named, run_alike, merged_has, function_named, segment_named}

no_true : false ≡ true → ⊥
no_true e = absurd cc

kind_not : (b : Part) (k : ℕ) {n : ℕ} → b.chunk.kind ≡ k → b.chunk.kind ≡ n → (k ≡ n → ⊥) → ⊥
kind_not b k a c differ = differ (sym a ∙ c)

two_not : (n : ℕ) → n ≡ 2 → n ≡ 0 → ⊥
two_not n e z = omega (arith, e, z)

module _ (run : Run) (os : Objects) (ls : Links) (s : StandsInLinks run os ls) where
  abbrev cut : AreCut run os
  cut = s.names.cut

  abbrev p : Program
  p = alone_program run os ls

  abbrev P : Program
  P = whole_program run os ls

  abbrev Q : Program
  Q = later_program run os ls

  abbrev W : List Object
  W = whole_objects os

  abbrev L : List Object
  L = later_objects run os

  abbrev RO : List Object
  RO = run_objects run os

  abbrev run_object : Object → Object
  run_object o = as_input (alone run o.input) o

  abbrev T : Part → Part → Type 0
  T = AlikeSides run os ls s

  -- ---- an object of the run

  in_whole : (o : Object) → Has os.middle o → Has W o
  in_whole o has = has_right os.before (os.middle ++ os.behind) o (has_left os.middle os.behind o has)

  above : (o : Object) → Has os.middle o → run.first < o.input
  above o has = all_has (λ (x : Object). run.first < x.input) os.middle cut.from o has

  below : (o : Object) → Has os.middle o → o.input ≤ run.first + run.many
  below o has = all_has (λ (x : Object). x.input ≤ run.first + run.many) os.middle cut.to o has

  -- bytes of a part in the run alone
  run_bytes : (b a : Part) → file_part ls.run_alone.files b.source ≡ file_part ls.whole.files a.source → part_bytes p b ≡ part_bytes P a
  run_bytes b a same = ap (λ fs. file_part fs b.source) (files_are ls.run_alone RO) ∙ (same ∙ sym (ap (λ fs. file_part fs a.source) (files_are ls.whole W)))

  whole_bytes : (a : Part) (n : ℕ) → length (file_part ls.whole.files a.source) ≡ n → n ≡ length (part_bytes P a)
  whole_bytes a n is = sym is ∙ ap (λ fs. length (file_part fs a.source)) (sym (files_are ls.whole W))

  function_of_run : (o : Object) → Has os.middle o → (n : ℕ) (f : FunctionDef) → slice_get o.functions n ≡ Some f
      → RunPart run os ls s (function_part ls.whole.all W (res ls.whole W o) n f) (function_part ls.run_alone.all RO (res ls.run_alone RO (run_object o)) n f)
  function_of_run o has n f is =
      let so = all_has (λ (y : Object). (size : ℕ) × Sound size y) W s.sound o (in_whole o has) in
      let sound : Sound so.0 o = so.1 in
      let hf = has_at o.functions n f is in
      let names : All (OperandNames o) f.operands = all_has (λ (g : FunctionDef). All (OperandNames o) g.operands) o.functions sound.operand_names f hf in
      let a : Part = function_part ls.whole.all W (res ls.whole W o) n f in
      let b : Part = function_part ls.run_alone.all RO (res ls.run_alone RO (run_object o)) n f in
      record {
        chunk = refl;
        from = above o has;
        to = below o has;
        content = refl;
        len = (s.files.of_run o has).len f.span;
        bytes = run_bytes b a ((s.files.of_run o has).bytes f.span);
        named = function_named run os ls s o has f.operands (λ op h. all_has (OperandNames o) f.operands names op h);
        apart = subst (λ k. AreApart 0 k (map empty_window a.named)) (whole_bytes a f.span.len (s.files.functions o has f hf))
            (code_apart o (res ls.whole W o) 0 f.span.len f.operands (λ op h. all_has (OperandNames o) f.operands names op h) (all_has (λ (g : FunctionDef). StandIn 0 g.span.len g.operands) o.functions sound.operands f hf));
      }

  segment_of_run : (o : Object) → Has os.middle o → (n : ℕ) (g : SegmentDef) → slice_get o.segments n ≡ Some g
      → RunPart run os ls s (segment_part ls.whole.all W (res ls.whole W o) n g) (segment_part ls.run_alone.all RO (res ls.run_alone RO (run_object o)) n g)
  segment_of_run o has n g is =
      let so = all_has (λ (y : Object). (size : ℕ) × Sound size y) W s.sound o (in_whole o has) in
      let sound : Sound so.0 o = so.1 in
      let hg = has_at o.segments n g is in
      let names : All (WindowNames o) g.windows = all_has (λ (h : SegmentDef). All (WindowNames o) h.windows) o.segments sound.window_names g hg in
      let a : Part = segment_part ls.whole.all W (res ls.whole W o) n g in
      let b : Part = segment_part ls.run_alone.all RO (res ls.run_alone RO (run_object o)) n g in
      record {
        chunk = refl;
        from = above o has;
        to = below o has;
        content = refl;
        len = (s.files.of_run o has).len g.span;
        bytes = run_bytes b a ((s.files.of_run o has).bytes g.span);
        named = segment_named run os ls s o has g.windows (λ w h. all_has (WindowNames o) g.windows names w h);
        apart = subst (λ k. AreApart 0 k (map empty_window a.named)) (whole_bytes a g.span.len (s.files.segments o has g hg))
            (data_apart o (res ls.whole W o) 0 g.span.len g.windows (λ w h. all_has (WindowNames o) g.windows names w h) (all_has (λ (h : SegmentDef). WindowsStandIn 0 h.span.len h.windows) o.segments sound.windows g hg));
      }

  global_of_run : (o : Object) → Has os.middle o → (n : ℕ) (g : GlobalDef) → slice_get o.globals n ≡ Some g
      → RunPart run os ls s (global_part ls.whole.all W (res ls.whole W o) n g) (global_part ls.run_alone.all RO (res ls.run_alone RO (run_object o)) n g)
  global_of_run o has n g is =
      let a : Part = global_part ls.whole.all W (res ls.whole W o) n g in
      let b : Part = global_part ls.run_alone.all RO (res ls.run_alone RO (run_object o)) n g in
      record {
        chunk = refl;
        from = above o has;
        to = below o has;
        content = refl;
        len = refl;
        bytes = run_bytes b a refl;
        named = tt;
        apart = omega arith;
      }

  -- ---- what the one object has

  kept_kind : (k : ℕ) (b : Part) → Has (kept p k) b → b.chunk.kind ≡ k
  kept_kind k b has =
      let f = has_filter (λ (part : Part). is_object_part part && (part.chunk.kind == k)) p.parts b has in
      eqb-true b.chunk.kind k (and_parts (is_object_part b) (b.chunk.kind == k) f.1).1

  -- a kept part is one of an object of the run
  record IsFrom (b : Part) : Type 0 where
    object : Object
    there : Has os.middle object
    has : Has (function_parts ls.run_alone RO (run_object object) ++ segment_parts ls.run_alone RO (run_object object) ++ global_parts ls.run_alone RO (run_object object)) b

  is_from : (k : ℕ) (b : Part) → Has (kept p k) b → IsFrom b
  is_from k b has =
      let q = subst (λ xs. Has xs b) (kept_is run os ls s k) has in
      let f = has_flat (λ o. parts_of_kind k (object_parts ls.run_alone RO (run_object o))) os.middle b q in
      let g = has_filter (λ (part : Part). part.chunk.kind == k) (object_parts ls.run_alone RO (run_object f.0)) b f.2 in
      record { object = f.0; there = f.1; has = (has_filter (λ (y : Part). kept_in RO (run_object f.0) y.chunk) (function_parts ls.run_alone RO (run_object f.0) ++ segment_parts ls.run_alone RO (run_object f.0) ++ global_parts ls.run_alone RO (run_object f.0)) b g.0).0 }

  told_operands : (ops : List Operand) (ns : List Named) → filter names_something ops ≡ map (operand_for os.joined ls.after p) ns
      → filter_map (λ op. operand_named (res ls.after L os.joined) op) ops ≡ filter_map (λ n. joined_named run os ls s n) ns
  told_operands ops ns are =
      picked_where ops ∙ (ap (λ xs. filter_map (λ op. operand_named (res ls.after L os.joined) op) xs) are ∙ each ns)
    where
      picked_where : (xs : List Operand) → filter_map (λ op. operand_named (res ls.after L os.joined) op) xs ≡ filter_map (λ op. operand_named (res ls.after L os.joined) op) (filter names_something xs)
      picked_where [] = refl
      picked_where (operands.Number ∷ xs) = picked_where xs
      picked_where (operands.Symbol kind place symbol addend ∷ xs) = ap (λ ys. cons_option (operand_named (res ls.after L os.joined) (operands.Symbol kind place symbol addend)) ys) (picked_where xs)
      picked_where (operands.TypeRef place index ∷ xs) = ap (λ ys. cons_option (operand_named (res ls.after L os.joined) (operands.TypeRef place index)) ys) (picked_where xs)
      picked_where (operands.TableZero ∷ xs) = picked_where xs

      each : (xs : List Named) → filter_map (λ op. operand_named (res ls.after L os.joined) op) (map (operand_for os.joined ls.after p) xs) ≡ filter_map (λ n. joined_named run os ls s n) xs
      each [] = refl
      each (a_symbol ref ∷ xs) = ap (λ ys. cons_option (joined_named run os ls s (a_symbol ref)) ys) (each xs)
      each (a_type w ∷ xs) = ap (λ ys. cons_option (joined_named run os ls s (a_type w)) ys) (each xs)

  joined_function : (b : Part) → Has (kept p 0) b → (n : ℕ) (f : FunctionDef) → slice_get os.joined.functions n ≡ Some f → place_of p 0 b.chunk ≡ n → IsFunction os.joined ls.after p b f
      → JoinedPart run os ls s 0 b (function_part ls.after.all L (res ls.after L os.joined) n f)
  joined_function b has n f is place reads =
      let z : Part = function_part ls.after.all L (res ls.after L os.joined) n f in
      record {
        kind = kept_kind 0 b has;
        chunk = ap (chunk_at os.joined.input 0) (sym place);
        content = content (is_from 0 b has);
        len = reads.written.len;
        bytes = ap (λ fs. file_part fs z.source) (files_are ls.after L) ∙ reads.written.bytes;
        named = told_operands f.operands b.named reads.operands_are;
        typed = λ w hw. merged_has (import_types p ++ map (λ part. content_type part.content) (kept p 0) ++ window_types (kept p 0)) w.type
            (has_right (import_types p ++ map (λ part. content_type part.content) (kept p 0)) (window_types (kept p 0)) w.type (flat_has types_named (kept p 0) b w.type has (pick_has named_type b.named (a_type w) w.type hw refl)));
      }
    where
      content : IsFrom b → AlikeContent b.content (function (defined_type os.joined f))
      content src =
          of_three (function_parts ls.run_alone RO (run_object src.object)) (segment_parts ls.run_alone RO (run_object src.object)) (global_parts ls.run_alone RO (run_object src.object)) b src.has
          (λ h. indexed_all (λ y. content_type y.content ≡ defined_type os.joined f → AlikeContent y.content (function (defined_type os.joined f))) (make_function ls.run_alone RO (run_object src.object))
          (λ k g same. record { type = sym same; align = refl; retained = refl; global = refl }) 0 src.object.functions b h (sym reads.type))
          (λ h. absurd (kind_not b 1 (indexed_all (λ y. y.chunk.kind ≡ 1) (make_segment ls.run_alone RO (run_object src.object)) (λ k g. refl) 0 src.object.segments b h) (kept_kind 0 b has) (λ e. omega (arith, e))))
          (λ h. absurd (kind_not b 2 (indexed_all (λ y. y.chunk.kind ≡ 2) (make_global ls.run_alone RO (run_object src.object)) (λ k g. refl) 0 src.object.globals b h) (kept_kind 0 b has) (λ e. omega (arith, e))))

  told_windows : (ws : List Reloc) (ns : List Named) → ((w : TypeWindow) → Has ns (a_type w) → ⊥) → ws ≡ map (named_reloc p) ns
      → filter_map (λ w. window_named (res ls.after L os.joined) w) ws ≡ filter_map (λ n. joined_named run os ls s n) ns
  told_windows ws ns none are = ap (λ xs. filter_map (λ w. window_named (res ls.after L os.joined) w) xs) are ∙ each ns none
    where
      each : (xs : List Named) → ((w : TypeWindow) → Has xs (a_type w) → ⊥) → filter_map (λ w. window_named (res ls.after L os.joined) w) (map (named_reloc p) xs) ≡ filter_map (λ n. joined_named run os ls s n) xs
      each [] no_type = refl
      each (a_symbol ref ∷ xs) no_type = ap (λ ys. cons_option (joined_named run os ls s (a_symbol ref)) ys) (each xs (λ w h. no_type w (inr h)))
      each (a_type w ∷ xs) no_type = absurd (no_type w (inl refl))

  -- a window of data names no type
  none_typed : (o : Object) (ws : List Reloc) (w : TypeWindow) → Has (filter_map (λ x. window_named (res ls.run_alone RO o) x) ws) (a_type w) → ⊥
  none_typed o ws w has =
      let r = has_pick (λ x. window_named (res ls.run_alone RO o) x) ws (a_type w) has in
      by_ref (ref_in (res ls.run_alone RO o) r.0.offset r.0.kind r.0.index r.0.addend) r.2
    where
      by_ref : (x : Option Ref) → option_map a_symbol x ≡ Some (a_type w) → ⊥
      by_ref None e = absurd cc
      by_ref (Some ref) e = absurd (type_not (some_is (a_symbol ref) (a_type w) e))
        where
          is_type : Named → Bool
          is_type (a_symbol x) = false
          is_type (a_type x) = true

          type_not : a_symbol ref ≡ a_type w → ⊥
          type_not e' = absurd (no_true (ap is_type e'))

  record IsSegmentFrom (b : Part) : Type 0 where
    object : Object
    definition : SegmentDef
    content_is : b.content ≡ segment definition.info
    named_is : b.named ≡ filter_map (λ w. window_named (res ls.run_alone RO object) w) definition.windows

  segment_from : (b : Part) → Has (kept p 1) b → IsSegmentFrom b
  segment_from b has =
      let src = is_from 1 b has in
      of_three (function_parts ls.run_alone RO (run_object src.object)) (segment_parts ls.run_alone RO (run_object src.object)) (global_parts ls.run_alone RO (run_object src.object)) b src.has
      (λ h. absurd (kind_not b 0 (indexed_all (λ y. y.chunk.kind ≡ 0) (make_function ls.run_alone RO (run_object src.object)) (λ k g. refl) 0 src.object.functions b h) (kept_kind 1 b has) (λ e. omega (arith, e))))
      (λ h. indexed_all IsSegmentFrom (make_segment ls.run_alone RO (run_object src.object)) (λ k g. record { object = run_object src.object; definition = g; content_is = refl; named_is = refl }) 0 src.object.segments b h)
      (λ h. absurd (kind_not b 2 (indexed_all (λ y. y.chunk.kind ≡ 2) (make_global ls.run_alone RO (run_object src.object)) (λ k g. refl) 0 src.object.globals b h) (kept_kind 1 b has) (λ e. omega (arith, e))))

  joined_segment : (b : Part) → Has (kept p 1) b → (n : ℕ) (g : SegmentDef) → slice_get os.joined.segments n ≡ Some g → place_of p 1 b.chunk ≡ n → IsSegment os.joined ls.after p b g
      → JoinedPart run os ls s 1 b (segment_part ls.after.all L (res ls.after L os.joined) n g)
  joined_segment b has n g is place reads =
      let z : Part = segment_part ls.after.all L (res ls.after L os.joined) n g in
      let src = segment_from b has in
      let none : (w : TypeWindow) → Has b.named (a_type w) → ⊥ = λ w h. none_typed src.object src.definition.windows w (subst (λ xs. Has xs (a_type w)) src.named_is h) in
      let info : g.info ≡ src.definition.info = reads.info ∙ ap (content_info p) src.content_is in
      record {
        kind = kept_kind 1 b has;
        chunk = ap (chunk_at os.joined.input 1) (sym place);
        content = subst (λ c. AlikeContent c (segment g.info)) (sym src.content_is)
            (record {
              type = refl;
              align = ap (λ (i : SegmentInfo). i.align) info;
              retained = ap (λ (i : SegmentInfo). is_retained (segment i)) info;
              global = refl;
            });
        len = reads.written.len;
        bytes = ap (λ fs. file_part fs z.source) (files_are ls.after L) ∙ reads.written.bytes;
        named = told_windows g.windows b.named none reads.windows;
        typed = λ w hw. absurd (none w hw);
      }

  record IsGlobalFrom (b : Part) : Type 0 where
    definition : GlobalDef
    content_is : b.content ≡ global definition
    source_is : b.source ≡ no_source
    named_is : b.named ≡ []

  global_from : (b : Part) → Has (kept p 2) b → IsGlobalFrom b
  global_from b has =
      let src = is_from 2 b has in
      of_three (function_parts ls.run_alone RO (run_object src.object)) (segment_parts ls.run_alone RO (run_object src.object)) (global_parts ls.run_alone RO (run_object src.object)) b src.has
      (λ h. absurd (kind_not b 0 (indexed_all (λ y. y.chunk.kind ≡ 0) (make_function ls.run_alone RO (run_object src.object)) (λ k g. refl) 0 src.object.functions b h) (kept_kind 2 b has) (λ e. omega (arith, e))))
      (λ h. absurd (kind_not b 1 (indexed_all (λ y. y.chunk.kind ≡ 1) (make_segment ls.run_alone RO (run_object src.object)) (λ k g. refl) 0 src.object.segments b h) (kept_kind 2 b has) (λ e. omega (arith, e))))
      (λ h. indexed_all IsGlobalFrom (make_global ls.run_alone RO (run_object src.object)) (λ k g. record { definition = g; content_is = refl; source_is = refl; named_is = refl }) 0 src.object.globals b h)

  joined_global : (b : Part) → Has (kept p 2) b → (n : ℕ) (g : GlobalDef) → slice_get os.joined.globals n ≡ Some g → place_of p 2 b.chunk ≡ n → IsGlobal os.joined ls.after p b g
      → JoinedPart run os ls s 2 b (global_part ls.after.all L (res ls.after L os.joined) n g)
  joined_global b has n g is place reads =
      let z : Part = global_part ls.after.all L (res ls.after L os.joined) n g in
      let src = global_from b has in
      record {
        kind = kept_kind 2 b has;
        chunk = ap (chunk_at os.joined.input 2) (sym place);
        content = subst (λ c. AlikeContent c (global g)) (sym src.content_is) (record { type = refl; align = refl; retained = refl; global = reads ∙ ap content_global src.content_is });
        len = ap (λ (f : FileSpan). f.span.len) (sym src.source_is);
        bytes = ap (λ fs. file_part fs no_source) (files_are ls.after L)
            ∙ (sym (ap (λ fs. file_part fs no_source) (files_are ls.run_alone RO)) ∙ (sym (ap (file_part p.files) src.source_is) ∙ ap (λ ns. filled (map empty_window ns) (part_bytes p b)) (sym src.named_is)));
        named = sym (ap (λ ns. filter_map (λ n. joined_named run os ls s n) ns) src.named_is);
        typed = λ w hw. absurd (subst (λ xs. Has xs (a_type w)) src.named_is hw);
      }

  -- ---- the linker's parts

  own_none : (l : Linked) (objects : List Object) → file_part (program l objects).files no_source ≡ []
  own_none l objects = ap (λ fs. file_part fs no_source) (files_are l objects)

  abbrev OwnSides : Part → Part → Type 0
  OwnSides x y = (x.chunk.kind ≡ 0 → x.chunk.index ≡ 0) → T x y

  own_first : (calls : List Ref) (x : Part) → Has (made_parts_from calls 0 (made Plain)) x → x.chunk.kind ≡ 0 → x.chunk.index ≡ 0
  own_first calls x (inl e) kind = ap (λ (z : Part). z.chunk.index) (sym e)
  own_first calls x (inr (inl e)) kind = absurd (two_not x.chunk.kind (sym (ap (λ (z : Part). z.chunk.kind) e)) kind)
  own_first calls x (inr (inr (inl e))) kind = absurd (two_not x.chunk.kind (sym (ap (λ (z : Part). z.chunk.kind) e)) kind)
  own_first calls x (inr (inr (inr (inl e)))) kind = absurd (two_not x.chunk.kind (sym (ap (λ (z : Part). z.chunk.kind) e)) kind)
  own_first calls x (inr (inr (inr (inr has)))) kind = absurd has

  module _ (calls_alike : CallsAlike run os ls) where
    abbrev whole_calls : List Ref
    whole_calls = init_calls P.resolved

    abbrev later_calls : List Ref
    later_calls = init_calls Q.resolved

    abbrev AlikeCall : Ref → Ref → Type 0
    AlikeCall a b = AlikeRef (moving run os p) (HeldChunk run os ls) (HeldSymbol run os ls) a b

    as_named : (xs ys : List Ref) → AllZip AlikeCall xs ys → AllZip (Alikes run os ls s) (map a_symbol xs) (map a_symbol ys)
    as_named [] [] z = tt
    as_named [] (y ∷ ys) z = absurd z
    as_named (x ∷ xs) [] z = absurd z
    as_named (x ∷ xs) (y ∷ ys) z = (z.0, as_named xs ys z.1)

    refs_back : (xs : List Ref) → filter_map named_ref (map a_symbol xs) ≡ xs
    refs_back [] = refl
    refs_back (x ∷ xs) = ap (λ ys. x ∷ ys) (refs_back xs)

    own_alike : (calls_kind : All (λ (ref : Ref). ref.kind ≡ 0) whole_calls) (at : ℕ) (m : MadeSymbol) (k : ℕ) → OwnSides (own_part whole_calls (made_entry at m) m k) (own_part later_calls (made_entry at m) m k)
    own_alike calls_kind at m k first held = record {
      chunk = sym (chunk_before run os p (chunk_at 0 k at) (omega arith));
      held = held;
      content = record { type = refl; align = refl; retained = refl; global = refl };
      named = named (((k == chunks.FUNCTION)) && (at == call_ctors));
      len = refl;
      long = ap (λ bs. length bs) none;
      bytes = λ ps same. ap (filled ps) none;
      made = λ input kind. first kind;
      calls = λ input. kinds ((k == chunks.FUNCTION) && (at == call_ctors));
      zero = ap (λ (b : Bool). b && list_all (λ n. n == 0) (file_part Q.files no_source)) (ap (λ n. n == 0) (zip_length (Alikes run os ls s) x.named y.named (named ((k == chunks.FUNCTION) && (at == call_ctors)))))
          ∙ ap (λ bs. (length x.named == 0) && list_all (λ n. n == 0) bs) none;
    }
      where
        x : Part
        x = own_part whole_calls (made_entry at m) m k

        y : Part
        y = own_part later_calls (made_entry at m) m k

        none : file_part Q.files no_source ≡ file_part P.files no_source
        none = own_none ls.after L ∙ sym (own_none ls.whole W)

        named : (b : Bool) → AllZip (Alikes run os ls s) (if b then map a_symbol whole_calls else []) (if b then map a_symbol later_calls else [])
        named true = as_named whole_calls later_calls calls_alike
        named false = tt

        kinds : (b : Bool) → All (λ (ref : Ref). ref.kind ≡ 0) (filter_map named_ref (if b then map a_symbol whole_calls else []))
        kinds true = subst (All (λ (ref : Ref). ref.kind ≡ 0)) (sym (refs_back whole_calls)) calls_kind
        kinds false = none_asked (λ (ref : Ref). ref.kind ≡ 0)

    own_sides : All (λ (ref : Ref). ref.kind ≡ 0) whole_calls → (k : ℕ) → AllZip T (parts_of_kind k (own_parts ls.whole W)) (parts_of_kind k (own_parts ls.after L))
    own_sides calls_kind k =
        zip_more R T (λ x y r. r.0) (parts_of_kind k (own_parts ls.whole W)) (parts_of_kind k (own_parts ls.after L))
        (zip_filter R (λ x. x.chunk.kind == k) (λ y. y.chunk.kind == k) (λ x y r. ap (λ n. n == k) r.1) (own_parts ls.whole W) (own_parts ls.after L)
        (zip_has Both R (own_parts ls.whole W) (own_parts ls.after L) (λ x y hx hy r. (r.0 (own_first whole_calls x hx), r.1))
        (own_zip Both whole_calls later_calls (λ at m kind. (own_alike calls_kind at m kind, refl)) 0 (made Plain))))
      where
        Both : Part → Part → Type 0
        Both x y = OwnSides x y × (y.chunk.kind ≡ x.chunk.kind)

        R : Part → Part → Type 0
        R x y = T x y × (y.chunk.kind ≡ x.chunk.kind)

    pub function_sides : All (λ (ref : Ref). ref.kind ≡ 0) whole_calls → AllZip T (parts_of_kind 0 P.parts) (parts_of_kind 0 Q.parts)
    function_sides calls_kind =
        subst (λ xs. AllZip T xs (parts_of_kind 0 Q.parts)) (sym whole_is) (subst (AllZip T (parts_of_kind 0 (own_parts ls.whole W) ++ flat_map (λ o. whole_kept o) W)) (sym later_is)
        (whole_zip run os ls s T (λ o. whole_kept o) (λ o. later_kept o) (parts_of_kind 0 (own_parts ls.whole W)) (parts_of_kind 0 (own_parts ls.after L)) (own_sides calls_kind 0)
        (λ o has. before_zip run os ls s T FunctionDef function_whole function_later o has o.functions (λ n f is. (refl, refl)) (λ n f is. function_stays run os ls s o o (before_stays run os ls s o has) n f is))
        (functions_middle run os ls s (RunPart run os ls s) (JoinedPart run os ls s 0) T (λ o has n f is. function_of_run o has n f is) (λ b has n f is place reads. joined_function b has n f is place reads) (λ x y z has r q. run_alike run os ls s 0 x y z has r q))
        (λ o has. behind_zip run os ls s T FunctionDef function_whole function_later o has o.functions (λ n f is. (refl, refl)) (λ n f is. function_stays run os ls s o (as_input (later run o.input) o) (behind_stays run os ls s o has) n f is))))
      where
        function_whole : Object → ℕ → FunctionDef → Part
        function_whole o = λ n f. function_part ls.whole.all W (res ls.whole W o) n f

        function_later : Object → ℕ → FunctionDef → Part
        function_later o = λ n f. function_part ls.after.all L (res ls.after L o) n f

        whole_kept : Object → List Part
        whole_kept o = filter (λ (x : Part). kept_in W o x.chunk) (function_parts ls.whole W o)

        later_kept : Object → List Part
        later_kept o = filter (λ (x : Part). kept_in L o x.chunk) (function_parts ls.after L o)

        whole_is : parts_of_kind 0 P.parts ≡ parts_of_kind 0 (own_parts ls.whole W) ++ flat_map (λ o. whole_kept o) W
        whole_is = parts_by ls.whole W s.strict (λ part. part.chunk.kind == 0) ∙ ap (λ xs. parts_of_kind 0 (own_parts ls.whole W) ++ xs) (flat_alike (λ o. parts_of_kind 0 (object_parts ls.whole W o)) (λ o. whole_kept o) W (λ o. functions_in ls.whole W o))

        later_is : parts_of_kind 0 Q.parts ≡ parts_of_kind 0 (own_parts ls.after L) ++ flat_map (λ o. later_kept o) L
        later_is = parts_by ls.after L s.strict_after (λ part. part.chunk.kind == 0) ∙ ap (λ xs. parts_of_kind 0 (own_parts ls.after L) ++ xs) (flat_alike (λ o. parts_of_kind 0 (object_parts ls.after L o)) (λ o. later_kept o) L (λ o. functions_in ls.after L o))

    pub segment_sides : All (λ (ref : Ref). ref.kind ≡ 0) whole_calls → AllZip T (parts_of_kind 1 P.parts) (parts_of_kind 1 Q.parts)
    segment_sides calls_kind =
        subst (λ xs. AllZip T xs (parts_of_kind 1 Q.parts)) (sym whole_is) (subst (AllZip T (parts_of_kind 1 (own_parts ls.whole W) ++ flat_map (λ o. whole_kept o) W)) (sym later_is)
        (whole_zip run os ls s T (λ o. whole_kept o) (λ o. later_kept o) (parts_of_kind 1 (own_parts ls.whole W)) (parts_of_kind 1 (own_parts ls.after L)) (own_sides calls_kind 1)
        (λ o has. before_zip run os ls s T SegmentDef segment_whole segment_later o has o.segments (λ n f is. (refl, refl)) (λ n f is. segment_stays run os ls s o o (before_stays run os ls s o has) n f is))
        (segments_middle run os ls s (RunPart run os ls s) (JoinedPart run os ls s 1) T (λ o has n f is. segment_of_run o has n f is) (λ b has n f is place reads. joined_segment b has n f is place reads) (λ x y z has r q. run_alike run os ls s 1 x y z has r q))
        (λ o has. behind_zip run os ls s T SegmentDef segment_whole segment_later o has o.segments (λ n f is. (refl, refl)) (λ n f is. segment_stays run os ls s o (as_input (later run o.input) o) (behind_stays run os ls s o has) n f is))))
      where
        segment_whole : Object → ℕ → SegmentDef → Part
        segment_whole o = λ n f. segment_part ls.whole.all W (res ls.whole W o) n f

        segment_later : Object → ℕ → SegmentDef → Part
        segment_later o = λ n f. segment_part ls.after.all L (res ls.after L o) n f

        whole_kept : Object → List Part
        whole_kept o = filter (λ (x : Part). kept_in W o x.chunk) (segment_parts ls.whole W o)

        later_kept : Object → List Part
        later_kept o = filter (λ (x : Part). kept_in L o x.chunk) (segment_parts ls.after L o)

        whole_is : parts_of_kind 1 P.parts ≡ parts_of_kind 1 (own_parts ls.whole W) ++ flat_map (λ o. whole_kept o) W
        whole_is = parts_by ls.whole W s.strict (λ part. part.chunk.kind == 1) ∙ ap (λ xs. parts_of_kind 1 (own_parts ls.whole W) ++ xs) (flat_alike (λ o. parts_of_kind 1 (object_parts ls.whole W o)) (λ o. whole_kept o) W (λ o. segments_in ls.whole W o))

        later_is : parts_of_kind 1 Q.parts ≡ parts_of_kind 1 (own_parts ls.after L) ++ flat_map (λ o. later_kept o) L
        later_is = parts_by ls.after L s.strict_after (λ part. part.chunk.kind == 1) ∙ ap (λ xs. parts_of_kind 1 (own_parts ls.after L) ++ xs) (flat_alike (λ o. parts_of_kind 1 (object_parts ls.after L o)) (λ o. later_kept o) L (λ o. segments_in ls.after L o))

    pub global_sides : All (λ (ref : Ref). ref.kind ≡ 0) whole_calls → AllZip T (parts_of_kind 2 P.parts) (parts_of_kind 2 Q.parts)
    global_sides calls_kind =
        subst (λ xs. AllZip T xs (parts_of_kind 2 Q.parts)) (sym whole_is) (subst (AllZip T (parts_of_kind 2 (own_parts ls.whole W) ++ flat_map (λ o. whole_kept o) W)) (sym later_is)
        (whole_zip run os ls s T (λ o. whole_kept o) (λ o. later_kept o) (parts_of_kind 2 (own_parts ls.whole W)) (parts_of_kind 2 (own_parts ls.after L)) (own_sides calls_kind 2)
        (λ o has. before_zip run os ls s T GlobalDef global_whole global_later o has o.globals (λ n f is. (refl, refl)) (λ n f is. global_stays run os ls s o o (before_stays run os ls s o has) n f is))
        (globals_middle run os ls s (RunPart run os ls s) (JoinedPart run os ls s 2) T (λ o has n f is. global_of_run o has n f is) (λ b has n f is place reads. joined_global b has n f is place reads) (λ x y z has r q. run_alike run os ls s 2 x y z has r q))
        (λ o has. behind_zip run os ls s T GlobalDef global_whole global_later o has o.globals (λ n f is. (refl, refl)) (λ n f is. global_stays run os ls s o (as_input (later run o.input) o) (behind_stays run os ls s o has) n f is))))
      where
        global_whole : Object → ℕ → GlobalDef → Part
        global_whole o = λ n f. global_part ls.whole.all W (res ls.whole W o) n f

        global_later : Object → ℕ → GlobalDef → Part
        global_later o = λ n f. global_part ls.after.all L (res ls.after L o) n f

        whole_kept : Object → List Part
        whole_kept o = filter (λ (x : Part). kept_in W o x.chunk) (global_parts ls.whole W o)

        later_kept : Object → List Part
        later_kept o = filter (λ (x : Part). kept_in L o x.chunk) (global_parts ls.after L o)

        whole_is : parts_of_kind 2 P.parts ≡ parts_of_kind 2 (own_parts ls.whole W) ++ flat_map (λ o. whole_kept o) W
        whole_is = parts_by ls.whole W s.strict (λ part. part.chunk.kind == 2) ∙ ap (λ xs. parts_of_kind 2 (own_parts ls.whole W) ++ xs) (flat_alike (λ o. parts_of_kind 2 (object_parts ls.whole W o)) (λ o. whole_kept o) W (λ o. globals_in ls.whole W o))

        later_is : parts_of_kind 2 Q.parts ≡ parts_of_kind 2 (own_parts ls.after L) ++ flat_map (λ o. later_kept o) L
        later_is = parts_by ls.after L s.strict_after (λ part. part.chunk.kind == 2) ∙ ap (λ xs. parts_of_kind 2 (own_parts ls.after L) ++ xs) (flat_alike (λ o. parts_of_kind 2 (object_parts ls.after L o)) (λ o. later_kept o) L (λ o. globals_in ls.after L o))

    -- what is held is known of parts of the program
    pub held_sides : (k : ℕ) → AllZip T (parts_of_kind k P.parts) (parts_of_kind k Q.parts) → AllZip (AlikePart (moving run os p) (HeldChunk run os ls) (HeldSymbol run os ls) P Q) (parts_of_kind k P.parts) (parts_of_kind k Q.parts)
    held_sides k z =
        zip_has T (AlikePart (moving run os p) (HeldChunk run os ls) (HeldSymbol run os ls) P Q) (parts_of_kind k P.parts) (parts_of_kind k Q.parts)
        (λ x y hx hy t. t (any_has (same_chunk x.chunk) (table_of P) x.chunk (map_has (λ (w : Part). w.chunk) P.parts x (has_filter (λ (w : Part). w.chunk.kind == k) P.parts x hx).0) (chunk_itself x.chunk))) z
