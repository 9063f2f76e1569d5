-- The kept parts of a program: of which functions, segments and globals of its objects they are made, and what holds of them where the objects are sound.
use Rattle.std.proofs.Common.{◌≡◌, ℕ, ◌+◌, ◌<◌, ◌≤◌, ◌==◌, Bool, true, false, not, ◌&&◌, List, [], ◌∷◌, ◌++◌, map, filter, length, inl, inr, refl, sym, ap, ◌∙◌, subst, arith}
use Rattle.std.specs.Prelude.{Option, Some, None, slice_get, option_map, flat_map, find, All, ℤ}
use Rattle.std.proofs.lemmas.Bool.{ne_eqb, eqb-true}
use Rattle.std.proofs.lemmas.List.Concat.{flat_map-cons}
use Rattle.list_places.specs.Has.{Has}
use Rattle.list_places.proofs.Lists.{by_test, has_at, filter_has, has_filter, flat_has, has_flat, has_pick, all_has, some_is}
use Rattle.name_rules.specs.object_file.wl_base.declared.span.Span.{Span}
use Rattle.name_rules.specs.object_file.linking_section.declared.member_kinds.TheConstants as members
use Rattle.name_rules.specs.object_file.reloc_section.declared.entry.Reloc.{Reloc}
use Rattle.name_rules.specs.object_file.body_windows.declared.operand.Operand.{Operand}
use Rattle.name_rules.specs.object_file.body_windows.declared.operand.Operand.TheVariants as operands
use Rattle.name_rules.specs.object_file.object_parts.declared.parts.GlobalDef.{GlobalDef}
use Rattle.name_rules.specs.object_file.object_columns.declared.functions.FunctionDef.{FunctionDef}
use Rattle.name_rules.specs.object_file.object_columns.declared.segments.SegmentDef.{SegmentDef}
use Rattle.name_rules.specs.object_file.declared.object.Object.{Object}
use Rattle.name_rules.specs.object_file.Spaces.{function_imports}
use Rattle.object_file.specs.body_windows.Operands.{StandIn}
use Rattle.object_file.specs.Sound.{Sound, is_code_type, OperandNames, WindowNames, WindowsStandIn}
use Rattle.made_symbols.specs.declared.mode.Mode.TheVariants.{Plain}
use Rattle.made_symbols.specs.Made.{made}
use Rattle.round_rules.specs.Rounds.{Candidate}
use Rattle.name_rules.specs.Entries.{InputSymbol, is_kept}
use Rattle.name_rules.specs.Meanings.{Meaning}
use Rattle.image_emit.specs.Bytes.{file_part}
use Rattle.reloc_apply.specs.declared.window.Form.{Form}
use Rattle.reloc_apply.specs.declared.window.Form.TheVariants.{Unsigned5, Signed5, Word4}
use Rattle.reloc_apply.specs.Apart.{AreApart, size_of}
use Rattle.reloc_apply.proofs.Apart.{apart_le}
use Rattle.link_rules.specs.Program.{Program, Part, Ref, Named, a_symbol, a_type, global, init_calls, kept_in, ref_to, operand_named, span_in, span_of}
use Rattle.link_rules.specs.Marks.{is_object_part}
use Rattle.link_rules.specs.Keys.{parts_of_kind}
use Rattle.link_rules.specs.Values.{part_bytes}
use Rattle.partial_rules.specs.Partial.{kept, empty_window, named_reloc}
use Rattle.partial_parts_laws.specs.Linked.{Linked, program, bytes_at}
use Rattle.partial_parts_laws.specs.ReadBack.{LieInFiles}
use Rattle.partial_parts_laws.proofs.Zips.{filter_none, filter_alike, has_indexed, item_has}
use Rattle.partial_parts_laws.proofs.Parts.{make_function, make_segment, make_global, res, files_are, own_parts, object_parts, parts_by, function_parts, segment_parts, global_parts, functions_in, segments_in, globals_in, object_input}
use Rattle.partial_parts_laws.proofs.Built.{code_apart, data_apart}
use Rattle.partial_parts_laws.proofs.RunParts.{made_input}

-- ---- windows

some_size : (f : Form) → 1 ≤ size_of f
some_size Unsigned5 = omega arith
some_size Signed5 = omega arith
some_size Word4 = omega arith

-- what stands at windows in so many bytes begins there
pub relocs_inside : (p : Program) (at end : ℕ) (ns : List Named) → AreApart at end (map empty_window ns) → (r : Reloc) → Has (map (named_reloc p) ns) r → r.offset < end
relocs_inside p at end [] apart r has = absurd has
relocs_inside p at end (n ∷ ns) apart r (inl e) =
    subst (λ (x : Reloc). x.offset < end) e (here n (omega (arith, some_size (empty_window n).form, apart_le ((empty_window n).place + size_of (empty_window n).form) end (map empty_window ns) apart.1)))
  where
    here : (m : Named) → (empty_window m).place < end → (named_reloc p m).offset < end
    here (a_symbol ref) lt = lt
    here (a_type w) lt = lt
relocs_inside p at end (n ∷ ns) apart r (inr has) = relocs_inside p ((empty_window n).place + size_of (empty_window n).form) end ns apart.1 r has

-- ---- spans

-- a span of so many bytes that are there
span_there : (files : List (List ℕ)) (c : Option Candidate) (s : Span) → length (file_part files (span_in c s)) ≡ s.len → (span_in c s).span.len ≡ s.len
span_there files None s is = is
span_there files (Some c) s is = refl

-- ---- the relocation of a window that names a symbol isn't one of a type

ref_kind : (place kind : ℕ) (addend : ℤ) (e : Option InputSymbol) (m : Option Meaning) (ref : Ref) → option_map a_symbol (ref_to place kind addend e m) ≡ Some (a_symbol ref) → ref.kind ≡ kind
ref_kind place kind addend (Some e) (Some m) ref is = ap kind_in (sym (some_is (a_symbol (record { place = place; kind = kind; addend = addend; entry = e; meaning = m })) (a_symbol ref) is))
  where
    kind_in : Named → ℕ
    kind_in (a_symbol r) = r.kind
    kind_in (a_type w) = kind
ref_kind place kind addend (Some e) None ref is = absurd cc
ref_kind place kind addend None m ref is = absurd cc

no_type_window : (kind : ℕ) → is_code_type kind ≡ true → (kind == 6) ≡ false
no_type_window kind code = by_test (kind == 6) (λ e. absurd (no_true (ap is_code_type (sym (eqb-true kind 6 e)) ∙ code))) (λ e. e)
  where
    no_true : false ≡ true → ⊥
    no_true e = absurd cc

module _ (l : Linked) (objects : List Object) (strict : l.plan.loose_calls ≡ false) (above : All (λ (o : Object). 0 < o.input) objects) where
  abbrev p : Program
  p = program l objects

  abbrev of_kind : ℕ → Part → Bool
  of_kind k = λ (part : Part). is_object_part part && (part.chunk.kind == k)

  -- The kept parts of a kind are those of the objects.
  pub kept_is : (k : ℕ) → kept p k ≡ flat_map (λ o. parts_of_kind k (object_parts l objects o)) objects
  kept_is k =
      parts_by l objects strict (of_kind k)
      ∙ (ap (λ xs. xs ++ flat_map (λ o. filter (of_kind k) (object_parts l objects o)) objects) (filter_none (of_kind k) (own_parts l objects)
      (λ x has. ap (λ (n : ℕ). not (n == 0) && (x.chunk.kind == k)) (made_input (init_calls p.resolved) 0 (made Plain) x has)))
      ∙ each objects (λ o has. has))
    where
      each : (xs : List Object) → ((o : Object) → Has xs o → Has objects o) → flat_map (λ o. filter (of_kind k) (object_parts l objects o)) xs ≡ flat_map (λ o. parts_of_kind k (object_parts l objects o)) xs
      each [] within = refl
      each (o ∷ xs) within =
          let more = all_has (λ (x : Object). 0 < x.input) objects above o (within o (inl refl)) in
          flat_map-cons (λ o. filter (of_kind k) (object_parts l objects o)) o xs
          ∙ (ap (λ ys. ys ++ flat_map (λ o. filter (of_kind k) (object_parts l objects o)) xs) (filter_alike (of_kind k) (λ part. part.chunk.kind == k) (object_parts l objects o)
          (λ x has. ap (λ (b : Bool). not b && (x.chunk.kind == k)) (ne_eqb x.chunk.input 0 (λ e. omega (arith, more, e, object_input l objects o x has)))))
          ∙ (ap (λ ys. parts_of_kind k (object_parts l objects o) ++ ys) (each xs (λ y h. within y (inr h))) ∙ sym (flat_map-cons (λ o. parts_of_kind k (object_parts l objects o)) o xs)))

  -- ---- what a kept part is made of

  pub record OfFunction (x : Part) : Type 0 where
    pub object : Object
    pub there : Has objects object
    pub place : ℕ
    pub definition : FunctionDef
    pub at : slice_get object.functions place ≡ Some definition
    pub is : make_function l objects object place definition ≡ x

  pub of_function : (x : Part) → Has (kept p 0) x → OfFunction x
  of_function x has =
      let f = has_flat (λ o. parts_of_kind 0 (object_parts l objects o)) objects x (subst (λ xs. Has xs x) (kept_is 0) has) in
      let g = has_filter (λ (y : Part). kept_in objects f.0 y.chunk) (function_parts l objects f.0) x (subst (λ xs. Has xs x) (functions_in l objects f.0) f.2) in
      let i = has_indexed (make_function l objects f.0) 0 f.0.functions x g.0 refl in
      record { object = f.0; there = f.1; place = i.place; definition = i.item; at = i.there; is = i.is }

  pub record OfSegment (x : Part) : Type 0 where
    pub object : Object
    pub there : Has objects object
    pub place : ℕ
    pub definition : SegmentDef
    pub at : slice_get object.segments place ≡ Some definition
    pub is : make_segment l objects object place definition ≡ x

  pub of_segment : (x : Part) → Has (kept p 1) x → OfSegment x
  of_segment x has =
      let f = has_flat (λ o. parts_of_kind 1 (object_parts l objects o)) objects x (subst (λ xs. Has xs x) (kept_is 1) has) in
      let g = has_filter (λ (y : Part). kept_in objects f.0 y.chunk) (segment_parts l objects f.0) x (subst (λ xs. Has xs x) (segments_in l objects f.0) f.2) in
      let i = has_indexed (make_segment l objects f.0) 0 f.0.segments x g.0 refl in
      record { object = f.0; there = f.1; place = i.place; definition = i.item; at = i.there; is = i.is }

  pub of_global : (x : Part) → Has (kept p 2) x → (g : GlobalDef) × (x.content ≡ global g)
  of_global x has =
      let f = has_flat (λ o. parts_of_kind 2 (object_parts l objects o)) objects x (subst (λ xs. Has xs x) (kept_is 2) has) in
      let g = has_filter (λ (y : Part). kept_in objects f.0 y.chunk) (global_parts l objects f.0) x (subst (λ xs. Has xs x) (globals_in l objects f.0) f.2) in
      let i = has_indexed (make_global l objects f.0) 0 f.0.globals x g.0 refl in
      (i.item, ap (λ (y : Part). y.content) (sym i.is))

  -- ---- the parts that are kept

  pub function_there : (o : Object) → Has objects o → (n : ℕ) (f : FunctionDef) → slice_get o.functions n ≡ Some f → is_kept objects o members.FUNCTION (n + length (function_imports o)) ≡ true
      → Has (kept p 0) (make_function l objects o n f)
  function_there o ho n f is keeps =
      subst (λ xs. Has xs (make_function l objects o n f)) (sym (kept_is 0))
      (flat_has (λ x. parts_of_kind 0 (object_parts l objects x)) objects o (make_function l objects o n f) ho
      (subst (λ xs. Has xs (make_function l objects o n f)) (sym (functions_in l objects o))
      (filter_has (λ (x : Part). kept_in objects o x.chunk) (function_parts l objects o) (make_function l objects o n f) (item_has (make_function l objects o) o.functions n f is) keeps)))

  pub segment_there : (o : Object) → Has objects o → (n : ℕ) (g : SegmentDef) → slice_get o.segments n ≡ Some g → is_kept objects o members.DATA n ≡ true → Has (kept p 1) (make_segment l objects o n g)
  segment_there o ho n g is keeps =
      subst (λ xs. Has xs (make_segment l objects o n g)) (sym (kept_is 1))
      (flat_has (λ x. parts_of_kind 1 (object_parts l objects x)) objects o (make_segment l objects o n g) ho
      (subst (λ xs. Has xs (make_segment l objects o n g)) (sym (segments_in l objects o))
      (filter_has (λ (x : Part). kept_in objects o x.chunk) (segment_parts l objects o) (make_segment l objects o n g) (item_has (make_segment l objects o) o.segments n g is) keeps)))

  pub global_there : (o : Object) → Has objects o → (n : ℕ) (g : GlobalDef) → slice_get o.globals n ≡ Some g → Has (kept p 2) (make_global l objects o n g)
  global_there o ho n g is =
      subst (λ xs. Has xs (make_global l objects o n g)) (sym (kept_is 2))
      (flat_has (λ x. parts_of_kind 2 (object_parts l objects x)) objects o (make_global l objects o n g) ho
      (subst (λ xs. Has xs (make_global l objects o n g)) (sym (globals_in l objects o))
      (filter_has (λ (x : Part). kept_in objects o x.chunk) (global_parts l objects o) (make_global l objects o n g) (item_has (make_global l objects o) o.globals n g is) refl)))

  -- ---- of sound objects, whose parts lie in their files

  module _ (sound : All (λ (o : Object). (size : ℕ) × Sound size o) objects) (lie : LieInFiles l objects) where
    -- Its bytes are there, and its windows stand in them one behind another.
    pub record IsWhole (x : Part) : Type 0 where
      pub long : length (part_bytes p x) ≡ x.source.span.len
      pub windows : AreApart 0 (length (part_bytes p x)) (map empty_window x.named)

    bytes_are : (input : ℕ) (s : Span) → file_part p.files (span_of l.all input s) ≡ bytes_at l input s
    bytes_are input s = ap (λ fs. file_part fs (span_of l.all input s)) (files_are l objects)

    sound_of : (o : Object) → Has objects o → (size : ℕ) × Sound size o
    sound_of o ho = all_has (λ (o : Object). (size : ℕ) × Sound size o) objects sound o ho

    pub function_whole : (x : Part) → Has (kept p 0) x → IsWhole x
    function_whole x has = subst IsWhole o.is (record { long = there ∙ sym (span_there l.files span s (lie.functions o.object o.there o.definition hf)); windows = subst (λ n. AreApart 0 n (map empty_window (make_function l objects o.object o.place o.definition).named)) (sym there) apart })
      where
        o : OfFunction x
        o = of_function x has

        s : Span
        s = o.definition.span

        span : Option Candidate
        span = find (λ (c : Candidate). c.input == o.object.input) l.all

        hf : Has o.object.functions o.definition
        hf = has_at o.object.functions o.place o.definition o.at

        there : length (part_bytes p (make_function l objects o.object o.place o.definition)) ≡ s.len
        there = ap (λ bs. length bs) (bytes_are o.object.input s) ∙ lie.functions o.object o.there o.definition hf

        apart : AreApart 0 s.len (map empty_window (make_function l objects o.object o.place o.definition).named)
        apart =
            let so = sound_of o.object o.there in
            let it : Sound so.0 o.object = so.1 in
            code_apart o.object (res l objects o.object) 0 s.len o.definition.operands
            (all_has (OperandNames o.object) o.definition.operands (all_has (λ (f : FunctionDef). All (OperandNames o.object) f.operands) o.object.functions it.operand_names o.definition hf))
            (all_has (λ (f : FunctionDef). StandIn 0 f.span.len f.operands) o.object.functions it.operands o.definition hf)

    pub segment_whole : (x : Part) → Has (kept p 1) x → IsWhole x
    segment_whole x has = subst IsWhole o.is (record { long = there ∙ sym (span_there l.files span s (lie.segments o.object o.there o.definition hg)); windows = subst (λ n. AreApart 0 n (map empty_window (make_segment l objects o.object o.place o.definition).named)) (sym there) apart })
      where
        o : OfSegment x
        o = of_segment x has

        s : Span
        s = o.definition.span

        span : Option Candidate
        span = find (λ (c : Candidate). c.input == o.object.input) l.all

        hg : Has o.object.segments o.definition
        hg = has_at o.object.segments o.place o.definition o.at

        there : length (part_bytes p (make_segment l objects o.object o.place o.definition)) ≡ s.len
        there = ap (λ bs. length bs) (bytes_are o.object.input s) ∙ lie.segments o.object o.there o.definition hg

        apart : AreApart 0 s.len (map empty_window (make_segment l objects o.object o.place o.definition).named)
        apart =
            let so = sound_of o.object o.there in
            let it : Sound so.0 o.object = so.1 in
            data_apart o.object (res l objects o.object) 0 s.len o.definition.windows
            (all_has (WindowNames o.object) o.definition.windows (all_has (λ (g : SegmentDef). All (WindowNames o.object) g.windows) o.object.segments it.window_names o.definition hg))
            (all_has (λ (g : SegmentDef). WindowsStandIn 0 g.span.len g.windows) o.object.segments it.windows o.definition hg)

    -- What a window of a body names by a symbol is no type.
    pub symbols_named : (x : Part) → Has (kept p 0) x → (ref : Ref) → Has x.named (a_symbol ref) → (ref.kind == 6) ≡ false
    symbols_named x has ref hr =
        let o = of_function x has in
        let so = sound_of o.object o.there in
        let it : Sound so.0 o.object = so.1 in
        let names = all_has (OperandNames o.object) o.definition.operands (all_has (λ (f : FunctionDef). All (OperandNames o.object) f.operands) o.object.functions it.operand_names o.definition (has_at o.object.functions o.place o.definition o.at)) in
        let h = has_pick (λ op. operand_named (res l objects o.object) op) o.definition.operands (a_symbol ref) (subst (λ (y : Part). Has y.named (a_symbol ref)) (sym o.is) hr) in
        by_operand o.object h.0 (names h.0 h.1) h.2
      where
        by_operand : (o : Object) (op : Operand) → OperandNames o op → operand_named (res l objects o) op ≡ Some (a_symbol ref) → (ref.kind == 6) ≡ false
        by_operand o operands.Number named is = absurd cc
        by_operand o (operands.Symbol kind place symbol addend) named is =
            ap (λ n. n == 6) (ref_kind place kind addend (slice_get (res l objects o).symbols symbol) (slice_get (res l objects o).meanings symbol) ref is) ∙ no_type_window kind named.0
        by_operand o (operands.TypeRef place index) named is = absurd cc
        by_operand o operands.TableZero named is = absurd cc
