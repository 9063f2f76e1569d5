-- What references of a shared output name, by the kinds of their relocations.
use Rattle.std.proofs.Common.{◌≡◌, ℕ, List, [], ◌++◌, map, Option, Some, None, Bool, true, false, refl, sym, ap, ◌∙◌, subst, inl, inr, ⊎_elim, arith, pos}
use Rattle.std.specs.Prelude.{◌⊎◌, ◌==◌, ◌&&◌, not, slice_get, filter_map, cond, option_map, IsTrue, ℤ}
use Rattle.std.specs.List.{All}
use Rattle.std.proofs.lemmas.Bool.{false≢true, eqb-true}
use Rattle.list_places.specs.Has.{Has}
use Rattle.list_places.proofs.Lists.{all_has, has_at, has_either, has_filter, has_map, has_pick, some_is}
use Rattle.linking_section.specs.declared.symbol.SymbolKind.{SymbolKind}
use Rattle.linking_section.specs.declared.symbol.SymbolKind.TheVariants.{Function, Datum, GlobalVar, Section, Table}
use Rattle.linking_section.specs.declared.init.InitFunc.{InitFunc}
use Rattle.body_windows.specs.declared.operand.Operand.{Operand}
use Rattle.body_windows.specs.declared.operand.Operand.TheVariants as operands
use Rattle.reloc_section.specs.declared.entry.Reloc.{Reloc}
use Rattle.object_columns.specs.declared.functions.FunctionDef.{FunctionDef}
use Rattle.object_columns.specs.declared.segments.SegmentDef.{SegmentDef}
use Rattle.object_file.specs.declared.object.Object.{Object}
use Rattle.object_file.specs.Sound.{Sound, OperandNames, WindowNames, IsNamedBy}
use Rattle.object_rules.specs.Relocs.{may_name}
use Rattle.made_symbols.specs.Made.{made}
use Rattle.made_symbols.specs.declared.mode.Mode.TheVariants.{Shared}
use Rattle.name_rules.specs.Entries.{InputSymbol, symbols_of}
use Rattle.name_rules.specs.Meanings.{null, Resolved, Uses, resolved_in}
use Rattle.round_rules.specs.Rounds.{Candidate}
use Rattle.program_build.proofs.link_program_lemmas.Loose.{refs_loose}
use Rattle.link_rules.specs.Program.{Part, Ref, refs, named_ref, a_symbol, ref_in, operand_named, window_named, InitCall, init_call, init_calls, is_skipped, made_parts_from, loose_part, loose_parts, loose_ref, is_mismatch, variant}
use Rattle.link_facts.proofs.Symbols.{symbol_at}
use Rattle.link_facts.proofs.Refs.{refs_named, calls_are}
use Rattle.link_facts.proofs.Parts.{Stood, as_function, as_segment, as_global, stood, MadeAs, made_behind, object_parts, of_some_object}
use Rattle.shared_laws.proofs.Rows.{symbol_ref, ref_parts}

-- A call, or a reference whose kind may name its symbol.
abbrev pub NamesByKind : Ref → Type 0
NamesByKind ref = (ref.kind ≡ 0) ⊎ IsTrue (may_name ref.kind ref.entry.symbol.kind)

module _ (uses : Uses) (allow : Bool) (es : List InputSymbol) (all : List Candidate) (objects : List Object) where
  abbrev res : Object → Resolved
  res o = resolved_in Shared uses allow es objects o

  names_by : (o : Object) (place kind symbol : ℕ) (addend : ℤ) (ref : Ref) → IsNamedBy kind (slice_get o.symbols symbol) → ref_in (res o) place kind symbol addend ≡ Some ref → NamesByKind ref
  names_by o place kind symbol addend ref n h =
      let r = ref_parts place kind addend (slice_get (symbols_of objects o) symbol) (slice_get (res o).meanings symbol) ref h in
      let s = symbol_at objects o 0 o.symbols symbol ref.entry r.1 in
      let named = (subst (IsNamedBy kind) s.1 n).0 in
      let k : s.0.kind ≡ ref.entry.symbol.kind = sym (ap (λ (e : InputSymbol). e.symbol.kind) s.2) in
      inr (subst (λ x. IsTrue (may_name x ref.entry.symbol.kind)) (sym r.0) (subst (λ x. IsTrue (may_name kind x)) k named))

  operand_names : (o : Object) (x : Operand) (ref : Ref) → OperandNames o x → operand_named (res o) x ≡ Some (a_symbol ref) → NamesByKind ref
  operand_names o operands.Number ref n h = absurd (grind arith)
  operand_names o (operands.TypeRef place index) ref n h = absurd (grind arith)
  operand_names o operands.TableZero ref n h = absurd (grind arith)
  operand_names o (operands.Symbol kind place symbol addend) ref n h = names_by o place kind symbol addend ref n.1 (symbol_ref (ref_in (res o) place kind symbol addend) ref h)

  window_names : (o : Object) (w : Reloc) (ref : Ref) → WindowNames o w → window_named (res o) w ≡ Some (a_symbol ref) → NamesByKind ref
  window_names o w ref n h = names_by o w.offset w.kind w.index w.addend ref n.1 (symbol_ref (ref_in (res o) w.offset w.kind w.index w.addend) ref h)

  module _ (sound : (o : Object) → Has objects o → (size : ℕ) × Sound size o) where
    abbrev calls : List Ref
    calls = init_calls (map res objects)

    of_object : (o : Object) → Has objects o → (x : Part) → Stood all objects (res o) x → (ref : Ref) → Has (refs x) ref → NamesByKind ref
    of_object o ho x (as_function k f at e) ref h =
        let n = subst (λ (y : Part). Has y.named (a_symbol ref)) e (refs_named x ref h) in
        let w = has_pick (operand_named (res o)) f.operands (a_symbol ref) n in
        let each = all_has (λ (f : FunctionDef). All (OperandNames o) f.operands) o.functions (sound o ho).1.operand_names f (has_at o.functions k f at) in
        operand_names o w.0 ref (all_has (OperandNames o) f.operands each w.0 w.1) w.2
    of_object o ho x (as_segment k g at e) ref h =
        let n = subst (λ (y : Part). Has y.named (a_symbol ref)) e (refs_named x ref h) in
        let w = has_pick (window_named (res o)) g.windows (a_symbol ref) n in
        let each = all_has (λ (g : SegmentDef). All (WindowNames o) g.windows) o.segments (sound o ho).1.window_names g (has_at o.segments k g at) in
        window_names o w.0 ref (all_has (WindowNames o) g.windows each w.0 w.1) w.2
    of_object o ho x (as_global k g at e) ref h = absurd (subst (λ (y : Part). Has (refs y) ref) e h)

    -- the linker's functions call
    call_kind : (r : Resolved) (i : InitFunc) (c : InitCall) → init_call r i ≡ Some c → c.ref.kind ≡ 0
    call_kind r i c h = by (ref_in r 0 0 i.symbol (pos 0)) refl h
      where
        by : (o : Option Ref) → ref_in r 0 0 i.symbol (pos 0) ≡ o → option_map (λ ref. record { priority = i.priority; ref = ref }) o ≡ Some c → c.ref.kind ≡ 0
        by None q h = absurd (grind arith)
        by (Some y) q h =
            let same : y ≡ c.ref = ap (λ (z : InitCall). z.ref) (some_is (record { priority = i.priority; ref = y }) c h) in
            (ref_parts 0 0 (pos 0) (slice_get r.symbols i.symbol) (slice_get r.meanings i.symbol) c.ref (q ∙ ap Some same)).0

    calls_call : (ref : Ref) → Has calls ref → ref.kind ≡ 0
    calls_call ref h =
        let r = calls_are (map res objects) ref h in
        let f = has_filter (λ c. not (is_skipped c)) (filter_map (init_call r.0) r.0.object.inits) r.2 r.3 in
        let q = has_pick (init_call r.0) r.0.object.inits r.2 f.0 in
        sym (ap (λ (x : Ref). x.kind) r.4) ∙ call_kind r.0 q.0 r.2 q.2

    of_linker : (x : Part) → MadeAs calls x → (ref : Ref) → Has (refs x) ref → NamesByKind ref
    of_linker x m ref h = inl (by ((m.kind == 0) && (m.place == 0)) (subst (λ (y : Part). Has y.named (a_symbol ref)) m.is (refs_named x ref h)))
      where
        symbol_is : (r : Ref) → a_symbol r ≡ a_symbol ref → Some r ≡ Some ref
        symbol_is r e = ap named_ref e

        by : (b : Bool) → Has (cond b (map a_symbol calls) []) (a_symbol ref) → ref.kind ≡ 0
        by true n = let c = has_map a_symbol calls (a_symbol ref) n in calls_call ref (subst (Has calls) (some_is c.0 ref (symbol_is c.0 c.2)) c.1)
        by false n = absurd n

    strict_names : (x : Part) → Has (made_parts_from calls 0 (made Shared) ++ object_parts all objects res (λ o. refl) calls objects) x → (ref : Ref) → Has (refs x) ref → NamesByKind ref
    strict_names x h ref r =
        ⊎_elim
        (λ a. of_linker x (made_behind calls 0 (made Shared) x a).0 ref r)
        (λ a. let o = of_some_object all objects res (λ o. refl) calls objects x a in of_object o.0 o.1 x (stood all objects (res o.0) x o.2) ref r)
        (has_either (made_parts_from calls 0 (made Shared)) (object_parts all objects res (λ o. refl) calls objects) x h)

    -- ---- loosened or not

    loose_names : (ref : Ref) → NamesByKind ref → NamesByKind (loose_ref es ref)
    loose_names ref n = by (ref.kind == 0) (is_mismatch es ref.entry ref.meaning) refl
      where
        by : (a b : Bool) → (ref.kind == 0) ≡ a → NamesByKind (cond (a && b) (record ref { entry = variant ref.entry; meaning = null }) ref)
        by true true e = inl (eqb-true ref.kind 0 e)
        by true false e = n
        by false b e = n

    pub names : (b : Bool) (x : Part) → Has (loose_parts b es (made_parts_from calls 0 (made Shared) ++ object_parts all objects res (λ o. refl) calls objects)) x → (ref : Ref) → Has (refs x) ref → NamesByKind ref
    names false x h ref r = strict_names x h ref r
    names true x h ref r =
        let m = has_map (loose_part es) (made_parts_from calls 0 (made Shared) ++ object_parts all objects res (λ o. refl) calls objects) x h in
        let n = subst (λ rs. Has rs ref) (refs_loose es m.0) (subst (λ y. Has (refs y) ref) (sym m.2) r) in
        let q = has_map (loose_ref es) (refs m.0) ref n in
        subst NamesByKind q.2 (loose_names q.0 (strict_names m.0 m.1 q.0 q.1))

-- ---- what kinds may name

pub slot_kind : (k : SymbolKind) → IsTrue (may_name 2 k) → k ≡ Function
slot_kind Function t = refl
slot_kind Datum t = absurd (false≢true t)
slot_kind GlobalVar t = absurd (false≢true t)
slot_kind Section t = absurd (false≢true t)
slot_kind Table t = absurd (false≢true t)

pub offset_kind : (k : SymbolKind) → IsTrue (may_name 5 k) → k ≡ Datum
offset_kind Function t = absurd (false≢true t)
offset_kind Datum t = refl
offset_kind GlobalVar t = absurd (false≢true t)
offset_kind Section t = absurd (false≢true t)
offset_kind Table t = absurd (false≢true t)

pub cell_kind : (k : SymbolKind) → IsTrue (may_name 7 k) → ((k ≡ GlobalVar) → ⊥) → (k ≡ Function) ⊎ (k ≡ Datum)
cell_kind Function t g = inl refl
cell_kind Datum t g = inr refl
cell_kind GlobalVar t g = absurd (g refl)
cell_kind Section t g = absurd (false≢true t)
cell_kind Table t g = absurd (false≢true t)
