-- What references of a shared output's parts are, before calls are loosened: calls name functions, which are then known to be called, and a reference to a global
-- stands in code.
use Rattle.std.proofs.Common.{◌≡◌, ℕ, zero, suc, ◌+◌, List, [], ◌∷◌, ◌++◌, length, map, Option, Some, None, Bool, true, false, refl, sym, ap, ◌∙◌, subst, ⊎_elim, arith, pos}
use Rattle.std.specs.Prelude.{◌⊎◌, ◌==◌, ◌&&◌, ◌||◌, not, slice_get, filter, filter_map, flat_map, cond, option_map, bytes_eq, IsTrue, ℤ}
use Rattle.std.specs.List.{All}
use Rattle.std.proofs.lemmas.Bool.{false≢true, and_from, eqb-true, eq-eqb}
use Rattle.std.proofs.lemmas.Option.{slice_get-map}
use Rattle.list_places.specs.Has.{Has}
use Rattle.list_places.proofs.Lists.{all_has, any_has, has_at, has_left, has_right, first_of, third_of, has_either, has_filter, filter_has, has_map, map_has, has_pick, pick_has, flat_has, some_is}
use Rattle.wl_base.specs.Choice.{has_name}
use Rattle.linking_section.specs.declared.symbol.Symbol.{Symbol}
use Rattle.linking_section.specs.declared.symbol.SymbolKind.{SymbolKind}
use Rattle.linking_section.specs.declared.symbol.SymbolKind.TheVariants.{Function, Datum, GlobalVar, Section, Table}
use Rattle.linking_section.specs.declared.init.InitFunc.{InitFunc}
use Rattle.linking_section.specs.Flags.{kind_code, is_undefined}
use Rattle.body_windows.specs.declared.operand.Operand.{Operand}
use Rattle.body_windows.specs.declared.operand.Operand.TheVariants as operands
use Rattle.reloc_section.specs.declared.entry.Reloc.{Reloc}
use Rattle.object_columns.specs.declared.functions.FunctionDef.{FunctionDef}
use Rattle.object_columns.specs.declared.segments.SegmentDef.{SegmentDef}
use Rattle.object_rules.specs.Relocs.{may_name}
use Rattle.object_rules.specs.Metadata.{is_function_kind}
use Rattle.object_file.specs.declared.object.Object.{Object}
use Rattle.object_file.specs.Spaces.{function_imports}
use Rattle.object_file.specs.Sound.{Sound, OperandNames, WindowNames, IsNamedBy, IsInit, is_data_type}
use Rattle.made_symbols.specs.Made.{made}
use Rattle.made_symbols.specs.declared.mode.Mode.TheVariants.{Shared}
use Rattle.name_rules.specs.Entries.{InputSymbol, is_kind, is_entry, is_kept, name_of, symbols_of}
use Rattle.name_rules.specs.Meanings.{Resolved, Uses, uses_of, Use, use_of, operand_use, kept_from, is_init_use, uses_with, uses_in, resolved_in}
use Rattle.round_rules.specs.Rounds.{Candidate}
use Rattle.link_rules.specs.Program.{Part, Ref, refs, named_ref, a_symbol, ref_in, operand_named, window_named, InitCall, init_call, init_calls, init_calls_in, is_skipped, made_parts_from, indexed, function_part, segment_part, global_part, parts_in, is_part_kept}
use Rattle.shared_links.proofs.link_worlds_lemmas.Keys.{bytes_itself}
use Rattle.shared_links.proofs.link_facts_lemmas.Symbols.{symbol_at}
use Rattle.shared_links.proofs.link_facts_lemmas.Refs.{refs_named, calls_are}
use Rattle.shared_links.proofs.link_facts_lemmas.Parts.{Stood, as_function, as_segment, as_global, stood, MadeAs, made_behind, object_parts, of_some_object}
use Rattle.shared_links.proofs.shared_laws_lemmas.Rows.{symbol_ref, ref_parts}

-- ---- uses of kept parts

kept_has : (objects : List Object) (o : Object) (kind index : ℕ) (uss : List (List Use)) (k : ℕ) (us : List Use) (u : Use) → slice_get uss k ≡ Some us → is_kept objects o kind (index + k) ≡ true → Has us u → Has (kept_from objects o kind index uss) u
kept_has objects o kind index [] k us u at t h = absurd (grind arith)
kept_has objects o kind index (vs ∷ vss) zero us u at t h =
    let z : index + 0 ≡ index = omega arith in
    has_left (cond (is_kept objects o kind index) vs []) (kept_from objects o kind (index + 1) vss) u
    (subst (λ b. Has (cond b vs []) u) (sym (ap (is_kept objects o kind) (sym z) ∙ t)) (subst (λ w. Has w u) (sym (some_is vs us at)) h))
kept_has objects o kind index (vs ∷ vss) (suc k) us u at t h =
    let z : index + suc k ≡ index + 1 + k = omega arith in
    has_right (cond (is_kept objects o kind index) vs []) (kept_from objects o kind (index + 1) vss) u
    (kept_has objects o kind (index + 1) vss k us u at (ap (is_kept objects o kind) (sym z) ∙ t) h)

-- a function that is used by a call is called
called_by : (objects : List Object) (o : Object) → Has objects o → (u : Use) → Has (uses_with objects o (symbols_of objects o)) u → u.kind ≡ 0 → u.entry.symbol.kind ≡ Function → is_entry u.entry ≡ true
    → has_name (uses_of Shared objects).called (name_of u.entry) ≡ true
called_by objects o ho u h z f e =
    let function = ap (λ k. kind_code k == kind_code Function) f in
    let listed = filter_has (λ (u : Use). is_kind Function u.entry && is_entry u.entry) (uses_with objects o (symbols_of objects o)) u h (and_from (is_kind Function u.entry) (is_entry u.entry) function e) in
    let all = flat_map (uses_in objects) objects in
    let calls = filter_has (λ (u : Use). u.kind == 0) all u (flat_has (uses_in objects) objects o u ho listed) (eq-eqb u.kind 0 z) in
    any_has (bytes_eq (name_of u.entry)) (map (λ (u : Use). name_of u.entry) (filter (λ (u : Use). u.kind == 0) all)) (name_of u.entry)
    (map_has (λ (u : Use). name_of u.entry) (filter (λ (u : Use). u.kind == 0) all) u calls) (bytes_itself (name_of u.entry))

-- ---- kinds

calls_function : (k : SymbolKind) → IsTrue (may_name 0 k) → k ≡ Function
calls_function Function t = refl
calls_function Datum t = absurd (false≢true t)
calls_function GlobalVar t = absurd (false≢true t)
calls_function Section t = absurd (false≢true t)
calls_function Table t = absurd (false≢true t)

init_function : (k : SymbolKind) → IsTrue (is_function_kind k) → k ≡ Function
init_function Function t = refl
init_function Datum t = absurd (false≢true t)
init_function GlobalVar t = absurd (false≢true t)
init_function Section t = absurd (false≢true t)
init_function Table t = absurd (false≢true t)

not_skipped : (undefined defines : Bool) → not (not undefined && not defines) ≡ true → (defines || undefined) ≡ true
not_skipped true true h = refl
not_skipped true false h = refl
not_skipped false true h = refl
not_skipped false false h = absurd (grind arith)

-- What a call names: a function, that is called where its symbol is an entry.
pub record Calls (objects : List Object) (ref : Ref) : Type 0 where
  pub function : ref.entry.symbol.kind ≡ Function
  pub called : is_entry ref.entry ≡ true → has_name (uses_of Shared objects).called (name_of ref.entry) ≡ true

pub record Strict (objects : List Object) (x : Part) (ref : Ref) : Type 0 where
  pub call : ref.kind ≡ 0 → Calls objects ref
  pub code : ref.kind ≡ 7 → x.chunk.kind ≡ 0

module _ (uses : Uses) (allow : Bool) (es : List InputSymbol) (all : List Candidate) (objects : List Object) where
  abbrev res : Object → Resolved
  res o = resolved_in Shared uses allow es objects o

  kept_in : (r : Resolved) (x : Part) → Has (parts_in all objects r) x → is_part_kept all objects r x ≡ true
  kept_in r x h =
      (has_filter (is_part_kept all objects r)
      (indexed (function_part all objects r) 0 r.object.functions ++ indexed (segment_part all objects r) 0 r.object.segments ++ indexed (global_part all objects r) 0 r.object.globals) x h).1

  -- an operand that names a symbol uses it
  operand_used : (o : Object) (w : Operand) (ref : Ref) → operand_named (res o) w ≡ Some (a_symbol ref) → operand_use (symbols_of objects o) w ≡ Some (record { kind = ref.kind; entry = ref.entry })
  operand_used o operands.Number ref h = absurd (grind arith)
  operand_used o (operands.TypeRef place index) ref h = absurd (grind arith)
  operand_used o operands.TableZero ref h = absurd (grind arith)
  operand_used o (operands.Symbol kind place symbol addend) ref h =
      let p = ref_parts place kind addend (slice_get (symbols_of objects o) symbol) (slice_get (res o).meanings symbol) ref (symbol_ref (ref_in (res o) place kind symbol addend) ref h) in
      ap (use_of kind) p.1 ∙ ap (λ k. Some (record { kind = k; entry = ref.entry })) (sym p.0)

  -- a call in code names a function
  named_function : (o : Object) (place kind symbol : ℕ) (addend : ℤ) (ref : Ref) → IsNamedBy kind (slice_get o.symbols symbol) → ref_in (res o) place kind symbol addend ≡ Some ref → ref.kind ≡ 0 → ref.entry.symbol.kind ≡ Function
  named_function o place kind symbol addend ref n h z =
      let p = ref_parts place kind addend (slice_get (symbols_of objects o) symbol) (slice_get (res o).meanings symbol) ref h in
      let s = symbol_at objects o 0 o.symbols symbol ref.entry p.1 in
      let named = (subst (IsNamedBy kind) s.1 n).0 in
      ap (λ (e : InputSymbol). e.symbol.kind) s.2 ∙ calls_function s.0.kind (subst (λ k. IsTrue (may_name k s.0.kind)) (sym p.0 ∙ z) named)

  operand_function : (o : Object) (w : Operand) (ref : Ref) → OperandNames o w → operand_named (res o) w ≡ Some (a_symbol ref) → ref.kind ≡ 0 → ref.entry.symbol.kind ≡ Function
  operand_function o operands.Number ref n h z = absurd (grind arith)
  operand_function o (operands.TypeRef place index) ref n h z = absurd (grind arith)
  operand_function o operands.TableZero ref n h z = absurd (grind arith)
  operand_function o (operands.Symbol kind place symbol addend) ref n h z = named_function o place kind symbol addend ref n.1 (symbol_ref (ref_in (res o) place kind symbol addend) ref h) z

  -- no window of data is a call or names a global
  window_kind : (o : Object) (w : Reloc) (ref : Ref) → WindowNames o w → window_named (res o) w ≡ Some (a_symbol ref) → IsTrue (is_data_type ref.kind)
  window_kind o w ref n h =
      let p = ref_parts w.offset w.kind w.addend (slice_get (symbols_of objects o) w.index) (slice_get (res o).meanings w.index) ref (symbol_ref (ref_in (res o) w.offset w.kind w.index w.addend) ref h) in
      subst (λ k. IsTrue (is_data_type k)) (sym p.0) n.0

  module _ (sound : (o : Object) → Has objects o → (size : ℕ) × Sound size o) where
    -- ---- in an object

    module _ (o : Object) (ho : Has objects o) where
      abbrev F : FunctionDef → List Use
      F f = filter_map (operand_use (symbols_of objects o)) f.operands

      abbrev code_uses : List Use
      code_uses = kept_from objects o 1 (length (function_imports o)) (map F o.functions)

      abbrev data_uses : List Use
      data_uses = kept_from objects o 0 0 (map (λ (g : SegmentDef). filter_map (λ (w : Reloc). use_of w.kind (slice_get (symbols_of objects o) w.index)) g.windows) o.segments)

      abbrev init_uses : List Use
      init_uses = filter (λ (u : Use). is_init_use u.entry) (filter_map (λ (i : InitFunc). use_of 0 (slice_get (symbols_of objects o) i.symbol)) o.inits)

      in_object : (x : Part) → Has (parts_in all objects (res o)) x → Stood all objects (res o) x → (ref : Ref) → Has (refs x) ref → Strict objects x ref
      in_object x hx (as_function k f at e) ref h =
          let n = subst (λ (y : Part). Has y.named (a_symbol ref)) e (refs_named x ref h) in
          let w = has_pick (operand_named (res o)) f.operands (a_symbol ref) n in
          let names = all_has (OperandNames o) f.operands (all_has (λ (f : FunctionDef). All (OperandNames o) f.operands) o.functions (sound o ho).1.operand_names f (has_at o.functions k f at)) w.0 w.1 in
          let u : Use = record { kind = ref.kind; entry = ref.entry } in
          let used : Has (F f) u = pick_has (operand_use (symbols_of objects o)) f.operands w.0 u w.1 (operand_used o w.0 ref w.2) in
          let keeps : is_kept objects o 1 (k + length (function_imports o)) ≡ true = subst (λ (y : Part). is_part_kept all objects (res o) y ≡ true) e (kept_in (res o) x hx) in
          let z : k + length (function_imports o) ≡ length (function_imports o) + k = omega arith in
          let there = kept_has objects o 1 (length (function_imports o)) (map F o.functions) k (F f) u (slice_get-map F o.functions k ∙ ap (option_map F) at) (ap (is_kept objects o 1) (sym z) ∙ keeps) used in
          record {
            call = λ z. record {
              function = operand_function o w.0 ref names w.2 z;
              called = λ e. called_by objects o ho u (first_of code_uses data_uses init_uses u there) z (operand_function o w.0 ref names w.2 z) e;
            };
            code = λ z. ap (λ (y : Part). y.chunk.kind) e;
          }
      in_object x hx (as_segment k g at e) ref h =
          let n = subst (λ (y : Part). Has y.named (a_symbol ref)) e (refs_named x ref h) in
          let w = has_pick (window_named (res o)) g.windows (a_symbol ref) n in
          let names = all_has (WindowNames o) g.windows (all_has (λ (g : SegmentDef). All (WindowNames o) g.windows) o.segments (sound o ho).1.window_names g (has_at o.segments k g at)) w.0 w.1 in
          let t = window_kind o w.0 ref names w.2 in
          record { call = λ z. absurd (false≢true (subst (λ k. IsTrue (is_data_type k)) z t)); code = λ z. absurd (false≢true (subst (λ k. IsTrue (is_data_type k)) z t)) }
      in_object x hx (as_global k g at e) ref h = absurd (subst (λ (y : Part). Has (refs y) ref) e h)

      -- an init function that isn't skipped
      of_init : (i : InitFunc) (c : InitCall) → Has o.inits i → init_call (res o) i ≡ Some c → not (is_skipped c) ≡ true → Calls objects c.ref × (c.ref.kind ≡ 0)
      of_init i c hi h t = by (ref_in (res o) 0 0 i.symbol (pos 0)) refl h
        where
          by : (x : Option Ref) → ref_in (res o) 0 0 i.symbol (pos 0) ≡ x → option_map (λ ref. record { priority = i.priority; ref = ref }) x ≡ Some c → Calls objects c.ref × (c.ref.kind ≡ 0)
          by None q h = absurd (grind arith)
          by (Some y) q h =
              let same : y ≡ c.ref = ap (λ (z : InitCall). z.ref) (some_is (record { priority = i.priority; ref = y }) c h) in
              let p = ref_parts 0 0 (pos 0) (slice_get (symbols_of objects o) i.symbol) (slice_get (res o).meanings i.symbol) c.ref (q ∙ ap Some same) in
              let s = symbol_at objects o 0 o.symbols i.symbol c.ref.entry p.1 in
              let named = subst (IsInit o) s.1 (all_has (λ (i : InitFunc). IsInit o (slice_get o.symbols i.symbol)) o.inits (sound o ho).1.inits i hi) in
              let function = ap (λ (e : InputSymbol). e.symbol.kind) s.2 ∙ init_function s.0.kind named.0 in
              let u : Use = record { kind = 0; entry = c.ref.entry } in
              let used = filter_has (λ (u : Use). is_init_use u.entry) (filter_map (λ (i : InitFunc). use_of 0 (slice_get (symbols_of objects o) i.symbol)) o.inits) u
              (pick_has (λ (i : InitFunc). use_of 0 (slice_get (symbols_of objects o) i.symbol)) o.inits i u hi (ap (use_of 0) p.1)) (not_skipped (is_undefined c.ref.entry.symbol) c.ref.entry.defines t) in
              (record { function = function; called = λ e. called_by objects o ho u (third_of code_uses data_uses init_uses u used) refl function e }, p.0)

    -- ---- the linker's functions

    abbrev calls : List Ref
    calls = init_calls (map res objects)

    init_calls_call : (ref : Ref) → Has calls ref → Calls objects ref × (ref.kind ≡ 0)
    init_calls_call ref h =
        let r = calls_are (map res objects) ref h in
        let b = has_map res objects r.0 r.1 in
        let f = has_filter (λ c. not (is_skipped c)) (filter_map (init_call (res b.0)) b.0.inits) r.2 (subst (λ w. Has (init_calls_in w) r.2) (sym b.2) r.3) in
        let q = has_pick (init_call (res b.0)) b.0.inits r.2 f.0 in
        subst (λ (x : Ref). Calls objects x × (x.kind ≡ 0)) r.4 (of_init b.0 b.1 q.0 r.2 q.1 q.2 f.1)

    -- what the linker's parts refer to they call, and they are functions
    pub made_call : (x : Part) → MadeAs calls x → (ref : Ref) → Has (refs x) ref → Calls objects ref × (ref.kind ≡ 0) × (x.chunk.kind ≡ 0)
    made_call x m ref h = by ((m.kind == 0) && (m.place == 0)) refl (subst (λ (y : Part). Has y.named (a_symbol ref)) m.is (refs_named x ref h))
      where
        symbol_is : (r : Ref) → a_symbol r ≡ a_symbol ref → Some r ≡ Some ref
        symbol_is r e = ap named_ref e

        first : (a b : Bool) → (a && b) ≡ true → a ≡ true
        first true b h = refl
        first false b h = absurd (grind arith)

        by : (b : Bool) → ((m.kind == 0) && (m.place == 0)) ≡ b → Has (cond b (map a_symbol calls) []) (a_symbol ref) → Calls objects ref × (ref.kind ≡ 0) × (x.chunk.kind ≡ 0)
        by true t n =
            let c = has_map a_symbol calls (a_symbol ref) n in
            let r = init_calls_call ref (subst (Has calls) (some_is c.0 ref (symbol_is c.0 c.2)) c.1) in
            (r.0, r.1, ap (λ (y : Part). y.chunk.kind) m.is ∙ eqb-true m.kind 0 (first (m.kind == 0) (m.place == 0) t))
        by false t n = absurd n

    -- ---- all parts

    pub strict_ref : (x : Part) → Has (made_parts_from calls 0 (made Shared) ++ object_parts all objects res (λ o. refl) calls objects) x → (ref : Ref) → Has (refs x) ref → Strict objects x ref
    strict_ref x h ref r =
        ⊎_elim
        (λ a. let c = made_call x (made_behind calls 0 (made Shared) x a).0 ref r in record { call = λ z. c.0; code = λ z. c.2 })
        (λ a. let o = of_some_object all objects res (λ o. refl) calls objects x a in in_object o.0 o.1 x o.2 (stood all objects (res o.0) x o.2) ref r)
        (has_either (made_parts_from calls 0 (made Shared)) (object_parts all objects res (λ o. refl) calls objects) x h)
