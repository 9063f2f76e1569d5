-- Windows of data name functions and data, and none is a call.
use Rattle.std.proofs.Common.{◌≡◌, ℕ, List, ◌++◌, Option, Some, None, Bool, true, false, refl, sym, ap, ◌∙◌, subst, ⊎_elim, arith, ℤ}
use Rattle.std.specs.Prelude.{◌==◌, ◌&&◌, slice_get, cond, option_map, IsTrue}
use Rattle.std.specs.List.{All}
use Rattle.std.proofs.lemmas.Bool.{false≢true, eqb-true, or_cases}
use Rattle.list_places.specs.Has.{Has}
use Rattle.list_places.proofs.Lists.{by_test, all_has, has_at, has_either, has_map, has_pick, some_is}
use Rattle.linking_section.specs.declared.symbol.SymbolKind.TheVariants.{GlobalVar}
use Rattle.linking_section.specs.Flags.{kind_code}
use Rattle.reloc_section.specs.declared.entry.Reloc.{Reloc}
use Rattle.object_columns.specs.declared.segments.SegmentDef.{SegmentDef}
use Rattle.object_file.specs.declared.object.Object.{Object}
use Rattle.object_file.specs.Sound.{Sound, WindowNames, IsNamedBy, is_data_type}
use Rattle.object_rules.specs.Relocs.{may_name}
use Rattle.made_symbols.specs.Made.{made}
use Rattle.made_symbols.specs.declared.mode.Mode.TheVariants.{Shared}
use Rattle.name_rules.specs.Entries.{InputSymbol, is_kind, symbols_of}
use Rattle.name_rules.specs.Meanings.{Meaning, null, Resolved, Uses, resolved_in}
use Rattle.round_rules.specs.Rounds.{Candidate}
use Rattle.program_build.proofs.link_program_lemmas.Loose.{refs_loose}
use Rattle.link_rules.specs.Program.{Program, Part, Ref, refs, a_symbol, ref_to, ref_in, window_named, made_parts_from, loose_part, loose_parts, loose_ref, is_mismatch, variant}
use Rattle.link_facts.proofs.Symbols.{symbol_at}
use Rattle.link_facts.proofs.Meant.{code_kind}
use Rattle.link_facts.proofs.Refs.{refs_named}
use Rattle.link_facts.proofs.Parts.{Stood, as_function, as_segment, as_global, stood, MadeAs, made_as, made_behind, object_parts, of_some_object}

-- A window of data takes the address of a function or datum.
abbrev pub TakesAddress : Ref → Type 0
TakesAddress ref = ((ref.kind == 0) ≡ false) × (is_kind GlobalVar ref.entry ≡ false)

abbrev pub RowsTake : Program → Type 0
RowsTake p = (part : Part) (ref : Ref) → Has p.parts part → part.chunk.kind ≡ 1 → Has (refs part) ref → TakesAddress ref

-- ---- a window

pub symbol_ref : (x : Option Ref) (ref : Ref) → option_map a_symbol x ≡ Some (a_symbol ref) → x ≡ Some ref
symbol_ref None ref h = absurd (grind arith)
symbol_ref (Some y) ref h = grind arith

pub ref_parts : (place kind : ℕ) (addend : ℤ) (x : Option InputSymbol) (m : Option Meaning) (ref : Ref) → ref_to place kind addend x m ≡ Some ref → (ref.kind ≡ kind) × (x ≡ Some ref.entry)
ref_parts place kind addend None m ref h = absurd (grind arith)
ref_parts place kind addend (Some e) None ref h = absurd (grind arith)
ref_parts place kind addend (Some e) (Some m) ref h =
    let r = some_is (record { place = place; kind = kind; addend = addend; entry = e; meaning = m }) ref h in
    (sym (ap (λ (w : Ref). w.kind) r), ap Some (ap (λ (w : Ref). w.entry) r))

-- relocations of data name no global
no_global : (kind : ℕ) → IsTrue (is_data_type kind) → IsTrue (may_name kind GlobalVar) → ⊥
no_global kind d g =
    ⊎_elim
    (λ a. let x = eqb-true kind 2 a in ⊎_elim (λ b. let y = eqb-true kind 7 b in omega (arith, x, y)) (λ b. let y = eqb-true kind 13 b in omega (arith, x, y)) (or_cases (kind == 7) (kind == 13) g))
    (λ a. let x = eqb-true kind 5 a in ⊎_elim (λ b. let y = eqb-true kind 7 b in omega (arith, x, y)) (λ b. let y = eqb-true kind 13 b in omega (arith, x, y)) (or_cases (kind == 7) (kind == 13) g))
    (or_cases (kind == 2) (kind == 5) d)

module _ (uses : Uses) (allow : Bool) (es : List InputSymbol) (all : List Candidate) (objects : List Object) where
  abbrev res : Object → Resolved
  res o = resolved_in Shared uses allow es objects o

  window_takes : (o : Object) (w : Reloc) (ref : Ref) → WindowNames o w → window_named (res o) w ≡ Some (a_symbol ref) → TakesAddress ref
  window_takes o w ref n h =
      let r = ref_parts w.offset w.kind w.addend (slice_get (symbols_of objects o) w.index) (slice_get (res o).meanings w.index) ref (symbol_ref (ref_in (res o) w.offset w.kind w.index w.addend) ref h) in
      let s = symbol_at objects o 0 o.symbols w.index ref.entry r.1 in
      let named = (subst (IsNamedBy w.kind) s.1 n.1).0 in (
        by_test (ref.kind == 0) (λ t. absurd (false≢true (subst (λ k. IsTrue (is_data_type k)) (sym r.0 ∙ eqb-true ref.kind 0 t) n.0))) (λ t. t),
        by_test (is_kind GlobalVar ref.entry)
            (λ t. let k = code_kind ref.entry.symbol.kind GlobalVar (eqb-true (kind_code ref.entry.symbol.kind) (kind_code GlobalVar) t) in
            let k' : s.0.kind ≡ GlobalVar = sym (ap (λ (e : InputSymbol). e.symbol.kind) s.2) ∙ k in
            absurd (no_global w.kind n.0 (subst (λ k. IsTrue (may_name w.kind k)) k' named)))
            (λ t. t),
      )

  -- ---- a part that is a segment

  module _ (sound : (o : Object) → Has objects o → (size : ℕ) × Sound size o) (calls : List Ref) where
    of_object : (o : Object) → Has objects o → (x : Part) → Stood all objects (res o) x → x.chunk.kind ≡ 1 → (ref : Ref) → Has (refs x) ref → TakesAddress ref
    of_object o ho x (as_function k f at e) z ref h = absurd (let q : x.chunk.kind ≡ 0 = ap (λ (y : Part). y.chunk.kind) e in omega (arith, q, z))
    of_object o ho x (as_global k f at e) z ref h = absurd (let q : x.chunk.kind ≡ 2 = ap (λ (y : Part). y.chunk.kind) e in omega (arith, q, z))
    of_object o ho x (as_segment k g at e) z ref h =
        let n = subst (λ (y : Part). Has y.named (a_symbol ref)) e (refs_named x ref h) in
        let w = has_pick (window_named (res o)) g.windows (a_symbol ref) n in
        let each = all_has (λ (g : SegmentDef). All (WindowNames o) g.windows) o.segments (sound o ho).1.window_names g (has_at o.segments k g at) in
        window_takes o w.0 ref (all_has (WindowNames o) g.windows each w.0 w.1) w.2

    of_linker : (x : Part) → MadeAs calls x → x.chunk.kind ≡ 1 → (ref : Ref) → Has (refs x) ref → TakesAddress ref
    of_linker x m z ref h =
        let kind : m.kind ≡ 1 = sym (ap (λ (y : Part). y.chunk.kind) m.is) ∙ z in
        absurd (subst (λ k. Has (refs (made_as calls m.place m.symbol k)) ref) kind (subst (λ y. Has (refs y) ref) m.is h))

    strict_takes : (x : Part) → Has (made_parts_from calls 0 (made Shared) ++ object_parts all objects res (λ o. refl) calls objects) x → x.chunk.kind ≡ 1 → (ref : Ref) → Has (refs x) ref → TakesAddress ref
    strict_takes x h z ref r =
        ⊎_elim
        (λ a. of_linker x (made_behind calls 0 (made Shared) x a).0 z ref r)
        (λ a. let o = of_some_object all objects res (λ o. refl) calls objects x a in of_object o.0 o.1 x (stood all objects (res o.0) x o.2) z ref r)
        (has_either (made_parts_from calls 0 (made Shared)) (object_parts all objects res (λ o. refl) calls objects) x h)

    -- ---- loosened or not

    not_loosened : (ref : Ref) → TakesAddress ref → loose_ref es ref ≡ ref
    not_loosened ref t = ap (λ b. cond (b && is_mismatch es ref.entry ref.meaning) (record ref { entry = variant ref.entry; meaning = null }) ref) t.0

    pub takes : (b : Bool) (x : Part) → Has (loose_parts b es (made_parts_from calls 0 (made Shared) ++ object_parts all objects res (λ o. refl) calls objects)) x → x.chunk.kind ≡ 1 → (ref : Ref) → Has (refs x) ref
        → TakesAddress ref
    takes false x h z ref r = strict_takes x h z ref r
    takes true x h z ref r =
        let m = has_map (loose_part es) (made_parts_from calls 0 (made Shared) ++ object_parts all objects res (λ o. refl) calls objects) x h in
        let kind : m.0.chunk.kind ≡ 1 = ap (λ (y : Part). y.chunk.kind) m.2 ∙ z in
        let n = subst (λ rs. Has rs ref) (refs_loose es m.0) (subst (λ y. Has (refs y) ref) (sym m.2) r) in
        let q = has_map (loose_ref es) (refs m.0) ref n in
        let t = strict_takes m.0 m.1 kind q.0 q.1 in
        subst TakesAddress (sym (not_loosened q.0 t) ∙ q.2) t
