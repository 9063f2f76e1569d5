-- The functions, slots, types and segments that live parts name stand in their lists.
use Rattle.std.proofs.Common.{◌≡◌, ℕ, List, ◌++◌, map, Option, Some, None, Bool, true, false, refl, sym, ap, ◌∙◌, subst, arith}
use Rattle.std.specs.Prelude.{◌==◌, ◌&&◌, ◌||◌, slice_get, filter, position, option_and_then, unwrap_or}
use Rattle.std.proofs.lemmas.Bool.{and_from, eq-eqb, eqb-true, cond-false, not_from_false}
use Rattle.std.proofs.lemmas.Option.{option_and_then_some}
use Rattle.list_places.specs.Has.{Has, Same, Stands}
use Rattle.list_places.proofs.Lists.{by_test, has_left, placed, stands, some_is, map_has, pick_has, filter_has, any_has}
use Rattle.wasm_types.specs.declared.function.FuncType.{FuncType}
use Rattle.wasm_types.specs.Same.{same_type}
use Rattle.linking_section.specs.declared.symbol.SymbolKind.TheVariants.{Function, Datum}
use Rattle.made_symbols.specs.declared.mode.Mode.TheVariants.{Plain}
use Rattle.mark_bits.specs.declared.chunk.Chunk.{Chunk}
use Rattle.live_mark.specs.Live.{ReachedLaw}
use Rattle.name_rules.specs.Entries.{InputSymbol, ImportKey, is_kind, name_of, same_import}
use Rattle.name_rules.specs.Meanings.{Meaning, here, imported, null, nothing, is_nothing}
use Rattle.link_rules.specs.Program.{Program, Part, Ref, refs, same_chunk, chunk_at, chunk_of, chunk_by, meant_chunk}
use Rattle.link_rules.specs.Marks.{live, unresolved, refs_of}
use Rattle.link_rules.specs.Keys.{FunctionKey, outside, same_function, functions, function_imports_of, defined_functions, is_function_type, has_import, used_imports, imports_by, import_of, imports_in_order, ref_function, meant_function, is_null, takes_slot, may_have_slot, slots, is_taken, types, type_of, window_types, function_number}
use Rattle.link_rules.specs.Values.{Layout, segments}
use Rattle.link_rules.specs.Output.{layout}
use Rattle.link_worlds.specs.Names.{all_functions, renaming, FunctionGets}
use Rattle.link_worlds.specs.Sound.{Sound, SoundRef, SoundHere, SoundMeaning, PartOf}
use Rattle.link_worlds.proofs.Keys.{functions_same, types_same, import_itself, chunk_itself}
use Rattle.link_worlds.proofs.Live.{live_part, live_closed, ref_listed, resolved}
use Rattle.link_worlds.proofs.Refs.{distinct_has, own_here, function_pairs}
use Rattle.key_laws.specs.Standing.{IsNumbered, HasFunction, HasSlot, HasType, HasSegment, HasDatum, HasAddress}
use Rattle.key_laws.proofs.Asked.{IsAsked}

-- ---- numbers of keys that are there

pub numbered : {X : Type 0} (same : X → X → Bool) (keys : List X) (key y : X) → Has keys y → same key y ≡ true → IsNumbered same keys key
numbered same keys key y h e =
    let n = placed (same key) keys y h e in
    subst (Stands (same key) keys) (sym (ap (λ o. unwrap_or o 0) n.1)) (stands (same key) keys n.0 n.1)

-- a key with a place in one list, by which another list has a number
pub by_place : {X : Type 0} (same : X → X → Bool) → Same same → (from to : List X) (key : X) (f g : ℕ) → position (same key) from ≡ Some f → option_and_then (λ k. position (same k) to) (slice_get from f) ≡ Some g → Stands (same key) to g
by_place same s from to key f g q h =
    option_and_then_some (λ k. position (same k) to) (slice_get from f) g h
    (λ k at there.
    let a = stands (same key) from f q in
    let e : a.item ≡ k = some_is a.item k (sym a.there ∙ at) in
    let w = stands (same k) to g there in
    record { item = w.item; there = w.there; passes = s.carries key k (subst (λ x. same key x ≡ true) e a.passes) w.item ∙ w.passes })

module _ (law : ReachedLaw) (p : Program) (exports : List InputSymbol) (sound : Sound p) (open' : unresolved p (live p exports) ≡ None)
    (asked : (part : Part) (ref : Ref) → Has p.parts part → Has (refs part) ref → IsAsked ref) where
  abbrev parts : List Part
  parts = live p exports

  abbrev pub lay : Layout
  lay = layout Plain p (live p exports) exports

  abbrev fs : List FunctionKey
  fs = functions Plain p (live p exports)

  -- ---- types and segments

  pub type_there : (t : FuncType) → Has (map (type_of p parts) fs ++ window_types parts) t → HasType lay t
  unfolding layout types
  type_there t h =
      let all = map (type_of p parts) fs ++ window_types parts in
      let d = distinct_has same_type types_same all t h in
      numbered same_type (types p parts fs) t d.0 d.1 d.2

  pub function_there : (k : FunctionKey) → Has fs k → HasFunction lay k
  unfolding layout
  function_there k h = numbered same_function fs k k h (functions_same.itself k)

  pub function_type : (k : FunctionKey) → Has lay.numbers.functions k → HasType lay (type_of p parts k)
  unfolding layout
  function_type k h = type_there (type_of p parts k) (has_left (map (type_of p parts) fs) (window_types parts) (type_of p parts k) (map_has (type_of p parts) fs k h))

  pub segment_there : (c : Chunk) → PartOf parts c → c.kind ≡ 1 → HasSegment lay c
  unfolding layout
  segment_there c o z =
      let kind : (o.part.chunk.kind == 1) ≡ true = eq-eqb o.part.chunk.kind 1 (ap (λ (x : Chunk). x.kind) o.chunk ∙ z) in
      let there = map_has (λ (x : Part). x.chunk) (segments parts) o.part (filter_has (λ (x : Part). x.chunk.kind == 1) parts o.part o.there kind) in
      numbered same_chunk (map (λ (x : Part). x.chunk) (segments parts)) c o.part.chunk there (subst (λ x. same_chunk c x ≡ true) (sym o.chunk) (chunk_itself c))

  -- ---- references

  module _ (part : Part) (ref : Ref) (h : Has (live p exports) part) (r : Has (refs part) ref) where
    in_refs : Has (refs_of (live p exports)) ref
    in_refs = ref_listed (live p exports) part ref h r

    said : SoundRef p part ref
    said = sound.refs part ref (live_part p exports part h) r

    pub known : IsAsked ref
    known = asked part ref (live_part p exports part h) r

    pub not_nothing : ref.meaning ≡ nothing → ⊥
    not_nothing m = resolved p (live p exports) ref open' in_refs (said.known (ap is_nothing m)) m

    -- what it means is live
    target : (e : InputSymbol) (c : Chunk) → ref.meaning ≡ here e → chunk_of e ≡ Some c → SoundHere p ref e → PartOf (live p exports) c
    target e c m q s = live_closed law p exports part c h (pick_has (λ (x : Ref). meant_chunk x.meaning) (refs part) ref c r (ap meant_chunk m ∙ q)) (s.kept c q)

    -- a function's index
    function_at : (o : Option ℕ) → position (same_function (ref_function ref)) (all_functions p) ≡ o → FunctionGets (renaming p lay) o (function_number lay.numbers (ref_function ref)) → HasFunction lay (ref_function ref)
    function_at None q g = absurd g
    function_at (Some f) q g = by_place same_function functions_same (all_functions p) lay.numbers.functions (ref_function ref) f (function_number lay.numbers (ref_function ref)) q g

    pub called : ref.kind ≡ 0 → HasFunction lay (ref_function ref)
    called z = function_at (position (same_function (ref_function ref)) (all_functions p)) refl (function_pairs law p exports sound part ref open' h r z)

    -- a function that isn't null, whatever is asked of it
    used : (k : ImportKey) → ref.meaning ≡ imported k → has_import (used_imports (filter (imports_by Plain) (refs_of (live p exports)))) k ≡ true
    used k m =
        any_has (same_import k) (used_imports (filter (imports_by Plain) (refs_of (live p exports)))) k
        (pick_has (λ (x : Ref). import_of x.meaning) (filter (imports_by Plain) (refs_of (live p exports))) ref k (filter_has (imports_by Plain) (refs_of (live p exports)) ref in_refs refl) (ap import_of m)) (import_itself k)

    by_meaning : (m : Meaning) → ref.meaning ≡ m → SoundMeaning p ref m → ref.entry.symbol.kind ≡ Function → is_null m ≡ false → Has fs (meant_function (name_of ref.entry) m)
    unfolding functions
    by_meaning (here e) m s f n =
        let q : chunk_of e ≡ Some (chunk_at e.input 0 e.index) = ap (chunk_by e) (known.same e m ∙ f) in
        own_here law p exports sound e s.made (target e (chunk_at e.input 0 e.index) m q s)
    by_meaning (imported k) m s f n =
        let test = λ (k : ImportKey). is_function_type k.type && has_import (used_imports (filter (imports_by Plain) (refs_of parts))) k in
        let t = and_from (is_function_type k.type) (has_import (used_imports (filter (imports_by Plain) (refs_of parts))) k) (known.function k m f) (used k m) in
        has_left (map outside (function_imports_of Plain p (refs_of parts))) (defined_functions p parts) (outside k)
        (map_has outside (function_imports_of Plain p (refs_of parts)) k (filter_has test (imports_in_order p) k s.listed t))
    by_meaning null m s f n = absurd (grind arith)
    by_meaning nothing m s f n = absurd (not_nothing m)

    pub slot_there : ref.entry.symbol.kind ≡ Function → is_null ref.meaning ≡ false → ((ref.kind == 1) || (ref.kind == 2) || (ref.kind == 12) || ((ref.kind == 7) && is_kind Function ref.entry)) ≡ true → HasSlot lay (ref_function ref)
    unfolding layout slots
    slot_there f n t =
        let k = ref_function ref in
        let taken = map ref_function (filter (takes_slot Plain) (refs_of parts)) in
        let takes = and_from (may_have_slot Plain ref.meaning) ((ref.kind == 1) || (ref.kind == 2) || (ref.kind == 12) || ((ref.kind == 7) && is_kind Function ref.entry)) (not_from_false (is_null ref.meaning) n) t in
        let listed = map_has ref_function (filter (takes_slot Plain) (refs_of parts)) ref (filter_has (takes_slot Plain) (refs_of parts) ref in_refs takes) in
        let there = filter_has (is_taken taken) fs k (by_meaning ref.meaning refl said.meant f n) (any_has (same_function k) taken k listed (functions_same.itself k)) in
        numbered same_function (slots Plain parts fs) k k there (functions_same.itself k)

    -- a datum
    datum_chunk : (e : InputSymbol) → e.symbol.kind ≡ Datum → (e.input ≡ 0 → ⊥) → chunk_of e ≡ Some (chunk_at e.input 1 e.index)
    datum_chunk e d z =
        ap (chunk_by e) d ∙ cond-false (e.input == 0) None (Some (chunk_at e.input 1 e.index)) (by_test (e.input == 0) (λ t. absurd (z (eqb-true e.input 0 t))) (λ t. t))

    pub datum_there : (e : InputSymbol) → ref.meaning ≡ here e → e.symbol.kind ≡ Datum → HasDatum lay e
    datum_there e m d z =
        let s = subst (SoundMeaning p ref) m said.meant in
        segment_there (chunk_at e.input 1 e.index) (target e (chunk_at e.input 1 e.index) m (datum_chunk e d z) s) refl

    address_by : (m : Meaning) → ref.meaning ≡ m → ref.entry.symbol.kind ≡ Datum → HasAddress lay m
    address_by (here e) m d = datum_there e m (known.same e m ∙ d)
    address_by (imported k) m d = known.datum k m d
    address_by null m d = tt
    address_by nothing m d = not_nothing m

    pub address_there : ref.entry.symbol.kind ≡ Datum → HasAddress lay ref.meaning
    address_there d = address_by ref.meaning refl d
