-- The globals that live parts and exports name stand in their list, and what cells hold in its own.
use Rattle.std.proofs.Common.{◌≡◌, ℕ, List, [], ◌++◌, map, Option, Some, None, Bool, true, false, refl, sym, ap, ◌∙◌, subst, inl, inr, ⊎_elim, arith}
use Rattle.std.specs.Prelude.{◌⊎◌, ◌==◌, ◌&&◌, ◌||◌, not, filter, filter_map, position}
use Rattle.std.proofs.lemmas.Bool.{and_from, and_parts, eq-eqb, eqb-true, cond-true, cond-false, not_from_false, or_right}
use Rattle.list_places.specs.Has.{Has}
use Rattle.list_places.proofs.Lists.{by_test, not_both, has_left, has_right, has_either, first_of, second_of, third_of, map_has, has_map, pick_has, has_pick, filter_has, has_filter, has_flat, distinct_only, given_some}
use Rattle.wl_base.specs.Choice.{given}
use Rattle.linking_section.specs.declared.symbol.SymbolKind.{SymbolKind}
use Rattle.linking_section.specs.declared.symbol.SymbolKind.TheVariants.{Function, Datum, GlobalVar, Section, Table}
use Rattle.linking_section.specs.Flags.{kind_code}
use Rattle.made_symbols.specs.declared.mode.Mode.TheVariants.{Plain}
use Rattle.mark_bits.specs.declared.chunk.Chunk.{Chunk}
use Rattle.live_mark.specs.Live.{ReachedLaw}
use Rattle.name_rules.specs.Entries.{InputSymbol, ImportKey, is_kind, name_of}
use Rattle.name_rules.specs.Meanings.{Meaning, here, imported, null, nothing}
use Rattle.link_rules.specs.Program.{Program, Part, Ref, refs, chunk_at, chunk_of, chunk_by}
use Rattle.link_rules.specs.Marks.{live, unresolved, refs_of}
use Rattle.link_rules.specs.Keys.{GlobalKey, outside_global, linker_global, own_global, got, exported_datum, GotKey, same_global, same_got, globals, used_globals, made_global_key, own_global_key, got_entries, needs_got, parts_of_kind, ref_got, got_of, datum_key, ref_global, meant_global, meant_function, global_of, function_of, is_null, is_global_type, has_import, used_imports, imports_by, imports_in_order, global_number}
use Rattle.link_rules.specs.Values.{Layout}
use Rattle.link_rules.specs.Output.{layout}
use Rattle.link_worlds.specs.Names.{all_cells, renaming, CellGets}
use Rattle.link_worlds.specs.Sound.{Sound, SoundExports, SoundRef, PartOf}
use Rattle.link_worlds.proofs.Keys.{globals_same, gots_same}
use Rattle.link_worlds.proofs.Live.{live_part, live_root, ref_listed}
use Rattle.link_worlds.proofs.Refs.{distinct_has, own_here, cell_pairs}
use Rattle.object_rules.specs.Relocs.{may_name}
use Rattle.link_facts.proofs.Meant.{code_kind}
use Rattle.key_laws.specs.Standing.{HasSlot, HasGlobal, HasDatum, HasCell, HasHeld, HasExported}
use Rattle.key_laws.proofs.Asked.{IsAsked, cell_names}
use Rattle.key_laws.proofs.Functions.{numbered, by_place, function_there, segment_there, slot_there, datum_there, known}

module _ (p : Program) (parts : List Part) (exports : List InputSymbol) where
  -- what the globals of the output are
  pub each_global : (P : GlobalKey → Type 0) → ((k : ImportKey) → is_global_type k.type ≡ true → P (outside_global k)) → ((n : ℕ) → P (linker_global n)) → ((i n : ℕ) → P (own_global i n))
      → ((k : GotKey) → Has (got_entries Plain parts) k → P (got k)) → ((e : InputSymbol) → Has exports e → is_kind Datum e ≡ true → P (exported_datum e))
      → (k : GlobalKey) → Has (globals Plain p parts exports) k → P k
  unfolding globals
  each_global P out made own cell date k h =
      let ins = used_globals Plain p (refs_of parts) in
      let test = λ (k : ImportKey). is_global_type k.type && has_import (used_imports (filter (imports_by Plain) (refs_of parts))) k in
      let outs = map outside_global ins in
      let mades = filter_map made_global_key parts in
      let owns = filter_map own_global_key parts in
      let gots = map got (got_entries Plain parts) in
      let dates = filter_map datum_key exports in
      ⊎_elim
      (λ a.
      let r = has_map outside_global ins k a in
      let t = (has_filter test (imports_in_order p) r.0 r.1).1 in
      subst P r.2 (out r.0 (and_parts (is_global_type r.0.type) (has_import (used_imports (filter (imports_by Plain) (refs_of parts))) r.0) t).0))
      (λ g. ⊎_elim
      (λ g. ⊎_elim
      (λ g. ⊎_elim
      (λ a. let r = has_pick made_global_key parts k a in subst P (given_some ((r.0.chunk.input == 0) && (r.0.chunk.kind == 2)) (linker_global r.0.chunk.index) k r.2).1 (made r.0.chunk.index))
      (λ a. let r = has_pick own_global_key parts k a in subst P (given_some (not (r.0.chunk.input == 0) && (r.0.chunk.kind == 2)) (own_global r.0.chunk.input r.0.chunk.index) k r.2).1 (own r.0.chunk.input r.0.chunk.index))
      (has_either mades owns k g))
      (λ a. let r = has_map got (got_entries Plain parts) k a in subst P r.2 (cell r.0 r.1))
      (has_either (mades ++ owns) gots k g))
      (λ a. let r = has_pick datum_key exports k a in let q = given_some (is_kind Datum r.0) (exported_datum r.0) k r.2 in subst P q.1 (date r.0 r.1 q.0))
      (has_either (mades ++ owns ++ gots) dates k g))
      (has_either outs (mades ++ owns ++ gots ++ dates) k h)

  abbrev outs : List GlobalKey
  outs = map outside_global (used_globals Plain p (refs_of parts))

  abbrev mades : List GlobalKey
  mades = filter_map made_global_key parts

  abbrev owns : List GlobalKey
  owns = filter_map own_global_key parts

  abbrev gots : List GlobalKey
  gots = map got (got_entries Plain parts)

  abbrev dates : List GlobalKey
  dates = filter_map datum_key exports

  cell_in : (k : GotKey) → Has (got_entries Plain parts) k → Has (globals Plain p parts exports) (got k)
  unfolding globals
  cell_in k h =
      has_right outs (mades ++ owns ++ gots ++ dates) (got k)
      (has_left (mades ++ owns ++ gots) dates (got k) (third_of mades owns gots (got k) (map_has got (got_entries Plain parts) k h)))

  date_in : (e : InputSymbol) → Has exports e → e.symbol.kind ≡ Datum → Has (globals Plain p parts exports) (exported_datum e)
  unfolding globals
  date_in e h d =
      has_right outs (mades ++ owns ++ gots ++ dates) (exported_datum e)
      (has_right (mades ++ owns ++ gots) dates (exported_datum e)
      (pick_has datum_key exports e (exported_datum e) h (ap (λ k. given (kind_code k == kind_code Datum) (exported_datum e)) d)))

  either_key : (e : InputSymbol) → (e.input ≡ 0 → e.index ≡ e.place) → PartOf parts (chunk_at e.input 2 e.index) → Has mades (global_of Plain e) ⊎ Has owns (global_of Plain e)
  either_key e made o =
      by_test (e.input == 0)
      (λ t. inl (pick_has made_global_key parts o.part (global_of Plain e) o.there
      (ap (λ (c : Chunk). given ((c.input == 0) && (c.kind == 2)) (linker_global c.index)) o.chunk
      ∙ ap (λ b. given (b && true) (linker_global e.index)) t
      ∙ ap Some (ap linker_global (made (eqb-true e.input 0 t)) ∙ sym (cond-true (e.input == 0) (linker_global e.place) (own_global e.input e.index) t)))))
      (λ t. inr (pick_has own_global_key parts o.part (global_of Plain e) o.there
      (ap (λ (c : Chunk). given (not (c.input == 0) && (c.kind == 2)) (own_global c.input c.index)) o.chunk
      ∙ ap (λ b. given (not b && true) (own_global e.input e.index)) t
      ∙ ap Some (sym (cond-false (e.input == 0) (linker_global e.place) (own_global e.input e.index) t)))))

  own_in : (e : InputSymbol) → (e.input ≡ 0 → e.index ≡ e.place) → PartOf parts (chunk_at e.input 2 e.index) → Has (globals Plain p parts exports) (global_of Plain e)
  unfolding globals
  own_in e made o =
      has_right outs (mades ++ owns ++ gots ++ dates) (global_of Plain e)
      (has_left (mades ++ owns ++ gots) dates (global_of Plain e)
      (⊎_elim (first_of mades owns gots (global_of Plain e)) (second_of mades owns gots (global_of Plain e)) (either_key e made o)))

module _ (law : ReachedLaw) (p : Program) (exports : List InputSymbol) (sound : Sound p) (open' : unresolved p (live p exports) ≡ None)
    (asked : (part : Part) (ref : Ref) → Has p.parts part → Has (refs part) ref → IsAsked ref) where
  abbrev parts : List Part
  parts = live p exports

  abbrev lay : Layout
  lay = layout Plain p (live p exports) exports

  global_there : (k y : GlobalKey) → Has (globals Plain p parts exports) y → same_global k y ≡ true → HasGlobal lay k
  unfolding layout
  global_there k y h e = numbered same_global (globals Plain p parts exports) k y h e

  -- ---- references

  module _ (part : Part) (ref : Ref) (h : Has (live p exports) part) (r : Has (refs part) ref) where
    abbrev knows : IsAsked ref
    knows = known law p exports sound open' asked part ref h r

    cell_at : (o : Option ℕ) → position (same_global (ref_global Plain ref)) (all_cells p) ≡ o → CellGets (renaming p lay) o (global_number lay.numbers (ref_global Plain ref)) → HasGlobal lay (ref_global Plain ref)
    cell_at None q g = absurd g
    cell_at (Some c) q g = by_place same_global globals_same (all_cells p) lay.numbers.globals (ref_global Plain ref) c (global_number lay.numbers (ref_global Plain ref)) q g

    got_at : ref.kind ≡ 7 → is_kind GlobalVar ref.entry ≡ false → HasGlobal lay (got (ref_got ref))
    got_at z b =
        let said : SoundRef p part ref = sound.refs part ref (live_part p exports part h) r in
        let code = parts_of_kind 0 parts in
        let in_code = filter_has (λ (x : Part). x.chunk.kind == 0) parts part h (eq-eqb part.chunk.kind 0 (said.code z)) in
        let needs = and_from (ref.kind == 7) (not (is_kind GlobalVar ref.entry)) (eq-eqb ref.kind 7 z) (not_from_false (is_kind GlobalVar ref.entry) b) in
        let listed = map_has ref_got (filter (needs_got Plain) (refs_of code)) ref (filter_has (needs_got Plain) (refs_of code) ref (ref_listed code part ref in_code r) needs) in
        let y = distinct_has same_got gots_same (map ref_got (filter (needs_got Plain) (refs_of code))) (ref_got ref) listed in
        global_there (got (ref_got ref)) (got y.0) (cell_in p parts exports y.0 y.1) y.2

    -- a global's index
    pub read : ref.kind ≡ 7 → HasGlobal lay (ref_global Plain ref)
    read z =
        by_test (is_kind GlobalVar ref.entry)
        (λ b. cell_at (position (same_global (ref_global Plain ref)) (all_cells p)) refl (cell_pairs law p exports sound part ref open' h r z b))
        (λ b. subst (HasGlobal lay) (sym (cond-false (is_kind GlobalVar ref.entry) (meant_global Plain ref ref.meaning) (got (ref_got ref)) b)) (got_at z b))

    -- ---- what the cell of an address holds

    module _ (needs : needs_got Plain ref ≡ true) where
      seven : ref.kind ≡ 7
      seven = eqb-true ref.kind 7 (and_parts (ref.kind == 7) (not (is_kind GlobalVar ref.entry)) needs).0

      either_kind : (ref.entry.symbol.kind ≡ Function) ⊎ (ref.entry.symbol.kind ≡ Datum)
      either_kind =
          cell_names ref.entry.symbol.kind (subst (λ n. may_name n ref.entry.symbol.kind ≡ true) seven knows.names)
          (λ g. not_both (is_kind GlobalVar ref.entry) (and_parts (ref.kind == 7) (not (is_kind GlobalVar ref.entry)) needs).1 (ap (λ k. kind_code k == kind_code GlobalVar) g))

      slot : (m : Meaning) → ref.meaning ≡ m → is_null m ≡ false → ref.entry.symbol.kind ≡ Function → HasSlot lay (meant_function (name_of ref.entry) m)
      slot m q n f =
          let is = and_from (ref.kind == 7) (is_kind Function ref.entry) (eq-eqb ref.kind 7 seven) (ap (λ k. kind_code k == kind_code Function) f) in
          subst (λ m. HasSlot lay (meant_function (name_of ref.entry) m)) q
          (slot_there law p exports sound open' asked part ref h r f (ap is_null q ∙ n) (or_right ((ref.kind == 1) || (ref.kind == 2) || (ref.kind == 12)) ((ref.kind == 7) && is_kind Function ref.entry) is))

      held_by : (m : Meaning) → ref.meaning ≡ m → HasCell lay (got_of (kind_code ref.entry.symbol.kind) m)
      held_by (here e) m = (
        λ t. datum_there law p exports sound open' asked part ref h r e m (code_kind e.symbol.kind Datum (eqb-true (kind_code e.symbol.kind) (kind_code Datum) t)),
        λ t. ⊎_elim (slot (here e) m refl) (λ d. absurd (both (ap (λ k. kind_code k == kind_code Datum) (knows.same e m ∙ d)) t)) either_kind,
      )
        where
          both : {b : Bool} → b ≡ true → b ≡ false → ⊥
          both x y = absurd (grind (arith, x, y))
      held_by (imported k) m = ⊎_elim (slot (imported k) m refl) (λ d. absurd (knows.datum k m d)) either_kind
      held_by null m = tt
      held_by nothing m = tt

      pub cell_held : HasCell lay (ref_got ref)
      cell_held = held_by ref.meaning refl

  got_held : (k : GotKey) → Has (got_entries Plain parts) k → HasCell lay k
  got_held k h =
      let code = parts_of_kind 0 parts in
      ⊎_elim (λ q. absurd q)
      (λ q. let r = has_map ref_got (filter (needs_got Plain) (refs_of code)) k q in
      let f = has_filter (needs_got Plain) (refs_of code) r.0 r.1 in
      let g = has_flat refs code r.0 f.0 in
      let c = has_filter (λ (x : Part). x.chunk.kind == 0) parts g.0 g.1 in
      subst (HasCell lay) r.2 (cell_held g.0 r.0 c.0 g.2 f.1))
      (distinct_only same_got [] (map ref_got (filter (needs_got Plain) (refs_of code))) k h)

  -- ---- exports

  module _ (named : SoundExports p exports) where
    root : (e : InputSymbol) → Has exports e → (c : Chunk) → chunk_of e ≡ Some c → PartOf parts c
    root e h c q =
        live_root law p exports c (has_left _ _ _ (has_left _ _ _ (has_left (filter_map chunk_of exports) _ _ (pick_has chunk_of exports e c h q)))) ((named.each e h).kept c q)

    datum_root : (e : InputSymbol) → Has exports e → is_kind Datum e ≡ true → HasDatum lay e
    datum_root e h d z =
        let kind : e.symbol.kind ≡ Datum = code_kind e.symbol.kind Datum (eqb-true (kind_code e.symbol.kind) (kind_code Datum) d) in
        let q = ap (chunk_by e) kind ∙ cond-false (e.input == 0) None (Some (chunk_at e.input 1 e.index)) (by_test (e.input == 0) (λ t. absurd (z (eqb-true e.input 0 t))) (λ t. t)) in
        segment_there law p exports sound open' asked (chunk_at e.input 1 e.index) (root e h (chunk_at e.input 1 e.index) q) refl

    exported_by : (e : InputSymbol) (k : SymbolKind) → Has exports e → e.symbol.kind ≡ k → HasExported lay e k
    exported_by e Function h q =
        function_there law p exports sound open' asked (function_of e) (own_here law p exports sound e (named.each e h).made (root e h (chunk_at e.input 0 e.index) (ap (chunk_by e) q)))
    exported_by e Datum h q = global_there (exported_datum e) (exported_datum e) (date_in p parts exports e h q) (globals_same.itself (exported_datum e))
    exported_by e GlobalVar h q =
        global_there (global_of Plain e) (global_of Plain e) (own_in p parts exports e (named.each e h).made (root e h (chunk_at e.input 2 e.index) (ap (chunk_by e) q))) (globals_same.itself (global_of Plain e))
    exported_by e Section h q = tt
    exported_by e Table h q = tt

    pub export_there : (e : InputSymbol) → Has exports e → HasExported lay e e.symbol.kind
    export_there e h = exported_by e e.symbol.kind h refl

    pub held : (k : GlobalKey) → Has lay.numbers.globals k → HasHeld lay k
    unfolding layout
    held k h = each_global p parts exports (HasHeld lay) (λ k t. tt) (λ n. tt) (λ i n. tt) got_held datum_root k h
