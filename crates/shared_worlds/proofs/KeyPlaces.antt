-- The key of what a live reference names is among those that the output numbers, so its number is that of the key.
use Rattle.std.proofs.Common.{◌≡◌, List, ◌++◌, map, Some, Bool, true, false, refl, sym, ap, ◌∙◌, subst, inl, inr, ⊎_elim, arith}
use Rattle.std.specs.Prelude.{◌⊎◌, ◌==◌, ◌&&◌, ◌||◌, not, filter, filter_map, bytes_eq, codes}
use Rattle.std.specs.List.{list_any}
use Rattle.std.proofs.lemmas.Bool.{and_from, eqb-true, eq-eqb, cond-true, cond-false, or_left, or_right, not_from_false}
use Rattle.list_places.specs.Has.{Has}
use Rattle.list_places.proofs.Lists.{by_test, has_left, has_right, first_of, second_of, third_of, pick_has, any_has, map_has, filter_has}
use Rattle.wl_base.specs.Choice.{given, distinct}
use Rattle.linking_section.specs.declared.symbol.SymbolKind.{SymbolKind}
use Rattle.linking_section.specs.declared.symbol.SymbolKind.TheVariants.{Function, Datum, GlobalVar, Section, Table}
use Rattle.linking_section.specs.Flags.{kind_code}
use Rattle.made_symbols.specs.declared.mode.Mode.TheVariants.{Shared}
use Rattle.mark_bits.specs.declared.chunk.Chunk.{Chunk}
use Rattle.live_mark.specs.Live.{ReachedLaw}
use Rattle.name_rules.specs.Entries.{InputSymbol, ImportKey, is_kind, is_entry, name_of, same_import}
use Rattle.name_rules.specs.Meanings.{Meaning, here, imported, null, nothing, is_nothing, cell_of}
use Rattle.name_rules.specs.Further.{is_here, made_global_import, further_imports}
use Rattle.link_rules.specs.Program.{Program, Part, Ref, refs, chunk_of, chunk_by, chunk_at, meant_chunk}
use Rattle.link_rules.specs.Marks.{live, refs_of, reads_cell, is_foreign}
use Rattle.link_rules.specs.Keys.{GlobalKey, outside, linker_function, stub, own, outside_global, own_global, got, exported_datum, same_function, same_global, functions, defined_functions, function_imports_of, globals, defined_globals, global_imports_in, used_globals, foreign_cell, foreign_cells, parts_of_kind, stub_names, calls_stub, callable, made_function_key, own_function_key, own_global_key, got_entries, needs_got, datum_key, ref_function, ref_global, ref_got, cell_key, meant_function, meant_global, function_of, global_of, linker_key, import_of, imports_in_order, all_imports, has_import, used_imports, imports_by, is_function_type, is_global_type, is_null, same_got}
use Rattle.link_worlds.specs.Sound.{SoundRef, SoundImport, SoundNull, SoundMeaning, PartOf}
use Rattle.link_worlds.proofs.Keys.{import_equal, import_itself, functions_same, globals_same, gots_same, imports_same}
use Rattle.link_worlds.proofs.Live.{live_part, live_closed, ref_listed, resolved}
use Rattle.link_worlds.proofs.Refs.{bytes_same, distinct_has}
use Rattle.shared_types.specs.Linked.{SharedLinkedBy}
use Rattle.shared_worlds.proofs.Lists.{onto_seen, Among, itself}

-- the key of a function that is defined among these parts
own_key : (parts : List Part) (e : InputSymbol) → (e.input ≡ 0 → e.index ≡ e.place) → PartOf parts (chunk_at e.input 0 e.index)
    → Has (filter_map made_function_key parts) (function_of e) ⊎ Has (filter_map own_function_key parts) (function_of e)
own_key parts e made o =
    by_test (e.input == 0)
    (λ t. inl (pick_has made_function_key parts o.part (function_of e) o.there
    (ap (λ (c : Chunk). given ((c.input == 0) && (c.kind == 0)) (linker_function c.index)) o.chunk
    ∙ ap (λ b. given (b && true) (linker_function e.index)) t
    ∙ ap Some (ap linker_function (made (eqb-true e.input 0 t)) ∙ sym (cond-true (e.input == 0) (linker_function e.place) (own e.input e.index) t)))))
    (λ t. inr (pick_has own_function_key parts o.part (function_of e) o.there
    (ap (λ (c : Chunk). given (not (c.input == 0) && (c.kind == 0)) (own c.input c.index)) o.chunk
    ∙ ap (λ b. given (not b && true) (own e.input e.index)) t
    ∙ ap Some (sym (cond-false (e.input == 0) (linker_function e.place) (own e.input e.index) t)))))

module _ (law : ReachedLaw) (p : Program) (exports : List InputSymbol) (lk : SharedLinkedBy p exports) where
  abbrev parts : List Part
  parts = live p exports

  -- ---- all imports

  in_all_imports : (k : ImportKey) → Has (imports_in_order p) k → Has (all_imports Shared p) k
  in_all_imports k h =
      let y = onto_seen same_import imports_same (imports_in_order p) (further_imports Shared p.entries p.resolved) k h in
      subst (Has (all_imports Shared p)) (sym (import_equal k y.0 y.2)) y.1

  -- ---- keys of functions

  pub function_here : (e : InputSymbol) → (e.input ≡ 0 → e.index ≡ e.place) → PartOf (live p exports) (chunk_at e.input 0 e.index) → Has (functions Shared p parts) (function_of e)
  unfolding functions
  function_here e made o =
      let outs = map outside (function_imports_of Shared p (refs_of parts)) in
      let mades = filter_map made_function_key parts in
      let stubs = map stub (stub_names p (refs_of parts)) in
      let owns = filter_map own_function_key parts in
      has_right outs (mades ++ stubs ++ owns) (function_of e)
      (⊎_elim (first_of mades stubs owns (function_of e)) (third_of mades stubs owns (function_of e)) (own_key parts e made o))

  -- ---- keys of globals

  imported_there : (k : ImportKey) → Has (filter_map made_global_import p.entries ++ foreign_cells parts ++ used_globals Shared p (refs_of parts)) k → Has (globals Shared p parts exports) (outside_global k)
  unfolding globals
  imported_there k h =
      let all = filter_map made_global_import p.entries ++ foreign_cells parts ++ used_globals Shared p (refs_of parts) in
      let d = distinct_has same_import imports_same all k h in
      let there : Has (distinct same_import all) k = subst (Has (distinct same_import all)) (sym (import_equal k d.0 d.2)) d.1 in
      has_left (map outside_global (global_imports_in Shared p parts)) (defined_globals Shared parts exports) (outside_global k) (map_has outside_global (global_imports_in Shared p parts) k there)

  defined_there : (k : GlobalKey) → Has (filter_map own_global_key parts ++ map got (got_entries Shared parts) ++ filter_map datum_key exports) k → Has (globals Shared p parts exports) k
  unfolding globals
  defined_there k h = has_right (map outside_global (global_imports_in Shared p parts)) (defined_globals Shared parts exports) k h

  global_kind : (e : InputSymbol) → is_kind GlobalVar e ≡ true → e.symbol.kind ≡ GlobalVar
  global_kind e t = by e.symbol.kind t
    where
      by : (k : SymbolKind) → (kind_code k == kind_code GlobalVar) ≡ true → k ≡ GlobalVar
      by Function h = absurd (grind arith)
      by Datum h = absurd (grind arith)
      by GlobalVar h = refl
      by Section h = absurd (grind arith)
      by Table h = absurd (grind arith)

  -- a global that is defined: the linker's is an import, an object's has a live part
  pub global_here : (e : InputSymbol) → is_kind GlobalVar e ≡ true → (e.input ≡ 0 → Has p.entries e) → PartOf (live p exports) (chunk_at e.input 2 e.index) → Has (globals Shared p parts exports) (global_of Shared e)
  global_here e g listed o = by_test (e.input == 0) linkers objects
    where
      import_key : ImportKey
      import_key = record { module_name = codes "env"; field = name_of e; type = e.type }

      linkers : (e.input == 0) ≡ true → Has (globals Shared p parts exports) (global_of Shared e)
      linkers t =
          let made : made_global_import e ≡ Some import_key = ap (λ b. given b import_key) (and_from (e.input == 0) (is_kind GlobalVar e) t g) in
          let mades = filter_map made_global_import p.entries in
          subst (Has (globals Shared p parts exports)) (sym (cond-true (e.input == 0) (linker_key Shared e) (own_global e.input e.index) t))
          (imported_there import_key (first_of mades (foreign_cells parts) (used_globals Shared p (refs_of parts)) import_key (pick_has made_global_import p.entries e import_key (listed (eqb-true e.input 0 t)) made)))

      objects : (e.input == 0) ≡ false → Has (globals Shared p parts exports) (global_of Shared e)
      objects t =
          let key : own_global_key o.part ≡ Some (own_global e.input e.index) =
          ap (λ (c : Chunk). given (not (c.input == 0) && (c.kind == 2)) (own_global c.input c.index)) o.chunk ∙ ap (λ b. given (not b && true) (own_global e.input e.index)) t in
          let owns = filter_map own_global_key parts in
          subst (Has (globals Shared p parts exports)) (sym (cond-false (e.input == 0) (linker_key Shared e) (own_global e.input e.index) t))
          (defined_there (own_global e.input e.index) (first_of owns (map got (got_entries Shared parts)) (filter_map datum_key exports) (own_global e.input e.index) (pick_has own_global_key parts o.part (own_global e.input e.index) o.there key)))

  pub datum_here : (e : InputSymbol) → Has exports e → is_kind Datum e ≡ true → Has (globals Shared p parts exports) (exported_datum e)
  datum_here e h t =
      defined_there (exported_datum e)
      (third_of (filter_map own_global_key parts) (map got (got_entries Shared parts)) (filter_map datum_key exports) (exported_datum e)
      (pick_has datum_key exports e (exported_datum e) h (ap (λ b. given b (exported_datum e)) t)))

  -- ---- of live references

  module _ (part : Part) (ref : Ref) (h : Has (live p exports) part) (r : Has (refs part) ref) where
    in_refs : Has (refs_of (live p exports)) ref
    in_refs = ref_listed (live p exports) part ref h r

    said : SoundRef p part ref
    said = lk.sound.refs part ref (live_part p exports part h) r

    pub not_nothing : ref.meaning ≡ nothing → ⊥
    not_nothing m = resolved p (live p exports) ref lk.resolved in_refs (said.known (ap is_nothing m)) m

    used : imports_by Shared ref ≡ true → (k : ImportKey) → ref.meaning ≡ imported k → has_import (used_imports (filter (imports_by Shared) (refs_of (live p exports)))) k ≡ true
    used t k m = any_has (same_import k) (used_imports (filter (imports_by Shared) (refs_of (live p exports)))) k
        (pick_has (λ (x : Ref). import_of x.meaning) (filter (imports_by Shared) (refs_of (live p exports))) ref k (filter_has (imports_by Shared) (refs_of (live p exports)) ref in_refs t) (ap import_of m)) (import_itself k)

    target : (e : InputSymbol) (c : Chunk) → ref.meaning ≡ here e → chunk_of e ≡ Some c → PartOf p.parts c → PartOf (live p exports) c
    target e c m ec o = live_closed law p exports part c h (pick_has (λ (x : Ref). meant_chunk x.meaning) (refs part) ref c r (ap meant_chunk m ∙ ec)) o

    -- a call
    module _ (zero' : ref.kind ≡ 0) where
      call_import : (k : ImportKey) → ref.meaning ≡ imported k → SoundImport p ref k → Has (functions Shared p parts) (outside k)
      unfolding functions
      call_import k m s =
          let has = has_import (used_imports (filter (imports_by Shared) (refs_of parts))) in
          let t = or_left (ref.kind == 0) (is_kind GlobalVar ref.entry) (eq-eqb ref.kind 0 zero') in
          let a = filter_has (λ (k : ImportKey). is_function_type k.type && has k) (all_imports Shared p) k (in_all_imports k s.listed) (and_from (is_function_type k.type) (has k) (s.function zero') (used t k m)) in
          has_left (map outside (function_imports_of Shared p (refs_of parts))) (defined_functions p parts) (outside k) (map_has outside (function_imports_of Shared p (refs_of parts)) k a)

      call_null : ref.meaning ≡ null → SoundNull p ref → Among same_function (functions Shared p parts) (stub (name_of ref.entry))
      unfolding functions
      call_null m s =
          let n = name_of ref.entry in
          let test = λ (e : InputSymbol). list_any (calls_stub (name_of e)) (refs_of parts) in
          let t1 : is_null ref.meaning ≡ true = ap is_null m in
          let t2 : bytes_eq n (name_of s.entry) ≡ true = ap (bytes_eq n) s.name ∙ bytes_same.itself n in
          let calls = and_from ((ref.kind == 0) && is_null ref.meaning) (bytes_eq n (name_of s.entry)) (and_from (ref.kind == 0) (is_null ref.meaning) (eq-eqb ref.kind 0 zero') t1) t2 in
          let a = filter_has test (callable p) s.entry s.listed (any_has (calls_stub (name_of s.entry)) (refs_of parts) ref in_refs calls) in
          let d = distinct_has bytes_eq bytes_same (map name_of (filter test (callable p))) n (subst (λ x. Has (map name_of (filter test (callable p))) x) s.name (map_has name_of (filter test (callable p)) s.entry a)) in
          let outs = map outside (function_imports_of Shared p (refs_of parts)) in
          let mades = filter_map made_function_key parts in
          let stubs = map stub (stub_names p (refs_of parts)) in
          let owns = filter_map own_function_key parts in
          (stub d.0, has_right outs (mades ++ stubs ++ owns) (stub d.0) (second_of mades stubs owns (stub d.0) (map_has stub (stub_names p (refs_of parts)) d.0 d.1)), d.2)

      by_meaning : (m : Meaning) → ref.meaning ≡ m → SoundMeaning p ref m → Among same_function (functions Shared p parts) (meant_function (name_of ref.entry) m)
      by_meaning (here e) m s =
          let c : chunk_of e ≡ Some (chunk_at e.input 0 e.index) = ap (chunk_by e) (s.function zero') in
          itself same_function functions_same (functions Shared p parts) (function_of e)
          (function_here e s.made (target e (chunk_at e.input 0 e.index) m c (s.kept (chunk_at e.input 0 e.index) c)))
      by_meaning (imported k) m s = itself same_function functions_same (functions Shared p parts) (outside k) (call_import k m s)
      by_meaning null m s = call_null m s
      by_meaning nothing m s = absurd (not_nothing m)

      pub function_among : Among same_function (functions Shared p parts) (ref_function ref)
      function_among = by_meaning ref.meaning refl said.meant

    -- a global
    module _ (seven : ref.kind ≡ 7) where
      module _ (kind : is_kind GlobalVar ref.entry ≡ true) where
        global_import : (k : ImportKey) → ref.meaning ≡ imported k → SoundImport p ref k → Has (globals Shared p parts exports) (outside_global k)
        global_import k m s =
            let has = has_import (used_imports (filter (imports_by Shared) (refs_of parts))) in
            let t = or_right (ref.kind == 0) (is_kind GlobalVar ref.entry) kind in
            let a = filter_has (λ (k : ImportKey). is_global_type k.type && has k) (all_imports Shared p) k (in_all_imports k s.listed) (and_from (is_global_type k.type) (has k) (s.global seven kind) (used t k m)) in
            imported_there k (third_of (filter_map made_global_import p.entries) (foreign_cells parts) (used_globals Shared p (refs_of parts)) k a)

        meant_there : (m : Meaning) → ref.meaning ≡ m → SoundMeaning p ref m → Has (globals Shared p parts exports) (meant_global Shared ref m)
        meant_there (here e) m s =
            let g = s.global seven kind in
            let c : chunk_of e ≡ Some (chunk_at e.input 2 e.index) = ap (chunk_by e) g in
            global_here e (ap (λ k. kind_code k == 2) g) (lk.entries.meant part ref e h r m) (target e (chunk_at e.input 2 e.index) m c (s.kept (chunk_at e.input 2 e.index) c))
        meant_there (imported k) m s = global_import k m s
        meant_there null m s = absurd (s.global kind)
        meant_there nothing m s = absurd (not_nothing m)

        pub global_there : Has (globals Shared p parts exports) (ref_global Shared ref)
        global_there =
            subst (Has (globals Shared p parts exports)) (sym (cond-true (is_kind GlobalVar ref.entry) (meant_global Shared ref ref.meaning) (cell_key Shared ref) kind))
            (meant_there ref.meaning refl said.meant)

      -- the cell of an address
      module _ (kind : is_kind GlobalVar ref.entry ≡ false) (code : part.chunk.kind ≡ 0) where
        in_code : Has (refs_of (parts_of_kind 0 (live p exports))) ref
        in_code = ref_listed (parts_of_kind 0 (live p exports)) part ref (filter_has (λ (x : Part). x.chunk.kind == 0) (live p exports) part h (eq-eqb part.chunk.kind 0 code)) r

        foreign_there : is_foreign ref ≡ true → Has (globals Shared p parts exports) (outside_global (cell_of ref.entry))
        foreign_there f =
            let not_call : not (ref.kind == 0) ≡ true = ap (λ n. not (n == 0)) seven in
            let not_global : not (is_kind GlobalVar ref.entry) ≡ true = not_from_false (is_kind GlobalVar ref.entry) kind in
            let cell : foreign_cell ref ≡ Some (cell_of ref.entry) =
            ap (λ b. given b (cell_of ref.entry)) (and_from (not (ref.kind == 0) && not (is_kind GlobalVar ref.entry)) (is_foreign ref) (and_from (not (ref.kind == 0)) (not (is_kind GlobalVar ref.entry)) not_call not_global) f) in
            let code = refs_of (parts_of_kind 0 parts) in
            let data' = refs_of (parts_of_kind 1 parts) in
            imported_there (cell_of ref.entry)
            (second_of (filter_map made_global_import p.entries) (foreign_cells parts) (used_globals Shared p (refs_of parts)) (cell_of ref.entry)
            (pick_has foreign_cell (code ++ data') ref (cell_of ref.entry) (has_left code data' ref in_code) cell))

        own_there : is_here ref.meaning ≡ true → Among same_global (globals Shared p parts exports) (got (ref_got ref))
        own_there f =
            let needs : needs_got Shared ref ≡ true =
            and_from (reads_cell ref) (is_here ref.meaning) (and_from (ref.kind == 7) (not (is_kind GlobalVar ref.entry)) (eq-eqb ref.kind 7 seven) (not_from_false (is_kind GlobalVar ref.entry) kind)) f in
            let code = refs_of (parts_of_kind 0 parts) in
            let d = distinct_has same_got gots_same (map ref_got (filter (needs_got Shared) code)) (ref_got ref) (map_has ref_got (filter (needs_got Shared) code) ref (filter_has (needs_got Shared) code ref in_code needs)) in
            (got d.0, defined_there (got d.0) (second_of (filter_map own_global_key parts) (map got (got_entries Shared parts)) (filter_map datum_key exports) (got d.0) (map_has got (got_entries Shared parts) d.0 d.1)), d.2)

        -- what isn't foreign is defined here
        pub here_or_foreign : (ref.entry.symbol.kind ≡ Function) ⊎ (ref.entry.symbol.kind ≡ Datum) → is_foreign ref ≡ false → is_here ref.meaning ≡ true
        here_or_foreign k f = by_test (is_here ref.meaning) (λ t. t) (λ n. of_entry n (is_entry ref.entry) refl)
          where
            three : (is_kind Function ref.entry || is_kind Datum ref.entry || is_kind GlobalVar ref.entry) ≡ true
            three = ⊎_elim (λ e. ap (λ k. (kind_code k == 0) || (kind_code k == 1) || (kind_code k == 2)) e) (λ e. ap (λ k. (kind_code k == 0) || (kind_code k == 1) || (kind_code k == 2)) e) k

            of_entry : is_here ref.meaning ≡ false → (b : Bool) → is_entry ref.entry ≡ b → is_here ref.meaning ≡ true
            of_entry n true e =
                absurd (let t : is_foreign ref ≡ true =
                and_from (not (is_here ref.meaning) && is_entry ref.entry) (is_kind Function ref.entry || is_kind Datum ref.entry || is_kind GlobalVar ref.entry)
                (and_from (not (is_here ref.meaning)) (is_entry ref.entry) (not_from_false (is_here ref.meaning) n) e) three in
                let z : true ≡ false = sym t ∙ f in grind arith)
            of_entry n false e = lk.entries.local part ref h r seven e

        pub cell_among : (ref.entry.symbol.kind ≡ Function) ⊎ (ref.entry.symbol.kind ≡ Datum) → Among same_global (globals Shared p parts exports) (ref_global Shared ref)
        cell_among k =
            subst (Among same_global (globals Shared p parts exports)) (sym (cond-false (is_kind GlobalVar ref.entry) (meant_global Shared ref ref.meaning) (cell_key Shared ref) kind))
            (by_test (is_foreign ref)
            (λ f. subst (Among same_global (globals Shared p parts exports)) (sym (cond-true (is_foreign ref) (outside_global (cell_of ref.entry)) (got (ref_got ref)) f))
            (itself same_global globals_same (globals Shared p parts exports) (outside_global (cell_of ref.entry)) (foreign_there f)))
            (λ f. subst (Among same_global (globals Shared p parts exports)) (sym (cond-false (is_foreign ref) (outside_global (cell_of ref.entry)) (got (ref_got ref)) f))
            (own_there (here_or_foreign k f))))
