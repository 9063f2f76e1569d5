-- Keys that references name are in the lists of keys, and so their numbers pair.
use Rattle.std.proofs.Common.{◌≡◌, ℕ, List, [], ◌∷◌, ◌++◌, map, Some, None, Bool, true, false, refl, sym, ap, ◌∙◌, subst, inl, inr, ⊎_elim}
use Rattle.std.specs.Prelude.{◌⊎◌, ◌==◌, ◌&&◌, not, slice_get, filter, filter_map, position, cond, option_and_then, unwrap_or, bytes_eq}
use Rattle.std.specs.List.{list_any}
use Rattle.std.proofs.lemmas.Bool.{and_from, eqb-true, eq-eqb, cond-true, cond-false}
use Rattle.list_places.specs.Has.{Has, Same}
use Rattle.list_places.proofs.Lists.{by_test, has_left, has_right, first_of, second_of, third_of, placed, stands, same_place, pick_has, any_has, has_any, map_has, filter_has}
use Rattle.wl_base.specs.Choice.{given, distinct, distinct_onto}
use Rattle.linking_section.specs.declared.symbol.SymbolKind.TheVariants.{Function, GlobalVar}
use Rattle.name_rules.specs.Entries.{InputSymbol, ImportKey, is_kind, name_of, same_import}
use Rattle.name_rules.specs.Meanings.{Meaning, here, imported, null, nothing, is_nothing}
use Rattle.mark_bits.specs.declared.chunk.Chunk.{Chunk}
use Rattle.live_mark.specs.Live.{ReachedLaw}
use Rattle.made_symbols.specs.declared.mode.Mode.TheVariants.{Plain}
use Rattle.link_rules.specs.Program.{Program, Part, Ref, refs, chunk_of, chunk_by, chunk_at, meant_chunk}
use Rattle.link_rules.specs.Marks.{live, unresolved, refs_of}
use Rattle.link_rules.specs.Keys.{FunctionKey, GlobalKey, outside, linker_function, stub, own, outside_global, linker_global, own_global, got, same_function, same_global, functions, globals, function_imports_of, used_globals, stub_names, calls_stub, made_function_key, own_function_key, made_global_key, own_global_key, ref_function, ref_global, ref_got, meant_function, meant_global, function_of, global_of, imports_in_order, is_function_type, is_global_type, has_import, used_imports, imports_by, import_of, is_null, got_entries, datum_key, function_number, global_number, callable}
use Rattle.link_worlds.specs.Names.{all_functions, all_cells, null_name, renaming, function_place, callee, FunctionGets, CellGets}
use Rattle.link_rules.specs.Output.{layout}
use Rattle.link_worlds.specs.Sound.{Sound, SoundRef, SoundHere, SoundImport, SoundNull, SoundMeaning, PartOf}
use Rattle.link_worlds.proofs.Keys.{bytes_equal, bytes_itself, import_itself, functions_same, globals_same}
use Rattle.link_worlds.proofs.Live.{live_part, live_closed, ref_listed, resolved}

pub bytes_same : Same bytes_eq
bytes_same = record { itself = bytes_itself; carries = λ a b h z. ap (λ k. bytes_eq k z) (bytes_equal a b h) }

-- a distinct list has all that the list has
module _ {X : Type 0} (same : X → X → Bool) (s : Same same) where
  kept_seen : (seen xs : List X) (x : X) → (y : X) × Has seen y × (same x y ≡ true) → (y : X) × Has (distinct_onto same seen xs) y × (same x y ≡ true)
  kept_seen seen [] x h = h
  kept_seen seen (z ∷ zs) x h =
      kept_seen (cond (list_any (same z) seen) seen (seen ++ z ∷ [])) zs x (onto (list_any (same z) seen))
    where
      onto : (b : Bool) → (y : X) × Has (cond b seen (seen ++ z ∷ [])) y × (same x y ≡ true)
      onto true = h
      onto false = (h.0, has_left seen (z ∷ []) h.0 h.1, h.2)

  distinct_from : (seen xs : List X) (x : X) → Has xs x → (y : X) × Has (distinct_onto same seen xs) y × (same x y ≡ true)
  distinct_from seen [] x h = absurd h
  distinct_from seen (z ∷ zs) x (inl e) =
      kept_seen (cond (list_any (same z) seen) seen (seen ++ z ∷ [])) zs x (by_test (list_any (same z) seen) old new)
    where
      old : list_any (same z) seen ≡ true → (y : X) × Has (cond (list_any (same z) seen) seen (seen ++ z ∷ [])) y × (same x y ≡ true)
      old t = let r = has_any (same z) seen t in (r.0, subst (λ b. Has (cond b seen (seen ++ z ∷ [])) r.0) (sym t) r.1, ap (λ k. same k r.0) (sym e) ∙ r.2)

      new : list_any (same z) seen ≡ false → (y : X) × Has (cond (list_any (same z) seen) seen (seen ++ z ∷ [])) y × (same x y ≡ true)
      new t = (z, subst (λ b. Has (cond b seen (seen ++ z ∷ [])) z) (sym t) (has_right seen (z ∷ []) z (inl refl)), ap (λ k. same k z) (sym e) ∙ s.itself z)
  distinct_from seen (z ∷ zs) x (inr h) = distinct_from (cond (list_any (same z) seen) seen (seen ++ z ∷ [])) zs x h

  pub distinct_has : (xs : List X) (x : X) → Has xs x → (y : X) × Has (distinct same xs) y × (same x y ≡ true)
  distinct_has xs x h = distinct_from [] xs x h

  -- the number of a key that stands in both lists
  pub number_pairs : (from to : List X) (x y z : X) → Has from y → same x y ≡ true → Has to z → same x z ≡ true
      → (f : ℕ) × (position (same x) from ≡ Some f) × (option_and_then (λ k. position (same k) to) (slice_get from f) ≡ Some (unwrap_or (position (same x) to) 0))
  number_pairs from to x y z hf ef ht et =
      let a = placed (same x) from y hf ef in
      let b = placed (same x) to z ht et in
      let t = stands (same x) from a.0 a.1 in (
        a.0,
        a.1,
        ap (option_and_then (λ k. position (same k) to)) t.there
            ∙ sym (same_place same s x t.item to t.passes)
            ∙ b.1 ∙ ap Some (sym (ap (λ o. unwrap_or o 0) b.1)),
      )

-- the function that a live reference means has a number in both worlds
module _ (law : ReachedLaw) (p : Program) (exports : List InputSymbol) (sound : Sound p) where
  abbrev Here : FunctionKey → Type 0
  Here k = (y : FunctionKey) × Has (functions Plain p (live p exports)) y × (same_function k y ≡ true)

  abbrev There : FunctionKey → Type 0
  There k = (y : FunctionKey) × Has (all_functions p) y × (same_function k y ≡ true)

  at_own : (parts : List Part) (e : InputSymbol) → (e.input ≡ 0 → e.index ≡ e.place) → PartOf parts (chunk_at e.input 0 e.index)
      → Has (filter_map made_function_key parts) (function_of e) ⊎ Has (filter_map own_function_key parts) (function_of e)
  at_own parts e made o =
      by_test (e.input == 0)
      (λ t. inl (pick_has made_function_key parts o.part (function_of e) o.there
      (ap (λ (c : Chunk). given ((c.input == 0) && (c.kind == 0)) (linker_function c.index)) o.chunk
      ∙ ap (λ b. given (b && true) (linker_function e.index)) t
      ∙ ap Some (ap linker_function (made (eqb-true e.input 0 t)) ∙ sym (cond-true (e.input == 0) (linker_function e.place) (own e.input e.index) t)))))
      (λ t. inr (pick_has own_function_key parts o.part (function_of e) o.there
      (ap (λ (c : Chunk). given (not (c.input == 0) && (c.kind == 0)) (own c.input c.index)) o.chunk
      ∙ ap (λ b. given (not b && true) (own e.input e.index)) t
      ∙ ap Some (sym (cond-false (e.input == 0) (linker_function e.place) (own e.input e.index) t)))))

  pub own_here : (e : InputSymbol) → (e.input ≡ 0 → e.index ≡ e.place) → PartOf (live p exports) (chunk_at e.input 0 e.index) → Has (functions Plain p (live p exports)) (function_of e)
  unfolding functions
  own_here e made o =
      let parts = live p exports in
      let outs = map outside (function_imports_of Plain p (refs_of parts)) in
      let mades = filter_map made_function_key parts in
      let stubs = map stub (stub_names p (refs_of parts)) in
      let owns = filter_map own_function_key parts in
      has_right outs (mades ++ stubs ++ owns) (function_of e)
      (⊎_elim (first_of mades stubs owns (function_of e)) (third_of mades stubs owns (function_of e)) (at_own parts e made o))

  own_there : (e : InputSymbol) → (e.input ≡ 0 → e.index ≡ e.place) → PartOf p.parts (chunk_at e.input 0 e.index) → Has (all_functions p) (function_of e)
  own_there e made o =
      let parts = p.parts in
      let outs = map outside (filter (λ (k : ImportKey). is_function_type k.type) (imports_in_order p)) in
      let mades = filter_map made_function_key parts in
      let stubs = map stub (distinct bytes_eq (filter_map null_name (refs_of parts))) in
      let owns = filter_map own_function_key parts in
      ⊎_elim
      (λ h. has_left (outs ++ mades ++ stubs) owns (function_of e) (second_of outs mades stubs (function_of e) h))
      (λ h. has_right (outs ++ mades ++ stubs) owns (function_of e) h)
      (at_own parts e made o)

  itself : (k : FunctionKey) (ks : List FunctionKey) → Has ks k → (y : FunctionKey) × Has ks y × (same_function k y ≡ true)
  itself k ks h = (k, h, functions_same.itself k)

  module _ (part : Part) (ref : Ref) (open' : unresolved p (live p exports) ≡ None) (h : Has (live p exports) part) (r : Has (refs part) ref) where
    in_refs : Has (refs_of (live p exports)) ref
    in_refs = ref_listed (live p exports) part ref h r

    in_all : Has (refs_of p.parts) ref
    in_all = ref_listed p.parts part ref (live_part p exports part h) r

    said : SoundRef p part ref
    said = sound.refs part ref (live_part p exports part h) r

    not_nothing : ref.meaning ≡ nothing → ⊥
    not_nothing m = resolved p (live p exports) ref open' in_refs (said.known (ap is_nothing m)) m

    leads : (m : Meaning) → ref.meaning ≡ m → is_nothing m ≡ false
    leads (here e) m = refl
    leads (imported k) m = refl
    leads null m = refl
    leads nothing m = absurd (not_nothing m)

    used : (k : ImportKey) → ref.meaning ≡ imported k → has_import (used_imports (filter (imports_by Plain) (refs_of (live p exports)))) k ≡ true
    used k m = any_has (same_import k) (used_imports (filter (imports_by Plain) (refs_of (live p exports)))) k
        (pick_has (λ (x : Ref). import_of x.meaning) (filter (imports_by Plain) (refs_of (live p exports))) ref k (filter_has (imports_by Plain) (refs_of (live p exports)) ref in_refs refl) (ap import_of m)) (import_itself k)

    target : (e : InputSymbol) (c : Chunk) → ref.meaning ≡ here e → chunk_of e ≡ Some c → PartOf p.parts c → PartOf (live p exports) c
    target e c m ec o = live_closed law p exports part c h (pick_has (λ (x : Ref). meant_chunk x.meaning) (refs part) ref c r (ap meant_chunk m ∙ ec)) o

    -- functions
    module _ (zero' : ref.kind ≡ 0) where
      by_here : (e : InputSymbol) → ref.meaning ≡ here e → SoundHere p ref e → Here (function_of e) × There (function_of e)
      by_here e m s =
          let c : chunk_of e ≡ Some (chunk_at e.input 0 e.index) = ap (chunk_by e) (s.function zero') in
          let o = s.kept (chunk_at e.input 0 e.index) c in
          (itself _ _ (own_here e s.made (target e (chunk_at e.input 0 e.index) m c o)), itself _ _ (own_there e s.made o))

      by_import : (k : ImportKey) → ref.meaning ≡ imported k → SoundImport p ref k → Here (outside k) × There (outside k)
      unfolding functions
      by_import k m s =
          let parts = live p exports in
          let test = λ (k : ImportKey). is_function_type k.type && has_import (used_imports (filter (imports_by Plain) (refs_of parts))) k in
          let type = λ (k : ImportKey). is_function_type k.type in
          let a = filter_has test (imports_in_order p) k s.listed (and_from (is_function_type k.type) (has_import (used_imports (filter (imports_by Plain) (refs_of parts))) k) (s.function zero') (used k m)) in
          let b = filter_has type (imports_in_order p) k s.listed (s.function zero') in
          let outs = map outside (filter type (imports_in_order p)) in
          let mades = filter_map made_function_key p.parts in
          let stubs = map stub (distinct bytes_eq (filter_map null_name (refs_of p.parts))) in
          let owns = filter_map own_function_key p.parts in (
            itself _ _ (has_left (map outside (filter test (imports_in_order p))) (filter_map made_function_key parts ++ map stub (stub_names p (refs_of parts)) ++ filter_map own_function_key parts) (outside k) (map_has outside (filter test (imports_in_order p)) k a)),
            itself _ _ (has_left (outs ++ mades ++ stubs) owns (outside k) (first_of outs mades stubs (outside k) (map_has outside (filter type (imports_in_order p)) k b))),
          )

      by_null : ref.meaning ≡ null → SoundNull p ref → Here (stub (name_of ref.entry)) × There (stub (name_of ref.entry))
      unfolding functions
      by_null m s =
          let parts = live p exports in
          let n = name_of ref.entry in
          let test = λ (e : InputSymbol). list_any (calls_stub (name_of e)) (refs_of parts) in
          let t0 : (ref.kind == 0) ≡ true = eq-eqb ref.kind 0 zero' in
          let t1 : is_null ref.meaning ≡ true = ap is_null m in
          let t2 : bytes_eq n (name_of s.entry) ≡ true = ap (bytes_eq n) s.name ∙ bytes_same.itself n in
          let calls = and_from ((ref.kind == 0) && is_null ref.meaning) (bytes_eq n (name_of s.entry)) (and_from (ref.kind == 0) (is_null ref.meaning) t0 t1) t2 in
          let a = filter_has test (callable p) s.entry s.listed (any_has (calls_stub (name_of s.entry)) (refs_of parts) ref in_refs calls) in
          let d = distinct_has bytes_eq bytes_same (map name_of (filter test (callable p))) n (subst (λ x. Has (map name_of (filter test (callable p))) x) s.name (map_has name_of (filter test (callable p)) s.entry a)) in
          let f = and_from (is_null ref.meaning) (is_kind Function ref.entry) t1 (s.function zero') in
          let b = pick_has null_name (refs_of p.parts) ref n in_all (ap (λ t. given t n) f) in
          let e = distinct_has bytes_eq bytes_same (filter_map null_name (refs_of p.parts)) n b in
          let outs = map outside (filter (λ (k : ImportKey). is_function_type k.type) (imports_in_order p)) in
          let mades = filter_map made_function_key p.parts in
          let stubs = map stub (distinct bytes_eq (filter_map null_name (refs_of p.parts))) in
          let owns = filter_map own_function_key p.parts in
          let louts = map outside (function_imports_of Plain p (refs_of parts)) in
          let lmades = filter_map made_function_key parts in
          let lstubs = map stub (stub_names p (refs_of parts)) in
          let lowns = filter_map own_function_key parts in (
            (stub d.0, has_right louts (lmades ++ lstubs ++ lowns) (stub d.0) (second_of lmades lstubs lowns (stub d.0) (map_has stub (stub_names p (refs_of parts)) d.0 d.1)), d.2),
            (stub e.0, has_left (outs ++ mades ++ stubs) owns (stub e.0) (third_of outs mades stubs (stub e.0) (map_has stub (distinct bytes_eq (filter_map null_name (refs_of p.parts))) e.0 e.1)), e.2),
          )

      by_meaning : (m : Meaning) → ref.meaning ≡ m → SoundMeaning p ref m → Here (meant_function (name_of ref.entry) m) × There (meant_function (name_of ref.entry) m)
      by_meaning (here e) m s = by_here e m s
      by_meaning (imported k) m s = by_import k m s
      by_meaning null m s = by_null m s
      by_meaning nothing m s = absurd (not_nothing m)

      -- the function of a reference, by the numbers of both worlds
      pub function_pairs : FunctionGets (renaming p (layout Plain p (live p exports) exports)) (position (same_function (ref_function ref)) (all_functions p)) (function_number (layout Plain p (live p exports) exports).numbers (ref_function ref))
      unfolding layout
      function_pairs =
          let b = by_meaning ref.meaning refl said.meant in
          let n = number_pairs same_function functions_same (all_functions p) (functions Plain p (live p exports)) (ref_function ref) b.1.0 b.0.0 b.1.1 b.1.2 b.0.1 b.0.2 in
          subst (λ o. FunctionGets (renaming p (layout Plain p (live p exports) exports)) o (function_number (layout Plain p (live p exports) exports).numbers (ref_function ref))) (sym n.1) n.2

      -- the same of the function that it calls
      pub callee_pairs : FunctionGets (renaming p (layout Plain p (live p exports) exports)) (callee p ref) (function_number (layout Plain p (live p exports) exports).numbers (ref_function ref))
      callee_pairs =
          let same : callee p ref ≡ function_place p (ref_function ref) = cond-false (is_nothing ref.meaning) None (function_place p (ref_function ref)) (leads ref.meaning refl) in
          subst (λ o. FunctionGets (renaming p (layout Plain p (live p exports) exports)) o (function_number (layout Plain p (live p exports) exports).numbers (ref_function ref))) (sym same) function_pairs

    -- cells
    module _ (seven : ref.kind ≡ 7) where
      module _ (kind : is_kind GlobalVar ref.entry ≡ true) where
        abbrev CellHere : GlobalKey → Type 0
        CellHere k = (y : GlobalKey) × Has (globals Plain p (live p exports) exports) y × (same_global k y ≡ true)

        abbrev CellThere : GlobalKey → Type 0
        CellThere k = (y : GlobalKey) × Has (all_cells p) y × (same_global k y ≡ true)

        cell_own : (parts : List Part) (e : InputSymbol) → (e.input ≡ 0 → e.index ≡ e.place) → PartOf parts (chunk_at e.input 2 e.index)
            → Has (filter_map made_global_key parts) (global_of Plain e) ⊎ Has (filter_map own_global_key parts) (global_of Plain e)
        cell_own parts e made o =
            by_test (e.input == 0)
            (λ t. inl (pick_has made_global_key parts o.part (global_of Plain e) o.there
            (ap (λ (c : Chunk). given ((c.input == 0) && (c.kind == 2)) (linker_global c.index)) o.chunk
            ∙ ap (λ b. given (b && true) (linker_global e.index)) t
            ∙ ap Some (ap linker_global (made (eqb-true e.input 0 t)) ∙ sym (cond-true (e.input == 0) (linker_global e.place) (own_global e.input e.index) t)))))
            (λ t. inr (pick_has own_global_key parts o.part (global_of Plain e) o.there
            (ap (λ (c : Chunk). given (not (c.input == 0) && (c.kind == 2)) (own_global c.input c.index)) o.chunk
            ∙ ap (λ b. given (not b && true) (own_global e.input e.index)) t
            ∙ ap Some (sym (cond-false (e.input == 0) (linker_global e.place) (own_global e.input e.index) t)))))

        cell_itself : (k : GlobalKey) (ks : List GlobalKey) → Has ks k → (y : GlobalKey) × Has ks y × (same_global k y ≡ true)
        cell_itself k ks h = (k, h, globals_same.itself k)

        cell_here : (e : InputSymbol) → ref.meaning ≡ here e → SoundHere p ref e → CellHere (global_of Plain e) × CellThere (global_of Plain e)
        unfolding globals
        cell_here e m s =
            let parts = live p exports in
            let c : chunk_of e ≡ Some (chunk_at e.input 2 e.index) = ap (chunk_by e) (s.global seven kind) in
            let o = s.kept (chunk_at e.input 2 e.index) c in
            let lo = target e (chunk_at e.input 2 e.index) m c o in
            let louts = map outside_global (used_globals Plain p (refs_of parts)) in
            let lmades = filter_map made_global_key parts in
            let lowns = filter_map own_global_key parts in
            let gots = map got (got_entries Plain parts) in
            let outs = map outside_global (filter (λ (k : ImportKey). is_global_type k.type) (imports_in_order p)) in
            let mades = filter_map made_global_key p.parts in
            let owns = filter_map own_global_key p.parts in (
              cell_itself _ _ (has_right louts (lmades ++ lowns ++ gots ++ filter_map datum_key exports) (global_of Plain e)
                  (has_left (lmades ++ lowns ++ gots) (filter_map datum_key exports) (global_of Plain e)
                  (⊎_elim (first_of lmades lowns gots (global_of Plain e)) (second_of lmades lowns gots (global_of Plain e)) (cell_own parts e s.made lo)))),
              cell_itself _ _ (⊎_elim (second_of outs mades owns (global_of Plain e)) (third_of outs mades owns (global_of Plain e)) (cell_own p.parts e s.made o)),
            )

        cell_import : (k : ImportKey) → ref.meaning ≡ imported k → SoundImport p ref k → CellHere (outside_global k) × CellThere (outside_global k)
        unfolding globals
        cell_import k m s =
            let parts = live p exports in
            let test = λ (k : ImportKey). is_global_type k.type && has_import (used_imports (filter (imports_by Plain) (refs_of parts))) k in
            let type = λ (k : ImportKey). is_global_type k.type in
            let a = filter_has test (imports_in_order p) k s.listed (and_from (is_global_type k.type) (has_import (used_imports (filter (imports_by Plain) (refs_of parts))) k) (s.global seven kind) (used k m)) in
            let b = filter_has type (imports_in_order p) k s.listed (s.global seven kind) in
            let outs = map outside_global (filter type (imports_in_order p)) in
            let mades = filter_map made_global_key p.parts in
            let owns = filter_map own_global_key p.parts in (
              cell_itself _ _ (has_left (map outside_global (filter test (imports_in_order p))) (filter_map made_global_key parts ++ filter_map own_global_key parts ++ map got (got_entries Plain parts) ++ filter_map datum_key exports) (outside_global k) (map_has outside_global (filter test (imports_in_order p)) k a)),
              cell_itself _ _ (first_of outs mades owns (outside_global k) (map_has outside_global (filter type (imports_in_order p)) k b)),
            )

        cell_meaning : (m : Meaning) → ref.meaning ≡ m → SoundMeaning p ref m → CellHere (meant_global Plain ref m) × CellThere (meant_global Plain ref m)
        cell_meaning (here e) m s = cell_here e m s
        cell_meaning (imported k) m s = cell_import k m s
        cell_meaning null m s = absurd (s.global kind)
        cell_meaning nothing m s = absurd (not_nothing m)

        -- the cell of a reference
        pub cell_pairs : CellGets (renaming p (layout Plain p (live p exports) exports)) (position (same_global (ref_global Plain ref)) (all_cells p)) (global_number (layout Plain p (live p exports) exports).numbers (ref_global Plain ref))
        unfolding layout
        cell_pairs =
            let key = sym (cond-true (is_kind GlobalVar ref.entry) (meant_global Plain ref ref.meaning) (got (ref_got ref)) kind) in
            let b = cell_meaning ref.meaning refl said.meant in
            let n = number_pairs same_global globals_same (all_cells p) (globals Plain p (live p exports) exports) (meant_global Plain ref ref.meaning) b.1.0 b.0.0 b.1.1 b.1.2 b.0.1 b.0.2 in
            let r = renaming p (layout Plain p (live p exports) exports) in
            subst (λ g. CellGets r (position (same_global g) (all_cells p)) (unwrap_or (position (same_global g) (globals Plain p (live p exports) exports)) 0)) key
            (subst (λ o. CellGets r o (unwrap_or (position (same_global (meant_global Plain ref ref.meaning)) (globals Plain p (live p exports) exports)) 0)) (sym n.1) n.2)
