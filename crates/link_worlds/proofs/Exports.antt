-- Exports of both worlds pair: each name leads to what its entry names.
use Rattle.std.proofs.Common.{◌≡◌, ℕ, List, [], ◌∷◌, ◌++◌, map, Some, Bool, true, false, refl, sym, ap, ◌∙◌, subst, inl, inr, ⊎_elim, arith}
use Rattle.std.specs.Prelude.{◌⊎◌, ◌==◌, ◌&&◌, not, slice_get, filter, filter_map, option_and_then, unwrap_or, cond}
use Rattle.std.proofs.lemmas.Bool.{eqb-true, cond-true, cond-false}
use Rattle.list_places.specs.Has.{Has}
use Rattle.list_places.proofs.Lists.{by_test, has_at, has_left, has_right, has_either, first_of, second_of, third_of, placed, stands, pick_has, has_pick, has_map}
use Rattle.wl_base.specs.Choice.{given}
use Rattle.run_rules.specs.declared.world.Target.TheVariants.{ToFunction, ToCell, ToNumber, Elsewhere}
use Rattle.run_rules.specs.Modules.{target_of, export_of as module_export}
use Rattle.sim_laws.specs.Pairs.{Renaming, Each, ExportPairs, TargetPairs}
use Rattle.linking_section.specs.declared.symbol.SymbolKind.{SymbolKind}
use Rattle.linking_section.specs.declared.symbol.SymbolKind.TheVariants.{Function, Datum, GlobalVar, Section, Table}
use Rattle.linking_section.specs.Flags.{kind_code}
use Rattle.made_symbols.specs.declared.mode.Mode.TheVariants.{Plain}
use Rattle.name_rules.specs.Entries.{InputSymbol, ImportKey, is_kind}
use Rattle.mark_bits.specs.declared.chunk.Chunk.{Chunk}
use Rattle.live_mark.specs.Live.{ReachedLaw}
use Rattle.link_rules.specs.Program.{Program, Part, chunk_of, chunk_by, chunk_at}
use Rattle.link_rules.specs.Marks.{live, refs_of, export_name, memory_name}
use Rattle.link_rules.specs.Keys.{GlobalKey, outside_global, linker_global, own_global, got, exported_datum, same_global, globals, used_globals, made_global_key, own_global_key, got_entries, datum_key, global_of, function_of, imports_in_order, is_global_type, function_number, global_number}
use Rattle.link_rules.specs.Values.{Layout, address_of}
use Rattle.link_rules.specs.Output.{layout, export_of, memory_export}
use Rattle.link_worlds.specs.Names.{all_cells, constant_of, renaming}
use Rattle.link_worlds.specs.Sound.{Sound, SoundExports, PartOf}
use Rattle.link_worlds.specs.Worlds.{plan_target, plan_export, plan_exports, target_by}
use Rattle.link_worlds.proofs.Keys.{globals_same}
use Rattle.link_worlds.proofs.Live.{live_root}
use Rattle.link_worlds.proofs.Refs.{own_here, number_pairs}
use Rattle.link_worlds.proofs.Tables.{key_number}

-- the cell of a global that stands among parts
cell_own : (parts : List Part) (e : InputSymbol) → (e.input ≡ 0 → e.index ≡ e.place) → PartOf parts (chunk_at e.input 2 e.index)
    → Has (filter_map made_global_key parts) (global_of Plain e) ⊎ Has (filter_map own_global_key parts) (global_of Plain e)
cell_own parts e made o =
    by_test (e.input == 0)
    (λ t. inl (pick_has made_global_key parts o.part (global_of Plain e) o.there
    (ap (λ (c : Chunk). given ((c.input == 0) && (c.kind == 2)) (linker_global c.index)) o.chunk
    ∙ ap (λ b. given (b && true) (linker_global e.index)) t
    ∙ ap Some (ap linker_global (made (eqb-true e.input 0 t)) ∙ sym (cond-true (e.input == 0) (linker_global e.place) (own_global e.input e.index) t)))))
    (λ t. inr (pick_has own_global_key parts o.part (global_of Plain e) o.there
    (ap (λ (c : Chunk). given (not (c.input == 0) && (c.kind == 2)) (own_global c.input c.index)) o.chunk
    ∙ ap (λ b. given (not b && true) (own_global e.input e.index)) t
    ∙ ap Some (sym (cond-false (e.input == 0) (linker_global e.place) (own_global e.input e.index) t)))))

abbrev IfDatum : (InputSymbol → Type 0) → GlobalKey → Type 0
IfDatum P (outside_global k) = Unit {0}
IfDatum P (linker_global k) = Unit {0}
IfDatum P (own_global i k) = Unit {0}
IfDatum P (got k) = Unit {0}
IfDatum P (exported_datum e) = P e

given_if : (P : InputSymbol → Type 0) (t : Bool) (x k : GlobalKey) → given t x ≡ Some k → IfDatum P x → IfDatum P k
given_if P true x k h p = subst (IfDatum P) (grind arith) p
given_if P false x k h p = absurd (grind arith)

module _ (law : ReachedLaw) (p : Program) (exports : List InputSymbol) (sound : Sound p) (named : SoundExports p exports) (cell : ℕ → ℕ) (straight : (n : ℕ) → cell n ≡ n) where
  abbrev parts : List Part
  parts = live p exports

  abbrev lay : Layout
  lay = layout Plain p (live p exports) exports

  abbrev ren : Renaming
  ren = renaming p lay

  datum_among : (k : GlobalKey) → Has (globals Plain p parts exports) k → IfDatum (Has exports) k
  unfolding globals
  datum_among k h =
      let P = Has exports in
      let outs = map outside_global (used_globals Plain p (refs_of parts)) in
      let mades = filter_map made_global_key parts in
      let owns = filter_map own_global_key parts in
      let gots = map got (got_entries Plain parts) in
      let dates = filter_map datum_key exports in
      ⊎_elim
      (λ a. let r = has_map outside_global (used_globals Plain p (refs_of parts)) k a in subst (IfDatum P) r.2 tt)
      (λ g. ⊎_elim
      (λ g. ⊎_elim
      (λ g. ⊎_elim
      (λ a. let r = has_pick made_global_key parts k a in given_if P ((r.0.chunk.input == 0) && (r.0.chunk.kind == 2)) (linker_global r.0.chunk.index) k r.2 tt)
      (λ a. let r = has_pick own_global_key parts k a in given_if P (not (r.0.chunk.input == 0) && (r.0.chunk.kind == 2)) (own_global r.0.chunk.input r.0.chunk.index) k r.2 tt)
      (has_either mades owns k g))
      (λ a. let r = has_map got (got_entries Plain parts) k a in subst (IfDatum P) r.2 tt)
      (has_either (mades ++ owns) gots k g))
      (λ a. let r = has_pick datum_key exports k a in given_if P (is_kind Datum r.0) (exported_datum r.0) k r.2 r.1)
      (has_either (mades ++ owns ++ gots) dates k g))
      (has_either outs (mades ++ owns ++ gots ++ dates) k h)

  module _ (e : InputSymbol) (h : Has exports e) where
    rooted : (c : Chunk) → chunk_of e ≡ Some c → PartOf (live p exports) c
    rooted c q =
        let first = pick_has chunk_of exports e c h q in
        live_root law p exports c (has_left _ _ c (has_left _ _ c (has_left (filter_map chunk_of exports) _ c first))) ((named.each e h).kept c q)

    function_target : e.symbol.kind ≡ Function → TargetPairs ren (plan_target p lay e Function) (target_of cell 0 (function_number lay.numbers (function_of e)))
    unfolding layout
    function_target k =
        let c = chunk_at e.input 0 e.index in
        let here = own_here law p exports sound e (named.each e h).made (rooted c (ap (chunk_by e) k)) in
        let n = key_number p exports sound (function_of e) here in
        subst (λ o. TargetPairs ren (target_by ToFunction o) (target_of cell 0 (function_number lay.numbers (function_of e)))) (sym n.1) n.2

    same_datum : (d : GlobalKey) → IfDatum (Has exports) d → same_global (exported_datum e) d ≡ true → constant_of lay d ≡ Some (address_of Plain lay e)
    same_datum (exported_datum f) g s = ap (λ x. Some (address_of Plain lay x)) (sym (named.one e f h g s))
    same_datum (outside_global k) g s = absurd (grind arith)
    same_datum (linker_global k) g s = absurd (grind arith)
    same_datum (own_global i k) g s = absurd (grind arith)
    same_datum (got k) g s = absurd (grind arith)

    datum_target : e.symbol.kind ≡ Datum → TargetPairs ren (ToNumber (address_of Plain lay e)) (ToCell (global_number lay.numbers (exported_datum e)))
    unfolding layout globals
    datum_target k =
        let gs = globals Plain p parts exports in
        let key = exported_datum e in
        let outs = map outside_global (used_globals Plain p (refs_of parts)) in
        let firsts = filter_map made_global_key parts ++ filter_map own_global_key parts ++ map got (got_entries Plain parts) in
        let kind : is_kind Datum e ≡ true = ap (λ s. kind_code s == 1) k in
        let there : Has gs key = has_right outs (firsts ++ filter_map datum_key exports) key (has_right firsts (filter_map datum_key exports) key (pick_has datum_key exports e key h (ap (λ b. given b key) kind))) in
        let n = placed (same_global key) gs key there (globals_same.itself key) in
        let s = stands (same_global key) gs n.0 n.1 in
        ap (λ o. option_and_then (constant_of lay) (slice_get gs (unwrap_or o 0))) n.1
        ∙ ap (option_and_then (constant_of lay)) s.there
        ∙ same_datum s.item (datum_among s.item (has_at gs n.0 s.item s.there)) s.passes

    global_target : e.symbol.kind ≡ GlobalVar → TargetPairs ren (plan_target p lay e GlobalVar) (ToCell (global_number lay.numbers (global_of Plain e)))
    unfolding layout globals
    global_target k =
        let gs = globals Plain p parts exports in
        let c = chunk_at e.input 2 e.index in
        let made = (named.each e h).made in
        let q = ap (chunk_by e) k in
        let louts = map outside_global (used_globals Plain p (refs_of parts)) in
        let lmades = filter_map made_global_key parts in
        let lowns = filter_map own_global_key parts in
        let gots = map got (got_entries Plain parts) in
        let outs = map outside_global (filter (λ (k : ImportKey). is_global_type k.type) (imports_in_order p)) in
        let mades = filter_map made_global_key p.parts in
        let owns = filter_map own_global_key p.parts in
        let here : Has gs (global_of Plain e) = has_right louts (lmades ++ lowns ++ gots ++ filter_map datum_key exports) (global_of Plain e)
        (has_left (lmades ++ lowns ++ gots) (filter_map datum_key exports) (global_of Plain e)
        (⊎_elim (first_of lmades lowns gots (global_of Plain e)) (second_of lmades lowns gots (global_of Plain e)) (cell_own parts e made (rooted c q)))) in
        let there : Has (all_cells p) (global_of Plain e) = ⊎_elim (second_of outs mades owns (global_of Plain e)) (third_of outs mades owns (global_of Plain e)) (cell_own p.parts e made ((named.each e h).kept c q)) in
        let s = globals_same.itself (global_of Plain e) in
        let n = number_pairs same_global globals_same (all_cells p) gs (global_of Plain e) (global_of Plain e) (global_of Plain e) there s here s in
        subst (λ o. TargetPairs ren (target_by ToCell o) (ToCell (global_number lay.numbers (global_of Plain e)))) (sym n.1) n.2

    -- a cell of the module is the global itself
    same_cell : (n : ℕ) → TargetPairs ren (plan_target p lay e Datum) (ToCell n) → TargetPairs ren (plan_target p lay e Datum) (target_of cell 3 n)
    same_cell n h = subst (λ d. TargetPairs ren (plan_target p lay e Datum) (ToCell d)) (sym (straight n)) h

    same_global_cell : (n : ℕ) → TargetPairs ren (plan_target p lay e GlobalVar) (ToCell n) → TargetPairs ren (plan_target p lay e GlobalVar) (target_of cell 3 n)
    same_global_cell n h = subst (λ d. TargetPairs ren (plan_target p lay e GlobalVar) (ToCell d)) (sym (straight n)) h

    by_kind : (k : SymbolKind) → e.symbol.kind ≡ k → ExportPairs ren (record { name = export_name p e; target = plan_target p lay e k }) (module_export cell (export_of Plain p parts exports lay e k))
    by_kind Function q = record { name = refl; target = function_target q }
    by_kind Datum q = record { name = refl; target = same_cell (global_number lay.numbers (exported_datum e)) (datum_target q) }
    by_kind GlobalVar q = record { name = refl; target = same_global_cell (global_number lay.numbers (global_of Plain e)) (global_target q) }
    by_kind Section q = record { name = refl; target = tt }
    by_kind Table q = record { name = refl; target = tt }

  each_pairs : (es : List InputSymbol) → ((e : InputSymbol) → Has es e → Has exports e) → Each (ExportPairs ren) (map (plan_export p lay) es) (map (module_export cell) (map (λ e. export_of Plain p parts exports lay e e.symbol.kind) es))
  each_pairs [] f = tt
  each_pairs (e ∷ es) f = (by_kind e (f e (inl refl)) e.symbol.kind refl, each_pairs es (λ d h. f d (inr h)))

  pub exports_pair : Each (ExportPairs ren) (plan_exports p lay exports) (map (module_export cell) (memory_export Plain p parts exports lay ++ map (λ e. export_of Plain p parts exports lay e e.symbol.kind) exports))
  exports_pair = by_memory p.plan.import_memory
    where
      by_memory : (b : Bool) → Each (ExportPairs ren) (cond b [] (record { name = memory_name; target = Elsewhere } ∷ []) ++ map (plan_export p lay) exports)
          (map (module_export cell) (cond b [] (record { name = memory_name; kind = 2; index = 0 } ∷ []) ++ map (λ e. export_of Plain p parts exports lay e e.symbol.kind) exports))
      by_memory true = each_pairs exports (λ e h. h)
      by_memory false = (record { name = refl; target = tt }, each_pairs exports (λ e h. h))
