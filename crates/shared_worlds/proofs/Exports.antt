-- Exports of both worlds pair: each name leads to what its entry names.
use Rattle.std.proofs.Common.{◌≡◌, ℕ, List, [], ◌∷◌, ◌++◌, map, Option, Some, None, Bool, true, false, refl, sym, ap, ◌∙◌, subst, inl, inr, arith}
use Rattle.std.specs.Prelude.{◌==◌, ◌&&◌, slice_get, filter_map, option_and_then, unwrap_or}
use Rattle.std.proofs.lemmas.Bool.{cond-true, cond-false}
use Rattle.list_places.specs.Has.{Has}
use Rattle.list_places.proofs.Lists.{by_test, has_at, has_left, placed, stands, pick_has}
use Rattle.run_rules.specs.declared.world.Target.{Target}
use Rattle.run_rules.specs.declared.world.Target.TheVariants.{ToFunction, ToCell, ToNumber, Elsewhere}
use Rattle.run_rules.specs.Modules.{target_of, export_of as module_export}
use Rattle.sim_laws.specs.Pairs.{Renaming, Each, ExportPairs, TargetPairs}
use Rattle.linking_section.specs.declared.symbol.SymbolKind.{SymbolKind}
use Rattle.linking_section.specs.declared.symbol.SymbolKind.TheVariants.{Function, Datum, GlobalVar, Section, Table}
use Rattle.linking_section.specs.Flags.{kind_code}
use Rattle.made_symbols.specs.declared.mode.Mode.TheVariants.{Shared}
use Rattle.name_rules.specs.Entries.{InputSymbol, is_kind}
use Rattle.mark_bits.specs.declared.chunk.Chunk.{Chunk}
use Rattle.live_mark.specs.Live.{ReachedLaw}
use Rattle.link_rules.specs.Program.{Program, Part, chunk_of, chunk_by, chunk_at}
use Rattle.link_rules.specs.Marks.{live, export_name}
use Rattle.link_rules.specs.Keys.{GlobalKey, outside_global, linker_global, own_global, got, exported_datum, same_function, same_global, functions, globals, global_of, linker_key, function_of, function_number, global_number}
use Rattle.link_rules.specs.Values.{Layout, address_of}
use Rattle.link_rules.specs.Output.{layout, export_of}
use Rattle.link_worlds.specs.Names.{function_place, FunctionGets, CellGets}
use Rattle.link_worlds.specs.Sound.{PartOf}
use Rattle.link_worlds.specs.Worlds.{target_by}
use Rattle.link_worlds.proofs.Keys.{functions_same, globals_same}
use Rattle.link_worlds.proofs.Live.{live_root}
use Rattle.shared_module.proofs.Keys.{by_global}
use Rattle.shared_types.specs.Linked.{SharedLinkedBy}
use Rattle.shared_worlds.specs.Names.{constant_of, renaming, cell_place}
use Rattle.shared_worlds.specs.Worlds.{objects_target, objects_export}
use Rattle.shared_worlds.proofs.Lists.{itself}
use Rattle.shared_worlds.proofs.KeyPlaces.{function_here, global_here, datum_here}
use Rattle.shared_worlds.proofs.Cells.{IsCell}
use Rattle.shared_worlds.proofs.Gets.{function_gets, cell_gets}

module _ (law : ReachedLaw) (p : Program) (exports : List InputSymbol) (lk : SharedLinkedBy p exports) (cell : ℕ → ℕ) (straight : (n : ℕ) → cell n ≡ n) where
  abbrev parts : List Part
  parts = live p exports

  abbrev lay : Layout
  lay = layout Shared p (live p exports) exports

  abbrev ren : Renaming
  ren = renaming p (layout Shared p (live p exports) exports)

  abbrev IfDatum : GlobalKey → Type 0
  IfDatum (outside_global k) = Unit {0}
  IfDatum (linker_global k) = Unit {0}
  IfDatum (own_global i k) = Unit {0}
  IfDatum (got k) = Unit {0}
  IfDatum (exported_datum e) = Has exports e

  datum_among : (k : GlobalKey) → Has (globals Shared p parts exports) k → IfDatum k
  datum_among = by_global p parts exports IfDatum (λ k m. tt) (λ x m a b. tt) (λ g m. tt) (λ e m t. m)

  to_function : (o : Option ℕ) (g : ℕ) → FunctionGets ren o g → TargetPairs ren (target_by ToFunction o) (ToFunction g)
  to_function None g h = absurd h
  to_function (Some f) g h = h

  to_cell : (o : Option ℕ) (d : ℕ) → CellGets ren o d → TargetPairs ren (target_by ToCell o) (ToCell d)
  to_cell None d h = absurd h
  to_cell (Some c) d h = h

  module _ (e : InputSymbol) (h : Has exports e) where
    rooted : (c : Chunk) → chunk_of e ≡ Some c → PartOf (live p exports) c
    rooted c q =
        let first = pick_has chunk_of exports e c h q in
        live_root law p exports c (has_left _ _ c (has_left _ _ c (has_left (filter_map chunk_of exports) _ c first))) ((lk.exported.each e h).kept c q)

    function_target : e.symbol.kind ≡ Function → TargetPairs ren (objects_target p lay e Function) (target_of cell 0 (function_number lay.numbers (function_of e)))
    function_target k =
        let c = chunk_at e.input 0 e.index in
        let there = function_here law p exports lk e (lk.exported.each e h).made (rooted c (ap (chunk_by e) k)) in
        to_function (function_place p (function_of e)) (function_number lay.numbers (function_of e))
        (function_gets law p exports lk (function_of e) (itself same_function functions_same (functions Shared p parts) (function_of e) there))

    same_datum : (d : GlobalKey) → IfDatum d → same_global (exported_datum e) d ≡ true → constant_of lay d ≡ Some (address_of Shared lay e)
    same_datum (exported_datum f) g s = ap (λ x. Some (address_of Shared lay x)) (sym (lk.exported.one e f h g s))
    same_datum (outside_global k) g s = absurd (grind arith)
    same_datum (linker_global k) g s = absurd (grind arith)
    same_datum (own_global i k) g s = absurd (grind arith)
    same_datum (got k) g s = absurd (grind arith)

    datum_target : e.symbol.kind ≡ Datum → TargetPairs ren (ToNumber (address_of Shared lay e)) (ToCell (global_number lay.numbers (exported_datum e)))
    unfolding layout
    datum_target k =
        let gs = globals Shared p parts exports in
        let key = exported_datum e in
        let there = datum_here law p exports lk e h (ap (λ s. kind_code s == 1) k) in
        let n = placed (same_global key) gs key there (globals_same.itself key) in
        let s = stands (same_global key) gs n.0 n.1 in
        ap (λ o. option_and_then (constant_of lay) (slice_get gs (unwrap_or o 0))) n.1
        ∙ ap (option_and_then (constant_of lay)) s.there
        ∙ same_datum s.item (datum_among s.item (has_at gs n.0 s.item s.there)) s.passes

    of_entry : IsCell (global_of Shared e)
    of_entry = by_test (e.input == 0)
        (λ t. subst IsCell (sym (cond-true (e.input == 0) (linker_key Shared e) (own_global e.input e.index) t)) tt)
        (λ t. subst IsCell (sym (cond-false (e.input == 0) (linker_key Shared e) (own_global e.input e.index) t)) tt)

    global_target : e.symbol.kind ≡ GlobalVar → TargetPairs ren (objects_target p lay e GlobalVar) (ToCell (global_number lay.numbers (global_of Shared e)))
    global_target k =
        let there = global_here law p exports lk e (ap (λ s. kind_code s == 2) k) (λ z. lk.entries.exported e h) (rooted (chunk_at e.input 2 e.index) (ap (chunk_by e) k)) in
        to_cell (cell_place p (global_of Shared e)) (global_number lay.numbers (global_of Shared e))
        (cell_gets law p exports lk (global_of Shared e) of_entry (itself same_global globals_same (globals Shared p parts exports) (global_of Shared e) there))

    -- a cell of the module is the global itself
    same_cell : (t : Target) (n : ℕ) → TargetPairs ren t (ToCell n) → TargetPairs ren t (target_of cell 3 n)
    same_cell t n g = subst (λ d. TargetPairs ren t (ToCell d)) (sym (straight n)) g

    by_kind : (k : SymbolKind) → e.symbol.kind ≡ k → ExportPairs ren (record { name = export_name p e; target = objects_target p lay e k }) (module_export cell (export_of Shared p parts exports lay e k))
    by_kind Function q = record { name = refl; target = function_target q }
    by_kind Datum q = record { name = refl; target = same_cell (objects_target p lay e Datum) (global_number lay.numbers (exported_datum e)) (datum_target q) }
    by_kind GlobalVar q = record { name = refl; target = same_cell (objects_target p lay e GlobalVar) (global_number lay.numbers (global_of Shared e)) (global_target q) }
    by_kind Section q = record { name = refl; target = tt }
    by_kind Table q = record { name = refl; target = tt }

  each_pairs : (es : List InputSymbol) → ((e : InputSymbol) → Has es e → Has exports e) → Each (ExportPairs ren) (map (objects_export p lay) es) (map (module_export cell) (map (λ e. export_of Shared p parts exports lay e e.symbol.kind) es))
  each_pairs [] f = tt
  each_pairs (e ∷ es) f = (by_kind e (f e (inl refl)) e.symbol.kind refl, each_pairs es (λ d h. f d (inr h)))

  pub exports_pair : Each (ExportPairs ren) (map (objects_export p lay) exports) (map (module_export cell) (map (λ e. export_of Shared p parts exports lay e e.symbol.kind) exports))
  exports_pair = each_pairs exports (λ e h. h)
