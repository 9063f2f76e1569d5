-- The cells of both worlds are alike at first.
use Rattle.std.proofs.Common.{◌≡◌, ℕ, List, [], ◌∷◌, ◌++◌, map, Option, Some, None, Bool, true, false, refl, sym, ap, ◌∙◌, subst, inl, inr, arith}
use Rattle.std.specs.Prelude.{◌==◌, ◌&&◌, slice_get, find, filter_map, position, option_map, option_and_then, cond, ◌<◌, ◌^◌}
use Rattle.std.specs.List.{cons_option}
use Rattle.std.proofs.lemmas.Option.{option_and_then_some, slice_get-map}
use Rattle.std.proofs.lemmas.List.{map-append}
use Rattle.std.proofs.lemmas.Bool.{and_parts, and_from, eqb-true, eq-eqb}
use Rattle.list_places.specs.Has.{Has, Apart}
use Rattle.list_places.proofs.Lists.{by_test, has_at, has_right, stands}
use Rattle.wasm_types.specs.declared.const_expr.ConstExpr.{ConstExpr}
use Rattle.wasm_types.specs.declared.const_expr.ConstExpr.TheVariants as exprs
use Rattle.wasm_module.specs.declared.parts.ModuleGlobal.{ModuleGlobal}
use Rattle.run_rules.specs.declared.value.Value.{Value}
use Rattle.run_rules.specs.declared.value.Value.TheVariants as values
use Rattle.run_rules.specs.declared.session.Session.{Session}
use Rattle.run_rules.specs.Modules.{first_value, first_values, expr_value, cells_of}
use Rattle.sim_laws.specs.Pairs.{CellsPair}
use Rattle.linking_section.specs.declared.symbol.SymbolKind.TheVariants.{Datum}
use Rattle.made_symbols.specs.declared.mode.Mode.TheVariants.{Shared}
use Rattle.name_rules.specs.Entries.{InputSymbol, ImportKey, SymbolType, of_function, of_global, untyped, is_kind}
use Rattle.reloc_apply.specs.Windows.{signed32}
use Rattle.link_rules.specs.Program.{Program, Part, Content, function, segment, global, linker_made, same_chunk}
use Rattle.link_rules.specs.Marks.{live}
use Rattle.link_rules.specs.Keys.{GlobalKey, outside_global, linker_global, own_global, got, exported_datum, same_global, globals, defined_globals, global_imports_in, is_global_type}
use Rattle.link_rules.specs.Values.{Layout, address_of}
use Rattle.link_rules.specs.Output.{layout, global_for, global_content, content_global}
use Rattle.link_worlds.specs.Worlds.{part_value, content_value, global_kind}
use Rattle.link_worlds.specs.Sound.{IsGlobalPart, IsConstant, same_part}
use Rattle.link_worlds.proofs.Keys.{import_equal}
use Rattle.link_worlds.proofs.Live.{live_part}
use Rattle.link_worlds.proofs.Functions.{picks_apart}
use Rattle.link_worlds.proofs.Start.{inner, unsigned_again}
use Rattle.output_types.specs.Types.{symbol_cell, is_global_at}
use Rattle.shared_module.proofs.Keys.{by_global, own_found}
use Rattle.shared_types.specs.Linked.{SharedLinkedBy}
use Rattle.shared_types.proofs.Spaces.{global_typed}
use Rattle.shared_worlds.specs.Names.{all_cells, constant_of, renaming}
use Rattle.shared_worlds.specs.Worlds.{objects_value}
use Rattle.shared_worlds.proofs.Cells.{IsCell, is_cell}
use Rattle.shared_worlds.proofs.Modules.{cell_import, inner_of}

find_global : (xs : List Part) (input index : ℕ) (part : Part) → Apart same_part xs → Has xs part → is_global_at input index part ≡ true → find (is_global_at input index) xs ≡ Some part
find_global [] input index part a h t = absurd h
find_global (x ∷ xs) input index part a (inl e) t = ap (λ b. cond b (Some x) (find (is_global_at input index) xs)) (ap (is_global_at input index) e ∙ t) ∙ ap Some e
find_global (x ∷ xs) input index part a (inr h) t =
    by_test (is_global_at input index x)
    (λ k. absurd (a.0 part h (both_there x part k t)))
    (λ k. ap (λ b. cond b (Some x) (find (is_global_at input index) xs)) k ∙ find_global xs input index part a.1 h t)
  where
    both_there : (a b : Part) → is_global_at input index a ≡ true → is_global_at input index b ≡ true → same_chunk a.chunk b.chunk ≡ true
    both_there a b k t =
        let p = and_parts ((a.chunk.kind == 2) && (a.chunk.input == input)) (a.chunk.index == index) k in
        let q = and_parts ((b.chunk.kind == 2) && (b.chunk.input == input)) (b.chunk.index == index) t in
        let p' = and_parts (a.chunk.kind == 2) (a.chunk.input == input) p.0 in
        let q' = and_parts (b.chunk.kind == 2) (b.chunk.input == input) q.0 in
        and_from ((a.chunk.input == b.chunk.input) && (a.chunk.kind == b.chunk.kind)) (a.chunk.index == b.chunk.index)
        (and_from (a.chunk.input == b.chunk.input) (a.chunk.kind == b.chunk.kind)
        (eq-eqb a.chunk.input b.chunk.input (eqb-true a.chunk.input input p'.1 ∙ sym (eqb-true b.chunk.input input q'.1)))
        (eq-eqb a.chunk.kind b.chunk.kind (eqb-true a.chunk.kind 2 p'.0 ∙ sym (eqb-true b.chunk.kind 2 q'.0))))
        (eq-eqb a.chunk.index b.chunk.index (eqb-true a.chunk.index index p.1 ∙ sym (eqb-true b.chunk.index index q.1)))

-- an object's global of the output stands in a live part
abbrev IfOwn : List Part → GlobalKey → Type 0
IfOwn parts (outside_global k) = Unit {0}
IfOwn parts (linker_global k) = Unit {0}
IfOwn parts (own_global i x) = (part : Part) × Has parts part × (is_global_at i x part ≡ true)
IfOwn parts (got k) = Unit {0}
IfOwn parts (exported_datum e) = Unit {0}

at_itself : (part : Part) → part.chunk.kind ≡ 2 → is_global_at part.chunk.input part.chunk.index part ≡ true
at_itself part k =
    let c = part.chunk in
    and_from ((c.kind == 2) && (c.input == c.input)) (c.index == c.index) (and_from (c.kind == 2) (c.input == c.input) (eq-eqb c.kind 2 k) (eq-eqb c.input c.input refl)) (eq-eqb c.index c.index refl)

own_among : (p : Program) (parts : List Part) (exports : List InputSymbol) (k : GlobalKey) → Has (globals Shared p parts exports) k → IfOwn parts k
own_among p parts exports = by_global p parts exports (IfOwn parts) (λ k m. tt) (λ x m a b. (x, m, at_itself x a)) (λ g m. tt) (λ e m t. tt)

module _ (s : Session) (p : Program) (exports : List InputSymbol) (lk : SharedLinkedBy p exports) where
  abbrev parts : List Part
  parts = live p exports

  abbrev lay : Layout
  lay = layout Shared p (live p exports) exports

  abbrev gs : List GlobalKey
  gs = globals Shared p (live p exports) exports

  apart : Apart same_part parts
  apart = picks_apart p exports lk.sound.apart

  one_value : (k d : GlobalKey) → IsCell k → same_global k d ≡ true → IfOwn parts d → objects_value s p.parts lay k ≡ objects_value s parts lay d
  one_value (outside_global a) (outside_global b) h e o = ap (λ k. objects_value s parts lay (outside_global k)) (import_equal a b e)
  one_value (own_global a i) (own_global b j) h e o =
      let r = and_parts (a == b) (i == j) e in
      ap (λ n. objects_value s p.parts lay (own_global n i)) (eqb-true a b r.0)
      ∙ ap (λ n. objects_value s p.parts lay (own_global b n)) (eqb-true i j r.1)
      ∙ ap part_value (find_global p.parts b j o.0 lk.sound.apart (live_part p exports o.0 o.1) o.2)
      ∙ sym (ap part_value (find_global parts b j o.0 apart o.1 o.2))
  one_value (got a) (got b) h e o = refl
  one_value (linker_global a) d h e o = absurd h
  one_value (exported_datum a) d h e o = absurd h
  one_value _ _ h e o = absurd (grind arith)

  held_value : (d : GlobalKey) (n : ℕ) → constant_of lay d ≡ Some n → objects_value s parts lay d ≡ Some (values.I32 n)
  held_value (outside_global k) n h = absurd (grind arith)
  held_value (linker_global k) n h = absurd (grind arith)
  held_value (own_global i k) n h = absurd (grind arith)
  held_value (got k) n h = absurd (grind arith)
  held_value (exported_datum e) n h = ap (λ o. as_value o) h
    where
      as_value : Option ℕ → Option Value
      as_value None = None
      as_value (Some n) = Some (values.I32 n)

  by_place : (d n : ℕ) → option_and_then (constant_of lay) (slice_get gs d) ≡ Some n → (o : Option GlobalKey) → slice_get gs d ≡ o
      → slice_get (map (objects_value s parts lay) gs) d ≡ Some (Some (values.I32 n))
  by_place d n h None e = absurd (let q = ap (option_and_then (constant_of lay)) (sym e) ∙ h in grind arith)
  by_place d n h (Some k) e =
      slice_get-map (objects_value s parts lay) gs d ∙ ap (option_map (objects_value s parts lay)) e
      ∙ ap Some (held_value k n (ap (option_and_then (constant_of lay)) (sym e) ∙ h))

  -- the cells of the program, and those of the output by their keys
  pub cells_pair : CellsPair (renaming p lay) (map (objects_value s p.parts lay) (all_cells p)) (map (objects_value s parts lay) gs)
  unfolding layout
  cells_pair = record {
    renamed = λ c d h. option_and_then_some (λ k. position (same_global k) gs) (slice_get (all_cells p) c) d h
        (λ k at place.
        let t = stands (same_global k) gs d place in
        slice_get-map (objects_value s p.parts lay) (all_cells p) c ∙ ap (option_map (objects_value s p.parts lay)) at
        ∙ ap Some (one_value k t.item (is_cell p k (has_at (all_cells p) c k at)) t.passes (own_among p parts exports t.item (has_at gs d t.item t.there)))
        ∙ sym (slice_get-map (objects_value s parts lay) gs d ∙ ap (option_map (objects_value s parts lay)) t.there));
    constant = λ d n h. by_place d n h (slice_get gs d) refl;
  }

  -- ---- the output's globals as cells

  number_value : (firsts : List Value) (n : ℕ) → n < 2 ^ 32 → expr_value firsts (exprs.I32 (signed32 n)) ≡ Some (values.I32 n)
  number_value firsts n h = ap (λ k. Some (values.I32 k)) (unsigned_again n h)

  constant_value : (firsts : List Value) (x : ConstExpr) → IsConstant x → expr_value firsts x ≡ expr_value [] x
  constant_value firsts (exprs.I32 n) h = refl
  constant_value firsts (exprs.I64 n) h = refl
  constant_value firsts (exprs.Get g) h = absurd h

  abbrev values_in : List Value → Option ModuleGlobal → List (Option Value) → List (Option Value)
  values_in firsts None vs = vs
  values_in firsts (Some g) vs = expr_value firsts g.value ∷ vs

  content_is : (firsts : List Value) (c : Content) → IsGlobalPart c → (vs : List (Option Value)) → values_in firsts (content_global c) vs ≡ content_value c ∷ vs
  content_is firsts (function t) h vs = absurd h
  content_is firsts (segment i) h vs = absurd h
  content_is firsts (global g) h vs = ap (λ v. v ∷ vs) (constant_value firsts g.value h)
  content_is firsts (linker_made m) h vs = absurd h

  module _ (firsts : List Value) (small : (e : InputSymbol) → Has exports e → is_kind Datum e ≡ true → address_of Shared lay e < 2 ^ 32) where
    abbrev IsValue : GlobalKey → Type 0
    IsValue k = inner k ≡ true → (vs : List (Option Value)) → values_in firsts (global_for Shared p parts exports lay k) vs ≡ objects_value s parts lay k ∷ vs

    of_part : (x : Part) → Has parts x → x.chunk.kind ≡ 2 → (x.chunk.input ≡ 0 → ⊥) → IsValue (own_global x.chunk.input x.chunk.index)
    of_part x m k z i vs =
        let f = own_found p parts exports lk.constants x m k z in
        ap (λ o. values_in firsts (global_content Shared p parts exports lay o) vs) f.0.is ∙ content_is firsts f.0.part.content f.1 vs ∙ ap (λ o. part_value o ∷ vs) (sym f.0.is)

    value_is : (k : GlobalKey) → Has gs k → IsValue k
    value_is =
        by_global p parts exports IsValue (λ k m i. absurd (grind arith)) of_part
        (λ g m i vs. ap (λ v. v ∷ vs) (number_value firsts 0 (omega arith)))
        (λ e m t i vs. ap (λ v. v ∷ vs) (number_value firsts (address_of Shared lay e) (small e m t)))

    mapped_in : (o : Option ModuleGlobal) (rest : List ModuleGlobal) → map (λ (g : ModuleGlobal). expr_value firsts g.value) (cons_option o rest) ≡ values_in firsts o (map (λ (g : ModuleGlobal). expr_value firsts g.value) rest)
    mapped_in None rest = refl
    mapped_in (Some g) rest = refl

    defined_are : (ks : List GlobalKey) → ((k : GlobalKey) → Has ks k → (inner k ≡ true) × Has gs k)
        → map (λ (g : ModuleGlobal). expr_value firsts g.value) (filter_map (global_for Shared p parts exports lay) ks) ≡ map (objects_value s parts lay) ks
    defined_are [] f = refl
    defined_are (k ∷ ks) f =
        let q = f k (inl refl) in
        mapped_in (global_for Shared p parts exports lay k) (filter_map (global_for Shared p parts exports lay) ks)
        ∙ value_is k q.1 q.0 (map (λ (g : ModuleGlobal). expr_value firsts g.value) (filter_map (global_for Shared p parts exports lay) ks))
        ∙ ap (λ vs. objects_value s parts lay k ∷ vs) (defined_are ks (λ j h. f j (inr h)))

    outer_none : (ks : List ImportKey) (ds : List GlobalKey) → filter_map (global_for Shared p parts exports lay) (map outside_global ks ++ ds) ≡ filter_map (global_for Shared p parts exports lay) ds
    outer_none [] ds = refl
    outer_none (k ∷ ks) ds = outer_none ks ds

    imports_first : (ks : List ImportKey) → ((k : ImportKey) → Has ks k → is_global_type k.type ≡ true)
        → map Some (first_values s (map cell_import ks)) ≡ map (objects_value s parts lay) (map outside_global ks)
    imports_first [] t = refl
    imports_first (k ∷ ks) t =
        ap (λ v. v ∷ map Some (first_values s (map cell_import ks))) (one k.type k.module_name k.field)
        ∙ ap (λ vs. objects_value s parts lay (outside_global k) ∷ vs) (imports_first ks (λ j h. t j (inr h)))
      where
        one : (t : SymbolType) (place field : List ℕ) → Some (first_value s place field (symbol_cell t).kind) ≡ Some (first_value s place field (global_kind t))
        one (of_function t) place field = refl
        one (of_global t) place field = refl
        one untyped place field = refl

  abbrev js : List ImportKey
  js = global_imports_in Shared p (live p exports)

  pub cells_are : ((e : InputSymbol) → Has exports e → is_kind Datum e ≡ true → address_of Shared lay e < 2 ^ 32)
      → cells_of (first_values s (map cell_import js)) (filter_map (global_for Shared p parts exports lay) lay.numbers.globals) ≡ map (objects_value s parts lay) gs
  unfolding layout globals
  cells_are small =
      let firsts = first_values s (map cell_import js) in
      let es = defined_globals Shared parts exports in
      let value = objects_value s parts lay in
      let valued : ModuleGlobal → Option Value = λ g. expr_value firsts g.value in
      ap (λ xs. xs ++ map valued (filter_map (global_for Shared p parts exports lay) (map outside_global js ++ es))) (imports_first firsts small js (global_typed p exports lk))
      ∙ ap (λ xs. map value (map outside_global js) ++ map valued xs) (outer_none firsts small js es)
      ∙ ap (λ xs. map value (map outside_global js) ++ xs) (defined_are firsts small es (λ k h. (inner_of p exports lk k h, has_right (map outside_global js) es k h)))
      ∙ sym (map-append value (map outside_global js) es)
