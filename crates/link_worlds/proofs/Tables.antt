-- Each function of the output is one of the program before it is linked, and the tables pair.
use Rattle.std.proofs.Common.{◌≡◌, ℕ, ◌+◌, List, [], ◌∷◌, ◌++◌, length, map, Option, Some, None, Bool, true, refl, sym, ap, ◌∙◌, subst, inl, inr, ⊎_elim, arith, take, drop, replicate}
use Rattle.std.specs.Prelude.{◌==◌, ◌&&◌, ◌-◌, slice_get, filter, filter_map, position, option_and_then, unwrap_or, bytes_eq, cond, pos}
use Rattle.std.specs.List.{list_any}
use Rattle.std.proofs.lemmas.Bool.{and_from, and_parts, eqb-true, ne_eqb}
use Rattle.std.proofs.lemmas.List.{append-nil, take-replicate, drop-replicate, length-map}
use Rattle.list_places.specs.Has.{Has}
use Rattle.list_places.proofs.Lists.{has_left, has_right, has_either, first_of, second_of, third_of, pick_has, has_pick, has_map, map_has, has_filter, filter_has, has_flat, has_any, distinct_only}
use Rattle.wl_base.specs.Choice.{given, distinct}
use Rattle.wasm_types.specs.declared.const_expr.ConstExpr.TheVariants as constants
use Rattle.run_rules.specs.declared.value.Value.{Value}
use Rattle.run_rules.specs.Modules.{first, imported_tables, with_elements, table_of}
use Rattle.sim_laws.specs.Pairs.{Calls, Both, Each}
use Rattle.linking_section.specs.declared.symbol.SymbolKind.TheVariants.{Function}
use Rattle.made_symbols.specs.declared.mode.Mode.TheVariants.{Plain}
use Rattle.name_rules.specs.Entries.{InputSymbol, ImportKey, is_kind, name_of}
use Rattle.name_rules.specs.Meanings.{Meaning, here, imported, null, nothing}
use Rattle.link_rules.specs.Program.{Program, Part, Ref, refs}
use Rattle.link_rules.specs.Marks.{live, refs_of}
use Rattle.link_rules.specs.Keys.{FunctionKey, outside, stub, same_function, functions, function_imports_of, made_function_key, own_function_key, stub_names, calls_stub, imports_in_order, is_function_type, has_import, used_imports, imports_by, is_null, function_number, slots, is_taken, takes_slot, ref_function, callable}
use Rattle.link_rules.specs.Values.{Layout}
use Rattle.link_rules.specs.Output.{layout, imports, table, elements}
use Rattle.link_worlds.specs.Names.{all_functions, null_name, renaming, function_place}
use Rattle.link_worlds.specs.Worlds.{plan_table}
use Rattle.link_worlds.specs.Sound.{Sound, SoundMeaning}
use Rattle.link_worlds.proofs.Keys.{functions_same, bytes_equal}
use Rattle.link_worlds.proofs.Live.{live_part, ref_listed}
use Rattle.link_worlds.proofs.Refs.{distinct_has, number_pairs, bytes_same}
use Rattle.link_worlds.proofs.Imports.{tables_none}

module _ (p : Program) (exports : List InputSymbol) (sound : Sound p) where
  abbrev parts : List Part
  parts = live p exports

  abbrev There : FunctionKey → Type 0
  There k = (y : FunctionKey) × Has (all_functions p) y × (same_function k y ≡ true)

  -- a list of keys that parts give
  key_of_part : (f : Part → Option FunctionKey) (k : FunctionKey) → Has (filter_map f parts) k → Has (filter_map f p.parts) k
  key_of_part f k h = let r = has_pick f parts k h in pick_has f p.parts r.0 k (live_part p exports r.0 r.1) r.2

  in_all_refs : (ref : Ref) → Has (refs_of parts) ref → (part : Part) × Has p.parts part × Has (refs part) ref
  in_all_refs ref h = let r = has_flat refs parts ref h in (r.0, live_part p exports r.0 r.1, r.2)

  null_function : (part : Part) (ref : Ref) (m : Meaning) → ref.meaning ≡ m → SoundMeaning p ref m → is_null m ≡ true → ref.kind ≡ 0 → is_kind Function ref.entry ≡ true
  null_function part ref (here e) q s n z = absurd (grind arith)
  null_function part ref (imported k) q s n z = absurd (grind arith)
  null_function part ref null q s n z = s.function z
  null_function part ref nothing q s n z = absurd (grind arith)

  stub_there : (name : List ℕ) → Has (stub_names p (refs_of parts)) name → There (stub name)
  stub_there name h =
      let test = λ (e : InputSymbol). list_any (calls_stub (name_of e)) (refs_of parts) in
      let a : Has (map name_of (filter test (callable p))) name = ⊎_elim (λ n. absurd n) (λ m. m) (distinct_only bytes_eq [] (map name_of (filter test (callable p))) name h) in
      let r = has_map name_of (filter test (callable p)) name a in
      let f = has_filter test (callable p) r.0 r.1 in
      let c = has_any (calls_stub (name_of r.0)) (refs_of parts) f.1 in
      let ref = c.0 in
      let t = and_parts ((ref.kind == 0) && is_null ref.meaning) (bytes_eq (name_of ref.entry) (name_of r.0)) c.2 in
      let u = and_parts (ref.kind == 0) (is_null ref.meaning) t.0 in
      let w = in_all_refs ref c.1 in
      let s = sound.refs w.0 ref w.1 w.2 in
      let fk = null_function w.0 ref ref.meaning refl s.meant u.1 (eqb-true ref.kind 0 u.0) in
      let g = and_from (is_null ref.meaning) (is_kind Function ref.entry) u.1 fk in
      let names = filter_map null_name (refs_of p.parts) in
      let b = pick_has null_name (refs_of p.parts) ref (name_of ref.entry) (ref_listed p.parts w.0 ref w.1 w.2) (ap (λ t. given t (name_of ref.entry)) g) in
      let e = distinct_has bytes_eq bytes_same names (name_of ref.entry) b in
      let same : name_of ref.entry ≡ name = bytes_equal (name_of ref.entry) (name_of r.0) t.1 ∙ r.2 in
      let outs = map outside (filter (λ (k : ImportKey). is_function_type k.type) (imports_in_order p)) in
      let mades = filter_map made_function_key p.parts in
      let stubs = map stub (distinct bytes_eq names) in
      let owns = filter_map own_function_key p.parts in
      (stub e.0, has_left (outs ++ mades ++ stubs) owns (stub e.0) (third_of outs mades stubs (stub e.0) (map_has stub (distinct bytes_eq names) e.0 e.1)), ap (λ n. bytes_eq n e.0) (sym same) ∙ e.2)

  pub included : (k : FunctionKey) → Has (functions Plain p parts) k → There k
  unfolding functions
  included k h =
      let test = λ (k : ImportKey). is_function_type k.type && has_import (used_imports (filter (imports_by Plain) (refs_of parts))) k in
      let type = λ (k : ImportKey). is_function_type k.type in
      let louts = map outside (function_imports_of Plain p (refs_of parts)) in
      let lmades = filter_map made_function_key parts in
      let lstubs = map stub (stub_names p (refs_of parts)) in
      let lowns = filter_map own_function_key parts in
      let outs = map outside (filter type (imports_in_order p)) in
      let mades = filter_map made_function_key p.parts in
      let stubs = map stub (distinct bytes_eq (filter_map null_name (refs_of p.parts))) in
      let owns = filter_map own_function_key p.parts in
      let same = functions_same.itself k in
      ⊎_elim
      (λ a.
      let r = has_map outside (filter test (imports_in_order p)) k a in
      let f = has_filter test (imports_in_order p) r.0 r.1 in
      let t = (and_parts (is_function_type r.0.type) (has_import (used_imports (filter (imports_by Plain) (refs_of parts))) r.0) f.1).0 in
      let m = subst (Has outs) r.2 (map_has outside (filter type (imports_in_order p)) r.0 (filter_has type (imports_in_order p) r.0 f.0 t)) in
      (k, has_left (outs ++ mades ++ stubs) owns k (first_of outs mades stubs k m), same))
      (λ g. ⊎_elim
      (λ g. ⊎_elim
      (λ a. (k, has_left (outs ++ mades ++ stubs) owns k (second_of outs mades stubs k (key_of_part made_function_key k a)), same))
      (λ a. let r = has_map stub (stub_names p (refs_of parts)) k a in subst There r.2 (stub_there r.0 r.1))
      (has_either lmades lstubs k g))
      (λ a. (k, has_right (outs ++ mades ++ stubs) owns k (key_of_part own_function_key k a), same))
      (has_either (lmades ++ lstubs) lowns k g))
      (has_either louts (lmades ++ lstubs ++ lowns) k h)

  abbrev lay : Layout
  lay = layout Plain p (live p exports) exports

  -- a key of the output has a number in both worlds
  pub key_number : (k : FunctionKey) → Has (functions Plain p parts) k
      → (f : ℕ) × (position (same_function k) (all_functions p) ≡ Some f) × (option_and_then (λ j. position (same_function j) (functions Plain p parts)) (slice_get (all_functions p) f) ≡ Some (unwrap_or (position (same_function k) (functions Plain p parts)) 0))
  key_number k h =
      let t = included k h in
      number_pairs same_function functions_same (all_functions p) (functions Plain p parts) k t.0 k t.1 t.2 h (functions_same.itself k)

  slot_listed : (k : FunctionKey) → Has (slots Plain parts (functions Plain p parts)) k → Has (functions Plain p parts) k
  unfolding slots
  slot_listed k h = (has_filter (is_taken (map ref_function (filter (takes_slot Plain) (refs_of parts)))) (functions Plain p parts) k h).0

  slots_pair : (ks : List FunctionKey) → ((k : FunctionKey) → Has ks k → Has (functions Plain p parts) k)
      → Each (Both (Calls (renaming p lay))) (map (function_place p) ks) (map Some (map (function_number lay.numbers) ks))
  unfolding layout
  slots_pair [] f = tt
  slots_pair (k ∷ ks) f =
      let n = key_number k (f k (inl refl)) in
      (subst (λ o. Both (Calls (renaming p lay)) o (Some (function_number lay.numbers k))) (sym n.1) n.2, slots_pair ks (λ j h. f j (inr h)))

-- what one element writes into a table of nulls
nulls : (n : ℕ) (xs : List (Option ℕ)) → take 1 (replicate (1 + n) None) ++ xs ++ drop (1 + n) (replicate (1 + n) None) ≡ None ∷ xs
nulls n xs =
    let z : 1 + n - (1 + n) ≡ 0 = omega arith in
    ap (λ t. t ++ xs ++ drop (1 + n) (replicate (1 + n) None)) (take-replicate 1 (1 + n) None (omega arith))
    ∙ ap (λ t. replicate 1 None ++ xs ++ t) (drop-replicate (1 + n) (1 + n) None ∙ ap (λ k. replicate k None) z)
    ∙ append-nil (None ∷ xs)

module _ (number : FunctionKey → ℕ) (firsts : List Value) where
  abbrev written_by : List FunctionKey → Bool → List (Option ℕ)
  written_by ks b = with_elements firsts (cond b [] (record { table = None; offset = constants.I32 (pos 1); functions = map number ks } ∷ [])) (replicate (1 + length ks) None)

  written_is : (ks : List FunctionKey) → written_by ks (length ks == 0) ≡ None ∷ map Some (map number ks)
  written_is [] = refl
  written_is (k ∷ ks) =
      let n = length (k ∷ ks) in
      ap (written_by (k ∷ ks)) (ne_eqb n 0 (λ z. absurd (omega arith)))
      ∙ ap (λ q. take 1 (replicate (1 + n) None) ++ map Some (map number (k ∷ ks)) ++ drop (1 + q) (replicate (1 + n) None)) (length-map (k ∷ ks) number)
      ∙ nulls n (map Some (map number (k ∷ ks)))

-- the tables pair, entry by entry
module _ (p : Program) (exports : List InputSymbol) (sound : Sound p) (firsts : List Value) where
  pub table_pairs : Both (Each (Both (Calls (renaming p (layout Plain p (live p exports) exports))))) (Some (plan_table p (layout Plain p (live p exports) exports)))
      (table_of firsts (elements Plain p (live p exports) exports (layout Plain p (live p exports) exports))
      (first (imported_tables (imports Plain p (live p exports) exports (layout Plain p (live p exports) exports)) ++ table Plain p (live p exports) exports (layout Plain p (live p exports) exports) ∷ [])))
  unfolding layout
  table_pairs =
      let parts = live p exports in
      let l = layout Plain p (live p exports) exports in
      subst (λ ts. Both (Each (Both (Calls (renaming p l)))) (Some (plan_table p l)) (table_of firsts (elements Plain p parts exports l) (first (ts ++ table Plain p parts exports l ∷ [])))) (sym (tables_none p parts exports l))
      (subst (λ t. Each (Both (Calls (renaming p l))) (plan_table p l) t) (sym (written_is (function_number l.numbers) firsts l.numbers.slots))
      (tt, slots_pair p exports sound l.numbers.slots (slot_listed p exports sound)))
