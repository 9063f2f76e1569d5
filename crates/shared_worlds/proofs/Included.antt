-- What the output numbers is among the names of the program: live parts are parts.
use Rattle.std.proofs.Common.{◌≡◌, ℕ, List, [], ◌∷◌, ◌++◌, map, Some, Bool, true, false, refl, sym, ap, ◌∙◌, subst, inl, inr, ⊎_elim, arith}
use Rattle.std.specs.Prelude.{◌==◌, ◌&&◌, not, filter, filter_map, slice_get, position, option_and_then, unwrap_or}
use Rattle.std.specs.List.{list_any}
use Rattle.std.proofs.lemmas.Bool.{and_parts, and_from, not_from_false, ne_eqb, eq-eqb}
use Rattle.list_places.specs.Has.{Has}
use Rattle.list_places.proofs.Lists.{has_left, has_right, has_either, first_of, second_of, third_of, pick_has, has_pick, any_has, has_any, map_has, has_map, filter_has, has_filter, flat_has, has_flat, distinct_only}
use Rattle.wl_base.specs.Choice.{distinct, given}
use Rattle.made_symbols.specs.declared.mode.Mode.TheVariants.{Shared}
use Rattle.live_mark.specs.Live.{ReachedLaw}
use Rattle.name_rules.specs.Entries.{InputSymbol, ImportKey, same_import, is_kind}
use Rattle.name_rules.specs.Meanings.{Meaning, here, imported, null, nothing}
use Rattle.name_rules.specs.Further.{made_global_import}
use Rattle.link_rules.specs.Program.{Program, Part, Ref, refs}
use Rattle.link_rules.specs.Marks.{live, refs_of}
use Rattle.made_symbols.specs.declared.mode.Mode.TheVariants.{Plain}
use Rattle.link_rules.specs.Keys.{FunctionKey, GlobalKey, GotKey, outside, stub, own, outside_global, linker_global, own_global, got, exported_datum, same_function, same_global, same_got, functions, defined_functions, function_imports_of, globals, defined_globals, global_imports_in, used_globals, foreign_cell, foreign_cells, parts_of_kind, own_global_key, got_entries, needs_got, ref_got, import_of, imports_in_order, all_imports, has_import, used_imports, imports_by, is_function_type, is_global_type, datum_key}
use Rattle.link_worlds.specs.Names.{all_functions}
use Rattle.link_worlds.specs.Sound.{SoundRef, SoundMeaning}
use Rattle.link_worlds.proofs.Keys.{import_equal, function_equal, functions_same, globals_same, gots_same, imports_same}
use Rattle.link_worlds.proofs.Live.{live_part, ref_listed}
use Rattle.link_worlds.proofs.Refs.{distinct_has, number_pairs}
use Rattle.link_worlds.proofs.Tables.{included}
use Rattle.shared_module.proofs.Keys.{by_global}
use Rattle.shared_types.specs.Linked.{SharedLinkedBy}
use Rattle.shared_worlds.specs.Names.{all_cells}
use Rattle.shared_worlds.proofs.Lists.{Among, itself}
use Rattle.shared_worlds.proofs.Cells.{IsCell}

-- the key of an object's global
own_is : (input kind index : ℕ) → kind ≡ 2 → (input ≡ 0 → ⊥) → given (not (input == 0) && (kind == 2)) (own_global input index) ≡ Some (own_global input index)
own_is input kind index a b =
    ap (λ t. given t (own_global input index))
    (and_from (not (input == 0)) (kind == 2) (not_from_false (input == 0) (ne_eqb input 0 b)) (eq-eqb kind 2 a))

module _ (p : Program) (exports : List InputSymbol) (lk : SharedLinkedBy p exports) where
  abbrev parts : List Part
  parts = live p exports

  -- ---- references

  pub in_all : (ref : Ref) → Has (refs_of parts) ref → Has (refs_of p.parts) ref
  in_all ref h = let q = has_flat refs parts ref h in ref_listed p.parts q.0 ref (live_part p exports q.0 q.1) q.2

  in_kind : (kind : ℕ) (ref : Ref) → Has (refs_of (parts_of_kind kind parts)) ref → Has (refs_of (parts_of_kind kind p.parts)) ref
  in_kind kind ref h =
      let test = λ (x : Part). x.chunk.kind == kind in
      let q = has_flat refs (filter test parts) ref h in
      let f = has_filter test parts q.0 q.1 in
      ref_listed (filter test p.parts) q.0 ref (filter_has test p.parts q.0 (live_part p exports q.0 f.0) f.1) q.2

  -- the references that use imports
  abbrev using : List Part → List ImportKey
  using xs = used_imports (filter (imports_by Shared) (refs_of xs))

  using_in : (k : ImportKey) → Has (using parts) k → Has (using p.parts) k
  using_in k h =
      let pick = λ (x : Ref). import_of x.meaning in
      let r = has_pick pick (filter (imports_by Shared) (refs_of parts)) k h in
      let f = has_filter (imports_by Shared) (refs_of parts) r.0 r.1 in
      pick_has pick (filter (imports_by Shared) (refs_of p.parts)) r.0 k (filter_has (imports_by Shared) (refs_of p.parts) r.0 (in_all r.0 f.0) f.1) r.2

  used_in : (k : ImportKey) → has_import (using parts) k ≡ true → has_import (using p.parts) k ≡ true
  used_in k h = let r = has_any (same_import k) (using parts) h in any_has (same_import k) (using p.parts) r.0 (using_in r.0 r.1) r.2

  -- ---- functions

  meant_import : (ref : Ref) (k : ImportKey) → import_of ref.meaning ≡ Some k → (m : Meaning) → ref.meaning ≡ m → SoundMeaning p ref m → Has (imports_in_order p) k
  meant_import ref k e (here f) q s = absurd (let z = ap import_of (sym q) ∙ e in grind arith)
  meant_import ref k e (imported j) q s = subst (Has (imports_in_order p)) (let z = ap import_of (sym q) ∙ e in grind arith) s.listed
  meant_import ref k e null q s = absurd (let z = ap import_of (sym q) ∙ e in grind arith)
  meant_import ref k e nothing q s = absurd (let z = ap import_of (sym q) ∙ e in grind arith)

  -- what a call uses is in order
  in_order : (k : ImportKey) → has_import (using parts) k ≡ true → Has (imports_in_order p) k
  in_order k h =
      let r = has_any (same_import k) (using parts) h in
      let g = has_pick (λ (x : Ref). import_of x.meaning) (filter (imports_by Shared) (refs_of parts)) r.0 r.1 in
      let f = has_filter (imports_by Shared) (refs_of parts) g.0 g.1 in
      let q = has_flat refs parts g.0 f.0 in
      let s = lk.sound.refs q.0 g.0 (live_part p exports q.0 q.1) q.2 in
      subst (Has (imports_in_order p)) (sym (import_equal k r.0 r.2)) (meant_import g.0 r.0 g.2 g.0.meaning refl s.meant)

  -- a function of a shared output would be one of a plain one
  pub plain_function : (k : FunctionKey) → Has (functions Shared p parts) k → Has (functions Plain p parts) k
  unfolding functions
  plain_function k h =
      let used = has_import (using parts) in
      let used' = has_import (used_imports (filter (imports_by Plain) (refs_of parts))) in
      let ks = function_imports_of Shared p (refs_of parts) in
      let js = function_imports_of Plain p (refs_of parts) in
      let ds = defined_functions p parts in
      ⊎_elim
      (λ a.
      let r = has_map outside ks k a in
      let f = has_filter (λ (k : ImportKey). is_function_type k.type && used k) (all_imports Shared p) r.0 r.1 in
      let t = and_parts (is_function_type r.0.type) (used r.0) f.1 in
      let u = plain_used r.0 t.1 in
      let g = filter_has (λ (k : ImportKey). is_function_type k.type && used' k) (imports_in_order p) r.0 (in_order r.0 t.1) (and_from (is_function_type r.0.type) (used' r.0) t.0 u) in
      subst (Has (map outside js ++ ds)) r.2 (has_left (map outside js) ds (outside r.0) (map_has outside js r.0 g)))
      (λ b. has_right (map outside js) ds k b)
      (has_either (map outside ks) ds k h)
    where
      plain_used : (j : ImportKey) → has_import (using parts) j ≡ true → has_import (used_imports (filter (imports_by Plain) (refs_of parts))) j ≡ true
      plain_used j h =
          let r = has_any (same_import j) (using parts) h in
          let pick = λ (x : Ref). import_of x.meaning in
          let g = has_pick pick (filter (imports_by Shared) (refs_of parts)) r.0 r.1 in
          let f = has_filter (imports_by Shared) (refs_of parts) g.0 g.1 in
          any_has (same_import j) (used_imports (filter (imports_by Plain) (refs_of parts))) r.0
          (pick_has pick (filter (imports_by Plain) (refs_of parts)) g.0 r.0 (filter_has (imports_by Plain) (refs_of parts) g.0 f.0 refl) g.2) r.2

  pub function_there : (k : FunctionKey) → Has (functions Shared p parts) k → Among same_function (all_functions p) k
  function_there k h = included p exports lk.sound k (plain_function k h)

  -- a function of the output has a number in both worlds
  pub function_number_pairs : (k : FunctionKey) → Among same_function (functions Shared p parts) k
      → (f : ℕ) × (position (same_function k) (all_functions p) ≡ Some f) × (option_and_then (λ j. position (same_function j) (functions Shared p parts)) (slice_get (all_functions p) f) ≡ Some (unwrap_or (position (same_function k) (functions Shared p parts)) 0))
  function_number_pairs k h =
      let e = function_equal k h.0 h.2 in
      let t = function_there h.0 h.1 in
      let s : same_function k t.0 ≡ true = ap (λ j. same_function j t.0) e ∙ t.2 in
      number_pairs same_function functions_same (all_functions p) (functions Shared p parts) k t.0 h.0 t.1 s h.1 h.2

  -- ---- cells

  foreign_in : (k : ImportKey) → Has (foreign_cells parts) k → Has (foreign_cells p.parts) k
  foreign_in k h =
      let code = refs_of (parts_of_kind 0 parts) in
      let data' = refs_of (parts_of_kind 1 parts) in
      let code_all = refs_of (parts_of_kind 0 p.parts) in
      let data_all = refs_of (parts_of_kind 1 p.parts) in
      let r = has_pick foreign_cell (code ++ data') k h in
      pick_has foreign_cell (code_all ++ data_all) r.0 k
      (⊎_elim (λ a. has_left code_all data_all r.0 (in_kind 0 r.0 a)) (λ b. has_right code_all data_all r.0 (in_kind 1 r.0 b)) (has_either code data' r.0 r.1)) r.2

  used_global_in : (k : ImportKey) → Has (used_globals Shared p (refs_of parts)) k → Has (used_globals Shared p (refs_of p.parts)) k
  used_global_in k h =
      let used = has_import (using parts) in
      let used' = has_import (using p.parts) in
      let f = has_filter (λ (k : ImportKey). is_global_type k.type && used k) (all_imports Shared p) k h in
      let t = and_parts (is_global_type k.type) (used k) f.1 in
      filter_has (λ (k : ImportKey). is_global_type k.type && used' k) (all_imports Shared p) k f.0 (and_from (is_global_type k.type) (used' k) t.0 (used_in k t.1))

  import_in : (k : ImportKey) → Has (global_imports_in Shared p parts) k → Has (global_imports_in Shared p p.parts) k
  import_in k h =
      let mades = filter_map made_global_import p.entries in
      let cells = foreign_cells parts in
      let used = used_globals Shared p (refs_of parts) in
      let cells' = foreign_cells p.parts in
      let used' = used_globals Shared p (refs_of p.parts) in
      let there : Has (mades ++ cells' ++ used') k =
      ⊎_elim (λ n. absurd n) (λ a.
      ⊎_elim
      (λ b. ⊎_elim (first_of mades cells' used' k) (λ c. second_of mades cells' used' k (foreign_in k c)) (has_either mades cells k b))
      (λ b. third_of mades cells' used' k (used_global_in k b))
      (has_either (mades ++ cells) used k a))
      (distinct_only same_import [] (mades ++ cells ++ used) k h) in
      let d = distinct_has same_import imports_same (mades ++ cells' ++ used') k there in
      subst (Has (distinct same_import (mades ++ cells' ++ used'))) (sym (import_equal k d.0 d.2)) d.1

  got_in : (g : GotKey) → Has (got_entries Shared parts) g → Among same_got (got_entries Shared p.parts) g
  got_in g h =
      let code = refs_of (parts_of_kind 0 parts) in
      let code_all = refs_of (parts_of_kind 0 p.parts) in
      ⊎_elim (λ n. absurd n) (λ m.
      let r = has_map ref_got (filter (needs_got Shared) code) g m in
      let f = has_filter (needs_got Shared) code r.0 r.1 in
      let n = map_has ref_got (filter (needs_got Shared) code_all) r.0 (filter_has (needs_got Shared) code_all r.0 (in_kind 0 r.0 f.0) f.1) in
      distinct_has same_got gots_same (map ref_got (filter (needs_got Shared) code_all)) g (subst (Has (map ref_got (filter (needs_got Shared) code_all))) r.2 n))
      (distinct_only same_got [] (map ref_got (filter (needs_got Shared) code)) g h)

  abbrev Named : GlobalKey → Type 0
  Named k = IsCell k → Among same_global (all_cells p) k

  outer_there : (k : ImportKey) → Has (global_imports_in Shared p p.parts) k → Has (all_cells p) (outside_global k)
  unfolding globals
  outer_there k h = has_left (map outside_global (global_imports_in Shared p p.parts)) (defined_globals Shared p.parts []) (outside_global k) (map_has outside_global (global_imports_in Shared p p.parts) k h)

  inner_there : (k : GlobalKey) → Has (filter_map own_global_key p.parts ++ map got (got_entries Shared p.parts) ++ filter_map datum_key []) k → Has (all_cells p) k
  unfolding globals
  inner_there k h = has_right (map outside_global (global_imports_in Shared p p.parts)) (defined_globals Shared p.parts []) k h

  own_there : (x : Part) → Has parts x → own_global_key x ≡ Some (own_global x.chunk.input x.chunk.index) → Has (all_cells p) (own_global x.chunk.input x.chunk.index)
  own_there x h e =
      inner_there (own_global x.chunk.input x.chunk.index)
      (first_of (filter_map own_global_key p.parts) (map got (got_entries Shared p.parts)) (filter_map datum_key []) (own_global x.chunk.input x.chunk.index)
      (pick_has own_global_key p.parts x (own_global x.chunk.input x.chunk.index) (live_part p exports x h) e))

  pub cell_there : (k : GlobalKey) → Has (globals Shared p parts exports) k → IsCell k → Among same_global (all_cells p) k
  cell_there k h =
      by_global p parts exports Named
      (λ j m c. itself same_global globals_same (all_cells p) (outside_global j) (outer_there j (import_in j m)))
      (λ x m a b c. itself same_global globals_same (all_cells p) (own_global x.chunk.input x.chunk.index) (own_there x m (key_is x a b)))
      (λ g m c. let y = got_in g m in
      (got y.0, inner_there (got y.0) (second_of (filter_map own_global_key p.parts) (map got (got_entries Shared p.parts)) (filter_map datum_key []) (got y.0) (map_has got (got_entries Shared p.parts) y.0 y.1)), y.2))
      (λ e m t c. absurd c)
      k h
    where
      key_is : (x : Part) → x.chunk.kind ≡ 2 → (x.chunk.input ≡ 0 → ⊥) → own_global_key x ≡ Some (own_global x.chunk.input x.chunk.index)
      key_is x a b = own_is x.chunk.input x.chunk.kind x.chunk.index a b

  -- a cell of the output has a number in both worlds
  pub cell_number_pairs : (k : GlobalKey) → IsCell k → Among same_global (globals Shared p parts exports) k
      → (c : ℕ) × (position (same_global k) (all_cells p) ≡ Some c) × (option_and_then (λ j. position (same_global j) (globals Shared p parts exports)) (slice_get (all_cells p) c) ≡ Some (unwrap_or (position (same_global k) (globals Shared p parts exports)) 0))
  cell_number_pairs k c h =
      let t = cell_there h.0 h.1 (same_sort k h.0 h.2 c) in
      let s : same_global k t.0 ≡ true = globals_same.carries k h.0 h.2 t.0 ∙ t.2 in
      number_pairs same_global globals_same (all_cells p) (globals Shared p parts exports) k t.0 h.0 t.1 s h.1 h.2
    where
      same_sort : (a b : GlobalKey) → same_global a b ≡ true → IsCell a → IsCell b
      same_sort (outside_global a) (outside_global b) e c = tt
      same_sort (own_global a i) (own_global b j) e c = tt
      same_sort (got a) (got b) e c = tt
      same_sort (linker_global a) b e c = absurd c
      same_sort (exported_datum a) b e c = absurd c
      same_sort _ _ e c = absurd (grind arith)
