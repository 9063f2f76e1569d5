-- The imports of a shared output and its exports have names that are UTF-8.
use Rattle.std.proofs.Common.{◌≡◌, ℕ, List, [], ◌∷◌, ◌++◌, map, refl, sym, subst, inl, inr, ⊎_elim, Option, Some, None, Bool, true, false, arith}
use Rattle.std.specs.Prelude.{◌⊎◌, ◌==◌, ◌&&◌, not, IsUtf8, codes, slice_get, cond, filter_map, unwrap_or, option_and_then}
use Rattle.std.proofs.lemmas.Bool.{and_parts}
use Rattle.list_places.specs.Has.{Has}
use Rattle.list_places.proofs.Lists.{has_at, has_filter, has_flat, has_map, has_pick, has_either, flat_has, all_has, some_is, given_some, distinct_only}
use Rattle.linking_section.specs.declared.symbol.SymbolKind.TheVariants.{Function, GlobalVar}
use Rattle.object_columns.specs.declared.functions.FunctionDef.{FunctionDef}
use Rattle.object_file.specs.declared.object.Object.{Object}
use Rattle.object_file.specs.Spellable.{IsSpellable, IsName, IsFunction}
use Rattle.made_symbols.specs.declared.mode.Mode.TheVariants.{Shared}
use Rattle.name_rules.specs.Entries.{InputSymbol, ImportKey, is_kind, name_of, entries, symbols_of, same_import}
use Rattle.name_rules.specs.Meanings.{Meaning, here, imported, null, nothing, Uses, Resolved, resolved_in, meaning, cell_of}
use Rattle.name_rules.specs.Further.{made_global_import, function_cells, cells_in, the_cells, made_imports, further_imports, is_foreign_symbol}
use Rattle.link_rules.specs.Program.{Program, Part, Ref, refs}
use Rattle.link_rules.specs.Marks.{refs_of, is_foreign, export_name, written_name, resolved_at}
use Rattle.link_rules.specs.Keys.{outside, outside_global, functions, globals, defined_functions, function_imports_of, global_imports_in, used_globals, foreign_cell, foreign_cells, parts_of_kind, imports_in_order, all_imports, import_of}
use Rattle.link_runs.proofs.Given.{low_name, found_has}
use Rattle.shared_module.specs.Fit.{IsNamed}
use Rattle.shared_module.proofs.Keys.{inner, by_global}
use Rattle.shared_links.proofs.Named.{IsNamedMeaning, symbol_named, entry_named, meaning_named, cell_named}

by_import : (m : Meaning) (k : ImportKey) → IsNamedMeaning m → import_of m ≡ Some k → IsNamed k
by_import (here d) k n e = absurd (grind arith)
by_import (imported j) k n e = subst IsNamed (some_is j k e) n
by_import null k n e = absurd (grind arith)
by_import nothing k n e = absurd (grind arith)

-- a cell of a foreign function is that of a symbol
cells_from : (es : List InputSymbol) (ms : List Meaning) (k : ImportKey) → Has (function_cells es ms) (Some k) → (e : InputSymbol) × Has es e × (cell_of e ≡ k)
cells_from [] ms k h = absurd h
cells_from (e ∷ es) [] k h = absurd h
cells_from (e ∷ es) (m ∷ ms) k (inl q) = (e, inl refl, (given_some (is_kind Function e && is_foreign_symbol e m) (cell_of e) k q).1)
cells_from (e ∷ es) (m ∷ ms) k (inr h) = let r = cells_from es ms k h in (r.0, inr r.1, r.2)

module _ (uses : Uses) (allow : Bool) (objects : List Object) (are : (o : Object) → Has objects o → IsSpellable o) (p : Program)
    (entries_are : p.entries ≡ entries Shared objects) (resolved_are : p.resolved ≡ map (resolved_in Shared uses allow (entries Shared objects) objects) objects) where
  abbrev res : Object → Resolved
  res o = resolved_in Shared uses allow (entries Shared objects) objects o

  made_named : (e : InputSymbol) (k : ImportKey) → Has p.entries e → made_global_import e ≡ Some k → IsNamed k
  made_named e k h q =
      let g = given_some ((e.input == 0) && is_kind GlobalVar e) (record { module_name = codes "env"; field = name_of e; type = e.type }) k q in
      subst IsNamed g.1 (low_name (codes "env") refl, entry_named uses allow objects are e (subst (λ xs. Has xs e) entries_are h))

  -- the object of what is resolved
  of_resolved : (r : Resolved) → Has p.resolved r → (o : Object) × Has objects o × (res o ≡ r)
  of_resolved r h = has_map res objects r (subst (λ rs. Has rs r) resolved_are h)

  in_order_named : (k : ImportKey) → Has (imports_in_order p) k → IsNamed k
  unfolding imports_in_order
  in_order_named k h =
      ⊎_elim (λ a. absurd a) (λ a.
      let f = has_pick import_of _ k a in
      let g = has_flat (λ (r : Resolved). r.meanings) p.resolved f.0 f.1 in
      let o = of_resolved g.0 g.1 in
      let m = has_map (meaning Shared uses allow (entries Shared objects)) (symbols_of objects o.0) f.0 (subst (λ (r : Resolved). Has r.meanings f.0) (sym o.2) g.2) in
      by_import f.0 k (subst IsNamedMeaning m.2 (meaning_named uses allow objects are m.0 (symbol_named uses allow objects are o.0 o.1 m.0 m.1))) f.2)
      (distinct_only same_import [] _ k h)

  further_named : (k : ImportKey) → Has (further_imports Shared p.entries p.resolved) k → IsNamed k
  further_named k h =
      ⊎_elim
      (λ a. let r = has_pick made_global_import p.entries k a in made_named r.0 k r.1 r.2)
      (λ a. let r = has_pick (λ (c : Option ImportKey). c) (cells_in Shared p.resolved) k a in
      let f = has_flat (λ (r : Resolved). function_cells r.symbols r.meanings) p.resolved (Some k) (subst (Has (cells_in Shared p.resolved)) r.2 r.1) in
      let o = of_resolved f.0 f.1 in
      let c = cells_from f.0.symbols f.0.meanings k f.2 in
      subst IsNamed c.2 (cell_named c.0 (symbol_named uses allow objects are o.0 o.1 c.0 (subst (λ (r : Resolved). Has r.symbols c.0) (sym o.2) c.1))))
      (has_either (made_imports Shared p.entries) (the_cells (cells_in Shared p.resolved)) k h)

  all_named : (k : ImportKey) → Has (all_imports Shared p) k → IsNamed k
  all_named k h = ⊎_elim (in_order_named k) (further_named k) (distinct_only same_import (imports_in_order p) (further_imports Shared p.entries p.resolved) k h)

  -- ---- of an output

  module _ (parts : List Part) (exports : List InputSymbol) (ref_named : (part : Part) (ref : Ref) → Has parts part → Has (refs part) ref → (ref.kind == 0) ≡ false → IsUtf8 (name_of ref.entry)) where
    pub function_named : (k : ImportKey) → Has (functions Shared p parts) (outside k) → IsNamed k
    unfolding functions
    function_named k h =
        ⊎_elim
        (λ a. let r = has_map outside (function_imports_of Shared p (refs_of parts)) (outside k) a in
        let e : r.0 ≡ k = (let q = r.2 in grind arith) in
        subst IsNamed e (all_named r.0 (has_filter _ (all_imports Shared p) r.0 r.1).0))
        (λ a. absurd (let q : true ≡ false = inner p parts exports (outside k) a in grind arith))
        (has_either (map outside (function_imports_of Shared p (refs_of parts))) (defined_functions p parts) (outside k) h)

    foreign_named : (ref : Ref) (k : ImportKey) → Has (refs_of parts) ref → foreign_cell ref ≡ Some k → IsNamed k
    foreign_named ref k h q =
        let g = given_some (not (ref.kind == 0) && not (is_kind GlobalVar ref.entry) && is_foreign ref) (cell_of ref.entry) k q in
        let f = has_flat refs parts ref h in
        let t = (and_parts (not (ref.kind == 0)) (not (is_kind GlobalVar ref.entry)) (and_parts (not (ref.kind == 0) && not (is_kind GlobalVar ref.entry)) (is_foreign ref) g.0).0).0 in
        subst IsNamed g.1 (cell_named ref.entry (ref_named f.0 ref f.1 f.2 (is_not (ref.kind == 0) t)))
      where
        is_not : (b : Bool) → not b ≡ true → b ≡ false
        is_not true h = absurd (grind arith)
        is_not false h = refl

    refs_in : (kind : ℕ) (ref : Ref) → Has (refs_of (parts_of_kind kind parts)) ref → Has (refs_of parts) ref
    refs_in kind ref h =
        let f = has_flat refs (parts_of_kind kind parts) ref h in
        flat_has_in f.0 (has_filter (λ (part : Part). part.chunk.kind == kind) parts f.0 f.1).0 f.2
      where
        flat_has_in : (part : Part) → Has parts part → Has (refs part) ref → Has (refs_of parts) ref
        flat_has_in part a b = flat_has refs parts part ref a b

    import_named : (k : ImportKey) → Has (global_imports_in Shared p parts) k → IsNamed k
    import_named k h =
        let mades = filter_map made_global_import p.entries in
        let cells = foreign_cells parts in
        let used = used_globals Shared p (refs_of parts) in
        ⊎_elim (λ a. absurd a) (λ a.
        ⊎_elim
        (λ b. ⊎_elim
        (λ c. let r = has_pick made_global_import p.entries k c in made_named r.0 k r.1 r.2)
        (λ c. let r = has_pick foreign_cell (refs_of (parts_of_kind 0 parts) ++ refs_of (parts_of_kind 1 parts)) k c in
        foreign_named r.0 k (⊎_elim (refs_in 0 r.0) (refs_in 1 r.0) (has_either (refs_of (parts_of_kind 0 parts)) (refs_of (parts_of_kind 1 parts)) r.0 r.1)) r.2)
        (has_either mades cells k b))
        (λ b. all_named k (has_filter _ (all_imports Shared p) k b).0)
        (has_either (mades ++ cells) used k a))
        (distinct_only same_import [] (mades ++ cells ++ used) k h)

    pub global_named : (k : ImportKey) → Has (globals Shared p parts exports) (outside_global k) → IsNamed k
    global_named k h =
        by_global p parts exports (λ g. (j : ImportKey) → g ≡ outside_global j → IsNamed j)
        (λ i m j q. let e : i ≡ j = grind arith in subst IsNamed e (import_named i m))
        (λ x m a b j q. absurd (grind arith)) (λ g m j q. absurd (grind arith)) (λ e m t j q. absurd (grind arith))
        (outside_global k) h k refl

  -- ---- exports

  written : (e : InputSymbol) (r : Option Resolved) → ((x : Resolved) → r ≡ Some x → Has p.resolved x) → IsName (option_and_then (λ r. written_name r e) r)
  written e None h = tt
  written e (Some r) h =
      let o = of_resolved r (h r refl) in
      of_function (slice_get r.object.functions e.index) (λ f q. (all_has IsFunction o.0.functions (are o.0 o.1).functions f (subst (λ (x : Resolved). Has x.object.functions f) (sym o.2) (has_at r.object.functions e.index f q))).export_name)
    where
      of_function : (f : Option FunctionDef) → ((x : FunctionDef) → f ≡ Some x → IsName x.export_name) → IsName (option_and_then (λ (f : FunctionDef). f.export_name) f)
      of_function None g = tt
      of_function (Some f) g = g f refl

  maybe : (o : Option (List ℕ)) (name : List ℕ) → IsName o → IsUtf8 name → IsUtf8 (unwrap_or o name)
  maybe None name h k = k
  maybe (Some n) name h k = h

  pub export_named : (e : InputSymbol) → Has p.entries e → IsUtf8 (export_name p e)
  export_named e h = by (is_kind Function e)
    where
      own : IsUtf8 (name_of e)
      own = entry_named uses allow objects are e (subst (λ xs. Has xs e) entries_are h)

      by : (b : Bool) → IsUtf8 (cond b (unwrap_or (option_and_then (λ r. written_name r e) (resolved_at p.resolved e.input)) (name_of e)) (name_of e))
      by true = maybe (option_and_then (λ r. written_name r e) (resolved_at p.resolved e.input)) (name_of e) (written e (resolved_at p.resolved e.input) (λ x q. found_has _ p.resolved x q)) own
      by false = own
