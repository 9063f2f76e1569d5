-- The functions that a shared output defines, and the globals that it numbers, by what they are; each of these is imported or defined.
use Rattle.std.proofs.Common.{◌≡◌, suc, ◌+◌, ◌≤◌, List, [], ◌∷◌, ◌++◌, length, map, Option, Some, None, Bool, true, false, refl, sym, ap, ◌∙◌, subst, inl, inr, ⊎_elim, arith}
use Rattle.std.specs.Prelude.{◌==◌, ◌&&◌, not, find, filter, filter_map, cond}
use Rattle.std.specs.List.{cons_option}
use Rattle.std.proofs.lemmas.Bool.{and_parts, and_from, eq-eqb, eqb-true}
use Rattle.list_places.specs.Has.{Has}
use Rattle.list_places.proofs.Lists.{has_either, has_pick, has_map, given_some}
use Rattle.wasm_types.specs.declared.import.Import.{Import}
use Rattle.wasm_module.specs.declared.parts.ModuleGlobal.{ModuleGlobal}
use Rattle.made_symbols.specs.declared.mode.Mode.TheVariants.{Shared}
use Rattle.name_rules.specs.Entries.{InputSymbol, ImportKey, is_kind}
use Rattle.linking_section.specs.declared.symbol.SymbolKind.TheVariants.{Datum}
use Rattle.output_module.specs.link_worlds.link_rules.Program.{Program, Part, Content, function, segment, global, linker_made}
use Rattle.output_module.specs.link_worlds.link_rules.Marks.{refs_of}
use Rattle.output_module.specs.link_worlds.link_rules.Keys.{FunctionKey, outside, linker_function, stub, own, functions, defined_functions, function_imports_of, made_function_key, own_function_key, stub_names, GlobalKey, GotKey, outside_global, own_global, got, exported_datum, globals, global_imports_in, own_global_key, got_entries, datum_key}
use Rattle.output_module.specs.link_worlds.link_rules.Values.{Layout}
use Rattle.output_module.specs.link_worlds.link_rules.Output.{layout, defined, is_import, global_import, global_for, global_content, content_global}
use Rattle.output_module.specs.link_worlds.Sound.{IsGlobalPart}

-- what passes a test is found
pub record Found (test : Part → Bool) (xs : List Part) : Type 0 where
  pub part : Part
  pub is : find test xs ≡ Some part
  pub there : Has xs part
  pub passes : test part ≡ true

pub finds : (test : Part → Bool) (xs : List Part) (x : Part) → Has xs x → test x ≡ true → Found test xs
finds test [] x h t = absurd h
finds test (y ∷ ys) x h t = onto (test y) refl (λ m. finds test ys x m t)
  where
    rest : test y ≡ false → Has (y ∷ ys) x → (Has ys x → Found test ys) → Found test ys
    rest f (inl e) go = absurd (let q : test y ≡ true = ap test e ∙ t in let w = sym f ∙ q in grind arith)
    rest f (inr m) go = go m

    onto : (b : Bool) → test y ≡ b → (Has ys x → Found test ys) → Found test (y ∷ ys)
    onto true e go = record { part = y; is = ap (λ b. cond b (Some y) (find test ys)) e; there = inl refl; passes = e }
    onto false e go = let r = rest e h go in record { part = r.part; is = ap (λ b. cond b (Some y) (find test ys)) e ∙ r.is; there = inr r.there; passes = r.passes }

module _ (p : Program) (parts : List Part) (exports : List InputSymbol) where
  abbrev l : Layout
  l = layout Shared p parts exports

  -- ---- the functions that are defined

  pub inner : (k : FunctionKey) → Has (defined_functions p parts) k → is_import Shared p parts exports l k ≡ false
  inner k h =
      let mades = filter_map made_function_key parts in
      let stubs = map stub (stub_names p (refs_of parts)) in
      let owns = filter_map own_function_key parts in
      let test = λ (k : FunctionKey). is_import Shared p parts exports l k ≡ false in
      ⊎_elim
      (λ g. ⊎_elim
      (λ a. let r = has_pick made_function_key parts k a in subst test (given_some ((r.0.chunk.input == 0) && (r.0.chunk.kind == 0)) (linker_function r.0.chunk.index) k r.2).1 refl)
      (λ a. let r = has_map stub (stub_names p (refs_of parts)) k a in subst test r.2 refl)
      (has_either mades stubs k g))
      (λ a. let r = has_pick own_function_key parts k a in subst test (given_some (not (r.0.chunk.input == 0) && (r.0.chunk.kind == 0)) (own r.0.chunk.input r.0.chunk.index) k r.2).1 refl)
      (has_either (mades ++ stubs) owns k h)

  kept : (ks : List ImportKey) (ds : List FunctionKey) → ((k : FunctionKey) → Has ds k → is_import Shared p parts exports l k ≡ false) → filter (λ f. not (is_import Shared p parts exports l f)) (map outside ks ++ ds) ≡ ds
  kept (k ∷ ks) ds g = kept ks ds g
  kept [] [] g = refl
  kept [] (d ∷ ds) g =
      let rest = filter (λ f. not (is_import Shared p parts exports l f)) ds in
      ap (λ b. cond (not b) (d ∷ rest) rest) (g d (inl refl)) ∙ ap (λ xs. d ∷ xs) (kept [] ds (λ k h. g k (inr h)))

  pub defined_is : defined Shared p parts exports l ≡ defined_functions p parts
  unfolding layout functions
  defined_is = kept (function_imports_of Shared p (refs_of parts)) (defined_functions p parts) inner

  -- ---- globals

  -- A global is an import, one of an object, a cell of an address, or an exported datum.
  pub by_global : (Q : GlobalKey → Type 0) → ((k : ImportKey) → Has (global_imports_in Shared p parts) k → Q (outside_global k))
      → ((x : Part) → Has parts x → x.chunk.kind ≡ 2 → (x.chunk.input ≡ 0 → ⊥) → Q (own_global x.chunk.input x.chunk.index))
      → ((g : GotKey) → Has (got_entries Shared parts) g → Q (got g)) → ((e : InputSymbol) → Has exports e → is_kind Datum e ≡ true → Q (exported_datum e))
      → (k : GlobalKey) → Has (globals Shared p parts exports) k → Q k
  unfolding globals
  by_global Q outer of_part of_cell of_datum k h =
      let outs = map outside_global (global_imports_in Shared p parts) in
      let owns = filter_map own_global_key parts in
      let gots = map got (got_entries Shared parts) in
      let dates = filter_map datum_key exports in
      ⊎_elim
      (λ a. let r = has_map outside_global (global_imports_in Shared p parts) k a in subst Q r.2 (outer r.0 r.1))
      (λ a. ⊎_elim
      (λ b. ⊎_elim
      (λ c. let r = has_pick own_global_key parts k c in
      let g = given_some (not (r.0.chunk.input == 0) && (r.0.chunk.kind == 2)) (own_global r.0.chunk.input r.0.chunk.index) k r.2 in
      let q = and_parts (not (r.0.chunk.input == 0)) (r.0.chunk.kind == 2) g.0 in
      subst Q g.1 (of_part r.0 r.1 (eqb-true r.0.chunk.kind 2 q.1) (λ z. not_zero (r.0.chunk.input == 0) q.0 (eq-eqb r.0.chunk.input 0 z))))
      (λ c. let r = has_map got (got_entries Shared parts) k c in subst Q r.2 (of_cell r.0 r.1))
      (has_either owns gots k b))
      (λ b. let r = has_pick datum_key exports k b in let g = given_some (is_kind Datum r.0) (exported_datum r.0) k r.2 in subst Q g.1 (of_datum r.0 r.1 g.0))
      (has_either (owns ++ gots) dates k a))
      (has_either outs (owns ++ gots ++ dates) k h)
    where
      not_zero : (b : Bool) → not b ≡ true → b ≡ true → ⊥
      not_zero true u v = absurd (grind arith)
      not_zero false u v = absurd (grind arith)

  -- ---- each is an import or a global of the module

  pub data Fills (k : GlobalKey) : Type 0 where
    imports_it : (i : Import) → global_import Shared p parts exports l k ≡ Some i → Fills k
    makes_it : (g : ModuleGlobal) → global_for Shared p parts exports l k ≡ Some g → Fills k

  module _ (constants : (part : Part) → Has parts part → part.chunk.kind ≡ 2 → (part.chunk.input ≡ 0 → ⊥) → IsGlobalPart part.content) where
    holds : (c : Content) → IsGlobalPart c → (g : ModuleGlobal) × (content_global c ≡ Some g)
    holds (function t) h = absurd h
    holds (segment i) h = absurd h
    holds (global d) h = (record { kind = d.kind; value = d.value }, refl)
    holds (linker_made m) h = absurd h

    -- the part of a global of an object
    pub own_found : (x : Part) → Has parts x → x.chunk.kind ≡ 2 → (x.chunk.input ≡ 0 → ⊥)
        → (f : Found (λ part. (part.chunk.kind == 2) && (part.chunk.input == x.chunk.input) && (part.chunk.index == x.chunk.index)) parts) × IsGlobalPart f.part.content
    own_found x h k z =
        let test : Part → Bool = λ part. (part.chunk.kind == 2) && (part.chunk.input == x.chunk.input) && (part.chunk.index == x.chunk.index) in
        let f = finds test parts x h (and_from ((x.chunk.kind == 2) && (x.chunk.input == x.chunk.input)) (x.chunk.index == x.chunk.index) (and_from (x.chunk.kind == 2) (x.chunk.input == x.chunk.input) (eq-eqb x.chunk.kind 2 k) (eq-eqb x.chunk.input x.chunk.input refl)) (eq-eqb x.chunk.index x.chunk.index refl)) in
        let both = and_parts (f.part.chunk.kind == 2) (f.part.chunk.input == x.chunk.input) (and_parts ((f.part.chunk.kind == 2) && (f.part.chunk.input == x.chunk.input)) (f.part.chunk.index == x.chunk.index) f.passes).0 in
        (f, constants f.part f.there (eqb-true f.part.chunk.kind 2 both.0) (λ y. z (sym (eqb-true f.part.chunk.input x.chunk.input both.1) ∙ y)))

    fills : (k : GlobalKey) → Has (globals Shared p parts exports) k → Fills k
    fills = by_global Fills (λ k h. imports_it _ refl)
        (λ x h k z. let f = own_found x h k z in let g = holds f.0.part.content f.1 in makes_it g.0 (ap (global_content Shared p parts exports l) f.0.is ∙ g.1))
        (λ g h. makes_it _ refl) (λ e h t. makes_it _ refl)

    count : (ks : List GlobalKey) → ((k : GlobalKey) → Has ks k → Fills k)
        → length ks ≤ length (filter_map (global_import Shared p parts exports l) ks) + length (filter_map (global_for Shared p parts exports l) ks)
    count [] h = omega arith
    count (k ∷ ks) h = onto (global_import Shared p parts exports l k) (global_for Shared p parts exports l k) refl refl (h k (inl refl)) (count ks (λ j m. h j (inr m)))
      where
        onto : (a : Option Import) (b : Option ModuleGlobal) → global_import Shared p parts exports l k ≡ a → global_for Shared p parts exports l k ≡ b → Fills k
            → length ks ≤ length (filter_map (global_import Shared p parts exports l) ks) + length (filter_map (global_for Shared p parts exports l) ks)
            → suc (length ks) ≤ length (cons_option a (filter_map (global_import Shared p parts exports l) ks)) + length (cons_option b (filter_map (global_for Shared p parts exports l) ks))
        onto (Some x) None u v f r = omega (arith, r)
        onto (Some x) (Some y) u v f r = omega (arith, r)
        onto None (Some y) u v f r = omega (arith, r)
        onto None None u v (imports_it i e) r = absurd (let q = sym u ∙ e in grind arith)
        onto None None u v (makes_it g e) r = absurd (let q = sym v ∙ e in grind arith)

    pub global_count : length (globals Shared p parts exports) ≤ length (filter_map (global_import Shared p parts exports l) (globals Shared p parts exports)) + length (filter_map (global_for Shared p parts exports l) (globals Shared p parts exports))
    global_count = count (globals Shared p parts exports) fills
