-- The numbers of the output are in their ranges, and its names UTF-8.
use Rattle.std.proofs.Common.{◌≡◌, ℕ, suc, ◌+◌, ◌<◌, ◌≤◌, ◌^◌, List, [], ◌∷◌, ◌++◌, length, map, refl, sym, ap, ◌∙◌, subst, inl, inr, ⊎_elim, Option, Some, None, Bool, true, false, arith, length-append}
use Rattle.std.specs.Prelude.{IsUtf8, filter_map, find, position, unwrap_or, cond, not, ◌==◌, ◌&&◌}
use Rattle.std.specs.List.{All}
use Rattle.std.proofs.lemmas.List.Elements.{All-cons, All-nil}
use Rattle.std.specs.List.{cons_option}
use Rattle.std.proofs.lemmas.Bool.{and_parts, and_from, eq-eqb, eqb-true}
use Rattle.list_places.specs.Has.{Has}
use Rattle.list_places.proofs.Lists.{has_map, has_filter, has_pick, has_either, some_is, position_below}
use Rattle.wl_base.specs.Choice.{given}
use Rattle.wasm_types.specs.declared.import.Import.{Import}
use Rattle.wasm_types.specs.Same.{same_type}
use Rattle.wasm_module.specs.declared.parts.Export.{Export}
use Rattle.wasm_module.specs.declared.parts.ModuleGlobal.{ModuleGlobal}
use Rattle.linking_section.specs.declared.symbol.SymbolKind.{SymbolKind}
use Rattle.linking_section.specs.declared.symbol.SymbolKind.TheVariants.{Function, Datum, GlobalVar, Section, Table}
use Rattle.made_symbols.specs.declared.mode.Mode.TheVariants.{Plain}
use Rattle.name_rules.specs.Entries.{InputSymbol, ImportKey, SymbolType, of_function, of_global, untyped}
use Rattle.image_emit.specs.Bytes.{Tree, bytes_of}
use Rattle.image_emit.specs.Spelled.{IsU32, IsImport, IsImportKind, IsTable, AreLimits, IsGlobal, IsExport, entries}
use Rattle.link_output.specs.link_rules.Program.{Program, Part, Content, function, segment, global, linker_made}
use Rattle.link_output.specs.link_rules.Marks.{imports_memory, memory_name, export_name, refs_of}
use Rattle.link_output.specs.link_rules.Keys.{FunctionKey, outside, linker_function, stub, own, GlobalKey, outside_global, linker_global, own_global, got, exported_datum, functions, globals, function_imports_of, used_globals, imports_in_order, made_function_key, own_function_key, made_global_key, own_global_key, got_entries, datum_key, stub_names, function_of, global_of, same_function, same_global}
use Rattle.link_output.specs.link_rules.Values.{Layout}
use Rattle.link_output.specs.link_rules.Output.{layout, image, imports, import_for, imported_kind, function_import, global_import, memory, memory_import, memory_export, export_of, table, global_for, global_content, content_global}
use Rattle.link_facts.specs.link_worlds.Worlds.{linked_tree}
use Rattle.link_facts.specs.link_worlds.Sound.{IsGlobalPart}
use Rattle.link_runs.proofs.Ranges.{IsRanged}
use Rattle.link_runs.proofs.Few.{signed_fits}
use Rattle.link_runs.proofs.Given.{KeyNamed, ContentFits, env_name, the_memory_name, found_has}

all_of : {A : Type 0} (P : A → Type 0) (xs : List A) → ((x : A) → Has xs x → P x) → All P xs
all_of P [] h = All-nil P
all_of P (x ∷ xs) h = All-cons P x xs (h x (inl refl)) (all_of P xs (λ y m. h y (inr m)))

below : {A : Type 0} (test : A → Bool) (xs : List A) (n : ℕ) → length xs < n → unwrap_or (position test xs) 0 < n
below test xs n h = position_below test xs (position test xs) refl n h

given_is : (b : Bool) (f g : GlobalKey) → given b f ≡ Some g → f ≡ g
given_is true f g e = some_is f g e
given_is false f g e = absurd (grind arith)

record Found (test : Part → Bool) (xs : List Part) : Type 0 where
  part : Part
  is : find test xs ≡ Some part
  there : Has xs part
  passes : test part ≡ true

finds : (test : Part → Bool) (xs : List Part) (x : Part) → Has xs x → test x ≡ true → Found test xs
finds test [] x h t = absurd h
finds test (y ∷ ys) x h t = onto (test y) refl (λ m. finds test ys x m t)
  where
    rest : test y ≡ false → Has (y ∷ ys) x → (Has ys x → Found test ys) → Found test ys
    rest f (inl e) go = absurd (let q : test y ≡ true = ap test e ∙ t in let w = sym f ∙ q in grind arith)
    rest f (inr m) go = go m

    onto : (b : Bool) → test y ≡ b → (Has ys x → Found test ys) → Found test (y ∷ ys)
    onto true e go = record { part = y; is = ap (λ b. cond b (Some y) (find test ys)) e; there = inl refl; passes = e }
    onto false e go = let r = rest e h go in record { part = r.part; is = ap (λ b. cond b (Some y) (find test ys)) e ∙ r.is; there = inr r.there; passes = r.passes }

module _ (p : Program) (parts : List Part) (exports : List InputSymbol) where
  abbrev l : Layout
  l = layout Plain p parts exports

  -- ---- the keys of imports

  no_key : (b : Bool) (f : FunctionKey) (k : ImportKey) → given b f ≡ Some (outside k) → f ≡ outside k
  no_key true f k e = grind arith
  no_key false f k e = absurd (grind arith)

  no_global : (b : Bool) (f : GlobalKey) (k : ImportKey) → given b f ≡ Some (outside_global k) → f ≡ outside_global k
  no_global true f k e = grind arith
  no_global false f k e = absurd (grind arith)

  outside_is : (k : ImportKey) → Has (functions Plain p parts) (outside k) → Has (imports_in_order p) k
  unfolding functions
  outside_is k h =
      let outs = map outside (function_imports_of Plain p (refs_of parts)) in
      let mades = filter_map made_function_key parts in
      let stubs = map stub (stub_names p (refs_of parts)) in
      let owns = filter_map own_function_key parts in
      ⊎_elim
      (λ a. let r = has_map outside (function_imports_of Plain p (refs_of parts)) (outside k) a in
      let e : r.0 ≡ k = (let q = r.2 in grind arith) in
      subst (λ x. Has (imports_in_order p) x) e (has_filter _ (imports_in_order p) r.0 r.1).0)
      (λ a. ⊎_elim
      (λ b. ⊎_elim
      (λ c. absurd (let r = has_pick made_function_key parts (outside k) c in let q = no_key _ (linker_function r.0.chunk.index) k r.2 in grind arith))
      (λ c. absurd (let r = has_map stub (stub_names p (refs_of parts)) (outside k) c in let q = r.2 in grind arith))
      (has_either mades stubs (outside k) b))
      (λ b. absurd (let r = has_pick own_function_key parts (outside k) b in let q = no_key _ (own r.0.chunk.input r.0.chunk.index) k r.2 in grind arith))
      (has_either (mades ++ stubs) owns (outside k) a))
      (has_either outs (mades ++ stubs ++ owns) (outside k) h)

  outside_global_is : (k : ImportKey) → Has (globals Plain p parts exports) (outside_global k) → Has (imports_in_order p) k
  unfolding globals
  outside_global_is k h =
      let outs = map outside_global (used_globals Plain p (refs_of parts)) in
      let mades = filter_map made_global_key parts in
      let owns = filter_map own_global_key parts in
      let gots = map got (got_entries Plain parts) in
      let dates = filter_map datum_key exports in
      ⊎_elim
      (λ a. let r = has_map outside_global (used_globals Plain p (refs_of parts)) (outside_global k) a in
      let e : r.0 ≡ k = (let q = r.2 in grind arith) in
      subst (λ x. Has (imports_in_order p) x) e (has_filter _ (imports_in_order p) r.0 r.1).0)
      (λ a. ⊎_elim
      (λ b. ⊎_elim
      (λ c. ⊎_elim
      (λ d. absurd (let r = has_pick made_global_key parts (outside_global k) d in let q = no_global _ (linker_global r.0.chunk.index) k r.2 in grind arith))
      (λ d. absurd (let r = has_pick own_global_key parts (outside_global k) d in let q = no_global _ (own_global r.0.chunk.input r.0.chunk.index) k r.2 in grind arith))
      (has_either mades owns (outside_global k) c))
      (λ c. absurd (let r = has_map got (got_entries Plain parts) (outside_global k) c in let q = r.2 in grind arith))
      (has_either (mades ++ owns) gots (outside_global k) b))
      (λ b. absurd (let r = has_pick datum_key exports (outside_global k) b in let q = no_global _ (exported_datum r.0) k r.2 in grind arith))
      (has_either (mades ++ owns ++ gots) dates (outside_global k) a))
      (has_either outs (mades ++ owns ++ gots ++ dates) (outside_global k) h)

  -- ---- each key is an import or a global

  data Fills (k : GlobalKey) : Type 0 where
    imports_it : (i : Import) → global_import Plain p parts exports l k ≡ Some i → Fills k
    makes_it : (g : ModuleGlobal) → global_for Plain p parts exports l k ≡ Some g → Fills k

  count : (ks : List GlobalKey) → ((k : GlobalKey) → Has ks k → Fills k)
      → length ks ≤ length (filter_map (global_import Plain p parts exports l) ks) + length (filter_map (global_for Plain p parts exports l) ks)
  count [] h = omega arith
  count (k ∷ ks) h = onto (global_import Plain p parts exports l k) (global_for Plain p parts exports l k) refl refl (h k (inl refl)) (count ks (λ j m. h j (inr m)))
    where
      onto : (a : Option Import) (b : Option ModuleGlobal) → global_import Plain p parts exports l k ≡ a → global_for Plain p parts exports l k ≡ b → Fills k
          → length ks ≤ length (filter_map (global_import Plain p parts exports l) ks) + length (filter_map (global_for Plain p parts exports l) ks)
          → suc (length ks) ≤ length (cons_option a (filter_map (global_import Plain p parts exports l) ks)) + length (cons_option b (filter_map (global_for Plain p parts exports l) ks))
      onto (Some x) None u v f r = omega (arith, r)
      onto (Some x) (Some y) u v f r = omega (arith, r)
      onto None (Some y) u v f r = omega (arith, r)
      onto None None u v (imports_it i e) r = absurd (let q = sym u ∙ e in grind arith)
      onto None None u v (makes_it g e) r = absurd (let q = sym v ∙ e in grind arith)

  own_given : (x : Part) (a b : ℕ) → own_global_key x ≡ Some (own_global a b) → (x.chunk.kind == 2) && (x.chunk.input == a) && (x.chunk.index == b) ≡ true
  own_given x a b e = onto (not (x.chunk.input == 0) && (x.chunk.kind == 2)) refl e
    where
      same_in : own_global x.chunk.input x.chunk.index ≡ own_global a b → x.chunk.input ≡ a
      same_in q = grind arith

      same_at : own_global x.chunk.input x.chunk.index ≡ own_global a b → x.chunk.index ≡ b
      same_at q = grind arith

      onto : (c : Bool) → not (x.chunk.input == 0) && (x.chunk.kind == 2) ≡ c → given c (own_global x.chunk.input x.chunk.index) ≡ Some (own_global a b) → (x.chunk.kind == 2) && (x.chunk.input == a) && (x.chunk.index == b) ≡ true
      onto true t q =
          let z = some_is (own_global x.chunk.input x.chunk.index) (own_global a b) q in
          and_from ((x.chunk.kind == 2) && (x.chunk.input == a)) (x.chunk.index == b) (and_from (x.chunk.kind == 2) (x.chunk.input == a) (and_parts (not (x.chunk.input == 0)) (x.chunk.kind == 2) t).1 (eq-eqb x.chunk.input a (same_in z))) (eq-eqb x.chunk.index b (same_at z))
      onto false t q = absurd (grind arith)

  own_positive : (x : Part) (a b : ℕ) → own_global_key x ≡ Some (own_global a b) → a ≡ 0 → ⊥
  own_positive x a b e z = onto (not (x.chunk.input == 0)) (x.chunk.kind == 2) refl e
    where
      same_in : own_global x.chunk.input x.chunk.index ≡ own_global a b → x.chunk.input ≡ a
      same_in q = grind arith

      onto : (c d : Bool) → not (x.chunk.input == 0) ≡ c → given (c && d) (own_global x.chunk.input x.chunk.index) ≡ Some (own_global a b) → ⊥
      onto true true t q = let s = eq-eqb x.chunk.input 0 (same_in (some_is (own_global x.chunk.input x.chunk.index) (own_global a b) q) ∙ z) in absurd (let w : not true ≡ true = sym (ap not s) ∙ t in grind arith)
      onto true false t q = absurd (grind arith)
      onto false d t q = absurd (grind arith)

  own_from : (a b : ℕ) → Has (globals Plain p parts exports) (own_global a b) → (x : Part) × Has parts x × (own_global_key x ≡ Some (own_global a b))
  unfolding globals
  own_from a b h =
      let outs = map outside_global (used_globals Plain p (refs_of parts)) in
      let mades = filter_map made_global_key parts in
      let owns = filter_map own_global_key parts in
      let gots = map got (got_entries Plain parts) in
      let dates = filter_map datum_key exports in
      ⊎_elim
      (λ u. absurd (let r = has_map outside_global (used_globals Plain p (refs_of parts)) (own_global a b) u in let q = r.2 in grind arith))
      (λ u. ⊎_elim
      (λ v. ⊎_elim
      (λ c. ⊎_elim
      (λ d. absurd (let r = has_pick made_global_key parts (own_global a b) d in let q = given_is _ (linker_global r.0.chunk.index) (own_global a b) r.2 in grind arith))
      (λ d. has_pick own_global_key parts (own_global a b) d)
      (has_either mades owns (own_global a b) c))
      (λ c. absurd (let r = has_map got (got_entries Plain parts) (own_global a b) c in let q = r.2 in grind arith))
      (has_either (mades ++ owns) gots (own_global a b) v))
      (λ v. absurd (let r = has_pick datum_key exports (own_global a b) v in let q = given_is _ (exported_datum r.0) (own_global a b) r.2 in grind arith))
      (has_either (mades ++ owns ++ gots) dates (own_global a b) u))
      (has_either outs (mades ++ owns ++ gots ++ dates) (own_global a b) h)

  -- ---- what is asked

  module _ (constants : (part : Part) → Has parts part → part.chunk.kind ≡ 2 → (part.chunk.input ≡ 0 → ⊥) → IsGlobalPart part.content) where
    holds : (c : Content) → IsGlobalPart c → (g : ModuleGlobal) × (content_global c ≡ Some g)
    holds (function t) h = absurd h
    holds (segment i) h = absurd h
    holds (global d) h = (record { kind = d.kind; value = d.value }, refl)
    holds (linker_made m) h = absurd h

    own_fills : (a b : ℕ) → Has (globals Plain p parts exports) (own_global a b) → Fills (own_global a b)
    own_fills a b h =
        let o = own_from a b h in
        let test : Part → Bool = λ part. (part.chunk.kind == 2) && (part.chunk.input == a) && (part.chunk.index == b) in
        let f = finds test parts o.0 o.1 (own_given o.0 a b o.2) in
        let both = and_parts (f.part.chunk.kind == 2) (f.part.chunk.input == a) (and_parts ((f.part.chunk.kind == 2) && (f.part.chunk.input == a)) (f.part.chunk.index == b) f.passes).0 in
        let g = holds f.part.content (constants f.part f.there (eqb-true f.part.chunk.kind 2 both.0) (λ z. own_positive o.0 a b o.2 (sym (eqb-true f.part.chunk.input a both.1) ∙ z))) in
        makes_it g.0 (ap (global_content Plain p parts exports l) f.is ∙ g.1)

    fills : (k : GlobalKey) → Has (globals Plain p parts exports) k → Fills k
    fills (outside_global k) h = imports_it _ refl
    fills (linker_global n) h = makes_it _ refl
    fills (own_global a b) h = own_fills a b h
    fills (got k) h = makes_it _ refl
    fills (exported_datum d) h = makes_it _ refl

    last_of : {A : Type 0} (a b c d : List A) → length d ≤ length (((a ++ b) ++ c) ++ d)
    last_of a b c d = let x = length-append ((a ++ b) ++ c) d in omega (arith, x)

    both_kinds : (t : Tree) → length t.imports + length t.globals ≤ entries t
    both_kinds t = omega arith

    pub few_global_keys : ((t : Tree) → entries t ≤ length (bytes_of t)) → IsU32 (length (bytes_of (linked_tree p parts exports l))) → length l.numbers.globals < 2 ^ 32
    unfolding image layout
    few_global_keys law short =
        let t = linked_tree p parts exports l in
        let c = count l.numbers.globals fills in
        let a = last_of (cond (imports_memory Plain p) (memory_import Plain p parts exports l) []) [] (filter_map (function_import Plain p parts exports l) l.numbers.functions) (filter_map (global_import Plain p parts exports l) l.numbers.globals) in
        let e = law t in
        let b = both_kinds t in
        omega (arith, c, a, e, b, short)

  module _ (few : length l.numbers.functions < 2 ^ 32) (few_types : length l.numbers.types < 2 ^ 32) (few_globals : length l.numbers.globals < 2 ^ 32)
      (keys : (k : ImportKey) → Has (imports_in_order p) k → KeyNamed k) (names : (e : InputSymbol) → Has exports e → IsUtf8 (export_name p e))
      (contents : (part : Part) → Has parts part → ContentFits part.content) (limits : AreLimits (memory Plain p parts exports l)) where
    kind_fits : (t : SymbolType) → IsImportKind (imported_kind Plain p parts exports l t)
    kind_fits (of_function t) = below (same_type t) l.numbers.types (2 ^ 32) few_types
    kind_fits (of_global g) = tt
    kind_fits untyped = omega arith

    key_fits : (k : ImportKey) → Has (imports_in_order p) k → IsImport (import_for Plain p parts exports l k)
    key_fits k h = record { from = (keys k h).0; field = (keys k h).1; kind = kind_fits k.type }

    by_function : (f : FunctionKey) (i : Import) → Has (functions Plain p parts) f → function_import Plain p parts exports l f ≡ Some i → IsImport i
    by_function (outside k) i h e = subst IsImport (let q = e in grind arith) (key_fits k (outside_is k h))
    by_function (linker_function n) i h e = absurd (grind arith)
    by_function (stub name) i h e = absurd (grind arith)
    by_function (own a b) i h e = absurd (grind arith)

    by_global : (g : GlobalKey) (i : Import) → Has (globals Plain p parts exports) g → global_import Plain p parts exports l g ≡ Some i → IsImport i
    by_global (outside_global k) i h e = subst IsImport (let q = e in grind arith) (key_fits k (outside_global_is k h))
    by_global (linker_global n) i h e = absurd (grind arith)
    by_global (own_global a b) i h e = absurd (grind arith)
    by_global (got g) i h e = absurd (grind arith)
    by_global (exported_datum d) i h e = absurd (grind arith)

    memory_in : (b : Bool) (i : Import) → Has (cond b (memory_import Plain p parts exports l) []) i → IsImport i
    memory_in true i (inl e) = subst IsImport e (record { from = env_name; field = the_memory_name; kind = limits })
    memory_in true i (inr h) = absurd h
    memory_in false i h = absurd h

    import_fits : (i : Import) → Has (imports Plain p parts exports l) i → IsImport i
    unfolding layout
    import_fits i h =
        let mem = cond (imports_memory Plain p) (memory_import Plain p parts exports l) [] in
        let fs = filter_map (function_import Plain p parts exports l) l.numbers.functions in
        let gs = filter_map (global_import Plain p parts exports l) l.numbers.globals in
        ⊎_elim
        (λ a. ⊎_elim
        (λ b. ⊎_elim (memory_in (imports_memory Plain p) i) (λ c. absurd c) (has_either mem [] i b))
        (λ b. let r = has_pick (function_import Plain p parts exports l) l.numbers.functions i b in by_function r.0 i r.1 r.2)
        (has_either (mem ++ []) fs i a))
        (λ a. let r = has_pick (global_import Plain p parts exports l) l.numbers.globals i a in by_global r.0 i r.1 r.2)
        (has_either (mem ++ [] ++ fs) gs i h)

    -- ---- globals

    content_fits : (c : Content) (g : ModuleGlobal) → ContentFits c → content_global c ≡ Some g → IsGlobal g
    content_fits (function t) g f e = absurd (grind arith)
    content_fits (segment i) g f e = absurd (grind arith)
    content_fits (global d) g f e = subst IsGlobal (some_is _ g e) f
    content_fits (linker_made m) g f e = absurd (grind arith)

    part_fits : (o : Option Part) (g : ModuleGlobal) → ((x : Part) → o ≡ Some x → Has parts x) → global_content Plain p parts exports l o ≡ Some g → IsGlobal g
    part_fits None g h e = absurd (grind arith)
    part_fits (Some x) g h e = content_fits x.content g (contents x (h x refl)) e

    global_fits : (k : GlobalKey) (g : ModuleGlobal) → global_for Plain p parts exports l k ≡ Some g → IsGlobal g
    global_fits (outside_global k) g e = absurd (grind arith)
    global_fits (linker_global n) g e = subst IsGlobal (some_is _ g e) (signed_fits _)
    global_fits (own_global a b) g e = part_fits (find (λ part. (part.chunk.kind == 2) && (part.chunk.input == a) && (part.chunk.index == b)) parts) g (λ x q. found_has _ parts x q) e
    global_fits (got k) g e = subst IsGlobal (some_is _ g e) (signed_fits _)
    global_fits (exported_datum d) g e = subst IsGlobal (some_is _ g e) (signed_fits _)

    -- ---- exports

    export_fits : (e : InputSymbol) (kind : SymbolKind) → IsUtf8 (export_name p e) → IsExport (export_of Plain p parts exports l e kind)
    export_fits e Function n = record { name = n; kind = omega arith; index = below (same_function (function_of e)) l.numbers.functions (2 ^ 32) few }
    export_fits e Datum n = record { name = n; kind = omega arith; index = below (same_global (exported_datum e)) l.numbers.globals (2 ^ 32) few_globals }
    export_fits e GlobalVar n = record { name = n; kind = omega arith; index = below (same_global (global_of Plain e)) l.numbers.globals (2 ^ 32) few_globals }
    export_fits e Section n = record { name = n; kind = omega arith; index = omega arith }
    export_fits e Table n = record { name = n; kind = omega arith; index = omega arith }

    memory_out : (b : Bool) (x : Export) → Has (cond b [] (record { name = memory_name; kind = 2; index = 0 } ∷ [])) x → IsExport x
    memory_out true x h = absurd h
    memory_out false x (inl e) = subst IsExport e (record { name = the_memory_name; kind = omega arith; index = omega arith })
    memory_out false x (inr h) = absurd h

    export_in : (x : Export) → Has (memory_export Plain p parts exports l ++ map (λ e. export_of Plain p parts exports l e e.symbol.kind) exports) x → IsExport x
    export_in x h =
        ⊎_elim (memory_out (imports_memory Plain p) x)
        (λ a. let r = has_map (λ e. export_of Plain p parts exports l e e.symbol.kind) exports x a in subst IsExport r.2 (export_fits r.0 r.0.symbol.kind (names r.0 r.1)))
        (has_either (memory_export Plain p parts exports l) (map (λ e. export_of Plain p parts exports l e e.symbol.kind) exports) x h)

    memories_in : (b : Bool) → All AreLimits (cond b [] (memory Plain p parts exports l ∷ []))
    memories_in true = All-nil AreLimits
    memories_in false = All-cons AreLimits (memory Plain p parts exports l) [] limits (All-nil AreLimits)

    pub ranged : IsU32 (length (bytes_of (linked_tree p parts exports l))) → IsTable (table Plain p parts exports l) → IsRanged (linked_tree p parts exports l)
    unfolding image
    ranged short t = record {
      short = short;
      imports = all_of IsImport (imports Plain p parts exports l) import_fits;
      tables = All-cons IsTable (table Plain p parts exports l) [] t (All-nil IsTable);
      memories = memories_in (imports_memory Plain p);
      globals = all_of IsGlobal (filter_map (global_for Plain p parts exports l) l.numbers.globals) (λ g h. let r = has_pick (global_for Plain p parts exports l) l.numbers.globals g h in global_fits r.0 g r.2);
      exports = all_of IsExport _ export_in;
    }
