-- What a live reference names has the type that its object gives to the symbol.
use Rattle.std.proofs.Common.{◌≡◌, ℕ, List, [], ◌∷◌, ◌++◌, Option, Some, None, Bool, true, false, cond, refl, sym, ap, ◌∙◌, subst, inl, inr, ⊎_elim, ◌⊎◌, arith}
use Rattle.std.specs.Prelude.{◌==◌, ◌&&◌, find, position, option_and_then, bytes_eq}
use Rattle.std.proofs.lemmas.Bool.{and_from, and_parts, eqb-true, eq-eqb, cond-true}
use Rattle.list_places.specs.Has.{Has}
use Rattle.list_places.proofs.Lists.{has_at, stands}
use Rattle.object_file.specs.wasm_types.declared.function.FuncType.{FuncType}
use Rattle.object_file.specs.wasm_types.declared.table.GlobalType.{GlobalType}
use Rattle.object_file.specs.linking_section.declared.symbol.SymbolKind.TheVariants.{Function, GlobalVar}
use Rattle.object_file.specs.linking_section.Flags.{kind_code}
use Rattle.object_file.specs.declared.object.Object.{Object}
use Rattle.link_runs.specs.link_facts.link_worlds.link_rules.round_rules.Rounds.{Candidate}
use Rattle.link_plan.specs.declared.plan.Plan.{Plan}
use Rattle.made_symbols.specs.declared.mode.Mode.TheVariants.{Plain}
use Rattle.live_mark.specs.Live.{ReachedLaw}
use Rattle.link_runs.specs.link_facts.link_worlds.link_rules.name_rules.Entries.{InputSymbol, of_function, of_global, is_kind, is_entry, name_of, is_named, entries, type_in}
use Rattle.link_runs.specs.link_facts.link_worlds.link_rules.name_rules.Meanings.{Meaning, here, imported, null, nothing, is_nothing}
use Rattle.link_runs.specs.link_facts.link_worlds.link_rules.name_rules.Cases.{clash_by, first_entry, has_other_type}
use Rattle.link_runs.specs.link_facts.link_worlds.link_rules.Program.{Program, loosened, Part, Ref, refs, variant, is_mismatch}
use Rattle.link_runs.specs.link_facts.link_worlds.link_rules.Marks.{live}
use Rattle.link_runs.specs.link_facts.link_worlds.link_rules.Keys.{GlobalKey, outside_global, linker_global, own_global, got, exported_datum, same_global, functions, meant_function, meant_global, ref_function, ref_global, ref_got, type_of, entry_type, function_type_of, callable}
use Rattle.link_runs.specs.link_facts.link_worlds.link_rules.Values.{Layout}
use Rattle.link_runs.specs.link_facts.link_worlds.link_rules.Output.{layout}
use Rattle.link_runs.specs.link_facts.link_worlds.Names.{all_cells, renaming, CellGets}
use Rattle.link_runs.specs.link_facts.link_worlds.Sound.{SoundRef, SoundMeaning}
use Rattle.link_runs.specs.link_facts.link_worlds.Worlds.{layout_of}
use Rattle.link_runs.specs.link_facts.link_worlds.Statements.{LinkedBy}
use Rattle.link_runs.proofs.link_worlds_lemmas.Keys.{bytes_itself, globals_same}
use Rattle.link_runs.proofs.link_worlds_lemmas.Live.{live_part, ref_listed, resolved}
use Rattle.link_runs.proofs.link_worlds_lemmas.Refs.{callee_pairs, cell_pairs}
use Rattle.link_runs.proofs.link_worlds_lemmas.Functions.{Stood, stood}
use Rattle.link_runs.proofs.link_worlds_lemmas.Start.{IfOwn, own_among}
use Rattle.link_runs.specs.link_facts.Loaded.{AreLoaded}
use Rattle.link_runs.proofs.link_facts_lemmas.Symbols.{Known, symbol_listed}
use Rattle.link_runs.proofs.link_facts_lemmas.Meant.{Means, means, code_kind, find_none}
use Rattle.link_runs.proofs.link_facts_lemmas.Refs.{Names}
use Rattle.link_runs.proofs.link_facts_lemmas.SoundPrograms.{stands_ref, means_known, names_symbol}
use Rattle.link_runs.proofs.link_facts_lemmas.Loosened.{ref_by, IsChanged, changed_or_not, ref_came}
use Rattle.output_types.specs.Types.{symbol_cell, cell_type, HasOneType, HaveOneType}
use Rattle.output_types.proofs.Numbers.{callee_at}
use Rattle.valid_links.proofs.MeantTypes.{MeantType, meant_type}
use Rattle.valid_links.proofs.Parts.{strict, before}
use Rattle.valid_links.proofs.KeyTypes.{function_key_type, global_key_type}

-- what is found in the first list is found in both
find_left : {A : Type 0} (test : A → Bool) (xs ys : List A) (a : A) → find test xs ≡ Some a → find test (xs ++ ys) ≡ Some a
find_left test [] ys a e = absurd (grind arith)
find_left test (x ∷ xs) ys a e = onto (test x) e (find_left test xs ys a)
  where
    onto : (b : Bool) → cond b (Some x) (find test xs) ≡ Some a → (find test xs ≡ Some a → find test (xs ++ ys) ≡ Some a) → cond b (Some x) (find test (xs ++ ys)) ≡ Some a
    onto true e rest = e
    onto false e rest = rest e

first_there : {A : Type 0} (test : A → Bool) (xs : List A) (x : A) → Has xs x → test x ≡ true → (a : A) × (find test xs ≡ Some a)
first_there test xs x h t = by (find test xs) refl
  where
    by : (o : Option _) → find test xs ≡ o → (a : _) × (find test xs ≡ Some a)
    by None q = absurd (let f = find_none test xs x q h in grind arith)
    by (Some a) q = (a, q)

-- a key at the number of a cell
cell_there : (p : Program) (l : Layout) (k : GlobalKey) (n : ℕ) (o : Option ℕ) → position (same_global k) (all_cells p) ≡ o → CellGets (renaming p l) o n → (y : GlobalKey) × Has l.numbers.globals y × (same_global k y ≡ true)
cell_there p l k n None e h = absurd h
cell_there p l k n (Some c) e h =
    let s = stands (same_global k) (all_cells p) c e in
    let q : position (same_global s.item) l.numbers.globals ≡ Some n = ap (option_and_then (λ j. position (same_global j) l.numbers.globals)) (sym s.there) ∙ h in
    let r = stands (same_global s.item) l.numbers.globals n q in
    (r.item, has_at l.numbers.globals n r.item r.there, globals_same.carries k s.item s.passes r.item ∙ r.passes)

-- so an object's global is there itself
own_there : (parts : List Part) (k y : GlobalKey) → same_global k y ≡ true → IfOwn parts y → IfOwn parts k
own_there parts (outside_global a) y h o = tt
own_there parts (linker_global a) y h o = tt
own_there parts (got a) y h o = tt
own_there parts (exported_datum a) y h o = tt
own_there parts (own_global a i) (own_global b j) h o = subst (IfOwn parts) (sym (same_own a i b j h)) o
  where
    same_own : (a i b j : ℕ) → ((a == b) && (i == j)) ≡ true → own_global a i ≡ own_global b j
    same_own a i b j h = let r = and_parts (a == b) (i == j) h in ap (λ n. own_global n i) (eqb-true a b r.0) ∙ ap (own_global b) (eqb-true i j r.1)
own_there parts (own_global a i) (outside_global b) h o = absurd (grind arith)
own_there parts (own_global a i) (linker_global b) h o = absurd (grind arith)
own_there parts (own_global a i) (got b) h o = absurd (grind arith)
own_there parts (own_global a i) (exported_datum b) h o = absurd (grind arith)

module _ (plan : Plan) (files : List (List ℕ)) (all : List Candidate) (objects : List Object) (loaded : AreLoaded objects)
    (clear : clash_by plan.loose_calls (entries Plain objects) ≡ None) (law : ReachedLaw) (exports : List InputSymbol) where
  abbrev l : Program
  l = loosened (strict plan files all objects loaded clear)

  abbrev parts : List Part
  parts = live l exports

  abbrev lay : Layout
  lay = layout Plain l (live l exports) exports

  module _ (lk : LinkedBy l exports (layout_of l exports)) where
    -- ---- a reference that isn't loosened

    module _ (part : Part) (ref : Ref) (h : Has (live l exports) part) (r : Has (refs part) ref) (o : Object) (ho : Has objects o) (n : Names plan.allow_undefined objects o ref) where
      said : SoundRef l part ref
      said = lk.sound.refs part ref (live_part l exports part h) r

      not_nothing : ref.meaning ≡ nothing → ⊥
      not_nothing m = resolved l parts ref lk.resolved (ref_listed parts part ref h r) (said.known (ap is_nothing m)) m

      listed : is_entry ref.entry ≡ true → Has (entries Plain objects) ref.entry
      listed t = symbol_listed objects o ref.entry ho n.is.listed t

      -- what it means is known
      known : (d : InputSymbol) → ref.meaning ≡ here d → Known objects d × (d.defines ≡ true)
      known d m =
          means_known plan files all objects loaded clear o ho ref n (here d) d
          (subst (Means (entries Plain objects) ref.entry) (sym n.is.meant ∙ m) (means plan.allow_undefined (entries Plain objects) ref.entry)) refl

      means_type : ((d : InputSymbol) → ref.meaning ≡ here d → ((is_kind Function ref.entry ≡ false) ⊎ (has_other_type (entries Plain objects) ref.entry ≡ false)) ⊎ (plan.loose_calls ≡ false)) → MeantType (entries Plain objects) ref.entry ref.meaning
      means_type fit = meant_type plan.loose_calls plan.allow_undefined objects clear ref.entry listed ref.meaning (sym n.is.meant) fit

      -- a call
      function_typed : ref.kind ≡ 0 → (t : FuncType) × (ref.entry.type ≡ of_function t)
      function_typed z =
          let k = n.function (sym n.is.kind_is ∙ z) in
          (_, ap (λ (x : InputSymbol). x.type) n.is.entry ∙ ap (type_in o n.is.symbol) k)

      function_is : ref.kind ≡ 0 → Stood parts (ref_function ref) → MeantType (entries Plain objects) ref.entry ref.meaning → ref.entry.type ≡ of_function (type_of l parts (ref_function ref))
      function_is z st mt = by ref.meaning refl mt said.meant st
        where
          by : (m : Meaning) → ref.meaning ≡ m → MeantType (entries Plain objects) ref.entry m → SoundMeaning l ref m → Stood parts (meant_function (name_of ref.entry) m) → ref.entry.type ≡ of_function (type_of l parts (meant_function (name_of ref.entry) m))
          by (here d) e t s st =
              let k = known d e in
              sym t ∙ sym (function_key_type plan files all objects loaded clear exports lk.sound d k.0 k.1 (s.function z) st)
          by (imported k) e t s st =
              let f = function_typed z in
              f.1 ∙ ap (λ y. of_function (function_type_of y)) (sym (t ∙ f.1))
          by null e t s st =
              let f = function_typed z in
              let a = first_entry_there e in
              let b = find_left (is_named (name_of ref.entry)) (entries Plain objects) l.variants a.0 a.1 in
              f.1 ∙ ap (λ y. of_function (function_type_of y)) (sym (t a.0 a.1 ∙ f.1)) ∙ ap (λ o. of_function (function_type_of (entry_type o))) (sym b)
            where
              entry_is : (b : Bool) → is_entry ref.entry ≡ b → Means (entries Plain objects) ref.entry null → b ≡ true
              entry_is true q m = refl
              entry_is false q (inl x) = absurd (let a = x.0 in grind arith)
              entry_is false q (inr (inl x)) = absurd (let a = x.0 in grind arith)
              entry_is false q (inr (inr x)) = absurd (grind arith)

              first_entry_there : ref.meaning ≡ null → (a : InputSymbol) × (first_entry (entries Plain objects) (name_of ref.entry) ≡ Some a)
              first_entry_there e =
                  let m = subst (Means (entries Plain objects) ref.entry) (sym n.is.meant ∙ e) (means plan.allow_undefined (entries Plain objects) ref.entry) in
                  first_there (is_named (name_of ref.entry)) (entries Plain objects) ref.entry (listed (entry_is (is_entry ref.entry) refl m)) (bytes_itself (name_of ref.entry))
          by nothing e t s st = absurd (not_nothing e)

      -- a global
      global_kind : is_kind GlobalVar ref.entry ≡ true → ref.entry.symbol.kind ≡ GlobalVar
      global_kind t = code_kind ref.entry.symbol.kind GlobalVar (eqb-true (kind_code ref.entry.symbol.kind) (kind_code GlobalVar) t)

      global_typed : is_kind GlobalVar ref.entry ≡ true → (g : GlobalType) × (ref.entry.type ≡ of_global g)
      global_typed t =
          let k = ap (λ (x : InputSymbol). x.symbol.kind) (sym n.is.entry) ∙ global_kind t in
          (_, ap (λ (x : InputSymbol). x.type) n.is.entry ∙ ap (type_in o n.is.symbol) k)

      global_is : ref.kind ≡ 7 → is_kind GlobalVar ref.entry ≡ true → IfOwn parts (ref_global Plain ref) → MeantType (entries Plain objects) ref.entry ref.meaning → ref.entry.type ≡ of_global (cell_type parts (ref_global Plain ref))
      global_is z t own mt =
          let key = cond-true (is_kind GlobalVar ref.entry) (meant_global Plain ref ref.meaning) (got (ref_got ref)) t in
          by ref.meaning refl mt said.meant (subst (IfOwn parts) key own) ∙ ap (λ k. of_global (cell_type parts k)) (sym key)
        where
          by : (m : Meaning) → ref.meaning ≡ m → MeantType (entries Plain objects) ref.entry m → SoundMeaning l ref m → IfOwn parts (meant_global Plain ref m) → ref.entry.type ≡ of_global (cell_type parts (meant_global Plain ref m))
          by (here d) e y s st =
              let k = known d e in
              sym y ∙ sym (global_key_type plan files all objects loaded clear exports d k.0 k.1 (s.global z t) st)
          by (imported k) e y s st =
              let g = global_typed t in
              g.1 ∙ ap (λ w. of_global (symbol_cell w)) (sym (y ∙ g.1))
          by null e y s st = absurd (s.global t)
          by nothing e y s st = absurd (not_nothing e)

    -- ---- all live references

    module _ (variant_typed : (ref : Ref) → IsChanged (entries Plain objects) plan.loose_calls ref → (t : FuncType) → ref.entry.type ≡ of_function t → (a : InputSymbol) → first_entry (callable l) (name_of (variant ref.entry)) ≡ Some a → a.type ≡ ref.entry.type) where
      module _ (part : Part) (ref : Ref) (h : Has (live l exports) part) (r : Has (refs part) ref) where
        stood_there : ref.kind ≡ 0 → Stood parts (ref_function ref)
        unfolding layout
        stood_there z =
            let at = callee_at l lay ref _ (callee_pairs law l exports lk.sound part ref lk.resolved h r z) in
            stood parts l (ref_function ref) (has_at (functions Plain l parts) _ (ref_function ref) at)

        own_is : ref.kind ≡ 7 → is_kind GlobalVar ref.entry ≡ true → IfOwn parts (ref_global Plain ref)
        unfolding layout
        own_is z t =
            let y = cell_there l lay (ref_global Plain ref) _ _ refl (cell_pairs law l exports lk.sound part ref lk.resolved h r z t) in
            own_there parts (ref_global Plain ref) y.0 y.2 (own_among l parts exports y.0 y.1)

        -- a call that is loosened names a stub of its own type
        changed_is : (s : Ref) → IsChanged (entries Plain objects) plan.loose_calls s → ref ≡ record s { entry = variant s.entry; meaning = null } → (t : FuncType) → s.entry.type ≡ of_function t
            → ref.entry.type ≡ of_function (type_of l parts (ref_function ref))
        changed_is s c e t f =
            let x = lk.sound.refs part ref (live_part l exports part h) r in
            let m = subst (λ (y : Ref). SoundMeaning l y y.meaning) e x.meant in
            let a = first_there (is_named (name_of (variant s.entry))) (callable l) m.entry m.listed (ap (λ k. bytes_eq k (name_of (variant s.entry))) m.name ∙ bytes_itself (name_of (variant s.entry))) in
            ap (λ (y : Ref). y.entry.type) e ∙ f
            ∙ ap (λ y. of_function (function_type_of y)) (sym (variant_typed s c t f a.0 a.1 ∙ f))
            ∙ ap (λ o. of_function (function_type_of (entry_type o))) (sym a.1)
            ∙ ap (λ (y : Ref). of_function (type_of l parts (ref_function y))) (sym e)

        -- a call that isn't loosened has the type of what it means
        not_loosened : (s : Ref) → s.kind ≡ 0 → (b : Bool) → ref_by (entries Plain objects) b s ≡ s → (d : InputSymbol) → s.meaning ≡ here d → (has_other_type (entries Plain objects) s.entry ≡ false) ⊎ (b ≡ false)
        not_loosened s z false q d m = inr refl
        not_loosened s z true q d m = inl (by (has_other_type (entries Plain objects) s.entry) refl)
          where
            changed : Ref
            changed = record s { entry = variant s.entry; meaning = null }

            by : (b : Bool) → has_other_type (entries Plain objects) s.entry ≡ b → b ≡ false
            by false e = refl
            by true e =
                let t : is_mismatch (entries Plain objects) s.entry s.meaning ≡ true = ap (is_mismatch (entries Plain objects) s.entry) m ∙ e in
                let c : ((s.kind == 0) && is_mismatch (entries Plain objects) s.entry s.meaning) ≡ true = and_from (s.kind == 0) (is_mismatch (entries Plain objects) s.entry s.meaning) (eq-eqb s.kind 0 z) t in
                let y : changed ≡ s = sym (ap (λ b. cond b changed s) c) ∙ q in
                let w : null ≡ here d = ap (λ (x : Ref). x.meaning) y ∙ m in
                absurd (grind arith)

        has_one : HasOneType l parts ref
        has_one =
            let x = before plan files all objects loaded clear part (live_part l exports part h) in
            let c = ref_came (strict plan files all objects loaded clear) refl (names_symbol plan files all objects loaded clear) x.0 ref (subst (λ (y : Part). Has (refs y) ref) (sym x.2) r) in
            let n = stands_ref plan files all objects loaded clear x.0 c.0 x.1 c.1 in
            by c.0 c.2 n.object n.there n.names (changed_or_not (entries Plain objects) plan.loose_calls c.0)
          where
            by : (s : Ref) → ref_by (entries Plain objects) plan.loose_calls s ≡ ref → (o : Object) (ho : Has objects o) → Names plan.allow_undefined objects o s
                → IsChanged (entries Plain objects) plan.loose_calls s ⊎ (ref_by (entries Plain objects) plan.loose_calls s ≡ s) → HasOneType l parts ref
            by s q o ho n (inl c) =
                let e : ref ≡ record s { entry = variant s.entry; meaning = null } = sym q ∙ c.is in
                record {
                  function = λ z.
                      let k = n.function (sym n.is.kind_is ∙ sym (ap (λ (y : Ref). y.kind) e) ∙ z) in
                      changed_is s c e _ (ap (λ (x : InputSymbol). x.type) n.is.entry ∙ ap (type_in o n.is.symbol) k);
                  global = λ z t. absurd (let a = eqb-true s.kind 0 c.loose.calls in let b : s.kind ≡ 7 = sym (ap (λ (y : Ref). y.kind) e) ∙ z in omega (arith, a, b));
                }
            by s q o ho n (inr w) =
                let e : s ≡ ref = sym w ∙ q in
                let m = subst (Names plan.allow_undefined objects o) e n in
                record {
                  function = λ z. function_is part ref h r o ho m z (stood_there z)
                      (means_type part ref h r o ho m (λ d f.
                      ⊎_elim (λ a. inl (inr (subst (λ (y : Ref). has_other_type (entries Plain objects) y.entry ≡ false) e a))) (λ b. inr b)
                      (not_loosened s (ap (λ (y : Ref). y.kind) e ∙ z) plan.loose_calls w d (ap (λ (y : Ref). y.meaning) e ∙ f))));
                  global = λ z t. global_is part ref h r o ho m z t (own_is z t) (means_type part ref h r o ho m (λ d f. inl (inl (not_function t))));
                }
              where
                not_function : is_kind GlobalVar ref.entry ≡ true → is_kind Function ref.entry ≡ false
                not_function t = ap (λ n. n == 0) (eqb-true (kind_code ref.entry.symbol.kind) 2 t)

      pub one_types : HaveOneType l parts
      one_types part ref h r = has_one part ref h r
