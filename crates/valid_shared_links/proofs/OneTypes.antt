-- What a live reference of a shared output names has the type that its object gives to the symbol.
use Rattle.std.proofs.Common.{◌≡◌, ℕ, List, Option, Some, None, Bool, true, false, cond, refl, sym, ap, ◌∙◌, subst, inl, inr, ⊎_elim, arith}
use Rattle.std.specs.Prelude.{◌⊎◌, ◌==◌, ◌&&◌, ◌||◌, not, find, bytes_eq}
use Rattle.std.proofs.lemmas.Bool.{and_from, eqb-true, eq-eqb, cond-true}
use Rattle.list_places.specs.Has.{Has}
use Rattle.list_places.proofs.Lists.{pick_has}
use Rattle.wl_base.specs.Choice.{has_name}
use Rattle.wasm_types.specs.declared.function.FuncType.{FuncType}
use Rattle.wasm_types.specs.declared.table.GlobalType.{GlobalType}
use Rattle.linking_section.specs.declared.symbol.SymbolKind.TheVariants.{Function, Datum, GlobalVar}
use Rattle.linking_section.specs.Flags.{kind_code}
use Rattle.object_file.specs.declared.object.Object.{Object}
use Rattle.object_file.specs.Spellable.{IsSpellable}
use Rattle.round_rules.specs.Rounds.{Candidate}
use Rattle.link_plan.specs.declared.plan.Plan.{Plan}
use Rattle.made_symbols.specs.declared.mode.Mode.TheVariants.{Shared}
use Rattle.mark_bits.specs.declared.chunk.Chunk.{Chunk}
use Rattle.live_mark.specs.Live.{ReachedLaw}
use Rattle.name_rules.specs.Entries.{InputSymbol, of_function, of_global, is_kind, is_entry, name_of, is_named, entries, type_in}
use Rattle.name_rules.specs.Meanings.{Meaning, here, imported, null, nothing, is_nothing, Uses, uses_of, is_address}
use Rattle.name_rules.specs.Cases.{clash_by, has_other_type}
use Rattle.shared_facts.specs.shared_links.link_program.declared.home.Home.{Home}
use Rattle.shared_facts.specs.shared_links.link_program.Loaded.{IsLoaded}
use Rattle.shared_facts.specs.shared_links.program_build.Standing.{StrictPartsStand, LoadedPartsStand}
use Rattle.link_rules.specs.Program.{Program, loosened, Part, Ref, refs, variant, is_mismatch, chunk_at, chunk_by, chunk_of, meant_chunk}
use Rattle.link_rules.specs.Marks.{live}
use Rattle.link_rules.specs.Keys.{meant_function, meant_global, ref_function, ref_global, cell_key, type_of, entry_type, function_type_of, callable}
use Rattle.shared_facts.specs.shared_links.link_worlds.Sound.{SoundRef, SoundMeaning, PartOf}
use Rattle.shared_facts.proofs.shared_links_lemmas.link_worlds_lemmas.Keys.{bytes_itself}
use Rattle.shared_facts.proofs.shared_links_lemmas.link_worlds_lemmas.Live.{live_part, live_closed, ref_listed, resolved}
use Rattle.shared_facts.proofs.shared_links_lemmas.link_facts_lemmas.Symbols.{is_symbol}
use Rattle.shared_facts.proofs.shared_links_lemmas.link_facts_lemmas.Meant.{code_kind, find_none}
use Rattle.shared_facts.proofs.shared_links_lemmas.link_facts_lemmas.Loosened.{ref_by, IsChanged, changed_or_not, ref_came}
use Rattle.output_types.specs.Types.{symbol_cell}
use Rattle.shared_facts.specs.shared_types.Types.{shared_cell, HasOneType, HaveOneType}
use Rattle.shared_facts.specs.shared_types.Linked.{SharedLinkedBy}
use Rattle.shared_facts.proofs.Entries.{Known}
use Rattle.shared_facts.proofs.Meant.{Means, by_name, itself, no_meaning, called_no_address}
use Rattle.shared_facts.proofs.Programs.{symbol_in, names, is_meant, strict as strictly, itself_known, listed, known_here}
use Rattle.valid_shared_links.proofs.MeantTypes.{MeantType, meant_type}
use Rattle.valid_shared_links.proofs.Parts.{strict, before}
use Rattle.valid_shared_links.proofs.KeyTypes.{function_key_type, global_key_type}
use Rattle.valid_shared_links.proofs.Variants.{variant_typed}

first_there : {A : Type 0} (test : A → Bool) (xs : List A) (x : A) → Has xs x → test x ≡ true → (a : A) × (find test xs ≡ Some a)
first_there test xs x h t = by (find test xs) refl
  where
    by : (o : Option _) → find test xs ≡ o → (a : _) × (find test xs ≡ Some a)
    by None q = absurd (let f = find_none test xs x q h in grind arith)
    by (Some a) q = (a, q)

-- a global is known by more than its address
global_no_address : (uses : Uses) (e : InputSymbol) → e.symbol.kind ≡ GlobalVar → is_address uses e ≡ true → ⊥
global_no_address uses e g t =
    no (is_kind Datum e) (is_kind Function e) (has_name uses.addressed (name_of e)) (not (has_name uses.called (name_of e)))
    (ap (λ k. kind_code k == kind_code Datum) g) (ap (λ k. kind_code k == kind_code Function) g) t
  where
    no : (a b c d : Bool) → a ≡ false → b ≡ false → (a || (b && c && d)) ≡ true → ⊥
    no true b c d p q r = absurd (grind arith)
    no false true c d p q r = absurd (grind arith)
    no false false c d p q r = absurd (grind arith)

module _ (strict_law : StrictPartsStand) (stand_law : LoadedPartsStand) (plan : Plan) (files : List (List ℕ)) (all : List Candidate) (objects : List Object) (homes : List Home) (loaded : IsLoaded files all objects homes)
    (clear : clash_by plan.loose_calls (entries Shared objects) ≡ None) (text : (o : Object) → Has objects o → IsSpellable o) (law : ReachedLaw) (exports : List InputSymbol) where
  abbrev q : Program
  q = strict strict_law stand_law plan files all objects homes loaded clear

  abbrev l : Program
  l = loosened (strict strict_law stand_law plan files all objects homes loaded clear)

  abbrev parts : List Part
  parts = live l exports

  abbrev es : List InputSymbol
  es = entries Shared objects

  abbrev uses : Uses
  uses = uses_of Shared objects

  module _ (lk : SharedLinkedBy l exports) where
    module _ (part : Part) (ref : Ref) (h : Has (live l exports) part) (r : Has (refs part) ref) where
      said : SoundRef l part ref
      said = lk.sound.refs part ref (live_part l exports part h) r

      not_nothing : ref.meaning ≡ nothing → ⊥
      not_nothing m = resolved l parts ref lk.resolved (ref_listed parts part ref h r) (said.known (ap is_nothing m)) m

      target : (e : InputSymbol) (c : Chunk) → ref.meaning ≡ here e → chunk_of e ≡ Some c → PartOf l.parts c → PartOf parts c
      target e c m ec o = live_closed law l exports part c h (pick_has (λ (x : Ref). meant_chunk x.meaning) (refs part) ref c r (ap meant_chunk m ∙ ec)) o

      -- ---- a reference that isn't loosened

      module _ (x : Part) (hx : Has (strict strict_law stand_law plan files all objects homes loaded clear).parts x) (hr : Has (refs x) ref) where
        meant : Means uses es ref.entry ref.meaning
        meant = is_meant strict_law stand_law plan files all objects homes loaded clear x ref hx hr

        means_type : ((d : InputSymbol) → ref.meaning ≡ here d → ((is_kind Function ref.entry ≡ false) ⊎ (has_other_type es ref.entry ≡ false)) ⊎ (plan.loose_calls ≡ false)) → MeantType uses ref.entry ref.meaning
        means_type fit =
            meant_type plan.loose_calls uses plan.allow_undefined objects loaded.rise clear ref.entry (listed strict_law stand_law plan files all objects homes loaded clear x ref hx hr) ref.meaning
            (names strict_law stand_law plan files all objects homes loaded clear x ref hx hr).means fit

        -- the symbol is one of an object
        of_object : Known objects loaded.rise ref.entry
        of_object = itself_known strict_law stand_law plan files all objects homes loaded clear x ref hx hr

        known : (d : InputSymbol) → ref.meaning ≡ here d → Known objects loaded.rise d × (d.defines ≡ true) × (d.symbol.kind ≡ ref.entry.symbol.kind)
        known d m = known_here strict_law stand_law plan files all objects homes loaded clear x ref hx hr ref.meaning meant d m

        -- a call
        module _ (z : ref.kind ≡ 0) where
          calls : ref.entry.symbol.kind ≡ Function
          calls = ((strictly strict_law stand_law plan files all objects homes loaded clear x ref hx hr).call z).function

          called : is_entry ref.entry ≡ true → has_name uses.called (name_of ref.entry) ≡ true
          called = ((strictly strict_law stand_law plan files all objects homes loaded clear x ref hx hr).call z).called

          typed : (t : FuncType) × (ref.entry.type ≡ of_function t)
          typed =
              let n = names strict_law stand_law plan files all objects homes loaded clear x ref hx hr in
              let s = is_symbol objects n.object ref.entry n.symbol in
              (_, ap (λ (y : InputSymbol). y.type) s.is ∙ ap (type_in n.object s.symbol) (sym (ap (λ (y : InputSymbol). y.symbol.kind) s.is) ∙ calls))

          function_is : MeantType uses ref.entry ref.meaning → ref.entry.type ≡ of_function (type_of l parts (ref_function ref))
          function_is mt = by ref.meaning refl mt said.meant meant
            where
              by : (m : Meaning) → ref.meaning ≡ m → MeantType uses ref.entry m → SoundMeaning l ref m → Means uses es ref.entry m → ref.entry.type ≡ of_function (type_of l parts (meant_function (name_of ref.entry) m))
              by (here d) e t s w =
                  let k = known d e in
                  let f = s.function z in
                  let c = ap (chunk_by d) f in
                  sym t ∙ sym (function_key_type strict_law stand_law plan files all objects homes loaded clear exports lk.sound.apart d k.0 k.1 f (target d (chunk_at d.input 0 d.index) e c (s.kept (chunk_at d.input 0 d.index) c)))
              by (imported k) e (inl t) s w = typed.1 ∙ ap (λ y. of_function (function_type_of y)) (sym (t ∙ typed.1))
              by (imported k) e (inr t) s w = absurd (called_no_address uses ref.entry calls (called (entry w)) t)
                where
                  entry : Means uses es ref.entry (imported k) → is_entry ref.entry ≡ true
                  entry (by_name t x) = t
                  entry (itself n q d) = absurd (grind arith)
                  entry (no_meaning n q) = absurd (grind arith)
              by null e t s w = absurd t
              by nothing e t s w = absurd (not_nothing e)

        -- a global
        module _ (z : ref.kind ≡ 7) (t : is_kind GlobalVar ref.entry ≡ true) where
          global_kind : ref.entry.symbol.kind ≡ GlobalVar
          global_kind = code_kind ref.entry.symbol.kind GlobalVar (eqb-true (kind_code ref.entry.symbol.kind) (kind_code GlobalVar) t)

          global_typed : (g : GlobalType) × (ref.entry.type ≡ of_global g)
          global_typed =
              let n = names strict_law stand_law plan files all objects homes loaded clear x ref hx hr in
              let s = is_symbol objects n.object ref.entry n.symbol in
              (_, ap (λ (y : InputSymbol). y.type) s.is ∙ ap (type_in n.object s.symbol) (sym (ap (λ (y : InputSymbol). y.symbol.kind) s.is) ∙ global_kind))

          global_is : MeantType uses ref.entry ref.meaning → ref.entry.type ≡ of_global (shared_cell parts (ref_global Shared ref))
          global_is mt =
              by ref.meaning refl mt said.meant
              ∙ ap (λ k. of_global (shared_cell parts k)) (sym (cond-true (is_kind GlobalVar ref.entry) (meant_global Shared ref ref.meaning) (cell_key Shared ref) t))
            where
              by : (m : Meaning) → ref.meaning ≡ m → MeantType uses ref.entry m → SoundMeaning l ref m → ref.entry.type ≡ of_global (shared_cell parts (meant_global Shared ref m))
              by (here d) e y s =
                  let k = known d e in
                  let f = s.global z t in
                  let c = ap (chunk_by d) f in
                  sym y ∙ sym (global_key_type strict_law stand_law plan files all objects homes loaded clear exports d k.0 k.1 f (target d (chunk_at d.input 2 d.index) e c (s.kept (chunk_at d.input 2 d.index) c)) global_typed.0 (y ∙ global_typed.1))
              by (imported k) e (inl y) s = global_typed.1 ∙ ap (λ w. of_global (symbol_cell w)) (sym (y ∙ global_typed.1))
              by (imported k) e (inr y) s = absurd (global_no_address uses ref.entry global_kind y)
              by null e y s = absurd (s.global t)
              by nothing e y s = absurd (not_nothing e)

      -- ---- a call that is loosened names a stub of its own type

      changed_is : (s : Ref) → IsChanged es plan.loose_calls s → ref ≡ record s { entry = variant s.entry; meaning = null } → (t : FuncType) → s.entry.type ≡ of_function t
          → ref.entry.type ≡ of_function (type_of l parts (ref_function ref))
      changed_is s c e t f =
          let m = subst (λ (y : Ref). SoundMeaning l y y.meaning) e said.meant in
          let a = first_there (is_named (name_of (variant s.entry))) (callable l) m.entry m.listed (ap (λ k. bytes_eq k (name_of (variant s.entry))) m.name ∙ bytes_itself (name_of (variant s.entry))) in
          ap (λ (y : Ref). y.entry.type) e ∙ f
          ∙ ap (λ y. of_function (function_type_of y)) (sym (variant_typed strict_law stand_law plan files all objects homes loaded clear text s c t f a.0 a.1 ∙ f))
          ∙ ap (λ o. of_function (function_type_of (entry_type o))) (sym a.1)
          ∙ ap (λ (y : Ref). of_function (type_of l parts (ref_function y))) (sym e)

      -- a call that isn't loosened has the type of what it means
      not_loosened : (s : Ref) → s.kind ≡ 0 → (b : Bool) → ref_by es b s ≡ s → (d : InputSymbol) → s.meaning ≡ here d → (has_other_type es s.entry ≡ false) ⊎ (b ≡ false)
      not_loosened s z false w d m = inr refl
      not_loosened s z true w d m = inl (by (has_other_type es s.entry) refl)
        where
          changed : Ref
          changed = record s { entry = variant s.entry; meaning = null }

          by : (b : Bool) → has_other_type es s.entry ≡ b → b ≡ false
          by false e = refl
          by true e =
              let t : is_mismatch es s.entry s.meaning ≡ true = ap (is_mismatch es s.entry) m ∙ e in
              let c : ((s.kind == 0) && is_mismatch es s.entry s.meaning) ≡ true = and_from (s.kind == 0) (is_mismatch es s.entry s.meaning) (eq-eqb s.kind 0 z) t in
              let y : changed ≡ s = sym (ap (λ b. cond b changed s) c) ∙ w in
              let n : null ≡ here d = ap (λ (x : Ref). x.meaning) y ∙ m in
              absurd (grind arith)

      has_one : HasOneType l parts ref
      has_one =
          let x = before strict_law stand_law plan files all objects homes loaded clear part (live_part l exports part h) in
          let c = ref_came q refl (symbol_in strict_law stand_law plan files all objects homes loaded clear) x.0 ref (subst (λ (y : Part). Has (refs y) ref) (sym x.2) r) in
          by x.0 x.1 c.0 c.1 c.2 (changed_or_not es plan.loose_calls c.0)
        where
          by : (x : Part) (hx : Has q.parts x) (s : Ref) (hs : Has (refs x) s) → ref_by es plan.loose_calls s ≡ ref → IsChanged es plan.loose_calls s ⊎ (ref_by es plan.loose_calls s ≡ s) → HasOneType l parts ref
          by x hx s hs w (inl c) =
              let e : ref ≡ record s { entry = variant s.entry; meaning = null } = sym w ∙ c.is in
              let z = eqb-true s.kind 0 c.loose.calls in
              let n = names strict_law stand_law plan files all objects homes loaded clear x s hx hs in
              let y = is_symbol objects n.object s.entry n.symbol in
              let k = ((strictly strict_law stand_law plan files all objects homes loaded clear x s hx hs).call z).function in
              record {
                function = λ _. changed_is s c e _ (ap (λ (i : InputSymbol). i.type) y.is ∙ ap (type_in n.object y.symbol) (sym (ap (λ (i : InputSymbol). i.symbol.kind) y.is) ∙ k));
                global = λ g t. absurd (let b : s.kind ≡ 7 = sym (ap (λ (y : Ref). y.kind) e) ∙ g in omega (arith, z, b));
              }
          by x hx s hs w (inr v) =
              let e : s ≡ ref = sym v ∙ w in
              let hr = subst (Has (refs x)) e hs in
              record {
                function = λ z. function_is x hx hr z
                    (means_type x hx hr (λ d f.
                    ⊎_elim (λ a. inl (inr (subst (λ (y : Ref). has_other_type es y.entry ≡ false) e a))) (λ b. inr b)
                    (not_loosened s (ap (λ (y : Ref). y.kind) e ∙ z) plan.loose_calls v d (ap (λ (y : Ref). y.meaning) e ∙ f))));
                global = λ z t. global_is x hx hr z t (means_type x hx hr (λ d f. inl (inl (not_function t))));
              }
            where
              not_function : is_kind GlobalVar ref.entry ≡ true → is_kind Function ref.entry ≡ false
              not_function t = ap (λ n. n == 0) (eqb-true (kind_code ref.entry.symbol.kind) 2 t)

    pub one_types : HaveOneType l parts
    one_types part ref h r = has_one part ref h r
