-- The program of loaded objects is sound.
use Rattle.std.proofs.Common.{◌≡◌, ℕ, List, [], map, Option, Some, None, Bool, true, false, refl, sym, ap, ◌∙◌, subst, inl, inr, ⊎_elim, arith}
use Rattle.std.specs.Prelude.{◌==◌, ◌&&◌, ◌||◌, filter_map, flat_map, cond, option_map, slice_get}
use Rattle.std.specs.List.{All}
use Rattle.std.proofs.lemmas.Bool.{eqb-true}
use Rattle.std.proofs.lemmas.Option.{slice_get-map}
use Rattle.list_places.specs.Has.{Has, Apart}
use Rattle.list_places.proofs.Lists.{has_at, at_has, has_left, has_filter, has_flat, flat_has, map_has, has_map, has_pick, pick_has, some_is, all_has}
use Rattle.wl_base.specs.Choice.{distinct}
use Rattle.linking_section.specs.declared.symbol.Symbol.{Symbol}
use Rattle.linking_section.specs.declared.symbol.SymbolKind.{SymbolKind}
use Rattle.linking_section.specs.declared.symbol.SymbolKind.TheVariants.{Function, Datum, GlobalVar}
use Rattle.linking_section.specs.Flags.{kind_code, is_weak}
use Rattle.object_columns.specs.declared.functions.FunctionDef.{FunctionDef}
use Rattle.object_columns.specs.declared.segments.SegmentDef.{SegmentDef}
use Rattle.object_file.specs.declared.object.Object.{Object}
use Rattle.object_file.specs.Sound.{OperandNames, WindowNames}
use Rattle.round_rules.specs.Rounds.{Candidate}
use Rattle.link_plan.specs.declared.plan.Plan.{Plan}
use Rattle.made_symbols.specs.declared.mode.Mode.TheVariants.{Plain}
use Rattle.mark_bits.specs.declared.chunk.Chunk.{Chunk}
use Rattle.name_rules.specs.Entries.{InputSymbol, ImportKey, is_kind, is_entry, name_of, named, symbols_of, entries, type_in, import_in, key_of, is_named, same_import}
use Rattle.name_rules.specs.Meanings.{Meaning, here, imported, null, nothing, Resolved, resolved_in, resolve, meaning, no_uses, may_be_null, winner}
use Rattle.name_rules.specs.Cases.{clash_by}
use Rattle.output_module.specs.link_rules.Program.{Program, strict_program, Part, Ref, refs, a_symbol, function_part, segment_part, parts_of, operand_named, window_named, init_calls, init_calls_in, chunk_of, winners_of, is_winner, is_that}
use Rattle.output_module.specs.link_rules.Marks.{refs_of, exported, is_exported_by}
use Rattle.output_module.specs.link_rules.Keys.{imports_in_order, import_of, is_function_type, is_global_type}
use Rattle.program_build.specs.link_program.Stand.{IsSymbolOf}
use Rattle.output_module.specs.link_worlds.Sound.{Sound, SoundRef, SoundMeaning, SoundHere, SoundExports, PartOf, same_part, meant_entry, meant_entries}
use Rattle.output_module.proofs.link_worlds_lemmas.Keys.{import_equal, imports_same}
use Rattle.output_module.proofs.link_worlds_lemmas.Refs.{distinct_has}
use Rattle.link_facts.specs.Loaded.{AreLoaded, ProgramsAreSound}
use Rattle.link_facts.proofs.Symbols.{symbol_listed, entry_known, one_entry, positive, Known}
use Rattle.link_facts.proofs.Meant.{Means, means, one_kind, code_kind, winner_has}
use Rattle.link_facts.proofs.Parts.{Stood, as_function, as_segment, as_global, stood, MadeAs, made_as, parts_apart, made_or_object, known_kept}
use Rattle.link_facts.proofs.Refs.{Names, operand_names, window_names, inits_name, calls_are, refs_named}

import_some : {A B : Type 0} (f : A → B) (o : Option A) (y : B) → option_map f o ≡ Some y → (x : A) × (f x ≡ y)
import_some f None y h = absurd (grind arith)
import_some f (Some x) y h = (x, some_is (f x) y h)

module _ (plan : Plan) (files : List (List ℕ)) (all : List Candidate) (objects : List Object) (loaded : AreLoaded objects)
    (clear : clash_by plan.loose_calls (entries Plain objects) ≡ None) where
  abbrev p : Program
  p = strict_program Plain plan files all objects

  abbrev es : List InputSymbol
  es = entries Plain objects

  abbrev res : Object → Resolved
  res o = resolved_in Plain no_uses plan.allow_undefined es objects o

  abbrev rs : List Resolved
  rs = map res objects

  abbrev parts : List Part
  parts = parts_of Plain all objects rs

  resolved_is : p.resolved ≡ rs
  unfolding resolve
  resolved_is = refl

  pub parts_are : p.parts ≡ parts
  unfolding resolve
  parts_are = refl

  entries_are : p.entries ≡ es
  entries_are = refl

  -- ---- definitions

  known_made : (e : InputSymbol) → Known objects e → e.input ≡ 0 → e.index ≡ e.place
  known_made e (inl x) z = ap (λ (w : InputSymbol). w.index) x.is ∙ sym (ap (λ (w : InputSymbol). w.place) x.is)
  known_made e (inr x) z = absurd (positive objects loaded.rise x.object x.there (sym (ap (λ (w : InputSymbol). w.input) x.symbol.is) ∙ z))

  kept : (e : InputSymbol) → Known objects e → e.defines ≡ true → (c : Chunk) → chunk_of e ≡ Some c → PartOf p.parts c
  unfolding parts_of
  kept e k d c h = subst (λ xs. PartOf xs c) (sym parts_are) (known_kept all objects res (λ o. refl) (init_calls rs) loaded.rise loaded.each e k d c h)

  -- ---- references

  meaning_listed : (o : Object) → Has objects o → (e : InputSymbol) (k : ImportKey) → Has (symbols_of objects o) e → meaning Plain no_uses plan.allow_undefined es e ≡ imported k → Has (imports_in_order p) k
  unfolding imports_in_order
  meaning_listed o ho e k he m =
      let listed : Has (flat_map (λ (r : Resolved). r.meanings) p.resolved) (imported k)
      = subst (λ ws. Has (flat_map (λ (r : Resolved). r.meanings) ws) (imported k)) (sym resolved_is)
      (flat_has (λ (r : Resolved). r.meanings) rs (res o) (imported k) (map_has res objects o ho)
      (subst (Has (res o).meanings) m (map_has (meaning Plain no_uses plan.allow_undefined es) (symbols_of objects o) e he))) in
      let d = distinct_has same_import imports_same (filter_map import_of (flat_map (λ (r : Resolved). r.meanings) p.resolved)) k (pick_has import_of (flat_map (λ (r : Resolved). r.meanings) p.resolved) (imported k) k listed refl) in
      subst (Has (distinct same_import (filter_map import_of (flat_map (λ (r : Resolved). r.meanings) p.resolved)))) (sym (import_equal k d.0 d.2)) d.1

  type_kind : (o : Object) (s : Symbol) (kind : SymbolKind) → s.kind ≡ kind → type_in o s s.kind ≡ type_in o s kind
  type_kind o s kind h = ap (type_in o s) h

  no_import : (o : Object) (s : Symbol) (k : ImportKey) → s.kind ≡ Datum → option_map (key_of (type_in o s s.kind)) (import_in o s s.kind) ≡ Some k → ⊥
  no_import o s k d h = absurd (let q : None ≡ Some k = sym (ap (λ kind. option_map (key_of (type_in o s kind)) (import_in o s kind)) d) ∙ h in grind arith)

  -- an import has the type of its symbol's kind, and a datum has none
  pub import_type : (r : InputSymbol) → Known objects r → (k : ImportKey) → r.import ≡ Some k → (kind : SymbolKind) → r.symbol.kind ≡ kind
      → (kind ≡ Function → is_function_type k.type ≡ true) × (kind ≡ GlobalVar → is_global_type k.type ≡ true) × (kind ≡ Datum → ⊥)
  import_type r (inl x) k h kind e = absurd (let q : None ≡ Some k = sym (ap (λ (w : InputSymbol). w.import) x.is) ∙ h in grind arith)
  import_type r (inr x) k h kind e =
      let o = x.object in
      let s = x.symbol.symbol in
      let q = import_some (key_of (type_in o s s.kind)) (import_in o s s.kind) k (sym (ap (λ (w : InputSymbol). w.import) x.symbol.is) ∙ h) in
      let t : k.type ≡ type_in o s s.kind = sym (ap (λ (w : ImportKey). w.type) q.1) in
      let sk : s.kind ≡ kind = sym (ap (λ (w : InputSymbol). w.symbol.kind) x.symbol.is) ∙ e in
      let stood = sym (ap (λ (w : InputSymbol). w.import) x.symbol.is) ∙ h in
      (λ f. ap is_function_type (t ∙ type_kind o s Function (sk ∙ f)), λ g. ap is_global_type (t ∙ type_kind o s GlobalVar (sk ∙ g)), λ d. no_import o s k (sk ∙ d) stood)

  module _ (o : Object) (ho : Has objects o) (ref : Ref) (n : Names plan.allow_undefined objects o ref) where
    e_kind : ref.entry.symbol.kind ≡ n.is.symbol.kind
    e_kind = ap (λ (w : InputSymbol). w.symbol.kind) n.is.entry

    is_call : ref.kind ≡ 0 → ref.entry.symbol.kind ≡ Function
    is_call z = e_kind ∙ n.function (sym n.is.kind_is ∙ z)

    is_global : is_kind GlobalVar ref.entry ≡ true → ref.entry.symbol.kind ≡ GlobalVar
    is_global t = code_kind ref.entry.symbol.kind GlobalVar (eqb-true (kind_code ref.entry.symbol.kind) (kind_code GlobalVar) t)

    entry_is_known : Known objects ref.entry
    entry_is_known = inr (record { object = o; there = ho; symbol = record { place = n.place; symbol = n.is.symbol; there = n.is.there; is = n.is.entry } })

    listed : is_entry ref.entry ≡ true → Has es ref.entry
    listed t = symbol_listed objects o ref.entry ho n.is.listed t

    in_all : (d : InputSymbol) → Has (named es (name_of ref.entry)) d → Has es d
    in_all d h = (has_filter (is_named (name_of ref.entry)) es d h).0

    definition : (d : InputSymbol) → Known objects d → d.defines ≡ true → d.symbol.kind ≡ ref.entry.symbol.kind → SoundHere p ref d
    definition d k t s = record { made = known_made d k; function = λ z. s ∙ is_call z; global = λ z g. s ∙ is_global g; kept = kept d k t }

    null_no_global : may_be_null ref.entry ≡ true → is_kind GlobalVar ref.entry ≡ true → ⊥
    null_no_global w g = absurd (no (kind_code ref.entry.symbol.kind) (is_weak ref.entry.symbol) (eqb-true (kind_code ref.entry.symbol.kind) 2 g) w)
      where
        no : (code : ℕ) (b : Bool) → code ≡ 2 → (b && ((code == 0) || (code == 1))) ≡ true → ⊥
        no code b z h = grind arith

    pub meant : (m : Meaning) → meaning Plain no_uses plan.allow_undefined es ref.entry ≡ m → Means es ref.entry m → SoundMeaning p ref m
    meant (here d) q (inl x) = let h = in_all d x.1.0 in definition d (entry_known objects d h) x.1.1 (one_kind plan.loose_calls es d ref.entry clear (listed x.0) x.1.0)
    meant (here d) q (inr (inl x)) = let z : d ≡ ref.entry = here_is d ref.entry x.0 in definition d (subst (Known objects) (sym z) entry_is_known) (ap (λ (w : InputSymbol). w.defines) z ∙ x.1) (ap (λ (w : InputSymbol). w.symbol.kind) z)
      where
        here_is : (a b : InputSymbol) → here a ≡ here b → a ≡ b
        here_is a b h = grind arith
    meant (here d) q (inr (inr x)) = absurd (grind arith)
    meant (imported k) q (inl x) =
        let r = x.1.0 in
        let same = one_kind plan.loose_calls es r ref.entry clear (listed x.0) x.1.1 in
        let t = import_type r (entry_known objects r (in_all r x.1.1)) k x.1.2 ref.entry.symbol.kind same in
        record { listed = meaning_listed o ho ref.entry k n.is.listed q; function = λ z. t.0 (is_call z); global = λ z g. t.1 (is_global g) }
    meant (imported k) q (inr (inl x)) = absurd (let z = x.0 in grind arith)
    meant (imported k) q (inr (inr x)) = absurd (grind arith)
    meant null q (inl x) = record {
      entry = ref.entry;
      listed = has_left p.entries p.variants ref.entry (subst (λ xs. Has xs ref.entry) (sym entries_are) (listed x.0));
      name = refl;
      function = λ z. ap (λ k. kind_code k == kind_code Function) (is_call z);
      global = null_no_global x.1;
    }
    meant null q (inr (inl x)) = absurd (let z = x.0 in grind arith)
    meant null q (inr (inr x)) = absurd (grind arith)
    meant nothing q x = tt

    pub sound_ref : (part : Part) → (ref.kind ≡ 7 → part.chunk.kind ≡ 0) → SoundRef p part ref
    sound_ref part code = record {
      known = λ m. subst (λ ws. Has (flat_map (λ (r : Resolved). r.symbols) ws) ref.entry) (sym resolved_is) (flat_has (λ (r : Resolved). r.symbols) rs (res o) ref.entry (map_has res objects o ho) n.is.listed);
      code = code;
      meant = subst (SoundMeaning p ref) (sym n.is.meant) (meant (meaning Plain no_uses plan.allow_undefined es ref.entry) refl (means plan.allow_undefined es ref.entry));
    }

    -- what it means, where it is a definition, is known
    pub means_known : (m : Meaning) (e : InputSymbol) → Means es ref.entry m → meant_entry m ≡ Some e → Known objects e × (e.defines ≡ true)
    means_known (here d) e (inl x) h = subst (λ w. Known objects w × (w.defines ≡ true)) (some_is d e h) (entry_known objects d (in_all d x.1.0), x.1.1)
    means_known (here d) e (inr (inl x)) h = let z : ref.entry ≡ d = let w = x.0 in grind arith in subst (λ w. Known objects w × (w.defines ≡ true)) (z ∙ some_is d e h) (entry_is_known, x.1)
    means_known (here d) e (inr (inr x)) h = absurd (grind arith)
    means_known (imported k) e x h = absurd (grind arith)
    means_known null e x h = absurd (grind arith)
    means_known nothing e x h = absurd (grind arith)

  -- ---- where references stand

  pub record Stands (part : Part) (ref : Ref) : Type 0 where
    pub object : Object
    pub there : Has objects object
    pub names : Names plan.allow_undefined objects object ref
    pub code : ref.kind ≡ 7 → part.chunk.kind ≡ 0

  in_object : (o : Object) → Has objects o → (part : Part) (ref : Ref) → Stood all objects (res o) part → Has (refs part) ref → Stands part ref
  in_object o ho part ref (as_function k f hf e) h =
      let q = has_pick (operand_named (res o)) f.operands (a_symbol ref) (refs_named (function_part all objects (res o) k f) ref (subst (λ (x : Part). Has (refs x) ref) e h)) in
      let names = all_has (OperandNames o) f.operands (all_has (λ (g : FunctionDef). All (OperandNames o) g.operands) o.functions (loaded.each o ho).1.operand_names f (has_at o.functions k f hf)) q.0 q.1 in
      record { object = o; there = ho; names = operand_names plan.allow_undefined objects o q.0 ref names q.2; code = λ z. ap (λ (x : Part). x.chunk.kind) e }
  in_object o ho part ref (as_segment k g hg e) h =
      let q = has_pick (window_named (res o)) g.windows (a_symbol ref) (refs_named (segment_part all objects (res o) k g) ref (subst (λ (x : Part). Has (refs x) ref) e h)) in
      let names = all_has (WindowNames o) g.windows (all_has (λ (g : SegmentDef). All (WindowNames o) g.windows) o.segments (loaded.each o ho).1.window_names g (has_at o.segments k g hg)) q.0 q.1 in
      let w = window_names plan.allow_undefined objects o q.0 ref names q.2 in
      record { object = o; there = ho; names = w.0; code = λ z. absurd (w.1 z) }
  in_object o ho part ref (as_global k g hg e) h = absurd (subst (λ (x : Part). Has (refs x) ref) e h)

  symbol_is : (a b : Ref) → a_symbol a ≡ a_symbol b → a ≡ b
  symbol_is a b h = grind arith

  of_calls : (ref : Ref) (b : Bool) → Has (cond b (map a_symbol (init_calls rs)) []) (a_symbol ref) → Has (init_calls rs) ref
  of_calls ref true h = let m = has_map a_symbol (init_calls rs) (a_symbol ref) h in subst (Has (init_calls rs)) (symbol_is m.0 ref m.2) m.1
  of_calls ref false h = absurd h

  record Called (ref : Ref) : Type 0 where
    object : Object
    there : Has objects object
    names : Names plan.allow_undefined objects object ref
    call : ref.kind ≡ 0

  called : (part : Part) (ref : Ref) → MadeAs (init_calls rs) part → Has (refs part) ref → Called ref
  called part ref m h =
      let named = refs_named (made_as (init_calls rs) m.place m.symbol m.kind) ref (subst (λ (x : Part). Has (refs x) ref) m.is h) in
      let r = calls_are rs ref (of_calls ref ((m.kind == 0) && (m.place == 0)) named) in
      let b = has_map res objects r.0 r.1 in
      let i = inits_name plan.allow_undefined objects b.0 (loaded.each b.0 b.1).0 (loaded.each b.0 b.1).1 r.2 (subst (λ w. Has (init_calls_in w) r.2) (sym b.2) r.3) in
      record { object = b.0; there = b.1; names = subst (Names plan.allow_undefined objects b.0) r.4 i.0; call = sym (ap (λ (w : Ref). w.kind) r.4) ∙ i.1 }

  -- the linker's functions call
  pub made_calls : (part : Part) (ref : Ref) → MadeAs (init_calls rs) part → Has (refs part) ref → ref.kind ≡ 0
  made_calls part ref m h = (called part ref m h).call

  in_made : (part : Part) (ref : Ref) → MadeAs (init_calls rs) part → Has (refs part) ref → Stands part ref
  in_made part ref m h = let c = called part ref m h in record { object = c.object; there = c.there; names = c.names; code = λ z. absurd (let k : ref.kind ≡ 0 = c.call in omega (arith, z, k)) }

  pub stands_ref : (part : Part) (ref : Ref) → Has p.parts part → Has (refs part) ref → Stands part ref
  unfolding parts_of
  stands_ref part ref h r =
      ⊎_elim (λ m. in_made part ref m r) (λ b. in_object b.0 b.1 part ref (stood all objects (res b.0) part b.2) r)
      (made_or_object all objects res (λ o. refl) (init_calls rs) part (subst (λ xs. Has xs part) parts_are h))

  -- a reference names a symbol of an object, with its meaning
  pub names_symbol : (part : Part) (ref : Ref) → Has p.parts part → Has (refs part) ref → IsSymbolOf p.resolved ref.entry ref.meaning
  names_symbol part ref h r =
      let s = stands_ref part ref h r in
      let mean = meaning Plain no_uses plan.allow_undefined es in
      let i = at_has rs (res s.object) (map_has res objects s.object s.there) in
      let k = at_has (symbols_of objects s.object) ref.entry s.names.is.listed in (
        i.0,
        k.0,
        res s.object,
        ap (λ ws. slice_get ws i.0) resolved_is ∙ i.1,
        k.1,
        slice_get-map mean (symbols_of objects s.object) k.0 ∙ ap (option_map mean) k.1 ∙ ap (λ m. Some m) (sym s.names.is.meant),
      )

  pub meant_known : (e : InputSymbol) → Has (meant_entries p) e → Known objects e × (e.defines ≡ true)
  meant_known e h =
      let q = has_pick (λ (ref : Ref). meant_entry ref.meaning) (refs_of p.parts) e h in
      let f = has_flat refs p.parts q.0 q.1 in
      let s = stands_ref f.0 q.0 f.1 f.2 in
      means_known s.object s.there q.0 s.names (meaning Plain no_uses plan.allow_undefined es q.0.entry) e (means plan.allow_undefined es q.0.entry) (ap meant_entry (sym s.names.is.meant) ∙ q.2)

  sound : Sound p
  unfolding parts_of
  sound = record {
    apart = subst (Apart same_part) (sym parts_are) (parts_apart all objects res (λ o. refl) (init_calls rs) loaded.rise);
    one = λ e f he hf t. one_entry objects loaded.rise e f (meant_known e he).0 (meant_known f hf).0 t;
    refs = λ part ref h r. let s = stands_ref part ref h r in sound_ref s.object s.there ref s.names part s.code;
  }

  -- ---- exports

  winner_is : (e : InputSymbol) → Has (winners_of es) e → Has es e × (e.defines ≡ true)
  unfolding winners_of
  winner_is e h = let f = has_filter (is_winner es) es e h in (f.0, by_winner (winner es (name_of e)) refl f.0 f.1)
    where
      by_winner : (o : Option InputSymbol) → winner es (name_of e) ≡ o → Has es e → is_that e o ≡ true → e.defines ≡ true
      by_winner None q he t = absurd (grind arith)
      by_winner (Some w) q he t =
          let z = winner_has es (name_of e) w q in
          let same = one_entry objects loaded.rise e w (entry_known objects e he) (entry_known objects w z.0) t in
          ap (λ (x : InputSymbol). x.defines) same ∙ z.1

  winners_are : p.winners ≡ winners_of es
  winners_are = refl

  pub export_is : (e : InputSymbol) → Has (exported Plain p) e → Has es e × (e.defines ≡ true)
  unfolding exported
  export_is e h = winner_is e (subst (λ ws. Has ws e) winners_are (has_filter (is_exported_by p.plan) p.winners e h).0)

  sound_exports : SoundExports p (exported Plain p)
  sound_exports = record {
    each = λ e h. let q = export_is e h in let k = entry_known objects e q.0 in record { made = known_made e k; kept = kept e k q.1 };
    one = λ e f he hf t. one_entry objects loaded.rise e f (entry_known objects e (export_is e he).0) (entry_known objects f (export_is f hf).0) t;
  }

  pub both : Sound p × SoundExports p (exported Plain p)
  both = (sound, sound_exports)

pub all_sound : ProgramsAreSound
all_sound plan files all objects loaded clear = both plan files all objects loaded clear
