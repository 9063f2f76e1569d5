-- The program of the loaded objects of a shared output is sound, where no names clash.
use Rattle.std.proofs.Common.{◌≡◌, ℕ, ◌-◌, List, ◌++◌, map, Some, None, true, false, refl, sym, ap, ◌∙◌, subst, inl, inr, ⊎_elim, arith}
use Rattle.std.specs.Prelude.{◌⊎◌, slice_get, filter, filter_map, flat_map}
use Rattle.std.proofs.lemmas.Bool.{eqb-true}
use Rattle.list_places.specs.Has.{Has, Apart}
use Rattle.list_places.proofs.Lists.{all_has, has_at, has_either, has_right, has_filter, filter_has, has_flat, flat_has, has_pick, pick_has, some_is}
use Rattle.wl_base.specs.Choice.{distinct}
use Rattle.linking_section.specs.declared.symbol.SymbolKind.TheVariants.{GlobalVar}
use Rattle.linking_section.specs.Flags.{kind_code}
use Rattle.object_file.specs.declared.object.Object.{Object}
use Rattle.object_file.specs.Sound.{Sound as ObjectSound}
use Rattle.made_symbols.specs.Made.{made}
use Rattle.made_symbols.specs.declared.mode.Mode.TheVariants.{Shared}
use Rattle.mark_bits.specs.declared.chunk.Chunk.{Chunk}
use Rattle.name_rules.specs.Entries.{InputSymbol, ImportKey, is_kind, is_entry, name_of, named, is_named, entries, symbols_of, made_from, same_import}
use Rattle.name_rules.specs.Meanings.{Meaning, here, imported, null, nothing, Resolved, Uses, uses_of, resolved_in, resolve}
use Rattle.name_rules.specs.Cases.{clash_by}
use Rattle.name_rules.specs.Further.{is_here}
use Rattle.round_rules.specs.Rounds.{Candidate}
use Rattle.link_plan.specs.declared.plan.Plan.{Plan}
use Rattle.shared_links.specs.link_program.declared.home.Home.{Home}
use Rattle.shared_links.specs.link_program.Loaded.{IsLoaded, IsReadFrom}
use Rattle.shared_links.specs.link_program.Stand.{PartStandsBy, IsSymbolOf}
use Rattle.shared_links.specs.program_build.Standing.{StrictPartsStand, LoadedPartsStand}
use Rattle.link_rules.specs.Program.{Program, Part, Ref, refs, strict_program, program_of, loosened, parts_of, made_parts_from, init_calls, winners_of, chunk_of}
use Rattle.link_rules.specs.Marks.{live, refs_of, exported}
use Rattle.link_rules.specs.Keys.{imports_in_order, import_of, is_global_type}
use Rattle.shared_links.specs.link_worlds.Sound.{Sound, SoundRef, SoundMeaning, SoundExports, PartOf, same_part, meant_entry, meant_entries}
use Rattle.shared_links.proofs.link_worlds_lemmas.Keys.{import_equal, imports_same}
use Rattle.shared_links.proofs.link_worlds_lemmas.Live.{live_part}
use Rattle.shared_links.proofs.link_worlds_lemmas.Refs.{distinct_has}
use Rattle.shared_links.proofs.link_facts_lemmas.Symbols.{is_symbol, positive}
use Rattle.shared_links.proofs.link_facts_lemmas.Meant.{one_kind, code_kind}
use Rattle.shared_links.proofs.link_facts_lemmas.Parts.{made_behind, object_parts, of_some_object, input_of}
use Rattle.shared_links.proofs.link_facts_lemmas.Loosened.{ref_by, IsChanged, changed_or_not, kind_is, chunk_is, came, ref_came, loose_sound, loose_exports}
use Rattle.shared_links.proofs.shared_laws_lemmas.Kept.{parts_apart}
use Rattle.shared_links.proofs.shared_laws_lemmas.Programs.{Named, named_in}
use Rattle.shared_types.specs.Linked.{HasEntries}
use Rattle.shared_facts.proofs.Entries.{Known, entry_known, known_index, linkers_known, linkers_listed, one_known, winner_is, made_global}
use Rattle.shared_facts.proofs.Kept.{kept}
use Rattle.shared_facts.proofs.Refs.{Strict, strict_ref, made_call}
use Rattle.shared_facts.proofs.Meant.{Means, by_name, itself, no_meaning, means, no_null, local_here, called_no_address, import_function, import_global}

here_is : (a b : InputSymbol) → here a ≡ here b → a ≡ b
here_is a b h = grind arith

module _ (strict_law : StrictPartsStand) (stand_law : LoadedPartsStand) (plan : Plan) (files : List (List ℕ)) (all : List Candidate) (objects : List Object) (homes : List Home) (loaded : IsLoaded files all objects homes)
    (clear : clash_by plan.loose_calls (entries Shared objects) ≡ None) where
  abbrev pub q : Program
  q = strict_program Shared plan files all objects

  abbrev p : Program
  p = program_of Shared plan files all objects

  abbrev es : List InputSymbol
  es = entries Shared objects

  abbrev uses : Uses
  uses = uses_of Shared objects

  abbrev pub res : Object → Resolved
  res o = resolved_in Shared uses plan.allow_undefined es objects o

  abbrev calls : List Ref
  calls = init_calls (map res objects)

  pub sound_in : (o : Object) → Has objects o → (size : ℕ) × ObjectSound size o
  sound_in o ho =
      let each = all_has (λ (o : Object). (c : Candidate) × (slice_get all (o.input - 1) ≡ Some c) × IsReadFrom files c o) objects loaded.each o ho in
      (each.0.len, each.2.sound)

  pub parts_are : q.parts ≡ made_parts_from calls 0 (made Shared) ++ object_parts all objects res (λ o. refl) calls objects
  unfolding resolve parts_of
  parts_are = refl

  pub symbol_in : (part : Part) (ref : Ref) → Has q.parts part → Has (refs part) ref → IsSymbolOf q.resolved ref.entry ref.meaning
  symbol_in part ref h r =
      all_has (λ (ref : Ref). IsSymbolOf q.resolved ref.entry ref.meaning) (refs part)
      (all_has (PartStandsBy q (λ (ref : Ref). IsSymbolOf q.resolved ref.entry ref.meaning)) q.parts (strict_law Shared plan files all objects homes loaded) part h).refs ref r

  abbrev IsKnown : InputSymbol → Type 0
  IsKnown e = Known objects loaded.rise e

  kept_in : (e : InputSymbol) → IsKnown e → e.defines ≡ true → (c : Chunk) → chunk_of e ≡ Some c → PartOf q.parts c
  kept_in e k d c t = subst (λ xs. PartOf xs c) (sym parts_are) (kept all objects res (λ o. refl) calls loaded.rise sound_in e k d c t)

  -- ---- a reference before calls are loosened

  module _ (part : Part) (ref : Ref) (h : Has (strict_program Shared plan files all objects).parts part) (r : Has (refs part) ref) where
    pub names : Named stand_law plan files all objects homes loaded ref.entry ref.meaning
    unfolding program_of
    names = named_in stand_law plan files all objects homes loaded ref.entry ref.meaning (symbol_in part ref h r)

    pub is_meant : Means uses es ref.entry ref.meaning
    is_meant = subst (Means uses es ref.entry) names.means (means uses plan.allow_undefined es ref.entry)

    pub strict : Strict objects part ref
    strict = strict_ref uses plan.allow_undefined es all objects sound_in part (subst (λ xs. Has xs part) parts_are h) ref r

    pub itself_known : IsKnown ref.entry
    itself_known = inr (record { object = names.object; there = names.there; symbol = is_symbol objects names.object ref.entry names.symbol })

    pub listed : is_entry ref.entry ≡ true → Has (entries Shared objects) ref.entry
    unfolding entries
    listed t =
        has_right (made_from 0 (made Shared)) (filter is_entry (flat_map (symbols_of objects) objects)) ref.entry
        (filter_has is_entry (flat_map (symbols_of objects) objects) ref.entry (flat_has (symbols_of objects) objects names.object ref.entry names.there names.symbol) t)

    among : (d : InputSymbol) → Has (named es (name_of ref.entry)) d → Has es d
    among d k = (has_filter (is_named (name_of ref.entry)) es d k).0

    one : is_entry ref.entry ≡ true → (d : InputSymbol) → Has (named es (name_of ref.entry)) d → d.symbol.kind ≡ ref.entry.symbol.kind
    one t d k = one_kind plan.loose_calls es d ref.entry clear (listed t) k

    is_global : is_kind GlobalVar ref.entry ≡ true → ref.entry.symbol.kind ≡ GlobalVar
    is_global t = code_kind ref.entry.symbol.kind GlobalVar (eqb-true (kind_code ref.entry.symbol.kind) (kind_code GlobalVar) t)

    -- what it means, where that is a definition
    pub known_here : (m : Meaning) → Means uses es ref.entry m → (e : InputSymbol) → m ≡ here e → IsKnown e × (e.defines ≡ true) × (e.symbol.kind ≡ ref.entry.symbol.kind)
    known_here (here d) (by_name t x) e w = subst (λ (z : InputSymbol). IsKnown z × (z.defines ≡ true) × (z.symbol.kind ≡ ref.entry.symbol.kind)) (here_is d e w) (entry_known objects loaded.rise d (among d x.0), x.1, one t d x.0)
    known_here (here d) (itself n z y) e w = subst (λ (z : InputSymbol). IsKnown z × (z.defines ≡ true) × (z.symbol.kind ≡ ref.entry.symbol.kind)) (sym (here_is d ref.entry z) ∙ here_is d e w) (itself_known, y, refl)
    known_here (here d) (no_meaning n z) e w = absurd (grind arith)
    known_here (imported k) x e w = absurd (grind arith)
    known_here null x e w = absurd (grind arith)
    known_here nothing x e w = absurd (grind arith)

    import_listed : (k : ImportKey) → ref.meaning ≡ imported k → Has (imports_in_order q) k
    unfolding imports_in_order
    import_listed k m =
        let s = symbol_in part ref h r in
        let meanings = flat_map (λ (r : Resolved). r.meanings) q.resolved in
        let there : Has meanings (imported k) = flat_has (λ (r : Resolved). r.meanings) q.resolved s.2 (imported k) (has_at q.resolved s.0 s.2 s.3) (has_at s.2.meanings s.1 (imported k) (s.5 ∙ ap Some m)) in
        let d = distinct_has same_import imports_same (filter_map import_of meanings) k (pick_has import_of meanings (imported k) k there refl) in
        subst (Has (distinct same_import (filter_map import_of meanings))) (sym (import_equal k d.0 d.2)) d.1

    meaning_sound : (m : Meaning) → ref.meaning ≡ m → Means uses es ref.entry m → SoundMeaning q ref m
    meaning_sound (here e) w x =
        let k = known_here (here e) x e refl in
        record {
          made = known_index objects loaded.rise e k.0;
          function = λ z. k.2 ∙ (strict.call z).function;
          global = λ z g. k.2 ∙ is_global g;
          kept = kept_in e k.0 k.1;
        }
    meaning_sound (imported k) w (by_name t (inl x)) =
        let known = entry_known objects loaded.rise x.0 (among x.0 x.1) in
        let same = one t x.0 x.1 in
        record {
          listed = import_listed k w;
          function = λ z. import_function objects loaded.rise x.0 known k x.2 (same ∙ (strict.call z).function);
          global = λ z g. import_global objects loaded.rise x.0 known k x.2 (same ∙ is_global g);
        }
    meaning_sound (imported k) w (by_name t (inr x)) = record {
      listed = import_listed k w;
      function = λ z. absurd (called_no_address uses ref.entry (strict.call z).function ((strict.call z).called t) x.0);
      global = λ z g. subst (λ (k : ImportKey). is_global_type k.type ≡ true) x.1 refl;
    }
    meaning_sound (imported k) w (itself n z y) = absurd (grind arith)
    meaning_sound (imported k) w (no_meaning n z) = absurd (grind arith)
    meaning_sound null w x = absurd (no_null uses es ref.entry x)
    meaning_sound nothing w x = tt

    ref_sound : SoundRef q part ref
    ref_sound =
        let s = symbol_in part ref h r in
        record {
          known = λ m. flat_has (λ (r : Resolved). r.symbols) q.resolved s.2 ref.entry (has_at q.resolved s.0 s.2 s.3) (has_at s.2.symbols s.1 ref.entry s.4);
          code = strict.code;
          meant = meaning_sound ref.meaning refl is_meant;
        }

  as_here : (m : Meaning) (e : InputSymbol) → meant_entry m ≡ Some e → m ≡ here e
  as_here (here d) e t = ap here (some_is d e t)
  as_here (imported k) e t = absurd (grind arith)
  as_here null e t = absurd (grind arith)
  as_here nothing e t = absurd (grind arith)

  meant_known : (e : InputSymbol) → Has (meant_entries q) e → IsKnown e
  meant_known e h =
      let x = has_pick (λ (ref : Ref). meant_entry ref.meaning) (refs_of q.parts) e h in
      let f = has_flat refs q.parts x.0 x.1 in
      (known_here f.0 x.0 f.1 f.2 x.0.meaning (is_meant f.0 x.0 f.1 f.2) e (as_here x.0.meaning e x.2)).0

  strict_sound : Sound q
  strict_sound = record {
    apart = subst (Apart same_part) (sym parts_are) (parts_apart all objects res (λ o. refl) calls loaded.rise);
    one = λ e f he hf t. one_known objects loaded.rise e f (meant_known e he) (meant_known f hf) t;
    refs = ref_sound;
  }

  pub sound : Sound p
  unfolding program_of
  sound = loose_sound q refl symbol_in strict_sound

  -- ---- exports

  pub export_is : (e : InputSymbol) → Has (exported Shared p) e → Has es e × (e.defines ≡ true)
  unfolding exported program_of
  export_is e h = winner_is objects loaded.rise e (has_filter _ (winners_of es) e h).0

  strict_exports : SoundExports q (exported Shared p)
  strict_exports = record {
    each = λ e h. let x = export_is e h in let k = entry_known objects loaded.rise e x.0 in record { made = known_index objects loaded.rise e k; kept = kept_in e k x.1 };
    one = λ e f he hf t. one_known objects loaded.rise e f (entry_known objects loaded.rise e (export_is e he).0) (entry_known objects loaded.rise f (export_is f hf).0) t;
  }

  pub sound_exports : SoundExports p (exported Shared p)
  unfolding program_of
  sound_exports = loose_exports q refl symbol_in (exported Shared (loosened q)) strict_exports

  -- ---- references as they are when calls are loosened

  pub record Before (part : Part) (ref : Ref) : Type 0 where
    pub part_before : Part
    pub there : Has q.parts part_before
    pub chunk : part_before.chunk ≡ part.chunk
    pub ref_before : Ref
    pub listed : Has (refs part_before) ref_before
    pub is : ref_by q.entries plan.loose_calls ref_before ≡ ref

  pub before : (part : Part) (ref : Ref) → Has p.parts part → Has (refs part) ref → Before part ref
  unfolding program_of
  before part ref h r =
      let x = came q refl symbol_in part h in
      let c = ref_came q refl symbol_in x.0 ref (subst (λ (w : Part). Has (refs w) ref) (sym x.2) r) in
      record {
        part_before = x.0;
        there = x.1;
        chunk = sym (chunk_is q.entries plan.loose_calls x.0) ∙ ap (λ (w : Part). w.chunk) x.2;
        ref_before = c.0;
        listed = c.1;
        is = c.2;
      }

  -- one that isn't a call of a null function is as it was
  unchanged : (part : Part) (ref : Ref) (b : Before part ref) → ((ref.kind ≡ 0) × (ref.meaning ≡ null) → ⊥) → b.ref_before ≡ ref
  unchanged part ref b other =
      ⊎_elim
      (λ (c : IsChanged q.entries plan.loose_calls b.ref_before).
      absurd (other (sym (ap (λ (w : Ref). w.kind) b.is) ∙ kind_is q.entries plan.loose_calls b.ref_before ∙ eqb-true b.ref_before.kind 0 c.loose.calls, sym (ap (λ (w : Ref). w.meaning) b.is) ∙ ap (λ (w : Ref). w.meaning) c.is)))
      (λ same. sym same ∙ b.is)
      (changed_or_not q.entries plan.loose_calls b.ref_before)

  here_no_null : (m : Meaning) (e : InputSymbol) → m ≡ here e → m ≡ null → ⊥
  here_no_null m e a b = absurd (let z : here e ≡ null = sym a ∙ b in grind arith)

  pub meant_here : (part : Part) (ref : Ref) (e : InputSymbol) → Has p.parts part → Has (refs part) ref → ref.meaning ≡ here e → IsKnown e × (e.defines ≡ true) × (e.symbol.kind ≡ ref.entry.symbol.kind)
  meant_here part ref e h r m =
      let b = before part ref h r in
      let same = unchanged part ref b (λ n. here_no_null ref.meaning e m n.1) in
      let there = subst (Has (refs b.part_before)) same b.listed in
      known_here b.part_before ref b.there there ref.meaning (is_meant b.part_before ref b.there there) e m

  local : (part : Part) (ref : Ref) → Has p.parts part → Has (refs part) ref → ref.kind ≡ 7 → is_entry ref.entry ≡ false → (ref.meaning ≡ nothing → ⊥) → is_here ref.meaning ≡ true
  local part ref h r z n known =
      let b = before part ref h r in
      let same = unchanged part ref b (λ w. let k = w.0 in omega (arith, k, z)) in
      let there = subst (Has (refs b.part_before)) same b.listed in
      local_here uses es ref.entry ref.meaning (is_meant b.part_before ref b.there there) n known

  pub calls_call : (part : Part) (ref : Ref) → Has p.parts part → part.chunk.input ≡ 0 → Has (refs part) ref → ref.kind ≡ 0
  calls_call part ref h z r =
      let b = before part ref h r in
      let i : b.part_before.chunk.input ≡ 0 = ap (λ (c : Chunk). c.input) b.chunk ∙ z in
      let m = ⊎_elim
      (λ a. (made_behind calls 0 (made Shared) b.part_before a).0)
      (λ a. let o = of_some_object all objects res (λ o. refl) calls objects b.part_before a in
      absurd (positive objects loaded.rise o.0 o.1 (sym (input_of all objects res (λ o. refl) calls o.0 b.part_before o.2) ∙ i)))
      (has_either (made_parts_from calls 0 (made Shared)) (object_parts all objects res (λ o. refl) calls objects) b.part_before (subst (λ xs. Has xs b.part_before) parts_are b.there)) in
      let c = made_call uses plan.allow_undefined es all objects sound_in b.part_before m b.ref_before b.listed in
      sym (ap (λ (w : Ref). w.kind) b.is) ∙ kind_is q.entries plan.loose_calls b.ref_before ∙ c.1

  entries_are : p.entries ≡ es
  unfolding program_of
  entries_are = refl

  pub has_entries : (x : List InputSymbol) → x ≡ exported Shared p → ((part : Part) (ref : Ref) → Has (live p x) part → Has (refs part) ref → ref.meaning ≡ nothing → ⊥) → HasEntries p x
  has_entries x same resolved = record {
    globals = λ e h z t. made_global 0 (made Shared) e (linkers_known objects loaded.rise e (entry_known objects loaded.rise e (subst (λ xs. Has xs e) entries_are h)) z) t;
    meant = λ part ref e h r m z. subst (λ xs. Has xs e) (sym entries_are) (linkers_listed objects loaded.rise e (meant_here part ref e (live_part p x part h) r m).0 z);
    exported = λ e h. subst (λ xs. Has xs e) (sym entries_are) (export_is e (subst (λ xs. Has xs e) same h)).0;
    local = λ part ref h r z n. local part ref (live_part p x part h) r z n (resolved part ref h r);
  }
