-- A program is as sound, and has all the facts, when its calls are loosened.
use Rattle.std.proofs.Common.{◌≡◌, ℕ, ◌≤◌, List, [], ◌∷◌, map, Option, Some, None, Bool, true, false, cond, refl, sym, ap, ◌∙◌, subst, inl, inr, ⊎_elim, ◌⊎◌, arith}
use Rattle.std.specs.Prelude.{◌==◌, ◌&&◌, not, option_map, IsTrue}
use Rattle.std.proofs.lemmas.Bool.{and_parts, eqb-true}
use Rattle.list_places.specs.Has.{Has, Apart}
use Rattle.list_places.proofs.Lists.{has_at, has_left, has_right, has_either, has_map, map_has, has_pick, pick_has, has_flat, flat_has}
use Rattle.wasm_instr.specs.declared.body.Placed.{Placed}
use Rattle.wasm_instr.specs.declared.instr.Instr.{Instr}
use Rattle.wasm_instr.specs.declared.instr.Instr.TheVariants.{GlobalAt}
use Rattle.wasm_instr.specs.Bodies.{SpellsBody}
use Rattle.linking_section.specs.declared.symbol.SymbolKind.TheVariants.{Function, GlobalVar}
use Rattle.body_windows.specs.declared.immediate.Immediate.{Immediate}
use Rattle.body_windows.specs.Immediates.{immediates, may_stand}
use Rattle.mark_bits.specs.declared.chunk.Chunk.{Chunk}
use Rattle.name_rules.specs.Entries.{InputSymbol, name_of, is_kind, is_entry, same_symbol_type}
use Rattle.name_rules.specs.Cases.{passes, judge, may_differ, mismatches}
use Rattle.name_rules.specs.Meanings.{Meaning, here, imported, null, nothing}
use Rattle.output_module.specs.link_rules.Program.{Program, Part, Ref, Named, a_symbol, a_type, refs, same_chunk, is_mismatch, variant, variants_of, loose_ref, loose_named, loose_part, loose_parts, loose_variants, loosened}
use Rattle.output_module.specs.link_rules.Marks.{refs_of}
use Rattle.output_module.specs.link_rules.Keys.{imports_in_order}
use Rattle.output_module.specs.link_rules.Values.{part_bytes}
use Rattle.program_build.specs.link_program.Stand.{PartsStand, IsSymbolOf}
use Rattle.program_build.proofs.link_program_lemmas.Loose.{IsLoosened, loosened_or_not, refs_loose, variant_in}
use Rattle.output_module.specs.link_worlds.Bodies.{named_at, place_of}
use Rattle.output_module.specs.link_worlds.Sound.{Sound, SoundRef, SoundMeaning, SoundExports, PartOf, same_part, meant_entry, meant_entries, IsGlobalPart}
use Rattle.output_module.specs.Filled.{StandsOn, AllStandOn, names_in, Reads, ReadsAt}
use Rattle.output_module.specs.Outputs.{IsCoded}
use Rattle.link_facts.specs.Facts.{Facts, IsReading}

no : false ≡ true → ⊥
no h = grind arith

module _ (all : List InputSymbol) where
  -- ---- a part or a reference, loosened where that is asked

  abbrev pub part_by : Bool → Part → Part
  part_by b part = cond b (loose_part all part) part

  abbrev pub ref_by : Bool → Ref → Ref
  ref_by b ref = cond b (loose_ref all ref) ref

  abbrev pub named_by : Bool → Named → Named
  named_by b n = cond b (loose_named all n) n

  parts_by : (b : Bool) (ps : List Part) → loose_parts b all ps ≡ map (part_by b) ps
  parts_by true ps = refl
  parts_by false [] = refl
  parts_by false (x ∷ xs) = ap (λ r. x ∷ r) (parts_by false xs)

  same_map : {A : Type 0} (xs : List A) → xs ≡ map (λ x. x) xs
  same_map [] = refl
  same_map (x ∷ xs) = ap (λ r. x ∷ r) (same_map xs)

  refs_by : (b : Bool) (part : Part) → refs (part_by b part) ≡ map (ref_by b) (refs part)
  refs_by true part = refs_loose all part
  refs_by false part = same_map (refs part)

  named_is : (b : Bool) (part : Part) → (part_by b part).named ≡ map (named_by b) part.named
  named_is true part = refl
  named_is false part = same_map part.named

  pub chunk_is : (b : Bool) (part : Part) → (part_by b part).chunk ≡ part.chunk
  chunk_is true part = refl
  chunk_is false part = refl

  pub content_is : (b : Bool) (part : Part) → (part_by b part).content ≡ part.content
  content_is true part = refl
  content_is false part = refl

  source_is : (b : Bool) (part : Part) → (part_by b part).source ≡ part.source
  source_is true part = refl
  source_is false part = refl

  -- a reference that is another one then
  pub record IsChanged (b : Bool) (ref : Ref) : Type 0 where
    pub asked : b ≡ true
    pub loose : IsLoosened all ref
    pub is : ref_by b ref ≡ record ref { entry = variant ref.entry; meaning = null }

  pub changed_or_not : (b : Bool) (ref : Ref) → IsChanged b ref ⊎ (ref_by b ref ≡ ref)
  changed_or_not false ref = inr refl
  changed_or_not true ref = elim (loosened_or_not all ref) as (λ _. IsChanged true ref ⊎ (loose_ref all ref ≡ ref)) [
    | inl l ↦ inl (record { asked = refl; loose = l; is = l.is })
    | inr same ↦ inr same
  ]

  pub kind_is : (b : Bool) (ref : Ref) → (ref_by b ref).kind ≡ ref.kind
  kind_is b ref = elim (changed_or_not b ref) as (λ _. (ref_by b ref).kind ≡ ref.kind) [
    | inl c ↦ ap (λ (r : Ref). r.kind) c.is
    | inr same ↦ ap (λ (r : Ref). r.kind) same
  ]

  place_is : (b : Bool) (ref : Ref) → (ref_by b ref).place ≡ ref.place
  place_is b ref = elim (changed_or_not b ref) as (λ _. (ref_by b ref).place ≡ ref.place) [
    | inl c ↦ ap (λ (r : Ref). r.place) c.is
    | inr same ↦ ap (λ (r : Ref). r.place) same
  ]

  is_function : (e : InputSymbol) (m : Meaning) → is_mismatch all e m ≡ true → is_kind Function e ≡ true
  is_function e (here d) is = by (judge all (name_of e)) (and_parts (is_entry e) (passes (λ a. mismatches a e) (judge all (name_of e))) is).1
    where
      by : (o : Option InputSymbol) → passes (λ a. mismatches a e) o ≡ true → is_kind Function e ≡ true
      by None h = absurd (no h)
      by (Some a) h =
          let m = and_parts (may_differ a e) (not (same_symbol_type a.type e.type)) h in
          let f = and_parts (is_kind Function e && a.defines) (not e.defines) m.0 in
          (and_parts (is_kind Function e) a.defines f.0).0
  is_function e (imported k) is = absurd (grind arith)
  is_function e null is = absurd (grind arith)
  is_function e nothing is = absurd (grind arith)

module _ (q : Program) where
  apart_loose : (ps : List Part) → Apart same_part ps → Apart same_part (map (part_by q.entries q.plan.loose_calls) ps)
  apart_loose [] a = tt
  apart_loose (x ∷ xs) a = (
    λ y h t.
        let b = q.plan.loose_calls in
        let r = has_map (part_by q.entries b) xs y h in
        let chunks : same_chunk (part_by q.entries b x).chunk y.chunk ≡ same_chunk x.chunk r.0.chunk =
        ap (λ c. same_chunk c y.chunk) (chunk_is q.entries b x) ∙ ap (λ (w : Part). same_chunk x.chunk w.chunk) (sym r.2) ∙ ap (same_chunk x.chunk) (chunk_is q.entries b r.0) in
        a.0 r.0 r.1 (sym chunks ∙ t),
    apart_loose xs a.1,
  )

  pub loosened_apart : Apart same_part q.parts → Apart same_part (loosened q).parts
  loosened_apart a = subst (Apart same_part) (sym (parts_by q.entries q.plan.loose_calls q.parts)) (apart_loose q.parts a)

module _ (q : Program) (none : q.variants ≡ []) (symbol_of : (part : Part) (ref : Ref) → Has q.parts part → Has (refs part) ref → IsSymbolOf q.resolved ref.entry ref.meaning) where
  abbrev pub b : Bool
  b = q.plan.loose_calls

  abbrev pub l : Program
  l = loosened q

  pub parts_are : l.parts ≡ map (part_by q.entries b) q.parts
  parts_are = parts_by q.entries b q.parts

  pub came : (part : Part) → Has l.parts part → (x : Part) × Has q.parts x × (part_by q.entries b x ≡ part)
  came part h = has_map (part_by q.entries b) q.parts part (subst (λ ps. Has ps part) parts_are h)

  gone : (part : Part) → Has q.parts part → Has l.parts (part_by q.entries b part)
  gone part h = subst (λ ps. Has ps (part_by q.entries b part)) (sym parts_are) (map_has (part_by q.entries b) q.parts part h)

  pub ref_came : (x : Part) (ref : Ref) → Has (refs (part_by q.entries b x)) ref → (r : Ref) × Has (refs x) r × (ref_by q.entries b r ≡ ref)
  ref_came x ref h = has_map (ref_by q.entries b) (refs x) ref (subst (λ rs. Has rs ref) (refs_by q.entries b x) h)

  -- ---- soundness

  kept : (c : Chunk) → PartOf q.parts c → PartOf l.parts c
  kept c o = record { part = part_by q.entries b o.part; there = gone o.part o.there; chunk = chunk_is q.entries b o.part ∙ o.chunk }

  entry_came : (e : InputSymbol) → Has (meant_entries l) e → Has (meant_entries q) e
  entry_came e h =
      let r = has_pick (λ (ref : Ref). meant_entry ref.meaning) (refs_of l.parts) e h in
      let w = has_flat refs l.parts r.0 r.1 in
      let c = came w.0 w.1 in
      let rc = ref_came c.0 r.0 (subst (λ (x : Part). Has (refs x) r.0) (sym c.2) w.2) in
      by r.0 r.2 c.0 c.1 rc.0 rc.1 rc.2 (changed_or_not q.entries b rc.0)
    where
      by : (ref : Ref) → meant_entry ref.meaning ≡ Some e → (x : Part) → Has q.parts x → (r : Ref) → Has (refs x) r → ref_by q.entries b r ≡ ref → IsChanged q.entries b r ⊎ (ref_by q.entries b r ≡ r) → Has (meant_entries q) e
      by ref m x hx r hr is (inl c) = absurd (let z : meant_entry ref.meaning ≡ None = ap (λ (w : Ref). meant_entry w.meaning) (sym is ∙ c.is) in let y : None ≡ Some e = sym z ∙ m in grind arith)
      by ref m x hx r hr is (inr same) =
          pick_has (λ (ref : Ref). meant_entry ref.meaning) (refs_of q.parts) r e (flat_has refs q.parts x r hx hr) (ap (λ (w : Ref). meant_entry w.meaning) (sym same ∙ is) ∙ m)

  module _ (sound : Sound q) where
    meaning_sound : (ref : Ref) (m : Meaning) → SoundMeaning q ref m → SoundMeaning l ref m
    unfolding imports_in_order
    meaning_sound ref (here e) s = record { made = s.made; function = s.function; global = s.global; kept = λ c h. kept c (s.kept c h) }
    meaning_sound ref (imported k) s = record { listed = s.listed; function = s.function; global = s.global }
    meaning_sound ref null s = record {
      entry = s.entry;
      listed = has_left q.entries l.variants s.entry (⊎_elim (λ h. h) (λ h. absurd (subst (λ vs. Has vs s.entry) none h)) (has_either q.entries q.variants s.entry s.listed));
      name = s.name;
      function = s.function;
      global = s.global;
    }
    meaning_sound ref nothing s = tt

    variant_listed : (x : Part) → Has q.parts x → (r : Ref) → Has (refs x) r → IsChanged q.entries b r → Has l.variants (variant r.entry)
    variant_listed x hx r hr c =
        let found = variant_in q.entries q.resolved r.entry r.meaning (symbol_of x r hx hr) c.loose.differs in
        let are : l.variants ≡ variants_of q.entries q.resolved = ap (λ (b : Bool). loose_variants b q.entries q.resolved) c.asked in
        subst (λ vs. Has vs (variant r.entry)) (sym are) (has_at (variants_of q.entries q.resolved) found.0 (variant r.entry) found.1)

    changed_sound : (x : Part) → Has q.parts x → (r : Ref) → Has (refs x) r → IsChanged q.entries b r → SoundRef l (part_by q.entries b x) (record r { entry = variant r.entry; meaning = null })
    changed_sound x hx r hr c =
        let f = is_function q.entries r.entry r.meaning c.loose.differs in
        record {
          known = λ m. absurd (no m);
          code = λ z. subst (λ (k : Chunk). k.kind ≡ 0) (sym (chunk_is q.entries b x)) ((sound.refs x r hx hr).code z);
          meant = record {
            entry = variant r.entry;
            listed = has_right q.entries l.variants (variant r.entry) (variant_listed x hx r hr c);
            name = refl;
            function = λ z. f;
            global = λ g. absurd (let k = eqb-true _ _ f in let j = eqb-true _ _ g in omega (arith, k, j));
          };
        }

    same_sound : (x : Part) → Has q.parts x → (r : Ref) → Has (refs x) r → SoundRef l (part_by q.entries b x) r
    same_sound x hx r hr =
        let s = sound.refs x r hx hr in
        record {
          known = s.known;
          code = λ z. subst (λ (k : Chunk). k.kind ≡ 0) (sym (chunk_is q.entries b x)) (s.code z);
          meant = meaning_sound r r.meaning s.meant;
        }

    ref_sound : (x : Part) → Has q.parts x → (r : Ref) → Has (refs x) r → SoundRef l (part_by q.entries b x) (ref_by q.entries b r)
    ref_sound x hx r hr = elim (changed_or_not q.entries b r) as (λ _. SoundRef l (part_by q.entries b x) (ref_by q.entries b r)) [
      | inl c ↦ subst (SoundRef l (part_by q.entries b x)) (sym c.is) (changed_sound x hx r hr c)
      | inr same ↦ subst (SoundRef l (part_by q.entries b x)) (sym same) (same_sound x hx r hr)
    ]

    pub loose_sound : Sound l
    loose_sound = record {
      apart = loosened_apart q sound.apart;
      one = λ e f he hf t. sound.one e f (entry_came e he) (entry_came f hf) t;
      refs = λ part ref h r.
          let c = came part h in
          let rc = ref_came c.0 ref (subst (λ (x : Part). Has (refs x) ref) (sym c.2) r) in
          subst (λ (x : Part). SoundRef l x ref) c.2 (subst (SoundRef l (part_by q.entries b c.0)) rc.2 (ref_sound c.0 c.1 rc.0 rc.1));
    }

  pub loose_exports : (exports : List InputSymbol) → SoundExports q exports → SoundExports l exports
  loose_exports exports s = record {
    each = λ e h. record { made = (s.each e h).made; kept = λ c k. kept c ((s.each e h).kept c k) };
    one = s.one;
  }

  -- ---- bodies

  bytes_are : (x : Part) → part_bytes l (part_by q.entries b x) ≡ part_bytes q x
  bytes_are x = ap (λ s. part_bytes q (record x { source = s })) (source_is q.entries b x)

  stands_on : (i : Immediate) (o : Option Named) → StandsOn i o → StandsOn i (option_map (named_by q.entries b) o)
  stands_on i None s = s
  stands_on i (Some (a_type w)) s = by b
    where
      by : (b : Bool) → StandsOn i (Some (named_by q.entries b (a_type w)))
      by true = s
      by false = s
  stands_on i (Some (a_symbol ref)) s = by b
    where
      loose : StandsOn i (Some (a_symbol (loose_ref q.entries ref)))
      loose =
          let p = place_is q.entries true ref in
          let k = kind_is q.entries true ref in
          (p ∙ s.0, s.1, subst (λ k. IsTrue (may_stand k i.kind)) (sym k) s.2, λ z. s.3 (sym k ∙ z))

      by : (b : Bool) → StandsOn i (Some (named_by q.entries b (a_symbol ref)))
      by true = loose
      by false = s

  all_on : (is : List Immediate) (os : List (Option Named)) → AllStandOn is os → AllStandOn is (map (option_map (named_by q.entries b)) os)
  all_on [] [] s = tt
  all_on [] (o ∷ os) s = absurd s
  all_on (i ∷ is) [] s = absurd s
  all_on (i ∷ is) (o ∷ os) s = (stands_on i o s.0, all_on is os s.1)

  names_map : (os : List (Option Named)) → map (named_by q.entries b) (names_in os) ≡ names_in (map (option_map (named_by q.entries b)) os)
  names_map [] = refl
  names_map (None ∷ os) = names_map os
  names_map (Some n ∷ os) = ap (λ r. named_by q.entries b n ∷ r) (names_map os)

  pub coded : (x : Part) → IsCoded q x → IsCoded l (part_by q.entries b x)
  coded x c = record {
    body = c.body;
    stands = map (option_map (named_by q.entries b)) c.stands;
    spelled = subst (SpellsBody c.body) (sym (bytes_are x)) c.spelled;
    on = all_on (immediates c.body.code) c.stands c.on;
    named = named_is q.entries b x ∙ ap (map (named_by q.entries b)) c.named ∙ names_map c.stands;
  }

  same_place : (n : Named) → place_of (named_by q.entries b n) ≡ place_of n
  same_place (a_type w) = by b
    where
      by : (b : Bool) → place_of (named_by q.entries b (a_type w)) ≡ w.place
      by true = refl
      by false = refl
  same_place (a_symbol ref) = by b
    where
      by : (b : Bool) → place_of (named_by q.entries b (a_symbol ref)) ≡ ref.place
      by true = place_is q.entries true ref
      by false = refl

  named_there : (ns : List Named) (mid : ℕ) → named_at (map (named_by q.entries b) ns) mid ≡ option_map (named_by q.entries b) (named_at ns mid)
  named_there [] mid = refl
  named_there (n ∷ ns) mid = by (place_of n == mid) (ap (λ k. k == mid) (same_place n)) (named_there ns mid)
    where
      by : (t : Bool) → (place_of (named_by q.entries b n) == mid) ≡ t → named_at (map (named_by q.entries b) ns) mid ≡ option_map (named_by q.entries b) (named_at ns mid)
          → cond (place_of (named_by q.entries b n) == mid) (Some (named_by q.entries b n)) (named_at (map (named_by q.entries b) ns) mid) ≡ option_map (named_by q.entries b) (cond t (Some n) (named_at ns mid))
      by true t rest = ap (λ c. cond c (Some (named_by q.entries b n)) (named_at (map (named_by q.entries b) ns) mid)) t
      by false t rest = ap (λ c. cond c (Some (named_by q.entries b n)) (named_at (map (named_by q.entries b) ns) mid)) t ∙ rest

  global_came : (o : Option Named) (ref : Ref) → option_map (named_by q.entries b) o ≡ Some (a_symbol ref) → (r : Ref) × (o ≡ Some (a_symbol r)) × (is_kind GlobalVar ref.entry ≡ is_kind GlobalVar r.entry)
  global_came None ref h = absurd (grind arith)
  global_came (Some n) ref h = by b n (some_inner h)
    where
      some_inner : Some (named_by q.entries b n) ≡ Some (a_symbol ref) → named_by q.entries b n ≡ a_symbol ref
      some_inner h = grind arith

      symbol_inner : (r s : Ref) → a_symbol r ≡ a_symbol s → r ≡ s
      symbol_inner r s h = grind arith

      entry_kind : (r : Ref) → is_kind GlobalVar (loose_ref q.entries r).entry ≡ is_kind GlobalVar r.entry
      entry_kind r = elim (loosened_or_not q.entries r) as (λ _. is_kind GlobalVar (loose_ref q.entries r).entry ≡ is_kind GlobalVar r.entry) [
        | inl c ↦ ap (λ (w : Ref). is_kind GlobalVar w.entry) c.is
        | inr same ↦ ap (λ (w : Ref). is_kind GlobalVar w.entry) same
      ]

      by : (b : Bool) (n : Named) → named_by q.entries b n ≡ a_symbol ref → (r : Ref) × (Some n ≡ Some (a_symbol r)) × (is_kind GlobalVar ref.entry ≡ is_kind GlobalVar r.entry)
      by true (a_symbol r) h = (r, refl, ap (λ (w : Ref). is_kind GlobalVar w.entry) (sym (symbol_inner (loose_ref q.entries r) ref h)) ∙ entry_kind r)
      by true (a_type w) h = absurd (grind arith)
      by false (a_symbol r) h = (r, refl, ap (λ (w : Ref). is_kind GlobalVar w.entry) (sym (symbol_inner r ref h)))
      by false (a_type w) h = absurd (grind arith)

  reads_at : (ns : List Named) (x : Placed) (i : Instr) → ReadsAt ns x i → ReadsAt (map (named_by q.entries b) ns) x i
  reads_at ns x (GlobalAt op g) r = λ ref at global.
      let c = global_came (named_at ns x.mid) ref (sym (named_there ns x.mid) ∙ at) in r c.0 c.1 (sym c.2 ∙ global)
  reads_at ns x i r = tt

  reading : (x : Part) → IsReading q x → IsReading l (part_by q.entries b x)
  reading x r body spelled at h =
      subst (λ ns. Reads ns at) (sym (named_is q.entries b x)) (reads_at x.named at at.instr (r body (subst (SpellsBody body) (bytes_are x) spelled) at h))

  -- ---- all

  pub loose_facts : (exports : List InputSymbol) → PartsStand l → Facts q exports → Facts l exports
  loose_facts exports stand f = record {
    sound = loose_sound f.sound;
    exported = loose_exports exports f.exported;
    measured = record {
      stand = stand;
      inside = λ e m t n part h c.
          let x = came part h in
          let a = f.measured.inside e (⊎_elim (λ w. inl (entry_came e w)) (λ w. inr w) m) t n x.0 x.1 (sym (chunk_is q.entries b x.0) ∙ ap (λ (w : Part). w.chunk) x.2 ∙ c) in
          let s = sym (source_is q.entries b x.0) ∙ ap (λ (w : Part). w.source) x.2 in
          subst (λ s. e.symbol.offset ≤ s.span.len) s a;
    };
    coded = λ part h z n. let x = came part h in
        let k = ap (λ (w : Part). w.chunk) (sym x.2) ∙ chunk_is q.entries b x.0 in
        subst (IsCoded l) x.2 (coded x.0 (f.coded x.0 x.1 (ap (λ (c : Chunk). c.kind) (sym k) ∙ z) (λ y. n (ap (λ (c : Chunk). c.input) k ∙ y))));
    reads = λ part h z n. let x = came part h in
        let k = ap (λ (w : Part). w.chunk) (sym x.2) ∙ chunk_is q.entries b x.0 in
        subst (IsReading l) x.2 (reading x.0 (f.reads x.0 x.1 (ap (λ (c : Chunk). c.kind) (sym k) ∙ z) (λ y. n (ap (λ (c : Chunk). c.input) k ∙ y))));
    calls = λ part ref h z r. let x = came part h in
        let k = ap (λ (w : Part). w.chunk) (sym x.2) ∙ chunk_is q.entries b x.0 in
        let rc = ref_came x.0 ref (subst (λ (w : Part). Has (refs w) ref) (sym x.2) r) in
        ap (λ (w : Ref). w.kind) (sym rc.2) ∙ kind_is q.entries b rc.0 ∙ f.calls x.0 rc.0 x.1 (ap (λ (c : Chunk). c.input) (sym k) ∙ z) rc.1;
    made = λ part n h t. let x = came part h in
        let k = ap (λ (w : Part). w.chunk) (sym x.2) ∙ chunk_is q.entries b x.0 in
        f.made x.0 n x.1 (ap (λ (c : Chunk). (c.kind == 0) && (c.input == 0) && (c.index == n)) (sym k) ∙ t);
    constants = λ part h z n. let x = came part h in
        let k = ap (λ (w : Part). w.chunk) (sym x.2) ∙ chunk_is q.entries b x.0 in
        subst IsGlobalPart (sym (content_is q.entries b x.0) ∙ ap (λ (w : Part). w.content) x.2)
        (f.constants x.0 x.1 (ap (λ (c : Chunk). c.kind) (sym k) ∙ z) (λ y. n (ap (λ (c : Chunk). c.input) k ∙ y)));
  }
