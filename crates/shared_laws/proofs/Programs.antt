-- The program of the loaded objects of a shared output.
use Rattle.std.proofs.Common.{◌≡◌, ℕ, ◌+◌, ◌-◌, ◌<◌, ◌≤◌, List, [], ◌∷◌, map, length, inl, inr, Option, Some, None, Bool, true, false, not, refl, sym, ap, ◌∙◌, subst, ⊎_elim, arith}
use Rattle.std.specs.Prelude.{◌⊎◌, ◌==◌, nat_lt, cond, filter, find, flat_map, option_map, slice_get}
use Rattle.std.proofs.lemmas.Bool.{and_parts, eqb-true, eq-eqb}
use Rattle.std.proofs.lemmas.Option.{slice_get-map}
use Rattle.list_places.specs.Has.{Has, Apart}
use Rattle.list_places.proofs.Lists.{all_has, has_at, has_map, map_has, filter_has, has_left, has_right, has_either, has_filter, has_flat, flat_has, some_is}
use Rattle.wl_base.specs.declared.span.Span.{Span}
use Rattle.linking_section.specs.declared.symbol.Symbol.{Symbol}
use Rattle.linking_section.specs.declared.symbol.SymbolKind.TheVariants.{Function, Datum, GlobalVar, Section, Table}
use Rattle.linking_section.specs.declared.symbol.SymbolKind.{SymbolKind}
use Rattle.linking_section.specs.Flags.{kind_code, is_undefined}
use Rattle.object_columns.specs.declared.segments.SegmentDef.{SegmentDef}
use Rattle.object_file.specs.declared.object.Object.{Object}
use Rattle.object_file.specs.Spaces.{function_imports, function_place}
use Rattle.object_file.specs.Sound.{Sound, NamesInRange, EndsIn}
use Rattle.made_symbols.specs.Made.{MadeSymbol, made}
use Rattle.made_symbols.specs.declared.mode.Mode.TheVariants.{Shared}
use Rattle.name_rules.specs.Entries.{InputSymbol, is_kind, is_entry, name_of, is_named, is_kept, in_kept_part, index_in, entry_in, entries, made_from, made_entry, symbols_of}
use Rattle.name_rules.specs.Meanings.{Meaning, here, null, Resolved, Uses, uses_of, resolved_in, resolve, meaning}
use Rattle.name_rules.specs.Cases.{clash_by}
use Rattle.name_rules.specs.Further.{is_here}
use Rattle.round_rules.specs.Rounds.{Candidate}
use Rattle.link_plan.specs.declared.plan.Plan.{Plan}
use Rattle.program_build.specs.link_program.declared.home.Home.{Home}
use Rattle.program_build.specs.link_program.Loaded.{IsLoaded, IsReadFrom}
use Rattle.program_build.specs.link_program.Stand.{PartsStand, PartStands, IsRefOf, IsSymbolOf}
use Rattle.program_build.specs.Standing.{LoadedPartsStand}
use Rattle.link_rules.specs.Program.{Program, Part, Ref, refs, strict_program, program_of, parts_of, parts_in, function_part, segment_part, made_kind, made_part, made_parts_from, option_onto, init_calls, loose_part, loose_parts, chunk_at, span_in}
use Rattle.link_facts.specs.link_worlds.Sound.{PartOf, same_part}
use Rattle.link_facts.proofs.Symbols.{is_symbol, positive, IsSymbol}
use Rattle.link_facts.proofs.Meant.{code_kind, find_none, one_kind}
use Rattle.link_facts.proofs.Parts.{made_as, there_is, function_kept, segment_kept}
use Rattle.link_facts.proofs.Loosened.{loosened_apart}
use Rattle.shared_laws.specs.Linked.{LiesInPart, SharedStands}
use Rattle.shared_laws.proofs.Kept.{parts_apart}
use Rattle.shared_laws.proofs.Rows.{RowsTake, takes}
use Rattle.shared_laws.proofs.Named.{NamesByKind, names}
use Rattle.shared_laws.proofs.Standing.{FunctionsStand}
use Rattle.shared_laws.proofs.Meant.{defined, made_input}

-- ---- a segment of an object, loosened or not

abbrev by_calls : Bool → List InputSymbol → Part → Part
by_calls b all part = cond b (loose_part all part) part

loose_has : (b : Bool) (all : List InputSymbol) (ps : List Part) (x : Part) → Has ps x → Has (loose_parts b all ps) (by_calls b all x)
loose_has true all ps x h = map_has (loose_part all) ps x h
loose_has false all ps x h = h

loose_chunk : (b : Bool) (all : List InputSymbol) (x : Part) → (by_calls b all x).chunk ≡ x.chunk
loose_chunk true all x = refl
loose_chunk false all x = refl

loose_len : (b : Bool) (all : List InputSymbol) (x : Part) → (by_calls b all x).source.span.len ≡ x.source.span.len
loose_len true all x = refl
loose_len false all x = refl

no_bool : false ≡ true → ⊥
no_bool h = grind arith

-- a definition is no import
behind : (imports n index : ℕ) (u : Bool) → index < imports + n → u ≡ nat_lt index imports → u ≡ false → (index - imports < n) × (index - imports + imports ≡ index)
behind imports n index u l q z =
    let b : imports ≤ index = not_less index imports (sym q ∙ z) in
    (omega (arith, l, b), omega (arith, b))
  where
    not_less : (a b : ℕ) → nat_lt a b ≡ false → b ≤ a
    not_less a b h = grind arith

-- the part of a function of the linker
made_function : (calls : List Ref) (place : ℕ) (ms : List MadeSymbol) (e : InputSymbol) → Has (made_from place ms) e → e.symbol.kind ≡ Function
    → PartOf (made_parts_from calls place ms) (chunk_at e.input 0 e.index) × (e.index ≡ e.place)
made_function calls place [] e h t = absurd h
made_function calls place (m ∷ ms) e (inl q) t =
    subst (λ (w : InputSymbol). PartOf (made_parts_from calls place (m ∷ ms)) (chunk_at w.input 0 w.index) × (w.index ≡ w.place)) q
    (by m.kind (ap (λ (w : InputSymbol). w.symbol.kind) q ∙ t), refl)
  where
    by : (k : SymbolKind) → k ≡ Function → PartOf (option_onto (option_map (made_as calls place m) (made_kind k)) (made_parts_from calls (place + 1) ms)) (chunk_at 0 0 place)
    by Function z = record { part = made_as calls place m 0; there = inl refl; chunk = refl }
    by Datum z = absurd (let c : 1 ≡ 0 = ap kind_code z in omega (arith, c))
    by GlobalVar z = absurd (let c : 2 ≡ 0 = ap kind_code z in omega (arith, c))
    by Section z = absurd (let c : 3 ≡ 0 = ap kind_code z in omega (arith, c))
    by Table z = absurd (let c : 5 ≡ 0 = ap kind_code z in omega (arith, c))
made_function calls place (m ∷ ms) e (inr h) t =
    let r = made_function calls (place + 1) ms e h t in
    (later (made_part calls (made_entry place m) m) r.0, r.1)
  where
    later : (o : Option Part) → PartOf (made_parts_from calls (place + 1) ms) (chunk_at e.input 0 e.index) → PartOf (option_onto o (made_parts_from calls (place + 1) ms)) (chunk_at e.input 0 e.index)
    later None x = x
    later (Some y) x = record { part = x.part; there = inr x.there; chunk = x.chunk }

not_null : (m : Meaning) (e : InputSymbol) → m ≡ null → m ≡ here e → ⊥
not_null m e a b = no_bool (ap is_here (sym a ∙ b))

is_not : (b : Bool) → not b ≡ true → b ≡ false
is_not true h = absurd (grind arith)
is_not false h = refl

module _ (stand_law : LoadedPartsStand) (plan : Plan) (files : List (List ℕ)) (all : List Candidate) (objects : List Object) (homes : List Home) (loaded : IsLoaded files all objects homes) where
  abbrev p : Program
  p = program_of Shared plan files all objects

  abbrev es : List InputSymbol
  es = entries Shared objects

  abbrev uses : Uses
  uses = uses_of Shared objects

  abbrev res : Object → Resolved
  res o = resolved_in Shared uses plan.allow_undefined es objects o

  entries_are : p.entries ≡ entries Shared p.objects
  unfolding program_of
  entries_are = refl

  resolved_are : p.resolved ≡ map res objects
  unfolding program_of resolve
  resolved_are = refl

  apart : Apart same_part p.parts
  unfolding program_of resolve parts_of
  apart = loosened_apart (strict_program Shared plan files all objects) (parts_apart all objects res (λ o. refl) (init_calls (map res objects)) loaded.rise)

  stand : PartsStand p
  stand = stand_law Shared plan files all objects homes loaded

  -- ---- the object of a symbol

  pub record OfObject (e : InputSymbol) : Type 0 where
    pub object : Object
    pub there : Has objects object
    pub symbol : IsSymbol objects object e

  pub of_entry : (e : InputSymbol) → Has es e → (e.input ≡ 0 → ⊥) → OfObject e
  unfolding entries
  of_entry e h z =
      ⊎_elim (λ a. absurd (z (made_input 0 (made Shared) e a)))
      (λ b. let f = has_filter is_entry (flat_map (symbols_of objects) objects) e b in
      let o = has_flat (symbols_of objects) objects e f.0 in
      record { object = o.0; there = o.1; symbol = is_symbol objects o.0 e o.2 })
      (has_either (made_from 0 (made Shared)) (filter is_entry (flat_map (symbols_of objects) objects)) e h)

  -- the object of a symbol that is named, and its meaning
  pub record Named (x : InputSymbol) (m : Meaning) : Type 0 where
    pub object : Object
    pub there : Has objects object
    pub symbol : Has (symbols_of objects object) x
    pub means : meaning Shared uses plan.allow_undefined es x ≡ m

  pub named_in : (x : InputSymbol) (m : Meaning) → IsSymbolOf p.resolved x m → Named x m
  named_in x m s =
      let mean = meaning Shared uses plan.allow_undefined es in
      let r = has_map res objects s.2 (subst (λ rs. Has rs s.2) resolved_are (has_at p.resolved s.0 s.2 s.3)) in
      let o = r.0 in
      let symbols : slice_get (symbols_of objects o) s.1 ≡ Some x = ap (λ (q : Resolved). slice_get q.symbols s.1) r.2 ∙ s.4 in
      let meanings : slice_get (map mean (symbols_of objects o)) s.1 ≡ Some m = ap (λ (q : Resolved). slice_get q.meanings s.1) r.2 ∙ s.5 in
      record {
        object = o;
        there = r.1;
        symbol = has_at (symbols_of objects o) s.1 x symbols;
        means = some_is _ _ (sym (slice_get-map mean (symbols_of objects o) s.1 ∙ ap (option_map mean) symbols) ∙ meanings);
      }

  -- a definition that a symbol means: an entry, or one of an object
  meant_known : (x e : InputSymbol) (m : Meaning) → IsSymbolOf p.resolved x m → m ≡ here e → (Has es e ⊎ OfObject e) × (e.defines ≡ true)
  meant_known x e m s is =
      let n = named_in x m s in
      let d = defined uses plan.allow_undefined es x e (n.means ∙ is) in (
        ⊎_elim (λ a. inl (has_filter (is_named (name_of x)) es e a.1).0)
            (λ b. inr (record { object = n.object; there = n.there; symbol = is_symbol objects n.object e (subst (Has (symbols_of objects n.object)) b n.symbol) })) d.0,
        d.1,
      )

  meant_here : (x e : InputSymbol) (m : Meaning) → IsSymbolOf p.resolved x m → m ≡ here e → (e.input ≡ 0 → ⊥) → OfObject e × (e.defines ≡ true)
  meant_here x e m s is z = let k = meant_known x e m s is in (⊎_elim (λ a. of_entry e a z) (λ b. b) k.0, k.1)

  -- where no names clash, it has the symbol's kind
  meant_kind : clash_by plan.loose_calls es ≡ None → (x e : InputSymbol) (m : Meaning) → IsSymbolOf p.resolved x m → m ≡ here e → e.symbol.kind ≡ x.symbol.kind
  unfolding entries
  meant_kind clear x e m s is =
      let n = named_in x m s in
      let listed : is_entry x ≡ true → Has es x
      = λ t. has_right (made_from 0 (made Shared)) (filter is_entry (flat_map (symbols_of objects) objects)) x
      (filter_has is_entry (flat_map (symbols_of objects) objects) x (flat_has (symbols_of objects) objects n.object x n.there n.symbol) t) in
      ⊎_elim (λ a. one_kind plan.loose_calls es e x clear (listed a.0) a.1) (λ b. ap (λ (w : InputSymbol). w.symbol.kind) (sym b)) (defined uses plan.allow_undefined es x e (n.means ∙ is)).0

  -- ---- its segment

  found : (o : Object) → Has objects o → (s : Span) → (span_in (find (λ c. c.input == o.input) all) s).span.len ≡ s.len
  found o ho s = by (find (λ c. c.input == o.input) all) refl
    where
      each : (c : Candidate) × (slice_get all (o.input - 1) ≡ Some c) × IsReadFrom files c o
      each = all_has (λ (o : Object). (c : Candidate) × (slice_get all (o.input - 1) ≡ Some c) × IsReadFrom files c o) objects loaded.each o ho

      by : (f : Option Candidate) → find (λ c. c.input == o.input) all ≡ f → (span_in f s).span.len ≡ s.len
      by None n =
          let t : (each.0.input == o.input) ≡ false = find_none (λ (c : Candidate). c.input == o.input) all each.0 n (has_at all (o.input - 1) each.0 each.1) in
          absurd (no_bool (sym t ∙ eq-eqb each.0.input o.input each.2.input))
      by (Some c) n = refl

  sound_in : (o : Object) → Has objects o → (size : ℕ) × Sound size o
  sound_in o ho =
      let each = all_has (λ (o : Object). (c : Candidate) × (slice_get all (o.input - 1) ≡ Some c) × IsReadFrom files c o) objects loaded.each o ho in
      (each.0.len, each.2.sound)

  segment_in : (o : Object) → Has objects o → (k : ℕ) (g : SegmentDef) → slice_get o.segments k ≡ Some g → is_kept objects o 0 k ≡ true → Has p.parts (by_calls plan.loose_calls es (segment_part all objects (res o) k g))
  unfolding program_of resolve parts_of
  segment_in o ho k g at kept =
      let x = segment_part all objects (res o) k g in
      let q = strict_program Shared plan files all objects in
      loose_has plan.loose_calls es q.parts x
      (has_right (made_parts_from (init_calls (map res objects)) 0 (made Shared)) (flat_map (parts_in all objects) (map res objects)) x
      (flat_has (parts_in all objects) (map res objects) (res o) x (map_has res objects o ho) (segment_kept all objects (res o) k g at kept)))

  lies : (o : Object) → Has objects o → (s : Symbol) (place : ℕ) → s.kind ≡ Datum → NamesInRange o s s.kind → is_undefined s ≡ false → in_kept_part objects o s s.kind ≡ true → LiesInPart p (entry_in objects o place s)
  lies o ho s place kind range own kept =
      let r = subst (NamesInRange o s) kind range own in
      let g = there_is o.segments s.index r.0 in
      let x = segment_part all objects (res o) s.index g.0 in
      let fits : s.offset + s.size ≤ g.0.span.len = subst (EndsIn s) g.1 r.1 in
      let long : (by_calls plan.loose_calls es x).source.span.len ≡ g.0.span.len = loose_len plan.loose_calls es x ∙ found o ho g.0.span in
      record {
        part = by_calls plan.loose_calls es x;
        there = segment_in o ho s.index g.0 g.1 (subst (λ k. in_kept_part objects o s k ≡ true) kind kept);
        chunk = loose_chunk plan.loose_calls es x ∙ ap (chunk_at o.input 1) (sym (ap (index_in o s) kind));
        inside = omega (arith, fits, long);
      }

  pub datum_lies : (e : InputSymbol) → OfObject e → e.defines ≡ true → is_kind Datum e ≡ true → LiesInPart p e
  datum_lies e x d t =
      let o = x.object in
      let s = x.symbol.symbol in
      let kind : s.kind ≡ Datum = code_kind s.kind Datum (eqb-true (kind_code s.kind) (kind_code Datum) (subst (λ (w : InputSymbol). is_kind Datum w ≡ true) x.symbol.is t)) in
      let q = and_parts (not (is_undefined s)) (in_kept_part objects o s s.kind) (subst (λ (w : InputSymbol). w.defines ≡ true) x.symbol.is d) in
      subst (LiesInPart p) (sym x.symbol.is)
      (lies o x.there s x.symbol.place kind (all_has (λ w. NamesInRange o w w.kind) o.symbols (sound_in o x.there).1.symbols s (has_at o.symbols x.symbol.place s x.symbol.there)) (is_not (is_undefined s) q.0) q.1)

  datum_of : (part : Part) (ref : Ref) (e : InputSymbol) → Has p.parts part → Has (refs part) ref → ref.meaning ≡ here e → is_kind Datum e ≡ true → (e.input ≡ 0 → ⊥) → LiesInPart p e
  datum_of part ref e h r m t z =
      let st = all_has (PartStands p) p.parts stand part h in
      ⊎_elim (λ s. let k = meant_here ref.entry e ref.meaning s m z in datum_lies e k.0 k.1 t) (λ v. absurd (not_null ref.meaning e v.0 m)) (all_has (IsRefOf p) (refs part) st.refs ref r)

  -- ---- its function

  -- the part of a function of an object
  function_in : (o : Object) → Has objects o → (s : Symbol) (place : ℕ) → s.kind ≡ Function → NamesInRange o s s.kind → is_undefined s ≡ false → in_kept_part objects o s s.kind ≡ true
      → PartOf p.parts (chunk_at o.input 0 (entry_in objects o place s).index)
  unfolding program_of resolve parts_of
  function_in o ho s place kind range own kept =
      let r = subst (NamesInRange o s) kind range in
      let b = behind (length (function_imports o)) (length o.functions) s.index (is_undefined s) r.0 r.1 own in
      let f = there_is o.functions (function_place o s.index) b.0 in
      let k : is_kept objects o 1 (function_place o s.index + length (function_imports o)) ≡ true = ap (is_kept objects o 1) b.1 ∙ subst (λ k. in_kept_part objects o s k ≡ true) kind kept in
      let x = function_part all objects (res o) (function_place o s.index) f.0 in
      let q = strict_program Shared plan files all objects in
      record {
        part = by_calls plan.loose_calls es x;
        there = loose_has plan.loose_calls es q.parts x
            (has_right (made_parts_from (init_calls (map res objects)) 0 (made Shared)) (flat_map (parts_in all objects) (map res objects)) x
            (flat_has (parts_in all objects) (map res objects) (res o) x (map_has res objects o ho) (function_kept all objects (res o) (function_place o s.index) f.0 f.1 k)));
        chunk = loose_chunk plan.loose_calls es x ∙ ap (chunk_at o.input 0) (sym (ap (index_in o s) kind));
      }

  function_of_object : (e : InputSymbol) → OfObject e → e.defines ≡ true → e.symbol.kind ≡ Function → PartOf p.parts (chunk_at e.input 0 e.index)
  function_of_object e x d t =
      let o = x.object in
      let s = x.symbol.symbol in
      let kind : s.kind ≡ Function = sym (ap (λ (w : InputSymbol). w.symbol.kind) x.symbol.is) ∙ t in
      let q = and_parts (not (is_undefined s)) (in_kept_part objects o s s.kind) (subst (λ (w : InputSymbol). w.defines ≡ true) x.symbol.is d) in
      subst (λ (w : InputSymbol). PartOf p.parts (chunk_at w.input 0 w.index)) (sym x.symbol.is)
      (function_in o x.there s x.symbol.place kind (all_has (λ w. NamesInRange o w w.kind) o.symbols (sound_in o x.there).1.symbols s (has_at o.symbols x.symbol.place s x.symbol.there)) (is_not (is_undefined s) q.0) q.1)

  -- and of one of the linker's
  function_of_linker : (e : InputSymbol) → Has (made_from 0 (made Shared)) e → e.symbol.kind ≡ Function → PartOf p.parts (chunk_at e.input 0 e.index) × (e.index ≡ e.place)
  unfolding program_of resolve parts_of
  function_of_linker e h t =
      let m = made_function (init_calls (map res objects)) 0 (made Shared) e h t in
      let q = strict_program Shared plan files all objects in (
        record {
          part = by_calls plan.loose_calls es m.0.part;
          there = loose_has plan.loose_calls es q.parts m.0.part (has_left (made_parts_from (init_calls (map res objects)) 0 (made Shared)) (flat_map (parts_in all objects) (map res objects)) m.0.part m.0.there);
          chunk = loose_chunk plan.loose_calls es m.0.part ∙ m.0.chunk;
        },
        m.1,
      )

  function_of_entry : (e : InputSymbol) → Has es e ⊎ OfObject e → e.defines ≡ true → e.symbol.kind ≡ Function → PartOf p.parts (chunk_at e.input 0 e.index) × (e.input ≡ 0 → e.index ≡ e.place)
  unfolding entries
  function_of_entry e (inr x) d t = (function_of_object e x d t, λ z. absurd (positive objects loaded.rise x.object x.there (sym (ap (λ (w : InputSymbol). w.input) x.symbol.is) ∙ z)))
  function_of_entry e (inl h) d t =
      ⊎_elim (λ a. let f = function_of_linker e a t in (f.0, λ z. f.1))
      (λ b. let f = has_filter is_entry (flat_map (symbols_of objects) objects) e b in
      let o = has_flat (symbols_of objects) objects e f.0 in
      let x : OfObject e = record { object = o.0; there = o.1; symbol = is_symbol objects o.0 e o.2 } in
      (function_of_object e x d t, λ z. absurd (positive objects loaded.rise x.object x.there (sym (ap (λ (w : InputSymbol). w.input) x.symbol.is) ∙ z))))
      (has_either (made_from 0 (made Shared)) (filter is_entry (flat_map (symbols_of objects) objects)) e h)

  -- ---- what references name and mean

  meant_by : (part : Part) (ref : Ref) (e : InputSymbol) → Has p.parts part → Has (refs part) ref → ref.meaning ≡ here e → IsSymbolOf p.resolved ref.entry ref.meaning
  meant_by part ref e h r m =
      let st = all_has (PartStands p) p.parts stand part h in
      ⊎_elim (λ s. s) (λ v. absurd (not_null ref.meaning e v.0 m)) (all_has (IsRefOf p) (refs part) st.refs ref r)

  names_all : (part : Part) (ref : Ref) → Has p.parts part → Has (refs part) ref → NamesByKind ref
  unfolding program_of resolve parts_of
  names_all part ref h r = names uses plan.allow_undefined es all objects sound_in plan.loose_calls part h ref r

  pub functions_stand : clash_by plan.loose_calls es ≡ None → FunctionsStand p
  functions_stand clear = record {
    names = names_all;
    kinds = λ part ref e h r m. meant_kind clear ref.entry e ref.meaning (meant_by part ref e h r m) m;
    functions = λ part ref e h r m t. let k = meant_known ref.entry e ref.meaning (meant_by part ref e h r m) m in function_of_entry e k.0 k.1 t;
  }

  pub rows_take : RowsTake p
  unfolding program_of resolve parts_of
  rows_take part ref h k r = takes uses plan.allow_undefined es all objects sound_in (init_calls (map res objects)) plan.loose_calls part h k ref r

  pub shared_stands : SharedStands p
  shared_stands = record { entries_are = entries_are; stand = stand; apart = apart; datum = datum_of }
