-- The facts of a program, one after another, each from a law of the objects' readers.
use Rattle.std.proofs.Common.{◌≡◌, ℕ, ◌+◌, ◌≤◌, List, length, map, Some, None, Bool, true, false, refl, sym, ap, ◌∙◌, subst, inl, inr, ⊎_elim, arith}
use Rattle.std.specs.Prelude.{◌==◌, ◌&&◌, not, slice_get}
use Rattle.std.specs.List.{All}
use Rattle.std.proofs.lemmas.Bool.{and_parts, eqb-true}
use Rattle.list_places.specs.Has.{Has}
use Rattle.list_places.proofs.Lists.{has_at, all_has}
use Rattle.linking_section.specs.declared.symbol.Symbol.{Symbol}
use Rattle.linking_section.specs.declared.symbol.SymbolKind.{SymbolKind}
use Rattle.linking_section.specs.declared.symbol.SymbolKind.TheVariants.{Function, Datum, GlobalVar, Section, Table}
use Rattle.linking_section.specs.Flags.{kind_code, is_undefined}
use Rattle.object_columns.specs.declared.segments.SegmentDef.{SegmentDef}
use Rattle.object_file.specs.declared.object.Object.{Object}
use Rattle.object_file.specs.ObjectOf.{IsObject}
use Rattle.object_file.specs.Addresses.{ReadsAddresses}
use Rattle.object_file.specs.Bodies.{BodyStands}
use Rattle.object_file.specs.Sound.{Sound as ObjectSound, NamesInRange, EndsIn}
use Rattle.round_rules.specs.Rounds.{Candidate}
use Rattle.link_plan.specs.declared.plan.Plan.{Plan}
use Rattle.made_symbols.specs.Made.{made}
use Rattle.made_symbols.specs.declared.mode.Mode.TheVariants.{Plain}
use Rattle.mark_bits.specs.declared.chunk.Chunk.{Chunk}
use Rattle.name_rules.specs.Entries.{InputSymbol, is_kind, entry_in, entries, in_kept_part, index_in}
use Rattle.name_rules.specs.Meanings.{Resolved, resolved_in, no_uses}
use Rattle.name_rules.specs.Cases.{clash_by}
use Rattle.output_module.specs.link_rules.Program.{Program, strict_program, program_of, Part, Ref, parts_of, made_parts_from, init_calls, segment_part, chunk_at, span_in}
use Rattle.output_module.specs.link_rules.Marks.{exported}
use Rattle.output_module.specs.link_rules.Keys.{is_function_at}
use Rattle.program_build.specs.link_program.declared.home.Home.{Home}
use Rattle.program_build.specs.link_program.Stand.{PartStandsBy, PartStands, IsSymbolOf}
use Rattle.program_build.specs.Standing.{StrictPartsStand, LoadedPartsStand}
use Rattle.output_module.specs.link_worlds.Sound.{IsGlobalPart}
use Rattle.output_module.specs.Outputs.{IsCoded}
use Rattle.link_facts.specs.Loaded.{AreLoaded, ProgramsAreSound}
use Rattle.link_facts.proofs.Symbols.{entry_known, OfObject, Known}
use Rattle.link_facts.proofs.Parts.{Stood, as_function, as_segment, as_global, stood, one_function, made_behind, made_by_input, object_by_input, made_or_object}
use Rattle.link_facts.proofs.SoundPrograms.{meant_known, names_symbol, export_is, made_calls, parts_are}
use Rattle.link_facts.specs.Facts.{AreRead, Facts, FactsHold, IsReading, bytes_of}
use Rattle.link_facts.proofs.Coded.{coded_at}
use Rattle.link_facts.proofs.Reading.{reading_at}
use Rattle.link_facts.proofs.Loosened.{loose_facts}

abbrev pub SoundLaw : Type 0
SoundLaw = (input : ℕ) (bytes : List ℕ) (object : Object) → IsObject input bytes object → ObjectSound (length bytes) object

abbrev pub BodiesLaw : Type 0
BodiesLaw = (input : ℕ) (bytes : List ℕ) (object : Object) → IsObject input bytes object → All (BodyStands bytes) object.functions

abbrev pub AddressesLaw : Type 0
AddressesLaw = (input : ℕ) (bytes : List ℕ) (object : Object) → IsObject input bytes object → All (ReadsAddresses bytes object) object.functions

module _ (sound_law : SoundLaw) (bodies_law : BodiesLaw) (addresses_law : AddressesLaw) (stand_law : StrictPartsStand) (program_law : ProgramsAreSound)
    (plan : Plan) (files : List (List ℕ)) (all : List Candidate) (objects : List Object) (homes : List Home) (read : AreRead files all objects homes)
    (clear : clash_by plan.loose_calls (entries Plain objects) ≡ None) where
  abbrev p : Program
  p = strict_program Plain plan files all objects

  abbrev res : Object → Resolved
  res o = resolved_in Plain no_uses plan.allow_undefined (entries Plain objects) objects o

  abbrev calls_to : List Ref
  calls_to = init_calls (map res objects)

  object_sound : (o : Object) (h : Has objects o) → ObjectSound (length (bytes_of files (read.each o h).candidate)) o
  object_sound o h = sound_law o.input (bytes_of files (read.each o h).candidate) o (read.each o h).is

  loaded : AreLoaded objects
  loaded = record { rise = read.loaded.rise; each = λ o h. (length (bytes_of files (read.each o h).candidate), object_sound o h) }

  in_all : (part : Part) → Has p.parts part → Has (parts_of Plain all objects (map res objects)) part
  in_all part h = subst (λ xs. Has xs part) (parts_are plan files all objects loaded clear) h

  record InObject (part : Part) : Type 0 where
    object : Object
    there : Has objects object
    stands : Stood all objects (res object) part

  -- a part that isn't the linker's
  in_object : (part : Part) → Has p.parts part → (part.chunk.input ≡ 0 → ⊥) → InObject part
  unfolding parts_of
  in_object part h n =
      ⊎_elim (λ m. absurd (n (ap (λ (x : Part). x.chunk.input) m.is))) (λ b. record { object = b.0; there = b.1; stands = stood all objects (res b.0) part b.2 })
      (made_or_object all objects res (λ o. refl) calls_to part (in_all part h))

  -- a part of an object
  of_object : (o : Object) → Has objects o → (part : Part) → Has p.parts part → part.chunk.input ≡ o.input → Stood all objects (res o) part
  unfolding parts_of
  of_object o ho part h z = stood all objects (res o) part (object_by_input all objects res (λ o. refl) calls_to loaded.rise o ho part (in_all part h) z)

  -- ---- functions, calls, constants

  coded_in : (o : Object) → Has objects o → (part : Part) → part.chunk.kind ≡ 0 → Stood all objects (res o) part → IsCoded p part
  coded_in o ho part z (as_function k f at e) =
      let from = read.each o ho in
      subst (IsCoded p) (sym e)
      (coded_at Plain no_uses plan.allow_undefined (entries Plain objects) objects o p all k f at from (object_sound o ho)
      (all_has (BodyStands (bytes_of files from.candidate)) o.functions (bodies_law o.input (bytes_of files from.candidate) o from.is) f (has_at o.functions k f at)))
  coded_in o ho part z (as_segment k g at e) = absurd (let q : part.chunk.kind ≡ 1 = ap (λ (x : Part). x.chunk.kind) e in omega (arith, q, z))
  coded_in o ho part z (as_global k g at e) = absurd (let q : part.chunk.kind ≡ 2 = ap (λ (x : Part). x.chunk.kind) e in omega (arith, q, z))

  coded : (part : Part) → Has p.parts part → part.chunk.kind ≡ 0 → (part.chunk.input ≡ 0 → ⊥) → IsCoded p part
  coded part h z n = let s = in_object part h n in coded_in s.object s.there part z s.stands

  reading_in : (o : Object) → Has objects o → (part : Part) → part.chunk.kind ≡ 0 → Stood all objects (res o) part → IsReading p part
  reading_in o ho part z (as_function k f at e) =
      let from = read.each o ho in
      subst (IsReading p) (sym e)
      (reading_at plan.allow_undefined objects o p all k f at from (object_sound o ho)
      (all_has (ReadsAddresses (bytes_of files from.candidate) o) o.functions (addresses_law o.input (bytes_of files from.candidate) o from.is) f (has_at o.functions k f at)))
  reading_in o ho part z (as_segment k g at e) = absurd (let q : part.chunk.kind ≡ 1 = ap (λ (x : Part). x.chunk.kind) e in omega (arith, q, z))
  reading_in o ho part z (as_global k g at e) = absurd (let q : part.chunk.kind ≡ 2 = ap (λ (x : Part). x.chunk.kind) e in omega (arith, q, z))

  constant_in : (o : Object) → Has objects o → (part : Part) → part.chunk.kind ≡ 2 → Stood all objects (res o) part → IsGlobalPart part.content
  constant_in o ho part z (as_function k f at e) = absurd (let q : part.chunk.kind ≡ 0 = ap (λ (x : Part). x.chunk.kind) e in omega (arith, q, z))
  constant_in o ho part z (as_segment k g at e) = absurd (let q : part.chunk.kind ≡ 1 = ap (λ (x : Part). x.chunk.kind) e in omega (arith, q, z))
  constant_in o ho part z (as_global k g at e) = subst (λ (x : Part). IsGlobalPart x.content) (sym e) (read.constants o ho g (has_at o.globals k g at))

  made_in : (part : Part) → Has p.parts part → part.chunk.input ≡ 0 → Has (made_parts_from calls_to 0 (made Plain)) part
  unfolding parts_of
  made_in part h z = made_by_input all objects res (λ o. refl) calls_to loaded.rise part (in_all part h) z

  made_one : (part : Part) (n : ℕ) → Has p.parts part → is_function_at 0 n part ≡ true → n ≡ 0
  made_one part n h t =
      let q = and_parts ((part.chunk.kind == 0) && (part.chunk.input == 0)) (part.chunk.index == n) t in
      let r = and_parts (part.chunk.kind == 0) (part.chunk.input == 0) q.0 in
      sym (eqb-true part.chunk.index n q.1) ∙ one_function calls_to part (made_in part h (eqb-true part.chunk.input 0 r.1)) (eqb-true part.chunk.kind 0 r.0)

  -- ---- data lie in their segments

  len_is : (o : Object) (ho : Has objects o) (k : ℕ) (g : SegmentDef) → (segment_part all objects (res o) k g).source.span.len ≡ g.span.len
  len_is o ho k g = ap (λ c. (span_in c g.span).span.len) (read.each o ho).found

  ends : (o : Object) (ho : Has objects o) (s : Symbol) (kind : SymbolKind) → s.kind ≡ kind → kind_code kind ≡ 1 → NamesInRange o s kind → is_undefined s ≡ false
      → (g : SegmentDef) → slice_get o.segments s.index ≡ Some g → s.offset ≤ g.span.len
  ends o ho s Datum e z n u g at = let l : s.offset + s.size ≤ g.span.len = subst (EndsIn s) at (n u).1 in omega (arith, l)
  ends o ho s Function e z n u g at = absurd (omega (arith, z))
  ends o ho s GlobalVar e z n u g at = absurd (omega (arith, z))
  ends o ho s Section e z n u g at = absurd (omega (arith, z))
  ends o ho s Table e z n u g at = absurd (omega (arith, z))

  index_is : (o : Object) (s : Symbol) (kind : SymbolKind) (place : ℕ) → s.kind ≡ kind → kind_code kind ≡ 1 → (entry_in objects o place s).index ≡ s.index
  index_is o s kind place e z = datum kind (sym e) z
    where
      datum : (kind : SymbolKind) → kind ≡ s.kind → kind_code kind ≡ 1 → (entry_in objects o place s).index ≡ s.index
      datum Datum e z = ap (λ k. index_in o s k) (sym e)
      datum Function e z = absurd (omega (arith, z))
      datum GlobalVar e z = absurd (omega (arith, z))
      datum Section e z = absurd (omega (arith, z))
      datum Table e z = absurd (omega (arith, z))

  inside_by : (e : InputSymbol) (x : OfObject objects e) → e.defines ≡ true → is_kind Datum e ≡ true → (part : Part) → part.chunk ≡ chunk_at e.input 1 e.index → Stood all objects (res x.object) part
      → e.symbol.offset ≤ part.source.span.len
  inside_by e x d t part c (as_function k f at q) = absurd (let a : part.chunk.kind ≡ 0 = ap (λ (y : Part). y.chunk.kind) q in let b : part.chunk.kind ≡ 1 = ap (λ (y : Chunk). y.kind) c in omega (arith, a, b))
  inside_by e x d t part c (as_global k g at q) = absurd (let a : part.chunk.kind ≡ 2 = ap (λ (y : Part). y.chunk.kind) q in let b : part.chunk.kind ≡ 1 = ap (λ (y : Chunk). y.kind) c in omega (arith, a, b))
  inside_by e x d t part c (as_segment k g at q) =
      let o = x.object in
      let s = x.symbol.symbol in
      let kd : kind_code s.kind ≡ 1 = ap (λ (w : InputSymbol). kind_code w.symbol.kind) (sym x.symbol.is) ∙ eqb-true (kind_code e.symbol.kind) 1 t in
      let df = and_parts (not (is_undefined s)) (in_kept_part objects o s s.kind) (ap (λ (w : InputSymbol). w.defines) (sym x.symbol.is) ∙ d) in
      let ix : k ≡ s.index = sym (ap (λ (y : Part). y.chunk.index) q) ∙ ap (λ (y : Chunk). y.index) c ∙ ap (λ (w : InputSymbol). w.index) x.symbol.is ∙ index_is o s s.kind x.symbol.place refl kd in
      let l : s.offset ≤ g.span.len = ends o x.there s s.kind refl kd (all_has (λ w. NamesInRange o w w.kind) o.symbols (object_sound o x.there).symbols s (has_at o.symbols x.symbol.place s x.symbol.there)) (is_not (is_undefined s) df.0) g (ap (slice_get o.segments) (sym ix) ∙ at) in
      let a : e.symbol.offset ≡ s.offset = ap (λ (w : InputSymbol). w.symbol.offset) x.symbol.is in
      let b : part.source.span.len ≡ g.span.len = ap (λ (y : Part). y.source.span.len) q ∙ len_is o x.there k g in
      omega (arith, a, b, l)
    where
      is_not : (b : Bool) → not b ≡ true → b ≡ false
      is_not true h = absurd (grind arith)
      is_not false h = refl

  inside : (e : InputSymbol) → Known objects e × (e.defines ≡ true) → is_kind Datum e ≡ true → (e.input ≡ 0 → ⊥) → (part : Part) → Has p.parts part → part.chunk ≡ chunk_at e.input 1 e.index
      → e.symbol.offset ≤ part.source.span.len
  inside e (inl m, d) t n part h c = absurd (n (ap (λ (w : InputSymbol). w.input) m.is))
  inside e (inr x, d) t n part h c =
      inside_by e x d t part c (of_object x.object x.there part h (ap (λ (y : Chunk). y.input) c ∙ ap (λ (w : InputSymbol). w.input) x.symbol.is))

  meant : All (PartStandsBy p (λ ref. IsSymbolOf p.resolved ref.entry ref.meaning)) p.parts
  meant = stand_law Plain plan files all objects homes read.loaded

  -- the same by the wider word
  wider : (part : Part) → PartStandsBy p (λ ref. IsSymbolOf p.resolved ref.entry ref.meaning) part → PartStands p part
  wider part s = record { source = s.source; windows = s.windows; align = s.align; refs = λ k d below. inl (s.refs k d below) }

  facts : Facts p (exported Plain p)
  facts =
      let s = program_law plan files all objects loaded clear in
      record {
        sound = s.0;
        exported = s.1;
        measured = record {
          stand = λ k d below. wider _ (meant k d below);
          inside = λ e m t n part h c. inside e (⊎_elim (λ a. meant_known plan files all objects loaded clear e a) (λ b. let x = export_is plan files all objects loaded clear e b in (entry_known objects e x.0, x.1)) m) t n part h c;
        };
        coded = coded;
        reads = λ part h z n. let s = in_object part h n in reading_in s.object s.there part z s.stands;
        calls = λ part ref h z r. made_calls plan files all objects loaded clear part ref (made_behind calls_to 0 (made Plain) part (made_in part h z)).0 r;
        made = made_one;
        constants = λ part h z n. let s = in_object part h n in constant_in s.object s.there part z s.stands;
      }

pub all_facts : ProgramsAreSound → SoundLaw → BodiesLaw → AddressesLaw → StrictPartsStand → LoadedPartsStand → FactsHold
unfolding program_of exported
all_facts program_law sound_law bodies_law addresses_law strict_law stand_law plan files all objects homes read clear =
    let p = strict_program Plain plan files all objects in
    loose_facts p refl (names_symbol plan files all objects (loaded sound_law bodies_law addresses_law strict_law program_law plan files all objects homes read clear) clear) (exported Plain p) (stand_law Plain plan files all objects homes read.loaded)
    (facts sound_law bodies_law addresses_law strict_law program_law plan files all objects homes read clear)
