-- The program of the loaded objects of a shared output: its functions are bodies with their references, and what it takes of its objects has their ranges and names.
use Rattle.std.proofs.Common.{◌≡◌, ℕ, List, length, map, refl, sym, ap, ◌∙◌, subst, inl, inr, ⊎_elim, Option, Some, None, true, false, arith}
use Rattle.std.specs.Prelude.{◌⊎◌, ◌==◌, IsUtf8, slice_get, ℤ}
use Rattle.std.specs.List.{All}
use Rattle.list_places.specs.Has.{Has}
use Rattle.list_places.proofs.Lists.{has_at, has_filter, has_map, has_pick, has_either, all_has, some_is}
use Rattle.wasm_types.specs.declared.const_expr.ConstExpr.{ConstExpr}
use Rattle.wasm_types.specs.declared.const_expr.ConstExpr.TheVariants as exprs
use Rattle.object_parts.specs.declared.parts.GlobalDef.{GlobalDef}
use Rattle.object_file.specs.declared.object.Object.{Object}
use Rattle.object_file.specs.Spellable.{IsSpellable, IsNumber, IsReloc, IsSegment}
use Rattle.object_file.specs.Bodies.{BodyStands}
use Rattle.object_file.specs.Sound.{Sound as ObjectSound}
use Rattle.object_file.specs.ObjectOf.{IsObject}
use Rattle.mark_bits.specs.declared.chunk.Chunk.{Chunk}
use Rattle.made_symbols.specs.Made.{made}
use Rattle.made_symbols.specs.declared.mode.Mode.TheVariants.{Shared}
use Rattle.name_rules.specs.Entries.{InputSymbol, name_of, entries}
use Rattle.name_rules.specs.Meanings.{Uses, uses_of, Resolved, resolved_in, resolve, Meaning}
use Rattle.round_rules.specs.Rounds.{Candidate}
use Rattle.link_plan.specs.declared.plan.Plan.{Plan}
use Rattle.link_runs.specs.link_program.declared.home.Home.{Home}
use Rattle.link_runs.specs.link_program.Loaded.{IsLoaded}
use Rattle.link_runs.specs.link_program.Stand.{PartStandsBy, IsSymbolOf}
use Rattle.shared_laws.specs.program_build.Standing.{StrictPartsStand}
use Rattle.link_rules.specs.Program.{Program, Part, Ref, a_symbol, refs, strict_program, program_of, loosened, parts_of, window_named, made_parts_from, init_calls, ref_to, ref_in, winners_of, is_winner}
use Rattle.link_rules.specs.Marks.{exported}
use Rattle.image_emit.specs.Spelled.{IsConstant}
use Rattle.shared_module.specs.output_module.Outputs.{IsCoded}
use Rattle.shared_module.specs.link_worlds.Sound.{IsGlobalPart, IsConstant as IsWritten}
use Rattle.link_runs.specs.link_facts.Facts.{IsFrom, bytes_of}
use Rattle.link_runs.proofs.link_facts_lemmas.Coded.{coded_at}
use Rattle.link_runs.proofs.link_facts_lemmas.Refs.{refs_named}
use Rattle.link_runs.proofs.link_facts_lemmas.Parts.{Stood, as_function, as_segment, as_global, stood, MadeAs, made_as, made_behind, object_parts, of_some_object}
use Rattle.link_runs.proofs.link_facts_lemmas.Loosened.{part_by, ref_by, IsChanged, changed_or_not, kind_is, chunk_is, content_is, came, ref_came, coded as coded_loose}
use Rattle.shared_laws.proofs.Rows.{symbol_ref}
use Rattle.shared_module.specs.Fit.{HasConstant, IsS32}
use Rattle.shared_links.proofs.Named.{symbol_named}

number_written : (e : ConstExpr) → IsNumber e → IsWritten e
number_written (exprs.I32 n) h = tt
number_written (exprs.I64 n) h = tt
number_written (exprs.Get index) h = absurd h

number_fits : (e : ConstExpr) → IsNumber e → IsConstant e
number_fits (exprs.I32 n) h = h
number_fits (exprs.I64 n) h = h
number_fits (exprs.Get index) h = absurd h

-- the addend of a reference is that of its window
window_addend : (place kind : ℕ) (addend : ℤ) (x : Option InputSymbol) (m : Option Meaning) (ref : Ref) → ref_to place kind addend x m ≡ Some ref → addend ≡ ref.addend
window_addend place kind addend (Some e) (Some m) ref h = ap (λ (w : Ref). w.addend) (some_is (record { place = place; kind = kind; addend = addend; entry = e; meaning = m }) ref h)
window_addend place kind addend (Some e) None ref h = absurd (grind arith)
window_addend place kind addend None m ref h = absurd (grind arith)

abbrev pub SoundLaw : Type 0
SoundLaw = (input : ℕ) (bytes : List ℕ) (object : Object) → IsObject input bytes object → ObjectSound (length bytes) object

abbrev pub BodiesLaw : Type 0
BodiesLaw = (input : ℕ) (bytes : List ℕ) (object : Object) → IsObject input bytes object → All (BodyStands bytes) object.functions

module _ (sound_law : SoundLaw) (bodies_law : BodiesLaw) (strict_law : StrictPartsStand) (plan : Plan) (files : List (List ℕ)) (all : List Candidate) (objects : List Object) (homes : List Home)
    (loaded : IsLoaded files all objects homes) (from : (o : Object) → Has objects o → IsFrom files all o) (are : (o : Object) → Has objects o → IsSpellable o) where
  abbrev q : Program
  q = strict_program Shared plan files all objects

  abbrev pub es : List InputSymbol
  es = entries Shared objects

  abbrev pub uses : Uses
  uses = uses_of Shared objects

  abbrev pub res : Object → Resolved
  res o = resolved_in Shared uses plan.allow_undefined es objects o

  abbrev calls : List Ref
  calls = init_calls (map res objects)

  pub entries_are : (program_of Shared plan files all objects).entries ≡ es
  unfolding program_of
  entries_are = refl

  pub resolved_are : (program_of Shared plan files all objects).resolved ≡ map res objects
  unfolding program_of resolve
  resolved_are = refl

  strict_resolved : q.resolved ≡ map res objects
  unfolding resolve
  strict_resolved = refl

  symbol_of : (part : Part) (ref : Ref) → Has q.parts part → Has (refs part) ref → IsSymbolOf q.resolved ref.entry ref.meaning
  symbol_of part ref h r =
      all_has (λ (ref : Ref). IsSymbolOf q.resolved ref.entry ref.meaning) (refs part)
      (all_has (PartStandsBy q (λ (ref : Ref). IsSymbolOf q.resolved ref.entry ref.meaning)) q.parts (strict_law Shared plan files all objects homes loaded) part h).refs ref r

  record InObject (x : Part) : Type 0 where
    object : Object
    there : Has objects object
    stands : Stood all objects (res object) x

  -- each part is the linker's or an object's
  origin : (x : Part) → Has q.parts x → MadeAs calls x ⊎ InObject x
  unfolding resolve parts_of
  origin x h =
      ⊎_elim
      (λ a. inl (made_behind calls 0 (made Shared) x a).0)
      (λ a. let o = of_some_object all objects res (λ o. refl) calls objects x a in inr (record { object = o.0; there = o.1; stands = stood all objects (res o.0) x o.2 }))
      (has_either (made_parts_from calls 0 (made Shared)) (object_parts all objects res (λ o. refl) calls objects) x h)

  kind_of : (x y : Part) (n m : ℕ) → x ≡ y → y.chunk.kind ≡ n → x.chunk.kind ≡ m → n ≡ m
  kind_of x y n m e a b = sym a ∙ ap (λ (w : Part). w.chunk.kind) (sym e) ∙ b

  -- ---- functions

  strict_coded : (x : Part) → Has q.parts x → x.chunk.kind ≡ 0 → (x.chunk.input ≡ 0 → ⊥) → IsCoded q x
  strict_coded x h z n = ⊎_elim (λ m. absurd (n (ap (λ (w : Part). w.chunk.input) m.is))) (λ o. of_object o.object o.there o.stands) (origin x h)
    where
      of_object : (o : Object) → Has objects o → Stood all objects (res o) x → IsCoded q x
      of_object o ho (as_function k f at e) =
          let c = from o ho in
          subst (IsCoded q) (sym e)
          (coded_at Shared uses plan.allow_undefined es objects o q all k f at c (sound_law o.input (bytes_of files c.candidate) o c.is)
          (all_has (BodyStands (bytes_of files c.candidate)) o.functions (bodies_law o.input (bytes_of files c.candidate) o c.is) f (has_at o.functions k f at)))
      of_object o ho (as_segment k g at e) = absurd (let w = kind_of x _ 1 0 e refl z in omega (arith, w))
      of_object o ho (as_global k g at e) = absurd (let w = kind_of x _ 2 0 e refl z in omega (arith, w))

  -- a part of the program, and of the program before its calls were loosened
  record Came (part : Part) : Type 0 where
    part_before : Part
    there : Has q.parts part_before
    is : part_by q.entries plan.loose_calls part_before ≡ part
    chunk : part_before.chunk ≡ part.chunk
    content : part_before.content ≡ part.content

  before : (part : Part) → Has (program_of Shared plan files all objects).parts part → Came part
  unfolding program_of
  before part h =
      let x = came q refl symbol_of part h in
      record {
        part_before = x.0;
        there = x.1;
        is = x.2;
        chunk = sym (chunk_is q.entries plan.loose_calls x.0) ∙ ap (λ (w : Part). w.chunk) x.2;
        content = sym (content_is q.entries plan.loose_calls x.0) ∙ ap (λ (w : Part). w.content) x.2;
      }

  pub coded : (part : Part) → Has (program_of Shared plan files all objects).parts part → part.chunk.kind ≡ 0 → (part.chunk.input ≡ 0 → ⊥) → IsCoded (program_of Shared plan files all objects) part
  unfolding program_of
  coded part h z n =
      let x = before part h in
      subst (IsCoded (loosened q)) x.is
      (coded_loose q refl symbol_of x.part_before (strict_coded x.part_before x.there (ap (λ (c : Chunk). c.kind) x.chunk ∙ z) (λ y. n (sym (ap (λ (c : Chunk). c.input) x.chunk) ∙ y))))

  -- ---- globals

  strict_contents : (x : Part) → Has q.parts x → HasConstant x.content
  strict_contents x h = ⊎_elim (λ m. subst (λ (w : Part). HasConstant w.content) (sym m.is) tt) (λ o. of_object o.object o.there o.stands) (origin x h)
    where
      of_object : (o : Object) → Has objects o → Stood all objects (res o) x → HasConstant x.content
      of_object o ho (as_function k f at e) = subst (λ (w : Part). HasConstant w.content) (sym e) tt
      of_object o ho (as_segment k g at e) = subst (λ (w : Part). HasConstant w.content) (sym e) tt
      of_object o ho (as_global k g at e) = subst (λ (w : Part). HasConstant w.content) (sym e) (number_fits g.value (all_has (λ (g : GlobalDef). IsNumber g.value) o.globals (are o ho).globals g (has_at o.globals k g at)))

  pub contents : (part : Part) → Has (program_of Shared plan files all objects).parts part → HasConstant part.content
  contents part h = let x = before part h in subst HasConstant x.content (strict_contents x.part_before x.there)

  strict_constants : (x : Part) → Has q.parts x → x.chunk.kind ≡ 2 → (x.chunk.input ≡ 0 → ⊥) → IsGlobalPart x.content
  strict_constants x h z n = ⊎_elim (λ m. absurd (n (ap (λ (w : Part). w.chunk.input) m.is))) (λ o. of_object o.object o.there o.stands) (origin x h)
    where
      of_object : (o : Object) → Has objects o → Stood all objects (res o) x → IsGlobalPart x.content
      of_object o ho (as_function k f at e) = absurd (let w = kind_of x _ 0 2 e refl z in omega (arith, w))
      of_object o ho (as_segment k g at e) = absurd (let w = kind_of x _ 1 2 e refl z in omega (arith, w))
      of_object o ho (as_global k g at e) = subst (λ (w : Part). IsGlobalPart w.content) (sym e) (number_written g.value (all_has (λ (g : GlobalDef). IsNumber g.value) o.globals (are o ho).globals g (has_at o.globals k g at)))

  pub constants : (part : Part) → Has (program_of Shared plan files all objects).parts part → part.chunk.kind ≡ 2 → (part.chunk.input ≡ 0 → ⊥) → IsGlobalPart part.content
  constants part h z n =
      let x = before part h in
      subst IsGlobalPart x.content (strict_constants x.part_before x.there (ap (λ (c : Chunk). c.kind) x.chunk ∙ z) (λ y. n (sym (ap (λ (c : Chunk). c.input) x.chunk) ∙ y)))

  -- ---- references

  record RefCame (part : Part) (ref : Ref) : Type 0 where
    part_before : Part
    there : Has q.parts part_before
    chunk : part_before.chunk ≡ part.chunk
    ref_before : Ref
    listed : Has (refs part_before) ref_before
    is : ref_by q.entries plan.loose_calls ref_before ≡ ref

  ref_before_is : (part : Part) (ref : Ref) → Has (program_of Shared plan files all objects).parts part → Has (refs part) ref → RefCame part ref
  ref_before_is part ref h r =
      let x = before part h in
      let c = ref_came q refl symbol_of x.part_before ref (subst (λ (w : Part). Has (refs w) ref) (sym x.is) r) in
      record { part_before = x.part_before; there = x.there; chunk = x.chunk; ref_before = c.0; listed = c.1; is = c.2 }

  pub ref_named : (part : Part) (ref : Ref) → Has (program_of Shared plan files all objects).parts part → Has (refs part) ref → (ref.kind == 0) ≡ false → IsUtf8 (name_of ref.entry)
  ref_named part ref h r z =
      let c = ref_before_is part ref h r in
      let s = symbol_of c.part_before c.ref_before c.there c.listed in
      let o = has_map res objects s.2 (subst (λ rs. Has rs s.2) strict_resolved (has_at q.resolved s.0 s.2 s.3)) in
      let named = symbol_named uses plan.allow_undefined objects are o.0 o.1 c.ref_before.entry (subst (λ (w : Resolved). Has w.symbols c.ref_before.entry) (sym o.2) (has_at s.2.symbols s.1 c.ref_before.entry s.4)) in
      ⊎_elim
      (λ (x : IsChanged q.entries plan.loose_calls c.ref_before).
      let k : ref.kind ≡ c.ref_before.kind = ap (λ (w : Ref). w.kind) (sym c.is) ∙ kind_is q.entries plan.loose_calls c.ref_before in
      absurd (let t : false ≡ true = sym z ∙ ap (λ n. n == 0) k ∙ x.loose.calls in grind arith))
      (λ same. subst (λ (w : Ref). IsUtf8 (name_of w.entry)) (sym same ∙ c.is) named)
      (changed_or_not q.entries plan.loose_calls c.ref_before)

  -- the addend of a window of data
  strict_addend : (x : Part) (ref : Ref) → Has q.parts x → x.chunk.kind ≡ 1 → Has (refs x) ref → IsS32 ref.addend
  strict_addend x ref h z r = ⊎_elim of_linker (λ o. of_object o.object o.there o.stands) (origin x h)
    where
      of_linker : MadeAs calls x → IsS32 ref.addend
      of_linker m =
          let kind : m.kind ≡ 1 = sym (ap (λ (y : Part). y.chunk.kind) m.is) ∙ z in
          absurd (subst (λ k. Has (refs (made_as calls m.place m.symbol k)) ref) kind (subst (λ y. Has (refs y) ref) m.is r))

      of_object : (o : Object) → Has objects o → Stood all objects (res o) x → IsS32 ref.addend
      of_object o ho (as_function k f at e) = absurd (let w = kind_of x _ 0 1 e refl z in omega (arith, w))
      of_object o ho (as_global k g at e) = absurd (let w = kind_of x _ 2 1 e refl z in omega (arith, w))
      of_object o ho (as_segment k g at e) =
          let n = subst (λ (y : Part). Has y.named (a_symbol ref)) e (refs_named x ref r) in
          let w = has_pick (window_named (res o)) g.windows (a_symbol ref) n in
          let fits = all_has IsReloc g.windows (all_has IsSegment o.segments (are o ho).segments g (has_at o.segments k g at)).windows w.0 w.1 in
          subst IsS32 (window_addend w.0.offset w.0.kind w.0.addend (slice_get (res o).symbols w.0.index) (slice_get (res o).meanings w.0.index) ref (symbol_ref (ref_in (res o) w.0.offset w.0.kind w.0.index w.0.addend) ref w.2)) fits.addend

  pub addends : (part : Part) (ref : Ref) → Has (program_of Shared plan files all objects).parts part → part.chunk.kind ≡ 1 → Has (refs part) ref → IsS32 ref.addend
  addends part ref h z r =
      let c = ref_before_is part ref h r in
      let a = strict_addend c.part_before c.ref_before c.there (ap (λ (c : Chunk). c.kind) c.chunk ∙ z) c.listed in
      ⊎_elim
      (λ (x : IsChanged q.entries plan.loose_calls c.ref_before). subst (λ (w : Ref). IsS32 w.addend) (sym x.is ∙ c.is) a)
      (λ same. subst (λ (w : Ref). IsS32 w.addend) (sym same ∙ c.is) a)
      (changed_or_not q.entries plan.loose_calls c.ref_before)

  -- ---- exports

  pub exports_listed : (e : InputSymbol) → Has (exported Shared (program_of Shared plan files all objects)) e → Has (program_of Shared plan files all objects).entries e
  unfolding exported program_of winners_of
  exports_listed e h = (has_filter (is_winner es) es e (has_filter _ (winners_of es) e h).0).0
