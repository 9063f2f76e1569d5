-- What the parts of a program are in their objects.
use Rattle.std.proofs.Common.{◌≡◌, ℕ, List, [], ◌∷◌, length, map, Option, Some, None, Bool, true, false, cond, refl, sym, ap, ◌∙◌, subst, inl, inr, ⊎_elim, arith}
use Rattle.std.specs.Prelude.{◌⊎◌, ◌==◌, ◌&&◌, not, slice_get, filter_map, option_map, IsTrue, pos}
use Rattle.std.specs.List.{All}
use Rattle.std.proofs.lemmas.Bool.{false≢true}
use Rattle.std.proofs.lemmas.Option.{get_or_from_slice_get}
use Rattle.list_places.specs.Has.{Has}
use Rattle.list_places.proofs.Lists.{below, has_at, has_either, has_map, has_pick, has_filter, all_has, some_is}
use Rattle.wasm_instr.specs.Bodies.{body_at}
use Rattle.linking_section.specs.declared.symbol.Symbol.{Symbol}
use Rattle.linking_section.specs.declared.symbol.SymbolKind.{SymbolKind}
use Rattle.linking_section.specs.declared.symbol.SymbolKind.TheVariants.{Function, Datum, GlobalVar, Section, Table}
use Rattle.linking_section.specs.declared.init.InitFunc.{InitFunc}
use Rattle.object_parts.specs.declared.parts.GlobalDef.{GlobalDef}
use Rattle.object_rules.specs.Metadata.{is_function_kind}
use Rattle.object_columns.specs.declared.functions.FunctionDef.{FunctionDef}
use Rattle.object_file.specs.declared.object.Object.{Object}
use Rattle.object_file.specs.Spaces.{no_type, defined_type, function_types}
use Rattle.object_file.specs.Sound.{Sound as ObjectSound, OperandNames, NamesInRange, IsInit}
use Rattle.round_rules.specs.Rounds.{Candidate}
use Rattle.link_plan.specs.declared.plan.Plan.{Plan}
use Rattle.made_symbols.specs.Made.{made}
use Rattle.made_symbols.specs.declared.mode.Mode.TheVariants.{Shared}
use Rattle.mark_bits.specs.declared.chunk.Chunk.{Chunk}
use Rattle.name_rules.specs.Entries.{InputSymbol, of_function, entries, symbols_of, type_in}
use Rattle.name_rules.specs.Meanings.{Resolved, uses_of, resolved_in}
use Rattle.name_rules.specs.Cases.{clash_by}
use Rattle.image_emit.specs.Bytes.{file_part}
use Rattle.link_rules.specs.Program.{Program, strict_program, loosened, Part, parts_in, made_parts_from, function, segment, global, linker_made, Ref, refs, a_symbol, function_part, init_calls, init_calls_in, InitCall, init_call, ref_in, is_skipped, operand_named}
use Rattle.link_rules.specs.Values.{part_bytes}
use Rattle.shared_facts.specs.shared_links.link_worlds.Bodies.{named_at}
use Rattle.shared_facts.specs.shared_links.link_program.declared.home.Home.{Home}
use Rattle.shared_facts.specs.shared_links.link_program.Loaded.{IsLoaded}
use Rattle.shared_facts.specs.shared_links.program_build.Standing.{StrictPartsStand, LoadedPartsStand}
use Rattle.shared_facts.specs.shared_links.link_facts.Facts.{IsFrom, bytes_of}
use Rattle.shared_facts.proofs.shared_links_lemmas.link_facts_lemmas.Symbols.{symbol_at, one_object, positive}
use Rattle.shared_facts.proofs.shared_links_lemmas.link_facts_lemmas.Parts.{Stood, as_function, as_segment, as_global, stood, MadeAs, made_as, made_behind, object_parts, of_some_object as object_of, input_of}
use Rattle.shared_facts.proofs.shared_links_lemmas.link_facts_lemmas.Refs.{calls_are, refs_named}
use Rattle.shared_facts.proofs.shared_links_lemmas.link_facts_lemmas.Loosened.{part_by, ref_by, named_by, came, ref_came, changed_or_not}
use Rattle.valid_objects.specs.Objects.{operand_at, body_bytes, HasTyping, TypedIn, IsValidObject}
use Rattle.output_types.specs.Functions.{NamesSame, IsTypedFunction}
use Rattle.shared_facts.proofs.shared_links_lemmas.link_facts_lemmas.Coded.{bytes_are}
use Rattle.shared_facts.proofs.shared_links_lemmas.shared_laws_lemmas.Rows.{ref_parts}
use Rattle.shared_facts.proofs.Programs.{parts_are, symbol_in, sound_in}
use Rattle.valid_shared_links.proofs.Operands.{same_named}

module _ (all : List InputSymbol) where
  content_kept : (b : Bool) (part : Part) → (part_by all b part).content ≡ part.content
  content_kept true part = refl
  content_kept false part = refl

  chunk_kept : (b : Bool) (part : Part) → (part_by all b part).chunk ≡ part.chunk
  chunk_kept true part = refl
  chunk_kept false part = refl

  source_kept : (b : Bool) (part : Part) → (part_by all b part).source ≡ part.source
  source_kept true part = refl
  source_kept false part = refl

  same_map : {A : Type 0} (xs : List A) → xs ≡ map (λ x. x) xs
  same_map [] = refl
  same_map (x ∷ xs) = ap (λ r. x ∷ r) (same_map xs)

  named_kept : (b : Bool) (part : Part) → (part_by all b part).named ≡ map (named_by all b) part.named
  named_kept true part = refl
  named_kept false part = same_map part.named

  -- loosening keeps the type
  pub type_kept : (b : Bool) (ref : Ref) → (ref_by all b ref).entry.type ≡ ref.entry.type
  type_kept b ref = elim (changed_or_not all b ref) as (λ _. (ref_by all b ref).entry.type ≡ ref.entry.type) [
    | inl c ↦ ap (λ (r : Ref). r.entry.type) c.is
    | inr q ↦ ap (λ (r : Ref). r.entry.type) q
  ]

module _ (strict_law : StrictPartsStand) (stand_law : LoadedPartsStand) (plan : Plan) (files : List (List ℕ)) (all : List Candidate) (objects : List Object) (homes : List Home) (loaded : IsLoaded files all objects homes)
    (clear : clash_by plan.loose_calls (entries Shared objects) ≡ None) where
  abbrev pub strict : Program
  strict = strict_program Shared plan files all objects

  abbrev pub es : List InputSymbol
  es = entries Shared objects

  abbrev pub res : Object → Resolved
  res o = resolved_in Shared (uses_of Shared objects) plan.allow_undefined (entries Shared objects) objects o

  -- ---- a part, before its calls were loosened

  pub before : (part : Part) → Has (loosened strict).parts part → (x : Part) × Has strict.parts x × (part_by es plan.loose_calls x ≡ part)
  before part h = came strict refl (symbol_in strict_law stand_law plan files all objects homes loaded clear) part h

  -- a part of an object
  pub record OfObject (part : Part) : Type 0 where
    pub object : Object
    pub there : Has objects object
    pub strict_part : Part
    pub stands : Stood all objects (res object) strict_part
    pub is : part_by es plan.loose_calls strict_part ≡ part

  abbrev calls_to : List Ref
  calls_to = init_calls (map res objects)

  -- a part is the linker's or an object's
  origin : (x : Part) → Has strict.parts x → MadeAs calls_to x ⊎ ((o : Object) × Has objects o × Has (parts_in all objects (res o)) x)
  origin x h =
      ⊎_elim (λ a. inl (made_behind calls_to 0 (made Shared) x a).0) (λ a. inr (object_of all objects res (λ o. refl) calls_to objects x a))
      (has_either (made_parts_from calls_to 0 (made Shared)) (object_parts all objects res (λ o. refl) calls_to objects) x
      (subst (λ xs. Has xs x) (parts_are strict_law stand_law plan files all objects homes loaded clear) h))

  in_this : (o : Object) → Has objects o → (x : Part) → Has strict.parts x → x.chunk.input ≡ o.input → Has (parts_in all objects (res o)) x
  in_this o ho x h z =
      ⊎_elim
      (λ (m : MadeAs calls_to x). absurd (positive objects loaded.rise o ho (sym z ∙ ap (λ (y : Part). y.chunk.input) m.is)))
      (λ b. subst (λ w. Has (parts_in all objects (res w)) x) (one_object 0 objects loaded.rise b.0 o b.1 ho (sym (input_of all objects res (λ o. refl) calls_to b.0 x b.2) ∙ z)) b.2)
      (origin x h)

  chunk_before : (part x : Part) → part_by es plan.loose_calls x ≡ part → x.chunk ≡ part.chunk
  chunk_before part x e = sym (chunk_kept es plan.loose_calls x) ∙ ap (λ (y : Part). y.chunk) e

  pub of_some_object : (part : Part) → Has (loosened strict).parts part → (part.chunk.input ≡ 0 → ⊥) → OfObject part
  of_some_object part h n =
      let x = before part h in
      ⊎_elim
      (λ (m : MadeAs calls_to x.0). absurd (n (ap (λ (c : Chunk). c.input) (sym (chunk_before part x.0 x.2)) ∙ ap (λ (y : Part). y.chunk.input) m.is)))
      (λ b. record { object = b.0; there = b.1; strict_part = x.0; stands = stood all objects (res b.0) x.0 b.2; is = x.2 })
      (origin x.0 x.1)

  -- a part of this object
  pub of_this_object : (o : Object) → Has objects o → (part : Part) → Has (loosened strict).parts part → part.chunk.input ≡ o.input → (x : Part) × Stood all objects (res o) x × (part_by es plan.loose_calls x ≡ part)
  of_this_object o ho part h z =
      let x = before part h in
      let i : x.0.chunk.input ≡ o.input = ap (λ (c : Chunk). c.input) (chunk_before part x.0 x.2) ∙ z in
      (x.0, stood all objects (res o) x.0 (in_this o ho x.0 x.1 i), x.2)

  -- ---- its functions and globals

  pub record IsFunctionPart (o : Object) (part : Part) : Type 0 where
    pub def : FunctionDef
    pub there : slice_get o.functions part.chunk.index ≡ Some def
    pub is : part ≡ part_by es plan.loose_calls (function_part all objects (res o) part.chunk.index def)

  pub function_is : (o : Object) (part x : Part) → Stood all objects (res o) x → part_by es plan.loose_calls x ≡ part → part.chunk.kind ≡ 0 → IsFunctionPart o part
  function_is o part x (as_function k f at e) q z =
      let i : part.chunk.index ≡ k = ap (λ (c : Chunk). c.index) (sym (chunk_before part x q)) ∙ ap (λ (y : Part). y.chunk.index) e in
      record {
        def = f;
        there = ap (slice_get o.functions) i ∙ at;
        is = sym q ∙ ap (part_by es plan.loose_calls) e ∙ ap (λ n. part_by es plan.loose_calls (function_part all objects (res o) n f)) (sym i);
      }
  function_is o part x (as_segment k g at e) q z = absurd (let a : x.chunk.kind ≡ 1 = ap (λ (y : Part). y.chunk.kind) e in let b : x.chunk.kind ≡ 0 = ap (λ (c : Chunk). c.kind) (chunk_before part x q) ∙ z in omega (arith, a, b))
  function_is o part x (as_global k g at e) q z = absurd (let a : x.chunk.kind ≡ 2 = ap (λ (y : Part). y.chunk.kind) e in let b : x.chunk.kind ≡ 0 = ap (λ (c : Chunk). c.kind) (chunk_before part x q) ∙ z in omega (arith, a, b))

  pub function_content : (o : Object) (part : Part) (f : IsFunctionPart o part) → part.content ≡ function (defined_type o f.def)
  function_content o part f = ap (λ (y : Part). y.content) f.is ∙ content_kept es plan.loose_calls (function_part all objects (res o) part.chunk.index f.def)

  pub record IsGlobalPart (o : Object) (part : Part) : Type 0 where
    pub def : GlobalDef
    pub there : slice_get o.globals part.chunk.index ≡ Some def
    pub content : part.content ≡ global def

  pub global_is : (o : Object) (part x : Part) → Stood all objects (res o) x → part_by es plan.loose_calls x ≡ part → part.chunk.kind ≡ 2 → IsGlobalPart o part
  global_is o part x (as_global k g at e) q z =
      let i : part.chunk.index ≡ k = ap (λ (c : Chunk). c.index) (sym (chunk_before part x q)) ∙ ap (λ (y : Part). y.chunk.index) e in
      record {
        def = g;
        there = ap (slice_get o.globals) i ∙ at;
        content = ap (λ (y : Part). y.content) (sym q) ∙ content_kept es plan.loose_calls x ∙ ap (λ (y : Part). y.content) e;
      }
  global_is o part x (as_function k f at e) q z = absurd (let a : x.chunk.kind ≡ 0 = ap (λ (y : Part). y.chunk.kind) e in let b : x.chunk.kind ≡ 2 = ap (λ (c : Chunk). c.kind) (chunk_before part x q) ∙ z in omega (arith, a, b))
  global_is o part x (as_segment k g at e) q z = absurd (let a : x.chunk.kind ≡ 1 = ap (λ (y : Part). y.chunk.kind) e in let b : x.chunk.kind ≡ 2 = ap (λ (c : Chunk). c.kind) (chunk_before part x q) ∙ z in omega (arith, a, b))

  -- a part that has a global is one of an object
  pub of_global : (part : Part) → Has (loosened strict).parts part → (g : GlobalDef) → part.content ≡ global g → (o : Object) × Has objects o × Has o.globals g
  of_global part h g e =
      let x = before part h in
      let c : x.0.content ≡ global g = sym (content_kept es plan.loose_calls x.0) ∙ ap (λ (y : Part). y.content) x.2 ∙ e in
      ⊎_elim
      (λ (m : MadeAs calls_to x.0). absurd (let a : linker_made m.symbol ≡ global g = sym (ap (λ (y : Part). y.content) m.is) ∙ c in grind arith))
      (λ b. (b.0, b.1, by_stood b.0 x.0 (stood all objects (res b.0) x.0 b.2) c))
      (origin x.0 x.1)
    where
      by_stood : (o : Object) (x : Part) → Stood all objects (res o) x → x.content ≡ global g → Has o.globals g
      by_stood o x (as_function k f at q) c = absurd (let a : function (defined_type o f) ≡ global g = sym (ap (λ (y : Part). y.content) q) ∙ c in grind arith)
      by_stood o x (as_segment k s at q) c = absurd (let a : segment s.info ≡ global g = sym (ap (λ (y : Part). y.content) q) ∙ c in grind arith)
      by_stood o x (as_global k d at q) c = subst (Has o.globals) (same (sym (ap (λ (y : Part). y.content) q) ∙ c)) (has_at o.globals k d at)
        where
          same : {a b : GlobalDef} → global a ≡ global b → a ≡ b
          same r = grind arith

  -- ---- typed functions

  module _ (sound : (o : Object) → Has objects o → (from : IsFrom files all o) → ObjectSound (length (bytes_of files from.candidate)) o) where
    pub typed_function : (o : Object) (ho : Has objects o) (from : IsFrom files all o) → IsValidObject o (bytes_of files from.candidate) → (part : Part) → IsFunctionPart o part → IsTypedFunction (loosened strict) part
    typed_function o ho from valid part f =
        let s = sound o ho from in
        let c = from.candidate in
        let at = has_at o.functions part.chunk.index f.def f.there in
        let x = function_part all objects (res o) part.chunk.index f.def in
        let bytes : body_bytes (bytes_of files c) f.def.span ≡ part_bytes (loosened strict) part =
        bytes_are Shared (uses_of Shared objects) plan.allow_undefined (entries Shared objects) objects o strict all part.chunk.index f.def f.there from s
        ∙ ap (file_part files) (sym (source_kept es plan.loose_calls x))
        ∙ ap (λ (y : Part). file_part files y.source) (sym f.is) in
        let names = all_has (λ (f : FunctionDef). All (OperandNames o) f.operands) o.functions s.operand_names f.def at in
        let named : part.named ≡ map (named_by es plan.loose_calls) (filter_map (operand_named (res o)) f.def.operands) = ap (λ (y : Part). y.named) f.is ∙ named_kept es plan.loose_calls x in
        record {
          object = o;
          def = f.def;
          is = record {
            type = function_content o part f;
            named = λ place. subst (λ ns. NamesSame o (operand_at f.def.operands place) (named_at ns place)) (sym named)
                (same_named (uses_of Shared objects) plan.allow_undefined (entries Shared objects) objects o es plan.loose_calls (λ s' h. all_has (λ (w : Symbol). NamesInRange o w w.kind) o.symbols s.symbols s' h) f.def.operands (λ y h. all_has (OperandNames o) f.def.operands names y h) place);
          };
          typed = subst (λ bs. HasTyping o f.def (body_at bs)) bytes (typed_at f.def f.there);
        }
      where
        typed_in : (x : Option FunctionDef) (g : FunctionDef) → x ≡ Some g → TypedIn o (bytes_of files from.candidate) x → HasTyping o g (body_at (body_bytes (bytes_of files from.candidate) g.span))
        typed_in x g e t = subst (TypedIn o (bytes_of files from.candidate)) e t

        typed_at : (g : FunctionDef) → slice_get o.functions part.chunk.index ≡ Some g → HasTyping o g (body_at (body_bytes (bytes_of files from.candidate) g.span))
        typed_at g e = typed_in (slice_get o.functions part.chunk.index) g e (valid.bodies part.chunk.index (below o.functions part.chunk.index g e))

  -- ---- what the linker's functions call

  call_type : (o : Object) (size : ℕ) → ObjectSound size o → (i : InitFunc) → Has o.inits i → (c : InitCall) → init_call (res o) i ≡ Some c → c.ref.entry.type ≡ of_function no_type
  call_type o size s i h c e =
      let p = ref_parts 0 0 (pos 0) (slice_get (symbols_of objects o) i.symbol) (slice_get (res o).meanings i.symbol) c.ref (of_call (ref_in (res o) 0 0 i.symbol (pos 0)) e) in
      let y = symbol_at objects o 0 o.symbols i.symbol c.ref.entry p.1 in
      let t = subst (IsInit o) y.1 (all_has (λ (i : InitFunc). IsInit o (slice_get o.symbols i.symbol)) o.inits s.inits i h) in
      ap (λ (x : InputSymbol). x.type) y.2
      ∙ ap (type_in o y.0) (is_function y.0.kind t.0)
      ∙ ap of_function (get_or_from_slice_get (function_types o) y.0.index no_type no_type t.1)
    where
      of_call : (x : Option Ref) → option_map (λ ref. record { priority = i.priority; ref = ref }) x ≡ Some c → x ≡ Some c.ref
      of_call None h = absurd (grind arith)
      of_call (Some y) h = ap Some (ap (λ (z : InitCall). z.ref) (some_is (record { priority = i.priority; ref = y }) c h))

      is_function : (k : SymbolKind) → IsTrue (is_function_kind k) → k ≡ Function
      is_function Function t = refl
      is_function Datum t = absurd (false≢true t)
      is_function GlobalVar t = absurd (false≢true t)
      is_function Section t = absurd (false≢true t)
      is_function Table t = absurd (false≢true t)

  pub calls_plain : (part : Part) (ref : Ref) → Has (loosened strict).parts part → part.chunk.input ≡ 0 → Has (refs part) ref → ref.entry.type ≡ of_function no_type
  calls_plain part ref h z r =
      let x = before part h in
      let i : x.0.chunk.input ≡ 0 = ap (λ (c : Chunk). c.input) (chunk_before part x.0 x.2) ∙ z in
      let m : MadeAs calls_to x.0 = ⊎_elim (λ m. m)
      (λ b. absurd (positive objects loaded.rise b.0 b.1 (sym (input_of all objects res (λ o. refl) calls_to b.0 x.0 b.2) ∙ i))) (origin x.0 x.1) in
      let rc = ref_came strict refl (symbol_in strict_law stand_law plan files all objects homes loaded clear) x.0 ref (subst (λ (y : Part). Has (refs y) ref) (sym x.2) r) in
      let named = refs_named (made_as calls_to m.place m.symbol m.kind) rc.0 (subst (λ (y : Part). Has (refs y) rc.0) m.is rc.1) in
      let c = calls_are (map res objects) rc.0 (of_calls rc.0 ((m.kind == 0) && (m.place == 0)) named) in
      let b = has_map res objects c.0 c.1 in
      let k = has_filter (λ c. not (is_skipped c)) (filter_map (init_call (res b.0)) b.0.inits) c.2 (subst (λ w. Has (init_calls_in w) c.2) (sym b.2) c.3) in
      let q = has_pick (init_call (res b.0)) b.0.inits c.2 k.0 in
      let s = sound_in strict_law stand_law plan files all objects homes loaded clear b.0 b.1 in
      sym (ap (λ (y : Ref). y.entry.type) rc.2) ∙ type_kept es plan.loose_calls rc.0 ∙ sym (ap (λ (y : Ref). y.entry.type) c.4) ∙ call_type b.0 s.0 s.1 q.0 q.1 c.2 q.2
    where
      symbol_is : (a b : Ref) → a_symbol a ≡ a_symbol b → a ≡ b
      symbol_is a b h = grind arith

      of_calls : (ref : Ref) (b : Bool) → Has (cond b (map a_symbol (init_calls (map res objects))) []) (a_symbol ref) → Has (init_calls (map res objects)) ref
      of_calls ref true h = let m = has_map a_symbol (init_calls (map res objects)) (a_symbol ref) h in subst (Has (init_calls (map res objects))) (symbol_is m.0 ref m.2) m.1
      of_calls ref false h = absurd h
