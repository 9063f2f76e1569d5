-- Each body of a shared output's module has a typing.
use Rattle.std.proofs.Common.{◌≡◌, ℕ, zero, suc, ◌<◌, List, [], ◌∷◌, ◌++◌, length, map, Some, Bool, true, false, refl, sym, ap, ◌∙◌, subst, inl, inr, arith}
use Rattle.std.specs.Prelude.{◌==◌, ◌&&◌, slice_get, option_map, option_and_then, cond, find, Option, Result, Ok, Err}
use Rattle.std.proofs.lemmas.Bool.{and_parts, eqb-true}
use Rattle.std.proofs.lemmas.Option.{slice_get-map}
use Rattle.std.proofs.lemmas.List.{length-map}
use Rattle.list_places.specs.Has.{Has, Apart}
use Rattle.list_places.proofs.Lists.{has_at, has_right}
use Rattle.wasm_types.specs.declared.function.FuncType.{FuncType}
use Rattle.wasm_grammar.specs.declared.fault.Stop.{Stop}
use Rattle.wasm_instr.specs.declared.instr.Instr.TheVariants as instrs
use Rattle.wasm_instr.specs.declared.body.Placed.{Placed}
use Rattle.wasm_instr.specs.declared.body.Body.{Body}
use Rattle.wasm_instr.specs.Bodies.{body_at}
use Rattle.object_columns.specs.declared.functions.FunctionDef.{FunctionDef}
use Rattle.object_file.specs.declared.object.Object.{Object}
use Rattle.object_file.specs.Spaces.{no_type, defined_type}
use Rattle.made_symbols.specs.declared.mode.Mode.TheVariants.{Shared}
use Rattle.made_symbols.specs.Made.{call_ctors}
use Rattle.live_mark.specs.Live.{ReachedLaw}
use Rattle.name_rules.specs.Entries.{InputSymbol, of_function}
use Rattle.link_rules.specs.Program.{Program, Part, Ref, refs}
use Rattle.link_rules.specs.Marks.{live, refs_of}
use Rattle.link_rules.specs.Keys.{FunctionKey, outside, linker_function, stub, own, ref_function, functions, defined_functions, function_imports_of, type_of, type_place, content_type, part_type, is_function_at, function_number}
use Rattle.link_rules.specs.Loader.{words}
use Rattle.link_rules.specs.Values.{Layout, part_bytes}
use Rattle.link_rules.specs.Output.{layout, image, is_import, defined}
use Rattle.link_worlds.specs.Bodies.{body_in, part_in, linked_calls, unplaced}
use Rattle.link_worlds.specs.Sound.{Shaped, same_part}
use Rattle.link_worlds.proofs.Functions.{find_part, picks_apart, Stood, stood}
use Rattle.shared_module.specs.Applied.{applied}
use Rattle.shared_module.specs.Outputs.{shared_source, shared_by, shared_module}
use Rattle.shared_module.proofs.Keys.{inner, defined_is}
use Rattle.valid_rules.specs.declared.types.Shape.{Shape}
use Rattle.valid_rules.specs.declared.types.Shape.TheVariants.{Typed, Leaves, End}
use Rattle.valid_rules.specs.Leads.{Labels, Leads, nothing, follows, typed, leaves, IsTyped}
use Rattle.valid_bodies.specs.declared.types.Context.{Context}
use Rattle.valid_bodies.specs.Meanings.{typed_as}
use Rattle.valid_bodies.specs.Shapes.{plain, as_type, shape, shapes_in, BodyIsTyped}
use Rattle.valid_bodies.specs.First.{HasTyping as BodyHasTyping, TypedAt}
use Rattle.valid_objects.specs.Objects.{object_shapes, HasTyping}
use Rattle.wasm_valid.specs.Spaces.{context_of}
use Rattle.output_types.specs.Functions.{IsFunction, IsTypedFunction, AreTyped, CallPlain}
use Rattle.shared_types.specs.Types.{HaveOneType}
use Rattle.shared_types.specs.Linked.{SharedLinkedBy}
use Rattle.shared_types.specs.Spaces.{HasSpaces}
use Rattle.shared_types.specs.Checked.{IsChecked}
use Rattle.shared_types.proofs.Meanings.{keeps, key_typed, callee_type}
use Rattle.shared_types.proofs.Shapes.{shapes_are}
use Rattle.shared_types.proofs.Words.{words_typed}

-- ---- the linker's own bodies

-- calls that take and give nothing
calls_lead : (ls : Labels) (ss : List Shape) → ((s : Shape) → Has ss s → s ≡ Typed no_type) → Leads ls ss [] []
calls_lead ls [] f = nothing
calls_lead ls (s ∷ ss) f = subst (λ x. Leads ls (x ∷ ss) [] []) (sym (f s (inl refl))) (follows {is = Typed no_type ∷ []} {js = ss} (typed {t = no_type}) (calls_lead ls ss (λ x h. f x (inr h))))

-- what a stub has
stub_typed : (results : _) → IsTyped results (Leaves [] ∷ End ∷ [])
stub_typed results = record { body = Leaves [] ∷ []; ends = refl; leads = leaves [] }

mapped_last : {A B C : Type 0} (f : B → C) (g : A → B) (xs : List A) (z : B) → map f (map g xs ++ z ∷ []) ≡ map (λ x. f (g x)) xs ++ f z ∷ []
mapped_last f g [] z = refl
mapped_last f g (x ∷ xs) z = ap (λ ys. f (g x) ∷ ys) (mapped_last f g xs z)

each_shape : {A B : Type 0} (f : A → B) (b : B) (xs : List A) → ((x : A) → Has xs x → f x ≡ b) → (y : B) → Has (map f xs) y → y ≡ b
each_shape f b [] g y h = absurd h
each_shape f b (x ∷ xs) g y (inl e) = sym e ∙ g x (inl refl)
each_shape f b (x ∷ xs) g y (inr h) = each_shape f b xs (λ z m. g z (inr m)) y h

-- what is at a place of a list
there_at : {A : Type 0} (xs : List A) (k : ℕ) → k < length xs → (x : A) × (slice_get xs k ≡ Some x)
there_at [] k h = absurd (omega (arith, h))
there_at (x ∷ xs) zero h = (x, refl)
there_at (x ∷ xs) (suc k) h = there_at xs k (omega (arith, h))

-- what a part is known by
is_at : (part : Part) (input index : ℕ) → is_function_at input index part ≡ true → (part.chunk.kind ≡ 0) × (part.chunk.input ≡ input)
is_at part input index t =
    let p = and_parts ((part.chunk.kind == 0) && (part.chunk.input == input)) (part.chunk.index == index) t in
    let q = and_parts (part.chunk.kind == 0) (part.chunk.input == input) p.0 in
    (eqb-true part.chunk.kind 0 q.0, eqb-true part.chunk.input input q.1)

module _ (law : ReachedLaw) (p : Program) (exports : List InputSymbol) (lk : SharedLinkedBy p exports) (s : HasSpaces p exports) (one : HaveOneType p (live p exports)) where
  abbrev parts : List Part
  parts = live p exports

  abbrev lay : Layout
  lay = layout Shared p (live p exports) exports

  abbrev c : Context
  c = context_of (shared_module p exports)

  apart : Apart same_part parts
  apart = picks_apart p exports lk.sound.apart

  -- ---- functions of objects

  module _ (part : Part) (h : Has (live p exports) part) (k : part.chunk.kind ≡ 0) (i : part.chunk.input ≡ 0 → ⊥) where
    pub shapes_kept : (o : Object) (f : FunctionDef) → IsFunction o f part → (b : Body) → body_at (part_bytes p part) ≡ Ok b → shapes_in c (defined_type o f) (part_in Shared lay p (Some part)) ≡ object_shapes o f b
    shapes_kept o f is b e =
        ap (λ r. shapes_in c (defined_type o f) (body_in Shared lay part.named r)) e
        ∙ shapes_are Shared lay c o f.operands part.named (defined_type o f) b.locals (keeps law p exports lk s part h k i one o) is.named b.code
        (subst (Shaped part.named) e (lk.shaped part h k i))

    own_typed : (t : IsTypedFunction p part) → BodyIsTyped c (content_type part.content) (part_in Shared lay p (Some part))
    own_typed t = by_body (body_at (part_bytes p part)) refl t.typed
      where
        by_body : (r : Result Body Stop) → body_at (part_bytes p part) ≡ r → HasTyping t.object t.def r → BodyIsTyped c (content_type part.content) (part_in Shared lay p (Some part))
        by_body (Err stop) e q = absurd q
        by_body (Ok b) e q =
            subst (λ x. BodyIsTyped c (content_type x) (part_in Shared lay p (Some part))) (sym t.is.type)
            (subst (IsTyped (defined_type t.object t.def).results) (sym (shapes_kept t.object t.def t.is b e)) q)

  -- ---- the function that calls the init functions

  module _ (plain_calls : CallPlain (live p exports)) where
    same_type : {a b : FuncType} → of_function a ≡ of_function b → a ≡ b
    same_type q = grind arith

    call_shape : (part : Part) (ref : Ref) → Has parts part → part.chunk.input ≡ 0 → Has (refs part) ref → shape c no_type [] (instrs.Call (function_number lay.numbers (ref_function ref))) ≡ Typed no_type
    call_shape part ref h z r =
        let kind = lk.calls part ref h z r in
        ap (λ o. as_type Typed (typed_as o)) (callee_type law p exports lk s part ref h r kind)
        ∙ ap Typed (sym (same_type (sym (plain_calls part ref h z r) ∙ (one part ref h r).function kind)))

    made_typed : (part : Part) → Has parts part → part.chunk.input ≡ 0 → BodyIsTyped c no_type (linked_calls p lay (Some part))
    unfolding plain
    made_typed part h z =
        let call = λ (ref : Ref). unplaced p lay (instrs.Call (function_number lay.numbers (ref_function ref))) in
        let see = λ (q : Placed). shape c no_type [] q.instr in
        let shapes = map (λ (ref : Ref). see (call ref)) (refs part) in
        record {
          body = shapes;
          ends = mapped_last see call (refs part) (unplaced p lay (instrs.Plain 0x0B));
          leads = calls_lead ([] ∷ []) shapes (each_shape (λ (ref : Ref). see (call ref)) (Typed no_type) (refs part) (λ ref r. call_shape part ref h z r));
        }

    -- ---- all functions, by their keys

    module _ (typed_parts : AreTyped p (live p exports)) (checked : IsChecked p exports) where
      abbrev IsTypedKey : FunctionKey → Type 0
      IsTypedKey k = BodyIsTyped c (type_of p parts k) (shared_source p lay parts k)

      linkers : (o : Option Part) (part : Part) → o ≡ Some part → Has parts part → part.chunk.input ≡ 0 → (first : Bool) → BodyIsTyped c no_type (cond first (linked_calls p lay o) (applied (words Shared p parts lay)))
      linkers o part e h z true = subst (λ o. BodyIsTyped c no_type (linked_calls p lay o)) (sym e) (made_typed part h z)
      linkers o part e h z false = words_typed law p exports lk s checked

      by_stood : (k : FunctionKey) → is_import Shared p parts exports lay k ≡ false → Stood parts k → IsTypedKey k
      unfolding plain
      by_stood (outside k) e q = absurd (grind arith)
      by_stood (stub name) e q = stub_typed (type_of p parts (stub name)).results
      by_stood (linker_function n) e q =
          let t = is_at q.0 0 n q.2 in
          linkers (find (is_function_at 0 n) parts) q.0 (find_part parts 0 n q.0 apart q.1 q.2) q.1 t.1 (n == call_ctors)
      by_stood (own i x) e q =
          let t = is_at q.0 i x q.2 in
          let z = λ (y : q.0.chunk.input ≡ 0). q.3 (sym t.1 ∙ y) in
          subst (λ o. BodyIsTyped c (part_type o) (part_in Shared lay p o)) (sym (find_part parts i x q.0 apart q.1 q.2)) (own_typed q.0 q.1 t.0 z (typed_parts q.0 q.1 t.0 z))

      key_has : (f : FunctionKey) → Has (defined_functions p parts) f → IsTypedKey f × (slice_get lay.numbers.types (type_place lay.numbers (type_of p parts f)) ≡ Some (type_of p parts f))
      unfolding layout functions
      key_has f h =
          let there = has_right (map outside (function_imports_of Shared p (refs_of parts))) (defined_functions p parts) f h in
          (by_stood f (inner p parts exports f h) (stood parts p f (has_right _ (defined_functions p parts) f h)), key_typed law p exports lk s f there)

      -- the bodies of these functions
      bodies_in : (fs : List FunctionKey) → ((f : FunctionKey) → Has fs f → IsTypedKey f × (slice_get lay.numbers.types (type_place lay.numbers (type_of p parts f)) ≡ Some (type_of p parts f)))
          → (k : ℕ) → k < length (map (shared_source p lay parts) fs)
          → BodyHasTyping c (option_and_then (slice_get lay.numbers.types) (slice_get (map (λ f. type_place lay.numbers (type_of p parts f)) fs) k)) (slice_get (map (shared_source p lay parts) fs) k)
      bodies_in fs each k h =
          let tp = λ (f : FunctionKey). type_place lay.numbers (type_of p parts f) in
          let long : k < length fs = subst (λ n. k < n) (length-map fs (shared_source p lay parts)) h in
          let f = there_at fs k long in
          let b = slice_get-map (shared_source p lay parts) fs k ∙ ap (option_map (shared_source p lay parts)) f.1 in
          let t = slice_get-map tp fs k ∙ ap (option_map tp) f.1 in
          let q = each f.0 (has_at fs k f.0 f.1) in
          subst (λ o. BodyHasTyping c (option_and_then (slice_get lay.numbers.types) o) (slice_get (map (shared_source p lay parts) fs) k)) (sym t)
          (subst (λ o. BodyHasTyping c o (slice_get (map (shared_source p lay parts) fs) k)) (sym q.1)
          (subst (λ o. BodyHasTyping c (Some (type_of p parts f.0)) o) (sym b) q.0))

      pub bodies_typed : (k : ℕ) → k < length (shared_module p exports).bodies → TypedAt c (shared_module p exports).functions (shared_module p exports).bodies k
      unfolding shared_by image
      bodies_typed k h =
          bodies_in (defined Shared p parts exports lay) (λ f m. key_has f (subst (λ fs. Has fs f) (defined_is p parts exports) m)) k h
