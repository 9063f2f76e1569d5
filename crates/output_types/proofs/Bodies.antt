-- Each body of the output's module has a typing.
use Rattle.std.proofs.Common.{◌≡◌, ℕ, zero, suc, ◌<◌, List, [], ◌∷◌, ◌++◌, length, map, Some, Bool, true, false, refl, sym, ap, ◌∙◌, subst, inl, inr, arith}
use Rattle.std.specs.Prelude.{◌==◌, ◌&&◌, not, slice_get, filter, option_map, option_and_then, Result, Ok, Err}
use Rattle.std.proofs.lemmas.Bool.{and_parts, eqb-true}
use Rattle.std.proofs.lemmas.Option.{slice_get-map}
use Rattle.std.proofs.lemmas.List.{length-map}
use Rattle.list_places.specs.Has.{Has}
use Rattle.list_places.proofs.Lists.{has_at, has_filter}
use Rattle.link_worlds.specs.link_rules.object_file.wasm_types.declared.function.FuncType.{FuncType}
use Rattle.link_worlds.specs.link_rules.object_file.wasm_module.wasm_instr.wasm_grammar.declared.fault.Stop.{Stop}
use Rattle.link_worlds.specs.link_rules.object_file.wasm_module.wasm_instr.declared.instr.Instr.TheVariants as instrs
use Rattle.link_worlds.specs.link_rules.object_file.wasm_module.wasm_instr.declared.body.Placed.{Placed}
use Rattle.link_worlds.specs.link_rules.object_file.wasm_module.wasm_instr.declared.body.Body.{Body}
use Rattle.link_worlds.specs.link_rules.object_file.wasm_module.wasm_instr.Bodies.{body_at}
use Rattle.link_worlds.specs.link_rules.object_file.object_columns.declared.functions.FunctionDef.{FunctionDef}
use Rattle.link_worlds.specs.link_rules.object_file.declared.object.Object.{Object}
use Rattle.link_worlds.specs.link_rules.object_file.Spaces.{no_type, defined_type}
use Rattle.made_symbols.specs.declared.mode.Mode.TheVariants.{Plain}
use Rattle.live_mark.specs.Live.{ReachedLaw}
use Rattle.link_worlds.specs.link_rules.name_rules.Entries.{InputSymbol, of_function}
use Rattle.link_worlds.specs.link_rules.Program.{Program, Part, Ref, refs}
use Rattle.link_worlds.specs.link_rules.Marks.{live}
use Rattle.link_worlds.specs.link_rules.Keys.{FunctionKey, outside, linker_function, stub, own, ref_function, type_of, type_place, content_type, part_type, is_function_at, function_number}
use Rattle.link_worlds.specs.link_rules.Values.{Layout, part_bytes}
use Rattle.link_worlds.specs.link_rules.Output.{layout, image, is_import}
use Rattle.link_worlds.specs.Bodies.{linked_body, linked_part, linked_calls, linked_source, unplaced}
use Rattle.link_worlds.specs.Worlds.{layout_of, module_by, linked_module}
use Rattle.link_worlds.specs.Sound.{Shaped}
use Rattle.link_worlds.specs.Statements.{LinkedBy}
use Rattle.link_worlds.proofs.Refs.{callee_pairs}
use Rattle.link_worlds.proofs.Functions.{find_part, live_apart, Stood, stood}
use Rattle.link_worlds.proofs.Spaces.{key_typed}
use Rattle.valid_rules.specs.declared.types.Shape.{Shape}
use Rattle.valid_rules.specs.declared.types.Shape.TheVariants.{Typed, Leaves, End}
use Rattle.valid_rules.specs.Leads.{Labels, Leads, nothing, follows, typed, leaves, IsTyped}
use Rattle.valid_bodies.specs.declared.types.Context.{Context}
use Rattle.valid_bodies.specs.Meanings.{typed_as}
use Rattle.valid_bodies.specs.Shapes.{plain, as_type, shape, shapes_in, BodyIsTyped}
use Rattle.valid_bodies.specs.First.{HasTyping as BodyHasTyping, TypedAt}
use Rattle.valid_objects.specs.Objects.{object_shapes, HasTyping}
use Rattle.wasm_valid.specs.Spaces.{context_of}
use Rattle.output_types.specs.Types.{HaveOneType}
use Rattle.output_types.specs.Spaces.{HasSpaces}
use Rattle.output_types.specs.Functions.{IsFunction, IsTypedFunction, AreTyped, CallPlain}
use Rattle.output_types.proofs.Numbers.{callee_at}
use Rattle.output_types.proofs.Meanings.{keeps, type_at_number}
use Rattle.output_types.proofs.Shapes.{shapes_are}

-- ---- the linker's own bodies

-- calls that take and give nothing
calls_lead : (ls : Labels) (ss : List Shape) → ((s : Shape) → Has ss s → s ≡ Typed no_type) → Leads ls ss [] []
calls_lead ls [] f = nothing
calls_lead ls (s ∷ ss) f = subst (λ x. Leads ls (x ∷ ss) [] []) (sym (f s (inl refl))) (follows {is = Typed no_type ∷ []} {js = ss} (typed {t = no_type}) (calls_lead ls ss (λ x h. f x (inr h))))

-- what a stub has
stub_typed : (results : _) → IsTyped results (Leaves [] ∷ End ∷ [])
stub_typed results = record { body = Leaves [] ∷ []; ends = refl; leads = leaves [] }

mapped_last : {A B C : Type 0} (f : B → C) (g : A → B) (xs : List A) (z : B) → map f (map g xs ++ z ∷ []) ≡ map (λ x. f (g x)) xs ++ f z ∷ []
mapped_last f g [] z = refl
mapped_last f g (x ∷ xs) z = ap (λ ys. f (g x) ∷ ys) (mapped_last f g xs z)

each_shape : {A B : Type 0} (f : A → B) (b : B) (xs : List A) → ((x : A) → Has xs x → f x ≡ b) → (y : B) → Has (map f xs) y → y ≡ b
each_shape f b [] g y h = absurd h
each_shape f b (x ∷ xs) g y (inl e) = sym e ∙ g x (inl refl)
each_shape f b (x ∷ xs) g y (inr h) = each_shape f b xs (λ z m. g z (inr m)) y h

-- what is at a place of a list
there_at : {A : Type 0} (xs : List A) (k : ℕ) → k < length xs → (x : A) × (slice_get xs k ≡ Some x)
there_at [] k h = absurd (omega (arith, h))
there_at (x ∷ xs) zero h = (x, refl)
there_at (x ∷ xs) (suc k) h = there_at xs k (omega (arith, h))

-- what a part is known by
is_at : (part : Part) (input index : ℕ) → is_function_at input index part ≡ true → (part.chunk.kind ≡ 0) × (part.chunk.input ≡ input)
is_at part input index t =
    let p = and_parts ((part.chunk.kind == 0) && (part.chunk.input == input)) (part.chunk.index == index) t in
    let q = and_parts (part.chunk.kind == 0) (part.chunk.input == input) p.0 in
    (eqb-true part.chunk.kind 0 q.0, eqb-true part.chunk.input input q.1)

module _ (law : ReachedLaw) (p : Program) (exports : List InputSymbol) (lk : LinkedBy p exports (layout_of p exports)) (s : HasSpaces p exports) (one : HaveOneType p (live p exports)) where
  abbrev parts : List Part
  parts = live p exports

  abbrev lay : Layout
  lay = layout Plain p (live p exports) exports

  abbrev c : Context
  c = context_of (linked_module p exports)

  -- ---- functions of objects

  module _ (part : Part) (h : Has (live p exports) part) (k : part.chunk.kind ≡ 0) (i : part.chunk.input ≡ 0 → ⊥) where
    pub shapes_kept : (o : Object) (f : FunctionDef) → IsFunction o f part → (b : Body) → body_at (part_bytes p part) ≡ Ok b → shapes_in c (defined_type o f) (linked_part p lay (Some part)) ≡ object_shapes o f b
    shapes_kept o f is b e =
        ap (λ r. shapes_in c (defined_type o f) (linked_body p lay part.named r)) e
        ∙ shapes_are p lay c o f.operands part.named (defined_type o f) b.locals (keeps law p exports lk s part h k i one o) is.named b.code
        (subst (Shaped part.named) e (lk.shaped part h k i))

    own_typed : (t : IsTypedFunction p part) → BodyIsTyped c (content_type part.content) (linked_part p lay (Some part))
    own_typed t = by_body (body_at (part_bytes p part)) refl t.typed
      where
        by_body : (r : Result Body Stop) → body_at (part_bytes p part) ≡ r → HasTyping t.object t.def r → BodyIsTyped c (content_type part.content) (linked_part p lay (Some part))
        by_body (Err stop) e q = absurd q
        by_body (Ok b) e q =
            subst (λ x. BodyIsTyped c (content_type x) (linked_part p lay (Some part))) (sym t.is.type)
            (subst (IsTyped (defined_type t.object t.def).results) (sym (shapes_kept t.object t.def t.is b e)) q)

  -- ---- the function that calls the init functions

  module _ (plain_calls : CallPlain (live p exports)) where
    same_type : {a b : FuncType} → of_function a ≡ of_function b → a ≡ b
    same_type q = grind arith

    call_shape : (part : Part) (ref : Ref) → Has parts part → part.chunk.input ≡ 0 → Has (refs part) ref → shape c no_type [] (instrs.Call (function_number lay.numbers (ref_function ref))) ≡ Typed no_type
    call_shape part ref h z r =
        let kind = lk.calls part ref h z r in
        let n = function_number lay.numbers (ref_function ref) in
        let t = type_at_number law p exports lk s (ref_function ref) n (callee_at p lay ref n (callee_pairs law p exports lk.sound part ref lk.resolved h r kind)) in
        ap (λ o. as_type Typed (typed_as o)) t
        ∙ ap Typed (sym (same_type (sym (plain_calls part ref h z r) ∙ (one part ref h r).function kind)))

    made_typed : (part : Part) → Has parts part → part.chunk.input ≡ 0 → BodyIsTyped c no_type (linked_calls p lay (Some part))
    unfolding plain
    made_typed part h z =
        let call = λ (ref : Ref). unplaced p lay (instrs.Call (function_number lay.numbers (ref_function ref))) in
        let see = λ (q : Placed). shape c no_type [] q.instr in
        let shapes = map (λ (ref : Ref). see (call ref)) (refs part) in
        record {
          body = shapes;
          ends = mapped_last see call (refs part) (unplaced p lay (instrs.Plain 0x0B));
          leads = calls_lead ([] ∷ []) shapes (each_shape (λ (ref : Ref). see (call ref)) (Typed no_type) (refs part) (λ ref r. call_shape part ref h z r));
        }

    -- ---- all functions, by their keys

    module _ (typed_parts : AreTyped p (live p exports)) where
      abbrev IsTypedKey : FunctionKey → Type 0
      IsTypedKey k = BodyIsTyped c (type_of p parts k) (linked_source p lay parts k)

      by_stood : (k : FunctionKey) → is_import Plain p parts exports lay k ≡ false → Stood parts k → IsTypedKey k
      unfolding plain
      by_stood (outside k) e q = absurd (grind arith)
      by_stood (stub name) e q = stub_typed (type_of p parts (stub name)).results
      by_stood (linker_function n) e q =
          let t = is_at q.0 0 n q.2 in
          subst (λ o. BodyIsTyped c no_type (linked_calls p lay o)) (sym (find_part parts 0 n q.0 (live_apart p exports lk.sound) q.1 q.2)) (made_typed q.0 q.1 t.1)
      by_stood (own i x) e q =
          let t = is_at q.0 i x q.2 in
          let z = λ (y : q.0.chunk.input ≡ 0). q.3 (sym t.1 ∙ y) in
          subst (λ o. BodyIsTyped c (part_type o) (linked_part p lay o)) (sym (find_part parts i x q.0 (live_apart p exports lk.sound) q.1 q.2)) (own_typed q.0 q.1 t.0 z (typed_parts q.0 q.1 t.0 z))

      abbrev defined_keys : List FunctionKey
      defined_keys = filter (λ f. not (is_import Plain p parts exports lay f)) lay.numbers.functions

      key_has : (k : ℕ) (f : FunctionKey) → slice_get defined_keys k ≡ Some f → IsTypedKey f × (slice_get lay.numbers.types (type_place lay.numbers (type_of p parts f)) ≡ Some (type_of p parts f))
      unfolding layout
      key_has k f e =
          let q = has_filter (λ f. not (is_import Plain p parts exports lay f)) lay.numbers.functions f (has_at defined_keys k f e) in
          (by_stood f (not_true (is_import Plain p parts exports lay f) q.1) (stood parts p f q.0), key_typed p exports lk.sound f q.0)
        where
          not_true : (b : Bool) → not b ≡ true → b ≡ false
          not_true true h = absurd (grind arith)
          not_true false h = refl

      pub bodies_typed : (k : ℕ) → k < length (linked_module p exports).bodies → TypedAt c (linked_module p exports).functions (linked_module p exports).bodies k
      unfolding module_by image
      bodies_typed k h =
          let tp = λ (f : FunctionKey). type_place lay.numbers (type_of p parts f) in
          let long : k < length defined_keys = subst (λ n. k < n) (length-map defined_keys (linked_source p lay parts)) h in
          let f = there_at defined_keys k long in
          let b = slice_get-map (linked_source p lay parts) defined_keys k ∙ ap (option_map (linked_source p lay parts)) f.1 in
          let t = slice_get-map tp defined_keys k ∙ ap (option_map tp) f.1 in
          let q = key_has k f.0 f.1 in
          subst (λ o. BodyHasTyping c (option_and_then (slice_get lay.numbers.types) o) (slice_get (map (linked_source p lay parts) defined_keys) k)) (sym t)
          (subst (λ o. BodyHasTyping c o (slice_get (map (linked_source p lay parts) defined_keys) k)) (sym q.1)
          (subst (λ o. BodyHasTyping c (Some (type_of p parts f.0)) o) (sym b) q.0))
