-- The parts of a program by kind.
use Rattle.std.proofs.Common.{◌≡◌, ℕ, ◌==◌, Bool, true, false, List, [], ◌++◌, map, filter, append-nil, ⊎_elim, refl, ap, ◌∙◌}
use Rattle.std.specs.Prelude.{flat_map}
use Rattle.std.proofs.lemmas.List.Elements.{filter-append}
use Rattle.list_places.specs.Has.{Has}
use Rattle.list_places.proofs.Lists.{has_either, has_filter}
use Rattle.name_rules.specs.object_file.object_parts.declared.parts.GlobalDef.{GlobalDef}
use Rattle.name_rules.specs.object_file.object_columns.declared.functions.FunctionDef.{FunctionDef}
use Rattle.name_rules.specs.object_file.object_columns.declared.segments.SegmentDef.{SegmentDef}
use Rattle.name_rules.specs.object_file.declared.object.Object.{Object}
use Rattle.made_symbols.specs.declared.mode.Mode.TheVariants.{Plain}
use Rattle.made_symbols.specs.Made.{made}
use Rattle.name_rules.specs.Entries.{entries}
use Rattle.name_rules.specs.Meanings.{Resolved, no_uses, resolved_in, resolve}
use Rattle.link_rules.specs.Program.{Part, program_of, loose_parts, parts_of, parts_in, made_parts_from, init_calls, indexed, function_part, segment_part, global_part, kept_in}
use Rattle.link_rules.specs.Keys.{parts_of_kind}
use Rattle.partial_laws.proofs.Symbols.{flat_of_map}
use Rattle.partial_parts_laws.specs.Linked.{Linked, program}
use Rattle.partial_parts_laws.proofs.Zips.{filter_flat, filter_none, filter_every, filter_swap, indexed_all}

-- ---- lists of three kinds

module _ (t u : Part → Bool) (F S G : List Part) where
  abbrev all : List Part
  all = F ++ S ++ G

  cut : filter t (F ++ S ++ G) ≡ filter t F ++ filter t S ++ filter t G
  cut = filter-append t (F ++ S) G ∙ ap (λ xs. xs ++ filter t G) (filter-append t F S)

  pub kind_first : ((x : Part) → Has F x → t x ≡ true) → ((x : Part) → Has S x → t x ≡ false) → ((x : Part) → Has G x → t x ≡ false) → filter t (filter u (F ++ S ++ G)) ≡ filter u F
  kind_first f s g =
      filter_swap t u (F ++ S ++ G)
      ∙ ap (filter u) (cut ∙ (ap (λ xs. xs ++ filter t S ++ filter t G) (filter_every t F f) ∙ (ap (λ xs. F ++ xs ++ filter t G) (filter_none t S s) ∙ (ap (λ xs. F ++ [] ++ xs) (filter_none t G g)
      ∙ (append-nil (F ++ []) ∙ append-nil F)))))

  pub kind_second : ((x : Part) → Has F x → t x ≡ false) → ((x : Part) → Has S x → t x ≡ true) → ((x : Part) → Has G x → t x ≡ false) → filter t (filter u (F ++ S ++ G)) ≡ filter u S
  kind_second f s g =
      filter_swap t u (F ++ S ++ G)
      ∙ ap (filter u) (cut ∙ (ap (λ xs. xs ++ filter t S ++ filter t G) (filter_none t F f) ∙ (ap (λ xs. xs ++ filter t G) (filter_every t S s) ∙ (ap (λ xs. S ++ xs) (filter_none t G g) ∙ append-nil S))))

  pub kind_third : ((x : Part) → Has F x → t x ≡ false) → ((x : Part) → Has S x → t x ≡ false) → ((x : Part) → Has G x → t x ≡ true) → filter t (filter u (F ++ S ++ G)) ≡ filter u G
  kind_third f s g =
      filter_swap t u (F ++ S ++ G)
      ∙ ap (filter u) (cut ∙ (ap (λ xs. xs ++ filter t S ++ filter t G) (filter_none t F f) ∙ (ap (λ xs. xs ++ filter t G) (filter_none t S s) ∙ filter_every t G g)))

-- an element of three lists
pub of_three : {P : Type 0} (F S G : List Part) (x : Part) → Has (F ++ S ++ G) x → (Has F x → P) → (Has S x → P) → (Has G x → P) → P
of_three F S G x has f s g = ⊎_elim (λ front. ⊎_elim f s (has_either F S x front)) g (has_either (F ++ S) G x has)

-- ---- the parts of a program

module _ (l : Linked) (objects : List Object) where
  abbrev pub res : Object → Resolved
  res o = resolved_in Plain no_uses l.plan.allow_undefined (entries Plain objects) objects o

  pub resolved_are : (program l objects).resolved ≡ map res objects
  unfolding program_of resolve
  resolved_are = refl

  pub objects_are : (program l objects).objects ≡ objects
  unfolding program_of
  objects_are = refl

  pub files_are : (program l objects).files ≡ l.files
  unfolding program_of
  files_are = refl

  pub plan_is : (program l objects).plan ≡ l.plan
  unfolding program_of
  plan_is = refl

  -- the linker's
  abbrev pub own_parts : List Part
  own_parts = made_parts_from (init_calls (program l objects).resolved) 0 (made Plain)

  abbrev pub object_parts : Object → List Part
  object_parts o = parts_in l.all objects (res o)

  pub parts_are : l.plan.loose_calls ≡ false → (program l objects).parts ≡ own_parts ++ flat_map object_parts objects
  unfolding program_of parts_of resolve
  parts_are strict =
      ap (λ (b : Bool). loose_parts b (entries Plain objects) (parts_of Plain l.all objects (resolve Plain l.plan.allow_undefined (entries Plain objects) objects))) strict
      ∙ ap (λ ps. made_parts_from (init_calls (map res objects)) 0 (made Plain) ++ ps) (flat_of_map res (parts_in l.all objects) objects)

  pub parts_by : l.plan.loose_calls ≡ false → (t : Part → Bool) → filter t (program l objects).parts ≡ filter t own_parts ++ flat_map (λ o. filter t (object_parts o)) objects
  parts_by strict t =
      ap (filter t) (parts_are strict) ∙ (filter-append t own_parts (flat_map object_parts objects) ∙ ap (λ xs. filter t own_parts ++ xs) (filter_flat t object_parts objects))

  -- ---- of an object, by kind

  abbrev kept : Object → Part → Bool
  kept o = λ (x : Part). kept_in objects o x.chunk

  abbrev kind_is : ℕ → Part → Bool
  kind_is k = λ (x : Part). x.chunk.kind == k

  abbrev pub make_function : Object → ℕ → FunctionDef → Part
  make_function o = λ n f. function_part l.all objects (res o) n f

  abbrev pub make_segment : Object → ℕ → SegmentDef → Part
  make_segment o = λ n g. segment_part l.all objects (res o) n g

  abbrev pub make_global : Object → ℕ → GlobalDef → Part
  make_global o = λ n g. global_part l.all objects (res o) n g

  abbrev pub function_parts : Object → List Part
  function_parts o = indexed (make_function o) 0 o.functions

  abbrev pub segment_parts : Object → List Part
  segment_parts o = indexed (make_segment o) 0 o.segments

  abbrev pub global_parts : Object → List Part
  global_parts o = indexed (make_global o) 0 o.globals

  functions_kind : (k : ℕ) (b : Bool) → (0 == k) ≡ b → (o : Object) (x : Part) → Has (function_parts o) x → kind_is k x ≡ b
  functions_kind k b is o x has = indexed_all (λ y. kind_is k y ≡ b) (make_function o) (λ n f. is) 0 o.functions x has

  segments_kind : (k : ℕ) (b : Bool) → (1 == k) ≡ b → (o : Object) (x : Part) → Has (segment_parts o) x → kind_is k x ≡ b
  segments_kind k b is o x has = indexed_all (λ y. kind_is k y ≡ b) (make_segment o) (λ n g. is) 0 o.segments x has

  globals_kind : (k : ℕ) (b : Bool) → (2 == k) ≡ b → (o : Object) (x : Part) → Has (global_parts o) x → kind_is k x ≡ b
  globals_kind k b is o x has = indexed_all (λ y. kind_is k y ≡ b) (make_global o) (λ n g. is) 0 o.globals x has

  pub functions_in : (o : Object) → parts_of_kind 0 (object_parts o) ≡ filter (kept o) (function_parts o)
  functions_in o =
      kind_first (kind_is 0) (kept o) (function_parts o) (segment_parts o) (global_parts o) (functions_kind 0 true refl o) (segments_kind 0 false refl o) (globals_kind 0 false refl o)

  pub segments_in : (o : Object) → parts_of_kind 1 (object_parts o) ≡ filter (kept o) (segment_parts o)
  segments_in o =
      kind_second (kind_is 1) (kept o) (function_parts o) (segment_parts o) (global_parts o) (functions_kind 1 false refl o) (segments_kind 1 true refl o) (globals_kind 1 false refl o)

  pub globals_in : (o : Object) → parts_of_kind 2 (object_parts o) ≡ filter (kept o) (global_parts o)
  globals_in o =
      kind_third (kind_is 2) (kept o) (function_parts o) (segment_parts o) (global_parts o) (functions_kind 2 false refl o) (segments_kind 2 false refl o) (globals_kind 2 true refl o)

  -- the input of a part
  pub object_input : (o : Object) (x : Part) → Has (object_parts o) x → x.chunk.input ≡ o.input
  object_input o x has =
      let f = has_filter (λ (y : Part). kept_in objects o y.chunk) (function_parts o ++ segment_parts o ++ global_parts o) x has in
      of_three (function_parts o) (segment_parts o) (global_parts o) x f.0
      (λ h. indexed_all (λ y. y.chunk.input ≡ o.input) (make_function o) (λ n g. refl) 0 o.functions x h)
      (λ h. indexed_all (λ y. y.chunk.input ≡ o.input) (make_segment o) (λ n g. refl) 0 o.segments x h)
      (λ h. indexed_all (λ y. y.chunk.input ≡ o.input) (make_global o) (λ n g. refl) 0 o.globals x h)
