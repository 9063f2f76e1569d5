-- Offsets into live functions name the same instructions.
use Rattle.std.proofs.Common.{◌≡◌, ℕ, zero, suc, ◌<◌, ◌-◌, List, [], ◌∷◌, ◌++◌, length, map, take, drop, get_or, slice_index_or, Option, Some, None, Bool, true, false, inl, inr, refl, sym, ap, ◌∙◌, subst, arith}
use Rattle.std.specs.Prelude.{◌==◌, ◌&&◌, not, find, filter_map, position, if◌then◌else◌}
use Rattle.std.proofs.lemmas.Bool.{and_parts, and_from, eqb-true, ne_eqb}
use Rattle.std.proofs.lemmas.List.{get_or-map, get_or_append_left}
use Rattle.std.proofs.lemmas.List.Quantifiers.{position-Some}
use Rattle.list_places.specs.Has.{Has}
use Rattle.list_places.proofs.Lists.{has_right, pick_has, find_has, placed}
use Rattle.wasm_instr.specs.declared.body.Placed.{Placed}
use Rattle.wasm_instr.specs.Bodies.{SpellsBody}
use Rattle.wasm_instr.specs.wl_base.declared.span.Span.{Span}
use Rattle.object_file.specs.wl_base.Choice.{given}
use Rattle.linking_section.specs.declared.symbol.SymbolKind.TheVariants.{Function}
use Rattle.linking_section.specs.Flags.{is_undefined}
use Rattle.made_symbols.specs.declared.mode.Mode.TheVariants.{Plain}
use Rattle.name_rules.specs.Entries.{InputSymbol, is_kind}
use Rattle.reloc_apply.specs.declared.window.Patch.{Patch}
use Rattle.reloc_apply.specs.Windows.{filled, patch_of}
use Rattle.image_emit.specs.Bytes.{Tree, bytes_of, sized, vector, source_bytes}
use Rattle.image_emit.specs.Filled.{each_filled}
use Rattle.image_emit.specs.Pieces.{code_place, source_places}
use Rattle.image_emit.proofs.Stands.{no_code}
use Rattle.link_rules.specs.Program.{Program, Part}
use Rattle.link_rules.specs.Marks.{live, refs_of}
use Rattle.link_rules.specs.Keys.{FunctionKey, outside, linker_function, stub, own, same_function, functions, defined_functions, function_imports_of, made_function_key, own_function_key, stub_names, is_function_at}
use Rattle.link_rules.specs.Values.{Layout, part_bytes, windows, named_window, solid_segments}
use Rattle.link_rules.specs.Output.{layout, image, source_windows, defined, body_of, body_windows, windows_in, source_of}
use Rattle.link_rules.specs.LinkOf.{output_bytes}
use Rattle.link_worlds.specs.Bodies.{linked_placed}
use Rattle.link_worlds.specs.Worlds.{layout_of}
use Rattle.link_worlds.proofs.Keys.{functions_same}
use Rattle.link_worlds.proofs.Functions.{stood, Stood, find_part, live_apart}
use Rattle.link_worlds.proofs.Spaces.{outer_defined, kept_defined}
use Rattle.output_module.specs.Filled.{patches, linked_with, FilledBody}
use Rattle.output_module.specs.Outputs.{IsCoded}
use Rattle.link_debug.specs.Places.{place_in, place_of, tree, function_place, body_place}
use Rattle.link_debug.specs.Offsets.{cut_from, bytes, code, IsSameFrom, AreCoded, own_part}
use Rattle.link_debug.proofs.Bodies.{body_stands}

-- ---- lists

filled_at : (pss : List (List Patch)) (bs : List (List ℕ)) (k : ℕ) → k < length pss → k < length bs → slice_index_or (each_filled pss bs) k [] ≡ filled (slice_index_or pss k []) (slice_index_or bs k [])
filled_at [] bs k few lt = absurd (omega (arith, few))
filled_at (ps ∷ pss) [] k few lt = absurd (omega (arith, lt))
filled_at (ps ∷ pss) (b ∷ bs) zero few lt = refl
filled_at (ps ∷ pss) (b ∷ bs) (suc k) few lt = filled_at pss bs k (omega (arith, few)) (omega (arith, lt))

filled_count : (pss : List (List Patch)) (bs : List (List ℕ)) → length (each_filled pss bs) ≡ length bs
filled_count [] [] = refl
filled_count [] (b ∷ bs) = refl
filled_count (ps ∷ pss) [] = refl
filled_count (ps ∷ pss) (b ∷ bs) = ap suc (filled_count pss bs)

has_item : {A : Type 0} (xs : List A) (k : ℕ) (d : A) → k < length xs → Has xs (get_or xs k d)
has_item [] k d lt = absurd (omega (arith, lt))
has_item (x ∷ xs) zero d lt = inl refl
has_item (x ∷ xs) (suc k) d lt = inr (has_item xs k d (omega (arith, lt)))

count_map : {A B : Type 0} (f : A → B) (xs : List A) → length (map f xs) ≡ length xs
count_map f [] = refl
count_map f (x ∷ xs) = ap suc (count_map f xs)

count_both : {A : Type 0} (xs ys : List A) (k : ℕ) → k < length xs → k < length (xs ++ ys)
count_both [] ys k lt = absurd (omega (arith, lt))
count_both (x ∷ xs) ys zero lt = omega arith
count_both (x ∷ xs) ys (suc k) lt = omega (arith, count_both xs ys k (omega (arith, lt)))

map_twice : {A B C : Type 0} (f : B → C) (g : A → B) (xs : List A) → map f (map g xs) ≡ map (λ x. f (g x)) xs
map_twice f g [] = refl
map_twice f g (x ∷ xs) = ap (λ ys. f (g x) ∷ ys) (map_twice f g xs)

-- ---- what has a place

if_some : {A : Type 0} (b : Bool) (x : Option A) (n : A) → (if b then x else None) ≡ Some n → (b ≡ true) × (x ≡ Some n)
if_some true x n e = (refl, e)
if_some false x n e = absurd (grind arith)

of_some : (t : Tree) (o : Option ℕ) (n : ℕ) → place_of t o ≡ Some n → (k : ℕ) × (o ≡ Some k) × (place_of t (Some k) ≡ Some n)
of_some t None n e = absurd (grind arith)
of_some t (Some k) n e = (k, refl, e)

in_some : (t : Tree) (k n : ℕ) (o : Option Span) → place_in t k o ≡ Some n → (s : Span) × (o ≡ Some s)
in_some t k n None e = absurd (grind arith)
in_some t k n (Some s) e = (s, refl)

is_own : (i x : ℕ) (f : FunctionKey) → same_function (own i x) f ≡ true → f ≡ own i x
is_own i x (outside k) e = absurd (grind arith)
is_own i x (linker_function k) e = absurd (grind arith)
is_own i x (stub name) e = absurd (grind arith)
is_own i x (own j y) e =
    let q = and_parts (i == j) (x == y) e in
    ap (λ n. own n y) (sym (eqb-true i j q.0)) ∙ ap (λ n. own i n) (sym (eqb-true x y q.1))

-- ---- the law

module _ (filled_body : FilledBody) (stands : (t : Tree) (s : Span) → code_place t ≡ Some s → take s.len (drop s.start (bytes_of t)) ≡ vector sized t.bodies)
    (p : Program) (exports : List InputSymbol) (w : AreCoded p exports) where
  abbrev parts : List Part
  parts = live p exports

  abbrev lay : Layout
  lay = layout_of p exports

  abbrev fs : List FunctionKey
  fs = defined Plain p parts exports lay

  abbrev t : Tree
  t = tree Plain p parts exports lay

  defined_is : fs ≡ defined_functions p parts
  unfolding layout functions
  defined_is = kept_defined p exports w.sound (function_imports_of Plain p (refs_of parts)) (defined_functions p parts) (outer_defined p exports w.sound)

  stood_here : (f : FunctionKey) → Has fs f → Stood parts f
  unfolding functions
  stood_here f h =
      stood parts p f (has_right (map outside (function_imports_of Plain p (refs_of parts))) (defined_functions p parts) f (subst (λ ks. Has ks f) defined_is h))

  -- the body of a number, its windows written
  body_is : (k : ℕ) → k < length fs → slice_index_or t.bodies k []
      ≡ filled (map patch_of (body_windows Plain p parts exports lay (get_or fs k (stub [])))) (source_bytes p.files (body_of Plain p parts exports lay (get_or fs k (stub []))))
  unfolding image source_windows
  body_is k lt =
      let wss = map (body_windows Plain p parts exports lay) fs ++ map (windows Plain lay) (solid_segments p parts) in
      let few : k < length wss = count_both (map (body_windows Plain p parts exports lay) fs) (map (windows Plain lay) (solid_segments p parts)) k (omega (arith, lt, count_map (body_windows Plain p parts exports lay) fs)) in
      let pss = map (map patch_of) wss in
      let bs = map (source_bytes p.files) (map (body_of Plain p parts exports lay) fs) in
      filled_at pss bs k (omega (arith, few, count_map (map patch_of) wss)) (omega (arith, lt, count_map (source_bytes p.files) (map (body_of Plain p parts exports lay) fs), count_map (body_of Plain p parts exports lay) fs))
      ∙ (ap (λ ps. filled ps (slice_index_or bs k [])) (get_or-map (map patch_of) wss k [] [] few
      ∙ ap (map patch_of) (get_or_append_left (map (body_windows Plain p parts exports lay) fs) (map (windows Plain lay) (solid_segments p parts)) [] k (omega (arith, lt, count_map (body_windows Plain p parts exports lay) fs))
      ∙ get_or-map (body_windows Plain p parts exports lay) fs k (stub []) [] lt))
      ∙ ap (filled (map patch_of (body_windows Plain p parts exports lay (get_or fs k (stub [])))))
      (get_or-map (source_bytes p.files) (map (body_of Plain p parts exports lay) fs) k (body_of Plain p parts exports lay (stub [])) [] (omega (arith, lt, count_map (body_of Plain p parts exports lay) fs))
      ∙ ap (source_bytes p.files) (get_or-map (body_of Plain p parts exports lay) fs k (stub []) (body_of Plain p parts exports lay (stub [])) lt)))

  -- of a function of an object
  own_bytes : (o : Option Part) (part : Part) → o ≡ Some part
      → filled (map patch_of (windows_in Plain p parts exports lay o)) (source_bytes p.files (source_of Plain p parts exports lay o)) ≡ filled (patches lay part.named) (part_bytes p part)
  unfolding windows
  own_bytes None part e = absurd (grind arith)
  own_bytes (Some q) part e =
      let z : q ≡ part = grind arith in
      ap (λ (x : Part). filled (map patch_of (map (named_window Plain lay) x.named)) (part_bytes p x)) z
      ∙ ap (λ ps. filled ps (part_bytes p part)) (map_twice patch_of (named_window Plain lay) part.named)

  count_bodies : length t.bodies ≡ length fs
  unfolding image source_windows
  count_bodies =
      filled_count (map (map patch_of) (map (body_windows Plain p parts exports lay) fs ++ map (windows Plain lay) (solid_segments p parts))) (map (source_bytes p.files) (map (body_of Plain p parts exports lay) fs))
      ∙ (count_map (source_bytes p.files) (map (body_of Plain p parts exports lay) fs) ∙ count_map (body_of Plain p parts exports lay) fs)

  code_is : (n k : ℕ) → place_of t (Some k) ≡ Some n → code p exports ≡ vector sized t.bodies
  unfolding output_bytes
  code_is n k at =
      let s = in_some t k n (code_place t) at in
      ap (cut_from (bytes p exports)) s.1 ∙ stands t s.0 s.1

  same_from : (part : Part) (n k : ℕ) → IsCoded p part → k < length fs → place_of t (Some k) ≡ Some n
      → slice_index_or t.bodies k [] ≡ filled (patches lay part.named) (part_bytes p part) → IsSameFrom p exports part n
  same_from part n k c lt at is =
      let text = filled (patches lay part.named) (part_bytes p part) in
      let spelled : SpellsBody (linked_with p lay part.named c.body) text =
      subst (λ ns. SpellsBody (linked_with p lay ns c.body) (filled (patches lay ns) (part_bytes p part))) (sym c.named)
      (filled_body p lay c.body c.stands (part_bytes p part) c.spelled c.on) in
      record {
        body = c.body;
        text = text;
        object = c.spelled;
        stands = ap (λ z. take (length text) (drop n z)) (code_is n k at)
            ∙ (ap (λ b. take (length b) (drop n (vector sized t.bodies))) (sym is) ∙ (body_stands t k n (subst (λ m. k < m) (sym count_bodies) lt) at ∙ is));
        output = spelled;
        each = λ x h. has_each x c.body.code h;
      }
    where
      has_each : (x : Placed) (xs : List Placed) → Has xs x → Has (map (linked_placed p lay part.named) xs) (linked_placed p lay part.named x)
      has_each x [] h = absurd h
      has_each x (y ∷ ys) (inl e) = inl (ap (linked_placed p lay part.named) e)
      has_each x (y ∷ ys) (inr h) = inr (has_each x ys h)

  found : (i x n k : ℕ) → k < length fs → get_or fs k (stub []) ≡ own i x → place_of t (Some k) ≡ Some n
      → (part : Part) × (find (is_function_at i x) parts ≡ Some part) × IsSameFrom p exports part n
  found i x n k lt here at =
      let s : Stood parts (own i x) = stood_here (own i x) (subst (Has fs) here (has_item fs k (stub []) lt)) in
      let f = find_part parts i x s.0 (live_apart p exports w.sound) s.1 s.2 in
      let q = and_parts ((s.0.chunk.kind == 0) && (s.0.chunk.input == i)) (s.0.chunk.index == x) s.2 in
      let q' = and_parts (s.0.chunk.kind == 0) (s.0.chunk.input == i) q.0 in
      let c = w.coded s.0 s.1 (eqb-true s.0.chunk.kind 0 q'.0) (λ z. s.3 (sym (eqb-true s.0.chunk.input i q'.1) ∙ z)) in
      let is = body_is k lt
      ∙ (ap (λ (g : FunctionKey). filled (map patch_of (body_windows Plain p parts exports lay g)) (source_bytes p.files (body_of Plain p parts exports lay g))) here
      ∙ own_bytes (find (is_function_at i x) parts) s.0 f) in
      (s.0, f, same_from s.0 n k c lt at is)

  -- ---- what a symbol's object defines by it

  abbrev defines : InputSymbol → Bool
  defines e = is_kind Function e && not (is_undefined e.symbol)

  pub offset_names : (e : InputSymbol) (n : ℕ) → body_place Plain p parts exports lay e ≡ Some n → (part : Part) × (own_part p exports e ≡ Some part) × IsSameFrom p exports part n
  offset_names e n is =
      let b = if_some (defines e) (function_place Plain p parts exports lay (own e.input e.index)) n is in
      let r = of_some t (position (same_function (own e.input e.index)) fs) n b.1 in
      let q = position-Some (same_function (own e.input e.index)) fs r.0 (stub []) r.1 in
      let f = found e.input e.index n r.0 q.0 (is_own e.input e.index (get_or fs r.0 (stub [])) q.1) r.2 in
      (f.0, ap (λ b. if b then find (is_function_at e.input e.index) parts else None) b.0 ∙ f.1, f.2)

  pub dropped : (e : InputSymbol) → own_part p exports e ≡ None → body_place Plain p parts exports lay e ≡ None
  dropped e gone = by (body_place Plain p parts exports lay e) refl
    where
      by : (o : Option ℕ) → body_place Plain p parts exports lay e ≡ o → body_place Plain p parts exports lay e ≡ None
      by None is = is
      by (Some n) is =
          let r = offset_names e n is in
          let both : Some r.0 ≡ None = sym r.1 ∙ gone in
          absurd (grind arith)

  -- a live function is one of those that the output defines
  own_there : (i x : ℕ) (part : Part) → (i ≡ 0 → ⊥) → Has parts part → is_function_at i x part ≡ true → Has (defined_functions p parts) (own i x)
  own_there i x part some there is =
      let c = part.chunk in
      let q = and_parts ((c.kind == 0) && (c.input == i)) (c.index == x) is in
      let q' = and_parts (c.kind == 0) (c.input == i) q.0 in
      let input = eqb-true c.input i q'.1 in
      let test : (not (c.input == 0) && (c.kind == 0)) ≡ true = and_from (not (c.input == 0)) (c.kind == 0) (ap not (ne_eqb c.input 0 (λ z. some (sym input ∙ z)))) q'.0 in
      let key : own_function_key part ≡ Some (own i x) =
      ap (λ b. given b (own c.input c.index)) test ∙ (ap (λ n. Some (own n c.index)) input ∙ ap (λ n. Some (own i n)) (eqb-true c.index x q.1)) in
      has_right (filter_map made_function_key parts ++ map stub (stub_names p (refs_of parts))) (filter_map own_function_key parts) (own i x) (pick_has own_function_key parts part (own i x) there key)

  -- where there is a body, there is a code section
  code_there : (k : ℕ) → k < length fs → (s : Span) × (code_place t ≡ Some s)
  code_there k lt = by (code_place t) refl
    where
      by : (o : Option Span) → code_place t ≡ o → (s : Span) × (code_place t ≡ Some s)
      by None is = absurd (omega (arith, lt, count_bodies, ap (λ (bs : List (List ℕ)). length bs) (no_code t is)))
      by (Some s) is = (s, is)

  pub live_placed : (e : InputSymbol) (part : Part) → (e.input ≡ 0 → ⊥) → own_part p exports e ≡ Some part → (n : ℕ) × (body_place Plain p parts exports lay e ≡ Some n)
  live_placed e part some is =
      let key = own e.input e.index in
      let b = if_some (defines e) (find (is_function_at e.input e.index) parts) part is in
      let h = find_has (is_function_at e.input e.index) parts part b.1 in
      let there = subst (λ ks. Has ks key) (sym defined_is) (own_there e.input e.index part some h.0 h.1) in
      let k = placed (same_function key) fs key there (functions_same.itself key) in
      let q = position-Some (same_function key) fs k.0 (stub []) k.1 in
      let s = code_there k.0 q.0 in (
        slice_index_or (source_places t) k.0 0 - s.0.start,
        ap (λ b. if b then function_place Plain p parts exports lay key else None) b.0 ∙ (ap (place_of t) k.1 ∙ ap (place_in t k.0) s.1),
      )
