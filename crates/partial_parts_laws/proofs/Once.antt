-- No chunk of a program stands twice.
use Rattle.std.proofs.Common.{◌≡◌, ℕ, ◌+◌, ◌<◌, ◌≤◌, Bool, true, false, List, [], ◌∷◌, ◌++◌, map, inl, inr, ⊎_elim, refl, sym, ap, ◌∙◌, subst, arith}
use Rattle.std.specs.Prelude.{Option, Some, None, slice_get, position, option_map, flat_map}
use Rattle.std.proofs.lemmas.Option.{slice_get-map}
use Rattle.std.proofs.lemmas.List.Concat.{flat_map-cons}
use Rattle.list_places.specs.Has.{Has, Apart}
use Rattle.list_places.proofs.Lists.{has_either, has_at, has_flat, all_has, placed, stands, apart_append, apart_filter, apart_map, apart_place}
use Rattle.made_symbols.specs.declared.mode.Mode.TheVariants.{Plain}
use Rattle.made_symbols.specs.Made.{MadeSymbol, made}
use Rattle.name_rules.specs.object_file.declared.object.Object.{Object}
use Rattle.name_rules.specs.Entries.{made_entry}
use Rattle.mark_bits.specs.declared.chunk.Chunk.{Chunk}
use Rattle.link_rules.specs.Program.{Part, Ref, option_onto, made_kind, made_parts_from, init_calls, kept_in, same_chunk}
use Rattle.partial_laws.specs.Loaded.{Rise}
use Rattle.partial_laws.proofs.Members.{chunk_equal, chunk_itself}
use Rattle.partial_laws.proofs.Loading.{rise_above}
use Rattle.partial_parts_laws.specs.Linked.{Linked, program}
use Rattle.partial_parts_laws.proofs.Parts.{make_function, make_segment, make_global, own_parts, object_parts, parts_are, function_parts, segment_parts, global_parts, object_input}
use Rattle.partial_parts_laws.proofs.Zips.{indexed_all, indexed_apart}
use Rattle.partial_parts_laws.proofs.RunParts.{own_part, made_input}

abbrev pub same_part : Part → Part → Bool
same_part a b = same_chunk a.chunk b.chunk

input_of : (a b : Part) → same_part a b ≡ true → a.chunk.input ≡ b.chunk.input
input_of a b e = ap (λ (c : Chunk). c.input) (chunk_equal a.chunk b.chunk e)

kind_of : (a b : Part) → same_part a b ≡ true → a.chunk.kind ≡ b.chunk.kind
kind_of a b e = ap (λ (c : Chunk). c.kind) (chunk_equal a.chunk b.chunk e)

index_of : (a b : Part) → same_part a b ≡ true → a.chunk.index ≡ b.chunk.index
index_of a b e = ap (λ (c : Chunk). c.index) (chunk_equal a.chunk b.chunk e)

-- ---- the linker's

made_places : (calls : List Ref) (n at : ℕ) (ms : List MadeSymbol) → n ≤ at → (x : Part) → Has (made_parts_from calls at ms) x → n ≤ x.chunk.index
made_places calls n at [] le x has = absurd has
made_places calls n at (m ∷ ms) le x has = by_kind (made_kind m.kind) has (made_places calls n (at + 1) ms (omega (arith, le)) x)
  where
    by_kind : (k : Option ℕ) → Has (option_onto (option_map (own_part calls (made_entry at m) m) k) (made_parts_from calls (at + 1) ms)) x → (Has (made_parts_from calls (at + 1) ms) x → n ≤ x.chunk.index) → n ≤ x.chunk.index
    by_kind None h rest = rest h
    by_kind (Some k) (inl e) rest = subst (λ (z : Part). n ≤ z.chunk.index) e le
    by_kind (Some k) (inr h) rest = rest h

made_apart : (calls : List Ref) (at : ℕ) (ms : List MadeSymbol) → Apart same_part (made_parts_from calls at ms)
made_apart calls at [] = tt
made_apart calls at (m ∷ ms) = by_kind (made_kind m.kind) (made_apart calls (at + 1) ms)
  where
    by_kind : (k : Option ℕ) → Apart same_part (made_parts_from calls (at + 1) ms) → Apart same_part (option_onto (option_map (own_part calls (made_entry at m) m) k) (made_parts_from calls (at + 1) ms))
    by_kind None rest = rest
    by_kind (Some k) rest =
        ((λ y has same. let e : at ≡ y.chunk.index = index_of (own_part calls (made_entry at m) m k) y same in let le = made_places calls (at + 1) (at + 1) ms (omega arith) y has in omega (arith, le, e)), rest)

-- ---- of objects

module _ (l : Linked) (objects : List Object) where
  object_apart : (o : Object) → Apart same_part (object_parts l objects o)
  object_apart o =
      apart_filter same_part (λ (x : Part). kept_in objects o x.chunk) (function_parts l objects o ++ segment_parts l objects o ++ global_parts l objects o)
      (apart_append same_part (function_parts l objects o ++ segment_parts l objects o) (global_parts l objects o)
      (apart_append same_part (function_parts l objects o) (segment_parts l objects o)
      (indexed_apart same_part (make_function l objects o) (λ n k x y e. index_of (make_function l objects o n x) (make_function l objects o k y) e) 0 o.functions)
      (indexed_apart same_part (make_segment l objects o) (λ n k x y e. index_of (make_segment l objects o n x) (make_segment l objects o k y) e) 0 o.segments)
      (λ x y hx hy e. omega (arith, function x hx, segment y hy, kind_of x y e)))
      (indexed_apart same_part (make_global l objects o) (λ n k x y e. index_of (make_global l objects o n x) (make_global l objects o k y) e) 0 o.globals)
      (λ x y hx hy e. ⊎_elim (λ h. omega (arith, function x h, global y hy, kind_of x y e)) (λ h. omega (arith, segment x h, global y hy, kind_of x y e)) (has_either (function_parts l objects o) (segment_parts l objects o) x hx)))
    where
      function : (x : Part) → Has (function_parts l objects o) x → x.chunk.kind ≡ 0
      function x has = indexed_all (λ y. y.chunk.kind ≡ 0) (make_function l objects o) (λ n f. refl) 0 o.functions x has

      segment : (x : Part) → Has (segment_parts l objects o) x → x.chunk.kind ≡ 1
      segment x has = indexed_all (λ y. y.chunk.kind ≡ 1) (make_segment l objects o) (λ n f. refl) 0 o.segments x has

      global : (x : Part) → Has (global_parts l objects o) x → x.chunk.kind ≡ 2
      global x has = indexed_all (λ y. y.chunk.kind ≡ 2) (make_global l objects o) (λ n f. refl) 0 o.globals x has

  all_apart : (last : ℕ) (os : List Object) → Rise last os → Apart same_part (flat_map (object_parts l objects) os)
  all_apart last [] r = tt
  all_apart last (o ∷ os) r =
      subst (Apart same_part) (sym (flat_map-cons (object_parts l objects) o os))
      (apart_append same_part (object_parts l objects o) (flat_map (object_parts l objects) os) (object_apart o) (all_apart o.input os r.1)
      (λ x y hx hy same.
      let f = has_flat (object_parts l objects) os y hy in
      let lt = all_has (λ (z : Object). o.input < z.input) os (rise_above o.input os r.1) f.0 f.1 in
      omega (arith, object_input l objects o x hx, lt, object_input l objects f.0 y f.2, input_of x y same)))

  -- The parts of a program whose inputs rise are told apart by their chunks.
  pub parts_apart : Rise 0 objects → l.plan.loose_calls ≡ false → Apart same_part (program l objects).parts
  parts_apart r strict =
      subst (Apart same_part) (sym (parts_are l objects strict))
      (apart_append same_part (own_parts l objects) (flat_map (object_parts l objects) objects) (made_apart (init_calls (program l objects).resolved) 0 (made Plain)) (all_apart 0 objects r)
      (λ x y hx hy same.
      let f = has_flat (object_parts l objects) objects y hy in
      let lt = all_has (λ (z : Object). 0 < z.input) objects (rise_above 0 objects r) f.0 f.1 in
      omega (arith, made_input (init_calls (program l objects).resolved) 0 (made Plain) x hx, lt, object_input l objects f.0 y f.2, input_of x y same)))

-- ---- places

chunk_turned : (c d : Chunk) → same_chunk c d ≡ true → same_chunk d c ≡ true
chunk_turned c d e = ap (same_chunk d) (chunk_equal c d e) ∙ chunk_itself d

-- In a list without repeats each stands at its own place.
pub place_is : (xs : List Part) → Apart same_part xs → (k : ℕ) (x : Part) → slice_get xs k ≡ Some x → position (same_chunk x.chunk) (map (λ (y : Part). y.chunk) xs) ≡ Some k
place_is xs apart k x is =
    let cs : List Chunk = map (λ (y : Part). y.chunk) xs in
    let there : slice_get cs k ≡ Some x.chunk = slice_get-map (λ (y : Part). y.chunk) xs k ∙ ap (option_map (λ (y : Part). y.chunk)) is in
    let found = placed (same_chunk x.chunk) cs x.chunk (has_at cs k x.chunk there) (chunk_itself x.chunk) in
    let at = stands (same_chunk x.chunk) cs found.0 found.1 in
    let same : k ≡ found.0 = apart_place same_chunk chunk_turned cs (apart_map same_part same_chunk (λ (y : Part). y.chunk) (λ a b e. e) xs apart) k found.0 x.chunk at.item there at.there at.passes in
    found.1 ∙ ap Some (sym same)
