-- The bodies and the data of two programs that are one but for places: with windows written they are the same bytes.
use Rattle.std.proofs.Common.{◌≡◌, ℕ, ◌==◌, ◌&&◌, Bool, true, false, not, List, [], ◌∷◌, ◌++◌, map, refl, sym, ap, subst, ◌∙◌, arith}
use Rattle.std.specs.Prelude.{Option, Some, None, find, All}
use Rattle.std.specs.List.{AllZip}
use Rattle.std.proofs.lemmas.Bool.Decides.{nat_tests}
use Rattle.std.proofs.lemmas.List.Elements.{All-head, All-tail}
use Rattle.object_file.specs.linking_section.declared.symbol.SymbolKind.TheVariants.{Function}
use Rattle.object_rules.specs.Relocs.{may_name}
use Rattle.made_symbols.specs.declared.mode.Mode.TheVariants.{Plain}
use Rattle.name_rules.specs.Entries.{InputSymbol}
use Rattle.mark_bits.specs.declared.chunk.Chunk.{Chunk}
use Rattle.ctor_call.specs.Body.{ctor_body}
use Rattle.reloc_apply.specs.declared.window.Patch.{Patch}
use Rattle.reloc_apply.specs.Windows.{filled, patch_of, signed32}
use Rattle.image_emit.specs.Bytes.{Block, source_bytes}
use Rattle.image_emit.specs.Filled.{each_filled, blocks_filled}
use Rattle.link_rules.specs.Program.{Program, Part, Named, a_symbol, a_type, Ref, refs, chunk_at}
use Rattle.link_rules.specs.Keys.{FunctionKey, outside, linker_function, stub, own, ref_function, function_number, parts_of_kind, is_function_at}
use Rattle.link_rules.specs.Values.{Layout, part_bytes, is_zero, solid_segments, segment_address, named_window, windows}
use Rattle.link_rules.specs.Output.{first_address, calls_of, source_of, body_of, windows_in, body_windows}
use Rattle.object_file.specs.wasm_types.declared.const_expr.ConstExpr.TheVariants as constants
use Rattle.partial_rules.specs.Moving.{Moving, IsMoving, moved_function, SameWindows, AlikeRef, AlikePart, AlikeStage}
use Rattle.partial_rules.specs.Partial.{empty_window}
use Rattle.partial_rules.proofs.Lists.{map_map, map_where, zip_map, zip_filter, find_of, zip_find}
use Rattle.partial_rules.proofs.AlikeRefs.{refs_zip}
use Rattle.partial_rules.proofs.AlikeKeys.{ref_function_moves}
use Rattle.partial_rules.proofs.AlikeSlots.{ref_known}
use Rattle.partial_rules.proofs.AlikeTypes.{at_alike, no_kind}
use Rattle.partial_rules.proofs.AlikeWindows.{AlikeLayout, function_number_alike, segment_alike, windows_alike, only_function}

-- ---- windows written into each source

pub each_filled_is : {X : Type 0} (a : X → List Patch) (b : X → List ℕ) (ds : List X) (more : List (List Patch)) → each_filled (map a ds ++ more) (map b ds) ≡ map (λ d. filled (a d) (b d)) ds
each_filled_is a b [] [] = refl
each_filled_is a b [] (x ∷ more) = refl
each_filled_is a b (d ∷ ds) more = ap (λ rest. filled (a d) (b d) ∷ rest) (each_filled_is a b ds more)

pub blocks_filled_is : {X : Type 0} (a : X → List Patch) (b : X → Block) (ss : List X) → blocks_filled (map a ss) (map b ss) ≡ map (λ x. record { address = (b x).address; bytes = filled (a x) (b x).bytes }) ss
blocks_filled_is a b [] = refl
blocks_filled_is a b (x ∷ ss) = ap (λ rest. (record { address = (b x).address; bytes = filled (a x) (b x).bytes }) ∷ rest) (blocks_filled_is a b ss)

-- ---- the windows of a part are where its empty windows are

pub same_windows : (l : Layout) (ns : List Named) → SameWindows (map empty_window ns) (map patch_of (map (named_window Plain l) ns))
same_windows l [] = tt
same_windows l (a_symbol ref ∷ ns) = (refl, refl, same_windows l ns)
same_windows l (a_type w ∷ ns) = (refl, refl, same_windows l ns)

is_that : (n k : ℕ) → (n == k) ≡ true → n ≡ k
is_that n k e = grind (arith, nat_tests, e)

second : (a b c : Bool) → (a && b && c) ≡ true → b ≡ true
second true true c e = refl
second true false c e = absurd cc
second false b c e = absurd cc

module _ (m : Moving) (C : Chunk → Type 0) (K : InputSymbol → Type 0) (is : IsMoving m C K) (p q : Program) (xs ys : List Part) (ep eq : List InputSymbol) (l o : Layout) (s : AlikeStage m C K p q xs ys ep eq) (t : AlikeLayout m C K is l o) where
  -- the bytes of a part with its windows written
  abbrev pub written_part : Program → Layout → Part → List ℕ
  written_part r z part = filled (map patch_of (windows Plain z part)) (part_bytes r part)

  pub written_alike : (x y : Part) → AlikePart m C K p q x y → written_part q o y ≡ written_part p l x
  unfolding windows
  written_alike x y a =
      ap (λ ws. filled (map patch_of ws) (part_bytes q y)) (windows_alike m C K is l o t p q x y a)
      ∙ a.bytes (map patch_of (map (named_window Plain l) x.named)) (same_windows l x.named)

  -- ---- bodies

  abbrev pub written_body : Program → List Part → List InputSymbol → Layout → FunctionKey → List ℕ
  written_body r parts es z f = filled (map patch_of (body_windows Plain r parts es z f)) (source_bytes r.files (body_of Plain r parts es z f))

  abbrev pub IsBody : FunctionKey → Type 0
  IsBody (outside k) = Unit {0}
  IsBody (linker_function n) = (n ≡ 0) × C (chunk_at 0 0 0)
  IsBody (stub name) = Unit {0}
  IsBody (own input index) = C (chunk_at input 0 index)

  -- what is made of the part of a function
  pub found_alike : {D : Type 0} (input index : ℕ) → C (chunk_at input 0 index) → (f g : Option Part → D) → g None ≡ f None
      → ((x y : Part) → AlikePart m C K p q x y → is_function_at input index x ≡ true → g (Some y) ≡ f (Some x))
      → g (find (is_function_at (m.chunk (chunk_at input 0 index)).input (m.chunk (chunk_at input 0 index)).index) ys) ≡ f (find (is_function_at input index) xs)
  found_alike input index held f g none some =
      let c : Chunk = m.chunk (chunk_at input 0 index) in
      let code : Part → Bool = λ part. part.chunk.kind == 0 in
      ap g (find_of (is_function_at c.input c.index) code (λ y e. no_kind (y.chunk.kind == 0) (y.chunk.input == c.input) (y.chunk.index == c.index) e) ys)
      ∙ (zip_find (AlikePart m C K p q) (is_function_at input index) (is_function_at c.input c.index) f g none some
      (at_alike m C K is p q input index held) (parts_of_kind 0 xs) (parts_of_kind 0 ys) s.parts.functions
      ∙ ap f (sym (find_of (is_function_at input index) code (λ x e. no_kind (x.chunk.kind == 0) (x.chunk.input == input) (x.chunk.index == index) e) xs)))

  part_body : Program → List Part → List InputSymbol → Layout → Option Part → List ℕ
  part_body r parts es z found = filled (map patch_of (windows_in Plain r parts es z found)) (source_bytes r.files (source_of Plain r parts es z found))

  -- the calls of the linker's function
  call_kinds : (as' bs : List Ref) → All (λ (ref : Ref). ref.kind ≡ 0) as' → AllZip (AlikeRef m C K) as' bs
      → map (λ ref. function_number o.numbers (ref_function ref)) bs ≡ map (λ ref. function_number l.numbers (ref_function ref)) as'
  call_kinds [] [] all z = refl
  call_kinds [] (b ∷ bs) all z = absurd z
  call_kinds (a ∷ as') [] all z = absurd z
  call_kinds (a ∷ as') (b ∷ bs) all z =
      let zero : a.kind ≡ 0 = All-head (λ (ref : Ref). ref.kind ≡ 0) a as' all in
      let of : a.entry.symbol.kind ≡ Function = only_function 0 refl refl refl refl a.entry.symbol.kind (subst (λ k. may_name k a.entry.symbol.kind ≡ true) zero z.0.may) in
      let one : function_number o.numbers (ref_function b) ≡ function_number l.numbers (ref_function a) =
      ap (function_number o.numbers) (ref_function_moves m C K is a b z.0 of) ∙ function_number_alike m C K is l o t (ref_function a) (ref_known m C K is a b z.0 of) in
      rw (one, call_kinds as' bs (All-tail (λ (ref : Ref). ref.kind ≡ 0) a as' all) z.1) refl

  pub calls_alike : C (chunk_at 0 0 0) → calls_of Plain q ys eq o (find (is_function_at 0 0) ys) ≡ calls_of Plain p xs ep l (find (is_function_at 0 0) xs)
  calls_alike held =
      let stays : m.chunk (chunk_at 0 0 0) ≡ chunk_at 0 0 0 = is.chunk_stays (chunk_at 0 0 0) held refl in
      subst (λ (c : Chunk). calls_of Plain q ys eq o (find (is_function_at c.input c.index) ys) ≡ calls_of Plain p xs ep l (find (is_function_at 0 0) xs)) stays
      (found_alike 0 0 held (calls_of Plain p xs ep l) (calls_of Plain q ys eq o) refl
      (λ x y a at. call_kinds (refs x) (refs y) (a.calls (is_that x.chunk.input 0 (second (x.chunk.kind == 0) (x.chunk.input == 0) (x.chunk.index == 0) at))) (refs_zip m C K x.named y.named a.named)))

  body_alike : (f : FunctionKey) → IsBody f → written_body q ys eq o (moved_function m f) ≡ written_body p xs ep l f
  unfolding part_body
  body_alike (outside k) known = refl
  body_alike (linker_function n) known =
      subst (λ k. written_body q ys eq o (linker_function k) ≡ written_body p xs ep l (linker_function k)) (sym known.0) (ap ctor_body (calls_alike known.1))
  body_alike (stub name) known = refl
  body_alike (own input index) held =
      found_alike input index held (part_body p xs ep l) (part_body q ys eq o) refl (λ x y a at. written_alike x y a)

  pub bodies_same : (fs : List FunctionKey) → All IsBody fs → map (written_body q ys eq o) (map (moved_function m) fs) ≡ map (written_body p xs ep l) fs
  bodies_same fs known =
      map_map (moved_function m) (written_body q ys eq o) fs
      ∙ map_where (λ f. written_body q ys eq o (moved_function m f)) (written_body p xs ep l) IsBody body_alike fs known

  -- ---- data

  abbrev pub written_block : Program → Layout → Part → Block
  written_block r z part = record { address = segment_address z part.chunk; bytes = written_part r z part }

  pub solid_alike : AllZip (AlikePart m C K p q) (solid_segments p xs) (solid_segments q ys)
  solid_alike =
      zip_filter (AlikePart m C K p q) (λ part. not (is_zero p part)) (λ part. not (is_zero q part)) (λ x y a. ap not a.zero) (parts_of_kind 1 xs) (parts_of_kind 1 ys) s.parts.segments

  address_alike : (x y : Part) → AlikePart m C K p q x y → segment_address o y.chunk ≡ segment_address l x.chunk
  address_alike x y a = ap (segment_address o) a.chunk ∙ segment_alike m C K is l o t x.chunk a.held

  block_alike : (x y : Part) → AlikePart m C K p q x y → written_block q o y ≡ written_block p l x
  block_alike x y a = ap (λ n. record { address = n; bytes = written_part q o y }) (address_alike x y a) ∙ ap (λ bytes. record { address = segment_address l x.chunk; bytes = bytes }) (written_alike x y a)

  pub blocks_same : map (written_block q o) (solid_segments q ys) ≡ map (written_block p l) (solid_segments p xs)
  blocks_same = zip_map (AlikePart m C K p q) (written_block p l) (written_block q o) block_alike (solid_segments p xs) (solid_segments q ys) solid_alike

  first_alike : (us vs : List Part) → AllZip (AlikePart m C K p q) us vs → first_address Plain q ys eq o vs ≡ first_address Plain p xs ep l us
  first_alike [] [] z = refl
  first_alike [] (v ∷ vs) z = absurd z
  first_alike (u ∷ us) [] z = absurd z
  first_alike (u ∷ us) (v ∷ vs) z = address_alike u v z.0

  pub offset_same : constants.I32 (signed32 (first_address Plain q ys eq o (solid_segments q ys))) ≡ constants.I32 (signed32 (first_address Plain p xs ep l (solid_segments p xs)))
  offset_same = ap (λ n. constants.I32 (signed32 n)) (first_alike (solid_segments p xs) (solid_segments q ys) solid_alike)
