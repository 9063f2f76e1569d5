-- Memory at first: all segments from the memory's base on, or the one segment of those that aren't zero.
use Rattle.std.proofs.Common.{◌≡◌, ℕ, ◌+◌, ◌-◌, List, [], ◌∷◌, ◌++◌, length, map, drop, replicate, Option, Some, None, refl, sym, ap, ◌∙◌, subst, arith}
use Rattle.std.specs.Prelude.{slice_get}
use Rattle.wasm_types.specs.declared.const_expr.ConstExpr.TheVariants as exprs
use Rattle.run_rules.specs.declared.value.Value.{Value}
use Rattle.run_rules.specs.declared.value.Value.TheVariants.{I32}
use Rattle.run_rules.specs.declared.session.Session.{Session}
use Rattle.run_rules.specs.Memory.{zeros, written}
use Rattle.run_rules.specs.Modules.{offset_in, data_at, with_segments}
use Rattle.made_symbols.specs.declared.mode.Mode.TheVariants.{Shared}
use Rattle.name_rules.specs.Entries.{InputSymbol}
use Rattle.reloc_apply.specs.Windows.{filled, patch_of}
use Rattle.image_emit.specs.Bytes.{Block, laid, data_bytes, source_bytes, block_of}
use Rattle.image_emit.specs.Filled.{blocks_filled}
use Rattle.image_emit.specs.Spelled.{segments as data_segments}
use Rattle.image_emit.specs.Stored.{put, stored, first_address as first_block}
use Rattle.link_rules.specs.Program.{Program, Part}
use Rattle.link_rules.specs.Values.{Layout, part_bytes, solid_segments, segment_address, windows}
use Rattle.link_rules.specs.Output.{held_as, first_address, placed_source, body_of, body_windows, defined}
use Rattle.link_worlds.specs.Worlds.{zero_segments}
use Rattle.link_worlds.proofs.Memory.{start_memory}
use Rattle.shared_worlds.specs.Placing.{memory_base}
use Rattle.shared_worlds.specs.Worlds.{block_at, blocks_of, pages_given}

module _ (p : Program) (parts : List Part) (exports : List InputSymbol) (l : Layout) where
  abbrev bytes_in : Part → List ℕ
  bytes_in part = filled (map patch_of (map (λ w. held_as w.form w) (windows Shared l part))) (part_bytes p part)

  -- a segment of the output, at its offset
  abbrev raw : Part → Block
  raw part = record { address = segment_address l part.chunk; bytes = bytes_in part }

  -- offsets from a base make no difference between blocks
  laid_same : (base at : ℕ) (xs : List Part) → laid (base + at) (map (block_at base p l) xs) ≡ laid at (map raw xs)
  laid_same base at [] = refl
  laid_same base at (x ∷ xs) =
      let a = segment_address l x.chunk in
      let n = length (bytes_in x) in
      let gap : base + a - (base + at) ≡ a - at = omega arith in
      let next : base + a + n ≡ base + (a + n) = omega arith in
      ap (λ k. replicate k 0 ++ bytes_in x ++ laid (base + a + n) (map (block_at base p l) xs)) gap
      ∙ ap (λ k. replicate (a - at) 0 ++ bytes_in x ++ laid k (map (block_at base p l) xs)) next
      ∙ ap (λ ys. replicate (a - at) 0 ++ bytes_in x ++ ys) (laid_same base (a + n) xs)

  data_same : (base : ℕ) (xs : List Part) → data_bytes (map (block_at base p l) xs) ≡ data_bytes (map raw xs)
  data_same base [] = refl
  data_same base (x ∷ xs) = laid_same base (segment_address l x.chunk) (x ∷ xs)

  -- the one segment, which begins at the base
  segments_put : (firsts : List Value) (base : ℕ) → slice_get firsts 1 ≡ Some (I32 base) → (xs : List Part) → first_address Shared p parts exports l xs ≡ 0 → (m : List ℕ)
      → with_segments firsts (data_segments (exprs.Get 1) (map raw xs)) m ≡ put (first_block (map (block_at base p l) xs)) (data_bytes (map (block_at base p l) xs)) m
  unfolding written
  segments_put firsts base given [] z m = refl
  segments_put firsts base given (x ∷ xs) z m =
      let bs = map raw (x ∷ xs) in
      let there : base ≡ base + segment_address l x.chunk = omega (arith, z) in
      ap (λ o. data_at (offset_in o) (data_bytes bs) m) given
      ∙ ap (λ n. put n (data_bytes bs) m) there
      ∙ ap (λ ds. put (base + segment_address l x.chunk) ds m) (sym (data_same base (x ∷ xs)))

  blocks_by : (xs : List Part) → blocks_filled (map (map patch_of) (map (map (λ w. held_as w.form w)) (map (windows Shared l) xs))) (map (block_of p.files) (map (placed_source Shared p parts exports l) xs)) ≡ map raw xs
  blocks_by [] = refl
  blocks_by (x ∷ xs) = ap (λ bs. raw x ∷ bs) (blocks_by xs)

  dropped : {A B C D E F : Type 0} (f : B → C) (g : A → B) (h : E → F) (i : D → E) (k : A → D) (as' : List A) (ws : List D) → drop (length (map f (map g as'))) (map h (map i (map k as' ++ ws))) ≡ map h (map i ws)
  dropped f g h i k [] ws = refl
  dropped f g h i k (x ∷ xs) ws = dropped f g h i k xs ws

  pub memory_is : (s : Session) (firsts : List Value) → slice_get firsts 1 ≡ Some (I32 (memory_base s)) → (end : ℕ)
      → stored (blocks_of s p parts l) (replicate end 0) ≡ put (first_block (map (block_at (memory_base s) p l) (solid_segments p parts))) (data_bytes (map (block_at (memory_base s) p l) (solid_segments p parts))) (replicate end 0)
      → first_address Shared p parts exports l (solid_segments p parts) ≡ 0
      → stored (blocks_of s p parts l) (replicate end 0)
      ≡ with_segments firsts (data_segments (exprs.Get 1)
      (blocks_filled (drop (length (map (source_bytes p.files) (map (body_of Shared p parts exports l) (defined Shared p parts exports l))))
      (map (map patch_of) (map (map (λ w. held_as w.form w)) (map (body_windows Shared p parts exports l) (defined Shared p parts exports l) ++ map (windows Shared l) (solid_segments p parts)))))
      (map (block_of p.files) (map (placed_source Shared p parts exports l) (solid_segments p parts))))) (replicate end 0)
  memory_is s firsts given end one z =
      let xs = solid_segments p parts in
      one
      ∙ sym (segments_put firsts (memory_base s) given xs z (replicate end 0))
      ∙ ap (λ bs. with_segments firsts (data_segments (exprs.Get 1) bs) (replicate end 0))
      (sym (ap (λ pss. blocks_filled pss (map (block_of p.files) (map (placed_source Shared p parts exports l) xs)))
      (dropped (source_bytes p.files) (body_of Shared p parts exports l) (map patch_of) (map (λ w. held_as w.form w)) (body_windows Shared p parts exports l) (defined Shared p parts exports l) (map (windows Shared l) xs))
      ∙ blocks_by xs))
