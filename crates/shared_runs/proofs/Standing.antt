-- The segments of a shared output stand one behind another: those that aren't zero from 0 on, and behind them those of zeros.
use Rattle.std.proofs.Common.{◌≡◌, ℕ, suc, ◌+◌, ◌-◌, ◌^◌, ◌≤◌, ◌<◌, List, [], ◌∷◌, ◌++◌, map, Some, None, Bool, true, false, not, refl, sym, ap, ◌∙◌, subst, arith}
use Rattle.std.specs.Prelude.{◌==◌, ◌*◌, slice_get, slice_index_or, unwrap_or, option_map, cond, filter}
use Rattle.std.proofs.lemmas.Nat.{pow_pos}
use Rattle.std.proofs.lemmas.Option.{slice_get-map}
use Rattle.list_places.specs.Has.{Has, Apart}
use Rattle.list_places.proofs.Lists.{apart_map, apart_filter}
use Rattle.made_symbols.specs.declared.mode.Mode.TheVariants.{Shared}
use Rattle.mark_bits.specs.declared.chunk.Chunk.{Chunk}
use Rattle.name_rules.specs.Entries.{InputSymbol}
use Rattle.memory_layout.specs.declared.rules.SegmentShape.{SegmentShape}
use Rattle.memory_layout.specs.Memory.{up, address_after, end_after, last_end, solid, zeros, placed, addresses, places}
use Rattle.memory_layout.proofs.Order.{up-reaches, up-least}
use Rattle.link_rules.specs.Program.{Program, Part, same_chunk}
use Rattle.link_rules.specs.Marks.{live}
use Rattle.link_rules.specs.Values.{Layout, segments, solid_segments, shapes, shape_of, is_zero, segment_address}
use Rattle.link_rules.specs.Output.{layout, first_address}
use Rattle.link_worlds.specs.Sound.{same_part}
use Rattle.link_worlds.specs.Worlds.{zero_segments}
use Rattle.link_worlds.proofs.Keys.{chunk_equal, chunk_itself}
use Rattle.shared_laws.proofs.Lie.{StandFrom}
use Rattle.shared_laws.proofs.Places.{own_place}
use Rattle.shared_laws.proofs.Solid.{end_is, turned_chunk}

-- the address of each is the one at its place
abbrev Placed : Program → (Part → ℕ) → ℕ → ℕ → List Part → Type 0
Placed p address next zero_next parts = (k : ℕ) (part : Part) → slice_get parts k ≡ Some part → address part ≡ slice_index_or (addresses next zero_next (map (shape_of p) parts)) k 0

-- a segment behind an end, and what stands behind it
behind : (p : Program) (address : Part → ℕ) (size at : ℕ) (x : Part) (xs : List Part) → address x ≡ address_after at (shape_of p x) → StandFrom size address (end_after at (shape_of p x)) xs
    → StandFrom size address at (x ∷ xs)
behind p address size at x xs first rest =
    let reach : at ≤ address_after at (shape_of p x) = up-reaches at (2 ^ (shape_of p x).align) (pow_pos (shape_of p x).align) in
    let next : end_after at (shape_of p x) ≡ address x + x.source.span.len = omega (arith, first) in
    (omega (arith, first, reach), subst (λ n. StandFrom size address n xs) next rest)

solid_stand : (p : Program) (address : Part → ℕ) (size next zero_next : ℕ) (parts : List Part) → Placed p address next zero_next parts → last_end next (solid (map (shape_of p) parts)) ≤ size
    → StandFrom size address next (filter (λ part. not (is_zero p part)) parts)
solid_stand p address size next zero_next [] at end = end
solid_stand p address size next zero_next (x ∷ xs) at end =
    by (is_zero p x) (at 0 x refl) (λ k part h. at (suc k) part h) end (λ n z. solid_stand p address size n z xs)
  where
    by : (b : Bool) → address x ≡ address_after (cond b zero_next next) (shape_of p x)
        → Placed p address (cond b next (end_after next (shape_of p x))) (cond b (end_after zero_next (shape_of p x)) zero_next) xs
        → last_end next (cond (not b) (shape_of p x ∷ solid (map (shape_of p) xs)) (solid (map (shape_of p) xs))) ≤ size
        → ((n z : ℕ) → Placed p address n z xs → last_end n (solid (map (shape_of p) xs)) ≤ size → StandFrom size address n (filter (λ part. not (is_zero p part)) xs))
        → StandFrom size address next (cond (not b) (x ∷ filter (λ part. not (is_zero p part)) xs) (filter (λ part. not (is_zero p part)) xs))
    by true first others end again = again next (end_after zero_next (shape_of p x)) others end
    by false first others end again = behind p address size next x (filter (λ part. not (is_zero p part)) xs) first (again (end_after next (shape_of p x)) zero_next others end)

zero_stand : (p : Program) (address : Part → ℕ) (size next zero_next : ℕ) (parts : List Part) → Placed p address next zero_next parts → last_end zero_next (zeros (map (shape_of p) parts)) ≤ size
    → StandFrom size address zero_next (filter (is_zero p) parts)
zero_stand p address size next zero_next [] at end = end
zero_stand p address size next zero_next (x ∷ xs) at end =
    by (is_zero p x) (at 0 x refl) (λ k part h. at (suc k) part h) end (λ n z. zero_stand p address size n z xs)
  where
    by : (b : Bool) → address x ≡ address_after (cond b zero_next next) (shape_of p x)
        → Placed p address (cond b next (end_after next (shape_of p x))) (cond b (end_after zero_next (shape_of p x)) zero_next) xs
        → last_end zero_next (cond b (shape_of p x ∷ zeros (map (shape_of p) xs)) (zeros (map (shape_of p) xs))) ≤ size
        → ((n z : ℕ) → Placed p address n z xs → last_end z (zeros (map (shape_of p) xs)) ≤ size → StandFrom size address z (filter (is_zero p) xs))
        → StandFrom size address zero_next (cond b (x ∷ filter (is_zero p) xs) (filter (is_zero p) xs))
    by true first others end again = behind p address size zero_next x (filter (is_zero p) xs) first (again next (end_after zero_next (shape_of p x)) others end)
    by false first others end again = again (end_after next (shape_of p x)) zero_next others end

at_most_none : (n size : ℕ) → n ≤ 0 * size → n ≡ 0
at_most_none n size h = let none : 0 * size ≡ 0 = omega arith in omega (arith, h, none)

up_zero : (size : ℕ) → 0 < size → up 0 size ≡ 0
up_zero size h = at_most_none (up 0 size) size (up-least 0 size 0 h (omega arith))

-- the first that isn't zero stands at 0
abbrev first : (Part → ℕ) → List Part → ℕ
first address [] = 0
first address (x ∷ xs) = address x

starts_zero : (p : Program) (address : Part → ℕ) (zero_next : ℕ) (parts : List Part) → Placed p address 0 zero_next parts → first address (filter (λ part. not (is_zero p part)) parts) ≡ 0
starts_zero p address zero_next [] at = refl
starts_zero p address zero_next (x ∷ xs) at =
    by (is_zero p x) (at 0 x refl) (λ k part h. at (suc k) part h) (λ z. starts_zero p address z xs)
  where
    by : (b : Bool) → address x ≡ address_after (cond b zero_next 0) (shape_of p x)
        → Placed p address (cond b 0 (end_after 0 (shape_of p x))) (cond b (end_after zero_next (shape_of p x)) zero_next) xs
        → ((z : ℕ) → Placed p address 0 z xs → first address (filter (λ part. not (is_zero p part)) xs) ≡ 0)
        → first address (cond (not b) (x ∷ filter (λ part. not (is_zero p part)) xs) (filter (λ part. not (is_zero p part)) xs)) ≡ 0
    by true at others again = again (end_after zero_next (shape_of p x)) others
    by false at others again = at ∙ up_zero (2 ^ (shape_of p x).align) (pow_pos (shape_of p x).align)

same_le : (n : ℕ) → n ≤ n
same_le n = omega arith

ends_both : (at : ℕ) (xs ys : List SegmentShape) → last_end at (xs ++ ys) ≡ last_end (last_end at xs) ys
ends_both at [] ys = refl
ends_both at (x ∷ xs) ys = ends_both (end_after at x) xs ys

module _ (p : Program) (exports : List InputSymbol) (apart : Apart same_part (live p exports)) where
  abbrev lay : Layout
  lay = layout Shared p (live p exports) exports

  abbrev segs : List Part
  segs = segments (live p exports)

  abbrev shape_list : List SegmentShape
  shape_list = map (shape_of p) (segments (live p exports))

  abbrev address : Part → ℕ
  address part = segment_address (layout Shared p (live p exports) exports) part.chunk

  -- where those that aren't zero end
  abbrev pub middle : ℕ
  middle = last_end 0 (solid (map (shape_of p) (segments (live p exports))))

  segs_apart : Apart same_chunk (map (λ (part : Part). part.chunk) segs)
  segs_apart = apart_map same_part same_chunk (λ part. part.chunk) (λ x y h. h) segs (apart_filter same_part (λ (part : Part). part.chunk.kind == 1) (live p exports) apart)

  address_at : Placed p address 0 middle segs
  unfolding layout shapes places
  address_at k part h =
      let at = slice_get-map (λ (q : Part). q.chunk) segs k ∙ ap (option_map (λ (q : Part). q.chunk)) h in
      ap (λ o. slice_index_or (addresses 0 middle shape_list) (unwrap_or o 0) 0) (own_place same_chunk chunk_itself turned_chunk (map (λ (q : Part). q.chunk) segs) segs_apart k part.chunk at)

  pub solids : StandFrom middle address 0 (solid_segments p (live p exports))
  solids = solid_stand p address middle 0 middle segs address_at (same_le middle)

  pub zeroes : StandFrom lay.places.data_end address middle (zero_segments p (live p exports))
  zeroes =
      let both = ends_both 0 (solid shape_list) (zeros shape_list) in
      let is = end_is p exports apart in
      zero_stand p address lay.places.data_end 0 middle segs address_at (omega (arith, both, is))

  pub data_starts : first_address Shared p (live p exports) exports lay (solid_segments p (live p exports)) ≡ 0
  data_starts = same (solid_segments p (live p exports)) ∙ starts_zero p address middle segs address_at
    where
      same : (xs : List Part) → first_address Shared p (live p exports) exports lay xs ≡ first address xs
      same [] = refl
      same (x ∷ xs) = refl
