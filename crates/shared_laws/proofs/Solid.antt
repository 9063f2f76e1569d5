-- The segments of a shared output stand one behind another from 0 on, and within the data.
use Rattle.std.proofs.Common.{◌≡◌, ℕ, suc, ◌+◌, ◌-◌, ◌^◌, ◌≤◌, ◌<◌, List, [], ◌∷◌, ◌++◌, map, Some, None, Bool, true, false, not, refl, sym, ap, ◌∙◌, subst, arith}
use Rattle.std.specs.Prelude.{◌==◌, nat_lt, slice_get, slice_index_or, unwrap_or, option_map, cond, find, filter}
use Rattle.std.proofs.lemmas.Nat.{pow_pos}
use Rattle.std.proofs.lemmas.Bool.{ltb-false}
use Rattle.std.proofs.lemmas.Option.{slice_get-map, get_or_from_slice_get}
use Rattle.list_places.specs.Has.{Has, Apart}
use Rattle.list_places.proofs.Lists.{at_has, map_has, placed as place_of, stands, apart_map, apart_filter}
use Rattle.made_symbols.specs.declared.mode.Mode.TheVariants.{Shared}
use Rattle.mark_bits.specs.declared.chunk.Chunk.{Chunk}
use Rattle.name_rules.specs.Entries.{InputSymbol}
use Rattle.memory_layout.specs.declared.rules.MemoryRules.TheVariants.{Relative}
use Rattle.index_layout.specs.Numbers.{number_by}
use Rattle.memory_layout.specs.declared.rules.SegmentShape.{SegmentShape}
use Rattle.memory_layout.specs.Memory.{address_after, end_after, ends, last_end, solid, zeros, placed, addresses, places, data_end, is_above, memory_overflow}
use Rattle.memory_layout.specs.Order.{LiesWithin}
use Rattle.memory_layout.proofs.Order.{up-reaches, all_within, last_end_reaches}
use Rattle.link_rules.specs.Program.{Program, Part, same_chunk}
use Rattle.link_rules.specs.Marks.{live}
use Rattle.link_rules.specs.Values.{Layout, segments, solid_segments, shapes, shape_of, is_zero, segment_address}
use Rattle.link_rules.specs.Output.{layout}
use Rattle.link_rules.specs.LinkOf.{memory_fault}
use Rattle.link_facts.specs.link_worlds.Sound.{same_part}
use Rattle.link_facts.proofs.link_worlds_lemmas.Keys.{chunk_equal, chunk_itself}
use Rattle.shared_laws.proofs.Lie.{StandFrom}
use Rattle.shared_laws.proofs.Places.{mapped_none, first_none, zipped, own_place}

-- ---- segments that are placed by their shapes

-- the address of each is the one at its place
abbrev Placed : Program → (Part → ℕ) → ℕ → ℕ → List Part → Type 0
Placed p address next zero_next parts = (k : ℕ) (part : Part) → slice_get parts k ≡ Some part → address part ≡ slice_index_or (addresses next zero_next (map (shape_of p) parts)) k 0

solid_stand : (p : Program) (address : Part → ℕ) (size next zero_next : ℕ) (parts : List Part) → Placed p address next zero_next parts → last_end next (solid (map (shape_of p) parts)) ≤ size
    → StandFrom size address next (filter (λ part. not (is_zero p part)) parts)
solid_stand p address size next zero_next [] at end = end
solid_stand p address size next zero_next (x ∷ xs) at end =
    by (is_zero p x) (at 0 x refl) (λ k part h. at (suc k) part h) end (λ n z. solid_stand p address size n z xs)
  where
    s : SegmentShape
    s = shape_of p x

    by : (b : Bool) → address x ≡ address_after (cond b zero_next next) (shape_of p x)
        → Placed p address (cond b next (end_after next (shape_of p x))) (cond b (end_after zero_next (shape_of p x)) zero_next) xs
        → last_end next (cond (not b) (shape_of p x ∷ solid (map (shape_of p) xs)) (solid (map (shape_of p) xs))) ≤ size
        → ((n z : ℕ) → Placed p address n z xs → last_end n (solid (map (shape_of p) xs)) ≤ size → StandFrom size address n (filter (λ part. not (is_zero p part)) xs))
        → StandFrom size address next (cond (not b) (x ∷ filter (λ part. not (is_zero p part)) xs) (filter (λ part. not (is_zero p part)) xs))
    by true first others end again = again next (end_after zero_next (shape_of p x)) others end
    by false first others end again =
        let reach : next ≤ address_after next (shape_of p x) = up-reaches next (2 ^ (shape_of p x).align) (pow_pos (shape_of p x).align) in
        let behind : end_after next (shape_of p x) ≡ address x + x.source.span.len = omega (arith, first) in (
          omega (arith, first, reach),
          subst (λ n. StandFrom size address n (filter (λ part. not (is_zero p part)) xs)) behind (again (end_after next (shape_of p x)) zero_next others end),
        )

-- ---- ends

end_low : (most at : ℕ) (ss : List SegmentShape) → at ≤ most → find (is_above most) (ends at ss) ≡ None → last_end at ss ≤ most
end_low most at [] low none = low
end_low most at (s ∷ ss) low none = by (is_above most (end_after at s)) refl none (λ l. end_low most (end_after at s) ss l)
  where
    by : (b : Bool) → nat_lt most (end_after at s) ≡ b → cond b (Some (end_after at s)) (find (is_above most) (ends (end_after at s) ss)) ≡ None
        → (end_after at s ≤ most → find (is_above most) (ends (end_after at s) ss) ≡ None → last_end (end_after at s) ss ≤ most) → last_end (end_after at s) ss ≤ most
    by true e n again = absurd (grind arith)
    by false e n again = again (ltb-false most (end_after at s) e) n

ends_both : (at : ℕ) (xs ys : List SegmentShape) → last_end at (xs ++ ys) ≡ last_end (last_end at xs) ys
ends_both at [] ys = refl
ends_both at (x ∷ xs) ys = ends_both (end_after at x) xs ys

-- ---- of a program's live parts

pub turned_chunk : (a b : Chunk) → same_chunk a b ≡ true → same_chunk b a ≡ true
turned_chunk a b h = subst (λ c. same_chunk b c ≡ true) (sym (chunk_equal a b h)) (chunk_itself b)

module _ (p : Program) (exports : List InputSymbol) (apart : Apart same_part (live p exports)) where
  abbrev lay : Layout
  lay = layout Shared p (live p exports) exports

  abbrev segs : List Part
  segs = segments (live p exports)

  abbrev shape_list : List SegmentShape
  shape_list = map (shape_of p) (segments (live p exports))

  segs_apart : Apart same_chunk (map (λ (part : Part). part.chunk) segs)
  segs_apart = apart_map same_part same_chunk (λ part. part.chunk) (λ x y h. h) segs (apart_filter same_part (λ (part : Part). part.chunk.kind == 1) (live p exports) apart)

  -- the address of the segment at a place
  address_at : (k : ℕ) (part : Part) → slice_get segs k ≡ Some part → segment_address lay part.chunk ≡ slice_index_or (addresses 0 (last_end 0 (solid shape_list)) shape_list) k 0
  unfolding layout shapes places
  address_at k part h =
      let at = slice_get-map (λ (q : Part). q.chunk) segs k ∙ ap (option_map (λ (q : Part). q.chunk)) h in
      ap (λ o. slice_index_or (addresses 0 (last_end 0 (solid shape_list)) shape_list) (unwrap_or o 0) 0) (own_place same_chunk chunk_itself turned_chunk (map (λ (q : Part). q.chunk) segs) segs_apart k part.chunk at)

  pub end_is : lay.places.data_end ≡ last_end 0 (placed shape_list)
  unfolding layout shapes places
  end_is = refl

  pub stand_solid : StandFrom lay.places.data_end (λ part. segment_address lay part.chunk) 0 (solid_segments p (live p exports))
  stand_solid =
      let solid_end = last_end 0 (solid shape_list) in
      let reach = last_end_reaches solid_end (zeros shape_list) in
      let both = ends_both 0 (solid shape_list) (zeros shape_list) in
      solid_stand p (λ part. segment_address lay part.chunk) lay.places.data_end 0 solid_end segs address_at (omega (arith, reach, both, end_is))

  -- the data end below 2^32, where the memory doesn't overflow
  pub end_small : memory_fault Shared p (live p exports) ≡ None → lay.places.data_end < 2 ^ 32
  unfolding memory_fault memory_overflow shapes
  end_small h =
      let none = mapped_none _ _ h in
      let first = mapped_none _ _ (first_none _ _ none) in
      let low = end_low (2 ^ 32 - 1) 0 (placed shape_list) (omega arith) first in
      omega (arith, low, end_is)

  -- a segment stands at its number
  pub segment_numbered : (part : Part) → Has segs part → slice_get lay.segments (number_by same_chunk lay.segments part.chunk) ≡ Some part.chunk
  unfolding layout
  segment_numbered part h =
      let xs = map (λ (q : Part). q.chunk) segs in
      let n = place_of (same_chunk part.chunk) xs part.chunk (map_has (λ (q : Part). q.chunk) segs part h) (chunk_itself part.chunk) in
      let at = stands (same_chunk part.chunk) xs n.0 n.1 in
      ap (λ o. slice_get xs (unwrap_or o 0)) n.1 ∙ at.there ∙ ap Some (sym (chunk_equal part.chunk at.item at.passes))

  -- a segment ends within the data
  pub segment_lies : (part : Part) → Has segs part → segment_address lay part.chunk + part.source.span.len ≤ lay.places.data_end
  unfolding places
  segment_lies part h =
      let k = at_has segs part h in
      let s = slice_get-map (shape_of p) segs k.0 ∙ ap (option_map (shape_of p)) k.1 in
      let z = zipped (LiesWithin 0 (data_end Relative shape_list)) shape_list (places Relative shape_list).addresses k.0 (shape_of p part) (all_within Relative shape_list) s in
      let e : segment_address lay part.chunk ≡ z.0 = address_at k.0 part k.1 ∙ get_or_from_slice_get (places Relative shape_list).addresses k.0 z.0 0 z.1 in
      omega (arith, e, z.2.1, end_is)
