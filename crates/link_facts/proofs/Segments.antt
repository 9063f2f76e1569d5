-- The live segments: their addresses, their bytes, and the bounds of memory.
use Rattle.std.proofs.Common.{◌≡◌, ℕ, zero, suc, ◌+◌, ◌-◌, ◌≤◌, List, [], ◌∷◌, length, map, Option, Some, None, Bool, true, false, refl, sym, ap, ◌∙◌, subst, arith}
use Rattle.std.specs.Prelude.{◌*◌, ◌^◌, ◌==◌, nat_lt, slice_get, slice_index_or, unwrap_or, option_map}
use Rattle.std.specs.List.{AllZip}
use Rattle.std.proofs.lemmas.Option.{slice_get-map, get_or_from_slice_get}
use Rattle.std.proofs.lemmas.Bool.{ltb-false}
use Rattle.list_places.specs.Has.{Has, Apart}
use Rattle.list_places.proofs.Lists.{at_has, apart_map, apart_filter}
use Rattle.wl_base.specs.Choice.{first_some, given}
use Rattle.made_symbols.specs.declared.mode.Mode.TheVariants.{Plain}
use Rattle.name_rules.specs.Entries.{InputSymbol}
use Rattle.mark_bits.specs.declared.chunk.Chunk.{Chunk}
use Rattle.memory_layout.specs.declared.rules.MemoryRules.{MemoryRules}
use Rattle.memory_layout.specs.declared.rules.SegmentShape.{SegmentShape}
use Rattle.memory_layout.specs.Memory.{around_stack, around, base_of, data_end, heap_base, memory_overflow, places, placed, pages}
use Rattle.memory_layout.specs.Order.{LiesWithin}
use Rattle.memory_layout.proofs.Order.{up-reaches, all_within, last_end_reaches}
use Rattle.output_module.specs.link_rules.Program.{Program, Part, same_chunk}
use Rattle.output_module.specs.link_rules.Marks.{live}
use Rattle.output_module.specs.link_rules.Values.{Layout, segments, shapes, shape_of, rules_of, segment_address}
use Rattle.output_module.specs.link_rules.Output.{layout}
use Rattle.output_module.specs.link_rules.LinkOf.{memory_fault}
use Rattle.output_module.specs.link_worlds.Sound.{Sound, same_part}
use Rattle.output_module.proofs.link_worlds_lemmas.Keys.{chunk_equal, chunk_itself}
use Rattle.output_module.proofs.link_worlds_lemmas.Functions.{live_apart}
use Rattle.link_facts.proofs.Found.{same_list, zipped, zip_long, own_place, mapped_none}

-- ---- the bounds of memory

abbrev limit : ℕ
limit = 2 ^ 32 - 1

heap_reaches : (first : Bool) (base : Option ℕ) (stack initial : ℕ) (most : Option ℕ) (end : ℕ) → end ≤ (around_stack first base stack initial most).heap_base end
heap_reaches false base stack initial most end = let k = up-reaches end 16 (omega arith) in omega (arith, k)
heap_reaches true base stack initial most end = up-reaches end 16 (omega arith)

stack_reaches : (first : Bool) (base : Option ℕ) (stack initial : ℕ) (most : Option ℕ) (end : ℕ) → (around_stack first base stack initial most).base ≤ end
    → ((around_stack first base stack initial most).stack_high end ≤ (around_stack first base stack initial most).heap_base end) × ((around_stack first base stack initial most).stack_low end ≤ (around_stack first base stack initial most).heap_base end)
stack_reaches false base stack initial most end h = (omega arith, omega arith)
stack_reaches true base stack initial most end h = let k = up-reaches end 16 (omega arith) in (omega (arith, k, h), omega arith)

given_none : {A : Type 0} (b : Bool) (x : A) → given b x ≡ None → b ≡ false
given_none true x h = absurd (grind arith)
given_none false x h = refl

second_none : {A : Type 0} (a b c : Option A) → first_some (a ∷ b ∷ c ∷ []) ≡ None → b ≡ None
second_none (Some x) b c h = absurd (grind arith)
second_none None None c h = refl
second_none None (Some x) c h = absurd (grind arith)

module _ (p : Program) (exports : List InputSymbol) (sound : Sound p) where
  abbrev pub parts : List Part
  parts = live p exports

  abbrev pub lay : Layout
  lay = layout Plain p (live p exports) exports

  abbrev pub rules : MemoryRules
  rules = rules_of Plain p.plan

  abbrev pub shape_list : List SegmentShape
  shape_list = map (shape_of p) (segments (live p exports))

  abbrev pub end : ℕ
  end = data_end (rules_of Plain p.plan) (map (shape_of p) (segments (live p exports)))

  pub places_are : lay.places ≡ places rules shape_list
  unfolding layout shapes
  places_are = refl

  pub base_low : base_of rules ≤ end
  base_low = last_end_reaches (base_of rules) (placed shape_list)

  pub heap_high : end ≤ heap_base rules end
  heap_high = heap_reaches p.plan.stack_first p.plan.global_base p.plan.stack_size p.plan.initial_memory p.plan.max_memory end

  pub stack_low : ((around rules).stack_high end ≤ heap_base rules end) × ((around rules).stack_low end ≤ heap_base rules end)
  stack_low = stack_reaches p.plan.stack_first p.plan.global_base p.plan.stack_size p.plan.initial_memory p.plan.max_memory end base_low

  -- where the memory doesn't overflow, the heap begins below 2^32
  pub heap_fits : memory_fault Plain p parts ≡ None → heap_base rules end ≤ limit
  unfolding memory_fault memory_overflow shapes
  heap_fits h =
      let none = mapped_none _ _ h in
      let past = mapped_none _ _ (second_none _ _ _ none) in
      ltb-false limit (heap_base rules end) (given_none (nat_lt limit (heap_base rules end)) (heap_base rules end) past)

  -- the pages reach to the heap
  pub pages_reach : heap_base rules end ≤ 65536 * pages rules end
  pages_reach =
      let h = heap_base rules end in
      let k = up-reaches h 65536 (omega arith) in
      let least = (around rules).least_pages in
      omega (arith, k)

  -- ---- addresses

  abbrev pub segs : List Part
  segs = segments (live p exports)

  pub segs_apart : Apart same_chunk (map (λ (part : Part). part.chunk) segs)
  segs_apart = apart_map same_part same_chunk (λ part. part.chunk) (λ x y h. h) segs (apart_filter same_part (λ (part : Part). part.chunk.kind == 1) parts (live_apart p exports sound))

  turned_chunk : (a b : Chunk) → same_chunk a b ≡ true → same_chunk b a ≡ true
  turned_chunk a b h = subst (λ c. same_chunk b c ≡ true) (sym (chunk_equal a b h)) (chunk_itself b)

  pub addresses_lie : AllZip (LiesWithin (base_of rules) end) shape_list (places rules shape_list).addresses
  addresses_lie = all_within rules shape_list

  -- the address of the segment at a place
  pub address_at : (k : ℕ) (part : Part) → slice_get segs k ≡ Some part → segment_address lay part.chunk ≡ slice_index_or (places rules shape_list).addresses k 0
  unfolding layout shapes
  address_at k part h =
      let at = slice_get-map (λ (q : Part). q.chunk) segs k ∙ ap (option_map (λ (q : Part). q.chunk)) h in
      ap (λ o. slice_index_or (places rules shape_list).addresses (unwrap_or o 0) 0) (own_place same_chunk chunk_itself turned_chunk (map (λ (q : Part). q.chunk) segs) segs_apart k part.chunk at)

  -- a segment lies between the base and the end of data
  pub segment_lies : (part : Part) → Has segs part → (base_of rules ≤ segment_address lay part.chunk) × (segment_address lay part.chunk + part.source.span.len ≤ end)
  segment_lies part h =
      let k = at_has segs part h in
      let s = slice_get-map (shape_of p) segs k.0 ∙ ap (option_map (shape_of p)) k.1 in
      let z = zipped (LiesWithin (base_of rules) end) shape_list (places rules shape_list).addresses k.0 (shape_of p part) addresses_lie s in
      let e : segment_address lay part.chunk ≡ z.0 = address_at k.0 part k.1 ∙ get_or_from_slice_get (places rules shape_list).addresses k.0 z.0 0 z.1 in
      (omega (arith, e, z.2.0), omega (arith, e, z.2.1))

  -- the addresses of all segments, in their order
  pub all_addresses : map (λ (part : Part). segment_address lay part.chunk) segs ≡ (places rules shape_list).addresses
  all_addresses = same_list (map (λ (part : Part). segment_address lay part.chunk) segs) (places rules shape_list).addresses at
    where
      by_item : (k : ℕ) (o : Option Part) → slice_get segs k ≡ o → option_map (λ (part : Part). segment_address lay part.chunk) o ≡ slice_get (places rules shape_list).addresses k
      by_item k None e = sym (past (places rules shape_list).addresses shape_list k (zip_long (LiesWithin (base_of rules) end) shape_list (places rules shape_list).addresses addresses_lie) (slice_get-map (shape_of p) segs k ∙ ap (option_map (shape_of p)) e))
        where
          past : (xs : List ℕ) (ys : List SegmentShape) (k : ℕ) → length ys ≡ length xs → slice_get ys k ≡ None → slice_get xs k ≡ None
          past [] ys k l h = refl
          past (x ∷ xs) [] k l h = absurd (omega (arith, l))
          past (x ∷ xs) (y ∷ ys) zero l h = absurd (grind arith)
          past (x ∷ xs) (y ∷ ys) (suc k) l h = past xs ys k (omega (arith, l)) h
      by_item k (Some part) e =
          let s = slice_get-map (shape_of p) segs k ∙ ap (option_map (shape_of p)) e in
          let z = zipped (LiesWithin (base_of rules) end) shape_list (places rules shape_list).addresses k (shape_of p part) addresses_lie s in
          ap Some (address_at k part e ∙ get_or_from_slice_get (places rules shape_list).addresses k z.0 0 z.1) ∙ sym z.1

      at : (k : ℕ) → slice_get (map (λ (part : Part). segment_address lay part.chunk) segs) k ≡ slice_get (places rules shape_list).addresses k
      at k = slice_get-map (λ (part : Part). segment_address lay part.chunk) segs k ∙ by_item k (slice_get segs k) refl
