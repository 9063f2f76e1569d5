-- The memory holds all segments.
use Rattle.std.proofs.Common.{◌≡◌, ℕ, ◌+◌, ◌<◌, ◌≤◌, List, [], ◌∷◌, ◌++◌, length, map, drop, replicate, Option, Some, None, Bool, true, false, refl, sym, ap, ◌∙◌, subst, inl, inr, ⊎_elim, arith}
use Rattle.std.specs.Prelude.{◌*◌, ◌^◌, ◌==◌, not, min, filter, cond, unwrap_or, slice_index_or}
use Rattle.std.specs.List.{AllByRecursion, list_all}
use Rattle.std.proofs.lemmas.List.{map-append, length-take, length-drop}
use Rattle.std.proofs.lemmas.Bool.{and_parts, eqb-true}
use Rattle.list_places.specs.Has.{Has}
use Rattle.list_places.proofs.Lists.{has_either, has_filter, all_has}
use Rattle.made_symbols.specs.declared.mode.Mode.TheVariants.{Plain}
use Rattle.name_rules.specs.Entries.{InputSymbol}
use Rattle.memory_layout.specs.Memory.{address_after, end_after, last_end, places, placed, solid, base_of, pages}
use Rattle.memory_layout.specs.Order.{starts, of_those, reordered}
use Rattle.memory_layout.proofs.Order.{in_order, address_reaches}
use Rattle.reloc_apply.specs.Windows.{filled, patch_of}
use Rattle.reloc_apply.specs.Apart.{AreApart, LiesIn}
use Rattle.reloc_apply.proofs.Apart.{apart_lie_in}
use Rattle.reloc_apply.proofs.Over.{filled_long}
use Rattle.image_emit.specs.Bytes.{Block}
use Rattle.image_emit.specs.Stored.{Rise, first_address}
use Rattle.run_rules.specs.declared.session.Session.{Session}
use Rattle.output_module.specs.link_rules.Program.{Program, Part, Named, a_symbol, a_type}
use Rattle.output_module.specs.link_rules.Marks.{live}
use Rattle.output_module.specs.link_rules.Values.{Layout, part_bytes, segments, shapes, solid_segments, is_zero, shape_of, segment_address, windows, named_window}
use Rattle.output_module.specs.link_rules.Output.{layout}
use Rattle.program_build.specs.link_program.Stand.{NamedStand, PartStands, named_place, named_size}
use Rattle.output_module.specs.link_worlds.Worlds.{segment_block, zero_segments, pages_at_first}
use Rattle.output_module.specs.link_worlds.Sound.{Sound, AllZero}
use Rattle.output_module.specs.link_worlds.Statements.{Holds}
use Rattle.output_module.proofs.link_worlds_lemmas.Live.{live_part}
use Rattle.link_facts.specs.Faults.{NoFault, Measured, Enough, AtLeast, MemoryHolds}
use Rattle.link_facts.proofs.Found.{filter_map_is}
use Rattle.link_facts.proofs.Segments.{lay, rules, shape_list, end, heap_high, heap_fits, pages_reach, segment_lies, all_addresses}

-- windows stand apart where what they name does
patches_apart : (l : Layout) (from to : ℕ) (ns : List Named) → NamedStand from to ns → AreApart from to (map patch_of (map (named_window Plain l) ns))
patches_apart l from to [] h = h
patches_apart l from to (a_symbol ref ∷ ns) h = (h.0, patches_apart l (named_place (a_symbol ref) + named_size (a_symbol ref)) to ns h.1)
patches_apart l from to (a_type w ∷ ns) h = (h.0, patches_apart l (named_place (a_type w) + named_size (a_type w)) to ns h.1)

-- the bytes of a part, as many as its span counts
part_long : (p : Program) (part : Part) → PartStands p part → length (part_bytes p part) ≡ part.source.span.len
part_long p part s =
    let file = slice_index_or p.files part.source.file [] in
    let k = part.source.span.start in
    let n = part.source.span.len in
    let room : k + n ≤ length file = s.source in
    length-take n (drop k file) ∙ min_is n (length (drop k file)) (let d = length-drop k file in omega (arith, room, d))
  where
    min_is : (a b : ℕ) → a ≤ b → min a b ≡ a
    min_is a b h = omega (arith, h)

module _ (p : Program) (exports : List InputSymbol) (sound : Sound p) (m : Measured p exports) where
  abbrev addr : Part → ℕ
  addr part = segment_address (layout Plain p (live p exports) exports) part.chunk

  abbrev block : Part → Block
  block part = segment_block p (layout Plain p (live p exports) exports) part

  stands : (part : Part) → Has (segments (live p exports)) part → PartStands p part
  stands part h = all_has (PartStands p) p.parts m.stand part (live_part p exports part (has_filter (λ (q : Part). q.chunk.kind == 1) (live p exports) part h).0)

  -- a block has as many bytes as the segment's span counts
  block_long : (part : Part) → Has (segments (live p exports)) part → length (block part).bytes ≡ part.source.span.len
  unfolding windows
  block_long part h =
      let s = stands part h in
      let k : part.chunk.kind ≡ 1 = eqb-true part.chunk.kind 1 (has_filter (λ (q : Part). q.chunk.kind == 1) (live p exports) part h).1 in
      let len = part_long p part s in
      let named : NamedStand 0 part.source.span.len part.named = ⊎_elim (λ z. absurd (let q = z.1 in omega (arith, q, k))) (λ n. n) s.windows in
      let lie = apart_lie_in 0 part.source.span.len (map patch_of (map (named_window Plain (lay p exports sound)) part.named)) (patches_apart (lay p exports sound) 0 part.source.span.len part.named named) in
      filled_long (map patch_of (map (named_window Plain (lay p exports sound)) part.named)) (part_bytes p part) (subst (λ n. AllByRecursion (LiesIn n) (map patch_of (map (named_window Plain (lay p exports sound)) part.named))) (sym len) lie) ∙ len

  -- ---- in the order of placing

  abbrev ordered : List Part
  ordered = solid_segments p (live p exports) ++ zero_segments p (live p exports)

  those : (test : Bool → Bool) (xs : List Part) → of_those (λ s. test s.zero) (map (shape_of p) xs) (map addr xs) ≡ map addr (filter (λ part. test (is_zero p part)) xs)
  those test [] = refl
  those test (x ∷ xs) = onto (test (is_zero p x)) (those test xs)
    where
      onto : (b : Bool) → of_those (λ s. test s.zero) (map (shape_of p) xs) (map addr xs) ≡ map addr (filter (λ part. test (is_zero p part)) xs)
          → cond b (addr x ∷ of_those (λ s. test s.zero) (map (shape_of p) xs) (map addr xs)) (of_those (λ s. test s.zero) (map (shape_of p) xs) (map addr xs))
          ≡ map addr (cond b (x ∷ filter (λ part. test (is_zero p part)) xs) (filter (λ part. test (is_zero p part)) xs))
      onto true e = ap (λ ys. addr x ∷ ys) e
      onto false e = e

  shapes_ordered : map (shape_of p) ordered ≡ placed (shape_list p exports sound)
  shapes_ordered =
      map-append (shape_of p) (solid_segments p (live p exports)) (zero_segments p (live p exports))
      ∙ ap (λ xs. xs ++ map (shape_of p) (zero_segments p (live p exports))) (sym (filter_map_is (shape_of p) (λ s. not s.zero) (segments (live p exports))))
      ∙ ap (λ xs. solid (shape_list p exports sound) ++ xs) (sym (filter_map_is (shape_of p) (λ s. s.zero) (segments (live p exports))))

  addresses_ordered : map addr ordered ≡ starts (base_of (rules p exports sound)) (placed (shape_list p exports sound))
  addresses_ordered =
      map-append addr (solid_segments p (live p exports)) (zero_segments p (live p exports))
      ∙ ap (λ xs. xs ++ map addr (zero_segments p (live p exports))) (sym (those not (segments (live p exports))))
      ∙ ap (λ xs. of_those (λ s. not s.zero) (shape_list p exports sound) (map addr (segments (live p exports))) ++ xs) (sym (those (λ b. b) (segments (live p exports))))
      ∙ ap (reordered (shape_list p exports sound)) (all_addresses p exports sound)
      ∙ in_order (rules p exports sound) (shape_list p exports sound)

  rises_from : (at to : ℕ) (xs : List Part) → map addr xs ≡ starts at (map (shape_of p) xs) → ((part : Part) → Has xs part → length (block part).bytes ≡ part.source.span.len) → last_end at (map (shape_of p) xs) ≤ to
      → Rise at to (map block xs)
  rises_from at to [] e f h = h
  rises_from at to (x ∷ xs) e f h =
      let first : addr x ≡ address_after at (shape_of p x) = grind arith in
      let rest : map addr xs ≡ starts (end_after at (shape_of p x)) (map (shape_of p) xs) = grind arith in
      let low = address_reaches at (shape_of p x) in
      let next : addr x + length (block x).bytes ≡ end_after at (shape_of p x) = ap (λ n. addr x + n) (f x (inl refl)) ∙ ap (λ n. n + x.source.span.len) first in
      (omega (arith, low, first), subst (λ n. Rise n to (map block xs)) (sym next) (rises_from (end_after at (shape_of p x)) to xs rest (λ y g. f y (inr g)) h))

  rise_low : (at next to : ℕ) (bs : List Block) → at ≤ next → Rise next to bs → Rise at to bs
  rise_low at next to [] l h = omega (arith, l, h)
  rise_low at next to (b ∷ bs) l h = (omega (arith, l, h.0), h.1)

  in_segments : (part : Part) → Has ordered part → Has (segments (live p exports)) part
  in_segments part h =
      ⊎_elim (λ a. (has_filter (λ (q : Part). not (is_zero p q)) (segments (live p exports)) part a).0) (λ b. (has_filter (is_zero p) (segments (live p exports)) part b).0)
      (has_either (solid_segments p (live p exports)) (zero_segments p (live p exports)) part h)

  rises_to : (to : ℕ) → end p exports sound ≤ to → Rise 0 to (map block (solid_segments p (live p exports)) ++ map block (zero_segments p (live p exports)))
  rises_to to h =
      let b = base_of (rules p exports sound) in
      let zero_low : 0 ≤ b = omega arith in
      subst (Rise 0 to) (map-append block (solid_segments p (live p exports)) (zero_segments p (live p exports)))
      (rise_low 0 b to (map block ordered) zero_low
      (rises_from b to ordered (addresses_ordered ∙ ap (starts b) (sym shapes_ordered)) (λ part g. block_long part (in_segments part g)) (subst (λ ss. last_end b ss ≤ to) (sym shapes_ordered) h)))

  -- ---- zero segments

  all_zero : (bytes : List ℕ) → list_all (λ b. b == 0) bytes ≡ true → bytes ≡ replicate (length bytes) 0
  all_zero [] h = refl
  all_zero (b ∷ bs) h =
      let r = and_parts (b == 0) (list_all (λ b. b == 0) bs) h in
      ap (λ x. x ∷ bs) (eqb-true b 0 r.0) ∙ ap (λ xs. 0 ∷ xs) (all_zero bs r.1)

  none_named : (ns : List Named) → (length ns == 0) ≡ true → ns ≡ []
  none_named [] h = refl
  none_named (n ∷ ns) h = absurd (let e = eqb-true (length (n ∷ ns)) 0 h in omega (arith, e))

  zero_block : (part : Part) → is_zero p part ≡ true → (block part).bytes ≡ replicate (length (block part).bytes) 0
  unfolding windows
  zero_block part h =
      let r = and_parts (length part.named == 0) (list_all (λ b. b == 0) (part_bytes p part)) h in
      let none : (block part).bytes ≡ part_bytes p part = ap (λ ns. filled (map patch_of (map (named_window Plain (lay p exports sound)) ns)) (part_bytes p part)) (none_named part.named r.0) in
      none ∙ all_zero (part_bytes p part) r.1 ∙ ap (λ bs. replicate (length bs) 0) (sym none)

  zeros_from : (xs : List Part) → ((part : Part) → Has xs part → is_zero p part ≡ true) → AllZero (map block xs)
  zeros_from [] f = tt
  zeros_from (x ∷ xs) f = (zero_block x (f x (inl refl)), zeros_from xs (λ y h. f y (inr h)))

  -- ---- the first block

  low_first : (n : NoFault p exports (layout Plain p (live p exports) exports)) → (xs : List Part) → ((part : Part) → Has xs part → Has (segments (live p exports)) part) → first_address (map block xs) < 2 ^ 32
  low_first n [] f = omega arith
  low_first n (x ∷ xs) f =
      let s = segment_lies p exports sound x (f x (inl refl)) in
      let h = heap_high p exports sound in
      let t = heap_fits p exports sound n.memory in
      omega (arith, s.1, h, t)

  pages_enough : (s : Session) → Enough s (layout Plain p (live p exports) exports) → (lay p exports sound).places.pages ≤ pages_at_first s p (layout Plain p (live p exports) exports)
  pages_enough s e = by_import p.plan.import_memory (by_pages s.pages e)
    where
      by_pages : (o : Option ℕ) → AtLeast o (lay p exports sound).places.pages → (lay p exports sound).places.pages ≤ unwrap_or o (lay p exports sound).places.pages
      by_pages None h = omega arith
      by_pages (Some n) h = h

      by_import : (b : Bool) → (lay p exports sound).places.pages ≤ unwrap_or s.pages (lay p exports sound).places.pages → (lay p exports sound).places.pages ≤ cond b (unwrap_or s.pages (lay p exports sound).places.pages) (lay p exports sound).places.pages
      by_import true h = h
      by_import false h = omega arith

  pages_are : (lay p exports sound).places.pages ≡ pages (rules p exports sound) (end p exports sound)
  unfolding layout shapes places
  pages_are = refl

  pub holds : (s : Session) → NoFault p exports (layout Plain p (live p exports) exports) → Enough s (layout Plain p (live p exports) exports) → Holds s p exports (layout Plain p (live p exports) exports)
  holds s n e =
      let a = heap_high p exports sound in
      let b = pages_reach p exports sound in
      let c = pages_enough s e in
      let d : (lay p exports sound).places.pages ≡ pages (rules p exports sound) (end p exports sound) = pages_are in
      record {
        rises = rises_to (65536 * pages_at_first s p (layout Plain p (live p exports) exports)) (omega (arith, a, b, c, d));
        low = low_first n (solid_segments p (live p exports)) (λ part h. (has_filter (λ (q : Part). not (is_zero p q)) (segments (live p exports)) part h).0);
        zeros = zeros_from (zero_segments p (live p exports)) (λ part h. (has_filter (is_zero p) (segments (live p exports)) part h).1);
      }

pub memory_holds : MemoryHolds
memory_holds s p exports sound m n e = holds p exports sound m s n e
