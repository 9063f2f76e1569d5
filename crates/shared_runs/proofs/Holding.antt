-- Where bases agree with the section of a shared output, the memory holds all segments from its base on.
use Rattle.std.proofs.Common.{◌≡◌, ℕ, ◌+◌, ◌≤◌, List, [], ◌∷◌, ◌++◌, length, map, drop, replicate, Some, None, Bool, true, false, refl, sym, ap, ◌∙◌, subst, inl, inr, ⊎_elim, arith}
use Rattle.std.specs.Prelude.{◌*◌, ◌==◌, not, min, filter, unwrap_or, slice_index_or}
use Rattle.std.specs.List.{AllByRecursion, list_all}
use Rattle.std.proofs.lemmas.List.{length-take, length-drop}
use Rattle.std.proofs.lemmas.Bool.{and_parts, eqb-true}
use Rattle.list_places.specs.Has.{Has}
use Rattle.list_places.proofs.Lists.{has_filter, all_has}
use Rattle.made_symbols.specs.declared.mode.Mode.TheVariants.{Shared}
use Rattle.name_rules.specs.Entries.{InputSymbol}
use Rattle.reloc_apply.specs.declared.window.Form.{Form}
use Rattle.reloc_apply.specs.declared.window.Form.TheVariants.{Unsigned5, Signed5, Word4}
use Rattle.reloc_apply.specs.declared.window.Patch.{Patch}
use Rattle.reloc_apply.specs.declared.window.Window.{Window}
use Rattle.reloc_apply.specs.Windows.{filled, patch_of}
use Rattle.reloc_apply.specs.Apart.{AreApart, LiesIn, size_of}
use Rattle.reloc_apply.proofs.Apart.{apart_lie_in}
use Rattle.reloc_apply.proofs.Over.{filled_long}
use Rattle.image_emit.specs.Bytes.{Block}
use Rattle.image_emit.specs.Stored.{Rise}
use Rattle.run_rules.specs.declared.session.Session.{Session}
use Rattle.link_rules.specs.Program.{Program, Part, Named, a_symbol, a_type}
use Rattle.link_rules.specs.Marks.{live}
use Rattle.link_rules.specs.Values.{Layout, part_bytes, segments, solid_segments, is_zero, segment_address, windows, named_window}
use Rattle.link_rules.specs.Output.{layout, held_as}
use Rattle.link_program.specs.Stand.{NamedStand, PartStands, named_place, named_size}
use Rattle.link_worlds.specs.Sound.{AllZero}
use Rattle.link_worlds.specs.Worlds.{zero_segments}
use Rattle.link_worlds.proofs.Live.{live_part}
use Rattle.link_worlds.proofs.Functions.{picks_apart}
use Rattle.shared_laws.specs.Linked.{SharedStands}
use Rattle.shared_laws.proofs.Lie.{StandFrom}
use Rattle.shared_worlds.specs.Placing.{Placing, memory_base}
use Rattle.shared_worlds.specs.Worlds.{block_at, blocks_of, least_pages, pages_given}
use Rattle.shared_worlds.specs.Statements.{Holds}
use Rattle.shared_runs.specs.Links.{Agrees, SharedMemoryHolds}
use Rattle.shared_runs.proofs.Standing.{middle, solids, zeroes}

-- ---- blocks that rise

rise_low : (at next to : ℕ) (bs : List Block) → at ≤ next → Rise next to bs → Rise at to bs
rise_low at next to [] l h = omega (arith, l, h)
rise_low at next to (b ∷ bs) l h = (omega (arith, l, h.0), h.1)

rise_high : (at to end : ℕ) (bs : List Block) → Rise at to bs → to ≤ end → Rise at end bs
rise_high at to end [] h l = omega (arith, l, h)
rise_high at to end (b ∷ bs) h l = (h.0, rise_high (b.address + length b.bytes) to end bs h.1 l)

rise_both : (at mid to : ℕ) (bs cs : List Block) → Rise at mid bs → Rise mid to cs → Rise at to (bs ++ cs)
rise_both at mid to [] cs h g = rise_low at mid to cs h g
rise_both at mid to (b ∷ bs) cs h g = (h.0, rise_both (b.address + length b.bytes) mid to bs cs h.1 g)

-- ---- windows that hold 0 stand where they stood

held_step : (f : Form) (w : Window) (at to : ℕ) (ps : List Patch) → at ≤ w.place → AreApart (w.place + size_of w.form) to ps → AreApart at to (patch_of (held_as f w) ∷ ps)
held_step Unsigned5 w at to ps h r = (h, r)
held_step Signed5 w at to ps h r = (h, r)
held_step Word4 w at to ps h r = (h, r)

held_apart : (l : Layout) (from to : ℕ) (ns : List Named) → NamedStand from to ns → AreApart from to (map patch_of (map (λ w. held_as w.form w) (map (named_window Shared l) ns)))
held_apart l from to [] h = h
held_apart l from to (n ∷ ns) h = one n h.0 (held_apart l (named_place n + named_size n) to ns h.1)
  where
    one : (n : Named) → from ≤ named_place n → AreApart (named_place n + named_size n) to (map patch_of (map (λ w. held_as w.form w) (map (named_window Shared l) ns)))
        → AreApart from to (patch_of (held_as (named_window Shared l n).form (named_window Shared l n)) ∷ map patch_of (map (λ w. held_as w.form w) (map (named_window Shared l) ns)))
    one (a_symbol ref) k r = held_step (named_window Shared l (a_symbol ref)).form (named_window Shared l (a_symbol ref)) from to (map patch_of (map (λ w. held_as w.form w) (map (named_window Shared l) ns))) k r
    one (a_type w) k r = held_step (named_window Shared l (a_type w)).form (named_window Shared l (a_type w)) from to (map patch_of (map (λ w. held_as w.form w) (map (named_window Shared l) ns))) k r

-- the bytes of a part, as many as its span counts
part_long : (p : Program) (part : Part) → PartStands p part → length (part_bytes p part) ≡ part.source.span.len
part_long p part s =
    let file = slice_index_or p.files part.source.file [] in
    let k = part.source.span.start in
    let n = part.source.span.len in
    let room : k + n ≤ length file = s.source in
    length-take n (drop k file) ∙ min_is n (length (drop k file)) (let d = length-drop k file in omega (arith, room, d))
  where
    min_is : (a b : ℕ) → a ≤ b → min a b ≡ a
    min_is a b h = omega (arith, h)

all_zero : (bytes : List ℕ) → list_all (λ b. b == 0) bytes ≡ true → bytes ≡ replicate (length bytes) 0
all_zero [] h = refl
all_zero (b ∷ bs) h =
    let r = and_parts (b == 0) (list_all (λ b. b == 0) bs) h in
    ap (λ x. x ∷ bs) (eqb-true b 0 r.0) ∙ ap (λ xs. 0 ∷ xs) (all_zero bs r.1)

none_named : (ns : List Named) → (length ns == 0) ≡ true → ns ≡ []
none_named [] h = refl
none_named (n ∷ ns) h = absurd (let e = eqb-true (length (n ∷ ns)) 0 h in omega (arith, e))

module _ (p : Program) (exports : List InputSymbol) (s : SharedStands p) (base : ℕ) where
  abbrev lay : Layout
  lay = layout Shared p (live p exports) exports

  abbrev block : Part → Block
  block part = block_at base p (layout Shared p (live p exports) exports) part

  abbrev address : Part → ℕ
  address part = segment_address (layout Shared p (live p exports) exports) part.chunk

  abbrev Long : Part → Type 0
  Long part = length (block part).bytes ≡ part.source.span.len

  -- a block has as many bytes as the segment's span counts
  block_long : (part : Part) → Has (segments (live p exports)) part → Long part
  unfolding windows
  block_long part h =
      let f = has_filter (λ (q : Part). q.chunk.kind == 1) (live p exports) part h in
      let st = all_has (PartStands p) p.parts s.stand part (live_part p exports part f.0) in
      let k : part.chunk.kind ≡ 1 = eqb-true part.chunk.kind 1 f.1 in
      let len = part_long p part st in
      let named : NamedStand 0 part.source.span.len part.named = ⊎_elim (λ z. absurd (let q = z.1 in omega (arith, q, k))) (λ n. n) st.windows in
      let ps = map patch_of (map (λ w. held_as w.form w) (map (named_window Shared lay) part.named)) in
      let lie = apart_lie_in 0 part.source.span.len ps (held_apart lay 0 part.source.span.len part.named named) in
      filled_long ps (part_bytes p part) (subst (λ n. AllByRecursion (LiesIn n) ps) (sym len) lie) ∙ len

  rises_from : (size at : ℕ) (xs : List Part) → StandFrom size address at xs → ((part : Part) → Has xs part → Long part) → Rise (base + at) (base + size) (map block xs)
  rises_from size at [] h f = omega (arith, h)
  rises_from size at (x ∷ xs) h f =
      let long : length (block x).bytes ≡ x.source.span.len = f x (inl refl) in
      let next : base + (address x + x.source.span.len) ≡ base + address x + length (block x).bytes = omega (arith, long) in
      (omega (arith, h.0), subst (λ n. Rise n (base + size) (map block xs)) next (rises_from size (address x + x.source.span.len) xs h.1 (λ y g. f y (inr g))))

  rises_all : (end : ℕ) → base + lay.places.data_end ≤ end → Rise 0 end (map block (solid_segments p (live p exports)) ++ map block (zero_segments p (live p exports)))
  rises_all end room =
      let apart = picks_apart p exports s.apart in
      let mid = middle p exports apart in
      let a = rises_from mid 0 (solid_segments p (live p exports)) (solids p exports apart) (λ part g. block_long part (has_filter (λ (q : Part). not (is_zero p q)) (segments (live p exports)) part g).0) in
      let b = rises_from lay.places.data_end mid (zero_segments p (live p exports)) (zeroes p exports apart) (λ part g. block_long part (has_filter (is_zero p) (segments (live p exports)) part g).0) in
      let bs = map block (solid_segments p (live p exports)) in
      let cs = map block (zero_segments p (live p exports)) in
      rise_low 0 (base + 0) end (bs ++ cs) (omega arith) (rise_both (base + 0) (base + mid) end bs cs a (rise_high (base + mid) (base + lay.places.data_end) end cs b room))

  -- ---- segments of zeros

  zero_block : (part : Part) → is_zero p part ≡ true → (block part).bytes ≡ replicate (length (block part).bytes) 0
  unfolding windows
  zero_block part h =
      let r = and_parts (length part.named == 0) (list_all (λ b. b == 0) (part_bytes p part)) h in
      let none : (block part).bytes ≡ part_bytes p part = ap (λ ns. filled (map patch_of (map (λ w. held_as w.form w) (map (named_window Shared lay) ns))) (part_bytes p part)) (none_named part.named r.0) in
      none ∙ all_zero (part_bytes p part) r.1 ∙ ap (λ bs. replicate (length bs) 0) (sym none)

  zeros_from : (xs : List Part) → ((part : Part) → Has xs part → is_zero p part ≡ true) → AllZero (map block xs)
  zeros_from [] f = tt
  zeros_from (x ∷ xs) f = (zero_block x (f x (inl refl)), zeros_from xs (λ y h. f y (inr h)))

  zeros_all : AllZero (map block (zero_segments p (live p exports)))
  zeros_all = zeros_from (zero_segments p (live p exports)) (λ part h. (has_filter (is_zero p) (segments (live p exports)) part h).1)

pub memory_holds : SharedMemoryHolds
memory_holds x p exports s agree = record {
  rises = rises_all p exports s (memory_base x.session) (65536 * pages_given x.session (layout Shared p (live p exports) exports)) agree.memory;
  zeros = zeros_all p exports s (memory_base x.session);
}
