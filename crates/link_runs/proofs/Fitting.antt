-- The segments of the linked module fit its table and its memory.
use Rattle.std.proofs.Common.{◌≡◌, ℕ, ◌+◌, ◌-◌, ◌<◌, ◌≤◌, List, [], ◌∷◌, ◌++◌, length, map, drop, replicate, Some, None, Bool, true, false, refl, ap, ◌∙◌, arith, length-append}
use Rattle.std.specs.Prelude.{◌*◌, ◌^◌, ◌==◌, ◌&&◌, cond, unwrap_or, pos}
use Rattle.std.specs.List.{list_all}
use Rattle.std.proofs.lemmas.Bool.{and_from, le-leb}
use Rattle.std.proofs.lemmas.List.{length-map, length-replicate}
use Rattle.wasm_types.specs.declared.const_expr.ConstExpr.TheVariants as exprs
use Rattle.wasm_module.specs.declared.structure.Module.{Module}
use Rattle.wasm_module.specs.Modules.{SameButPlaces}
use Rattle.made_symbols.specs.declared.mode.Mode.TheVariants.{Plain}
use Rattle.name_rules.specs.Entries.{InputSymbol}
use Rattle.reloc_apply.specs.Windows.{signed32, patch_of}
use Rattle.image_emit.specs.Bytes.{Block, laid, data_bytes, source_bytes, block_of}
use Rattle.image_emit.specs.Filled.{blocks_filled}
use Rattle.image_emit.specs.Spelled.{segments}
use Rattle.image_emit.specs.Stored.{Rise, first_address as first_block}
use Rattle.run_rules.specs.declared.value.Value.{Value}
use Rattle.run_rules.specs.declared.session.Session.{Session}
use Rattle.run_rules.specs.Modules.{first, imported_globals, imported_tables, imported_memories, first_values, first_pages, fits_at, least_of, element_fits, segment_fits, fits_session}
use Rattle.link_output.specs.link_rules.Program.{Program, Part}
use Rattle.link_output.specs.link_rules.Marks.{live}
use Rattle.link_output.specs.link_rules.Keys.{FunctionKey, function_number}
use Rattle.link_output.specs.link_rules.Values.{Layout, solid_segments, windows}
use Rattle.link_output.specs.link_rules.Output.{layout, image, source_windows, imports, memory, table, elements, first_address, placed_source, body_of, body_windows, defined}
use Rattle.link_facts.specs.link_worlds.Worlds.{layout_of, module_by, linked_module, segment_block, zero_segments, pages_at_first}
use Rattle.link_facts.specs.link_worlds.Statements.{Holds}
use Rattle.link_facts.proofs.link_worlds_lemmas.Imports.{memories_are, tables_none}
use Rattle.link_facts.proofs.link_worlds_lemmas.Start.{unsigned_again}

-- ---- blocks that rise end below the end of memory

rise_end : (at end : ℕ) (bs : List Block) → Rise at end bs → at ≤ end
rise_end at end [] h = h
rise_end at end (b ∷ bs) h = let r = rise_end (b.address + length b.bytes) end bs h.1 in omega (arith, h.0)

laid_low : (at end : ℕ) (bs cs : List Block) → Rise at end (bs ++ cs) → at + length (laid at bs) ≤ end
laid_low at end [] cs h = let r = rise_end at end cs h in omega (arith, r)
laid_low at end (b ∷ bs) cs h =
    let n = length b.bytes in
    let next = b.address + n in
    let r = laid_low next end bs cs h.1 in
    let whole : length (laid at (b ∷ bs)) ≡ (b.address - at) + n + length (laid next bs) =
    length-append (replicate (b.address - at) 0 ++ b.bytes) (laid next bs)
    ∙ ap (λ k. k + length (laid next bs)) (length-append (replicate (b.address - at) 0) b.bytes ∙ ap (λ k. k + n) (length-replicate (b.address - at) 0)) in
    omega (arith, whole, h.0, r)

data_low : (end : ℕ) (bs cs : List Block) → Rise 0 end (bs ++ cs) → first_block bs + length (data_bytes bs) ≤ end
data_low end [] cs h = omega arith
data_low end (b ∷ bs) cs h = let itself : b.address ≤ b.address = omega arith in laid_low b.address end (b ∷ bs) cs (itself, h.1)

-- ---- one segment of each kind

room_for : (at count room : ℕ) → at + count ≤ room → fits_at room (Some at) count ≡ true
room_for at count room h = le-leb (at + count) room h

module _ (firsts : List Value) where
  data_fits : (room : ℕ) (bs : List Block) → first_block bs < 2 ^ 32 → first_block bs + length (data_bytes bs) ≤ room
      → list_all (segment_fits firsts room) (segments (exprs.I32 (signed32 (first_block bs))) bs) ≡ true
  data_fits room [] low h = refl
  data_fits room (b ∷ bs) low h =
      let d = length (data_bytes (b ∷ bs)) in
      ap (λ n. fits_at room (Some n) d && true) (unsigned_again b.address low) ∙ ap (λ t. t && true) (room_for b.address d room h)

  slots_fit : (number : FunctionKey → ℕ) (ks : List FunctionKey) (none : Bool)
      → list_all (element_fits firsts (1 + length ks)) (cond none [] (record { table = None; offset = exprs.I32 (pos 1); functions = map number ks } ∷ [])) ≡ true
  slots_fit number ks true = refl
  slots_fit number ks false =
      let many = length-map ks number in
      ap (λ t. t && true) (room_for 1 (length (map number ks)) (1 + length ks) (omega (arith, many)))

-- ---- the linked module

module _ (s : Session) (p : Program) (exports : List InputSymbol) (holds : Holds s p exports (layout_of p exports)) where
  abbrev parts : List Part
  parts = live p exports

  abbrev lay : Layout
  lay = layout Plain p (live p exports) exports

  abbrev firsts : List Value
  firsts = first_values s (imported_globals (imports Plain p (live p exports) exports (layout Plain p (live p exports) exports)))

  abbrev written : List Part
  written = solid_segments p (live p exports)

  abbrev room : ℕ
  room = 65536 * pages_at_first s p (layout Plain p (live p exports) exports)

  elements_fit : list_all (element_fits firsts (least_of (first (imported_tables (imports Plain p parts exports lay) ++ table Plain p parts exports lay ∷ [])))) (elements Plain p parts exports lay) ≡ true
  elements_fit =
      ap (λ ts. list_all (element_fits firsts (least_of (first (ts ++ table Plain p parts exports lay ∷ [])))) (elements Plain p parts exports lay)) (tables_none p parts exports lay)
      ∙ slots_fit firsts (function_number lay.numbers) lay.numbers.slots (length lay.numbers.slots == 0)

  blocks_by : (xs : List Part) → blocks_filled (map (map patch_of) (map (windows Plain lay) xs)) (map (block_of p.files) (map (placed_source Plain p parts exports lay) xs)) ≡ map (segment_block p lay) xs
  blocks_by [] = refl
  blocks_by (x ∷ xs) = ap (λ bs. segment_block p lay x ∷ bs) (blocks_by xs)

  behind : {A B C D E : Type 0} (f : B → C) (g : A → B) (h : D → E) (k : A → D) (xs : List A) (ws : List D) → drop (length (map f (map g xs))) (map h (map k xs ++ ws)) ≡ map h ws
  behind f g h k [] ws = refl
  behind f g h k (x ∷ xs) ws = behind f g h k xs ws

  first_same : (xs : List Part) → first_address Plain p parts exports lay xs ≡ first_block (map (segment_block p lay) xs)
  first_same [] = refl
  first_same (x ∷ xs) = refl

  pages_same : first_pages s (imported_memories (imports Plain p parts exports lay)) (cond p.plan.import_memory [] (memory Plain p parts exports lay ∷ [])) ≡ pages_at_first s p lay
  pages_same = ap (λ ms. first_pages s ms (cond p.plan.import_memory [] (memory Plain p parts exports lay ∷ []))) (memories_are p parts exports lay) ∙ onto p.plan.import_memory
    where
      onto : (b : Bool) → first_pages s (cond b (memory Plain p parts exports lay ∷ []) []) (cond b [] (memory Plain p parts exports lay ∷ [])) ≡ cond b (unwrap_or s.pages lay.places.pages) lay.places.pages
      onto true = refl
      onto false = refl

  -- the blocks of the output, and those of its segments
  abbrev blocks : List Block
  blocks = blocks_filled
      (drop (length (map (source_bytes p.files) (map (body_of Plain p parts exports lay) (defined Plain p parts exports lay)))) (map (map patch_of) (map (body_windows Plain p parts exports lay) (defined Plain p parts exports lay) ++ map (windows Plain lay) written)))
      (map (block_of p.files) (map (placed_source Plain p parts exports lay) written))

  blocks_are : blocks ≡ map (segment_block p lay) written
  blocks_are =
      ap (λ pss. blocks_filled pss (map (block_of p.files) (map (placed_source Plain p parts exports lay) written)))
      (behind (source_bytes p.files) (body_of Plain p parts exports lay) (map patch_of) (body_windows Plain p parts exports lay) (defined Plain p parts exports lay) (map (windows Plain lay) written))
      ∙ blocks_by written

  segments_fit : list_all (segment_fits firsts (65536 * first_pages s (imported_memories (imports Plain p parts exports lay)) (cond p.plan.import_memory [] (memory Plain p parts exports lay ∷ []))))
      (segments (exprs.I32 (signed32 (first_address Plain p parts exports lay written))) blocks) ≡ true
  segments_fit =
      let bs = map (segment_block p lay) written in
      ap (λ n. list_all (segment_fits firsts (65536 * n)) (segments (exprs.I32 (signed32 (first_address Plain p parts exports lay written))) blocks)) pages_same
      ∙ ap (λ cs. list_all (segment_fits firsts room) (segments (exprs.I32 (signed32 (first_address Plain p parts exports lay written))) cs)) blocks_are
      ∙ ap (λ a. list_all (segment_fits firsts room) (segments (exprs.I32 (signed32 a)) bs)) (first_same written)
      ∙ data_fits firsts room bs holds.low (data_low room bs (map (segment_block p lay) (zero_segments p (live p exports))) holds.rises)

  pub linked_fits : fits_session s (linked_module p exports) ≡ true
  unfolding fits_session module_by image source_windows
  linked_fits =
      and_from
      (list_all (element_fits firsts (least_of (first (imported_tables (imports Plain p parts exports lay) ++ table Plain p parts exports lay ∷ [])))) (elements Plain p parts exports lay))
      (list_all (segment_fits firsts (65536 * first_pages s (imported_memories (imports Plain p parts exports lay)) (cond p.plan.import_memory [] (memory Plain p parts exports lay ∷ []))))
      (segments (exprs.I32 (signed32 (first_address Plain p parts exports lay written))) blocks))
      elements_fit segments_fit

-- places have no part in it
pub fits_but_places : (s : Session) (m other : Module) → SameButPlaces m other → fits_session s m ≡ true → fits_session s other ≡ true
unfolding fits_session
fits_but_places s m other d h = ap (fits_session s) d.rest ∙ h
