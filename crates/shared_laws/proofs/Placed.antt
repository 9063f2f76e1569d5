-- What windows and cells hold when the words of a shared output were stored.
use Rattle.std.proofs.Common.{◌≡◌, ℕ, suc, ◌+◌, List, [], ◌∷◌, ◌++◌, length, map, Some, Bool, true, false, not, refl, sym, ap, ◌∙◌, subst, arith, pos}
use Rattle.std.specs.Prelude.{◌^◌, ◌%◌, ◌==◌, ◌&&◌, cond, filter_map, flat_map, slice_range, ◌+ℤ◌}
use Rattle.std.specs.List.{list_all}
use Rattle.std.proofs.lemmas.Bool.{eq-eqb, eqb-true}
use Rattle.list_places.specs.Has.{Has}
use Rattle.list_places.proofs.Lists.{by_test, all_has, filter_has, flat_has, map_has, pick_has, has_left, has_right}
use Rattle.made_symbols.specs.declared.mode.Mode.TheVariants.{Shared}
use Rattle.name_rules.specs.Entries.{InputSymbol, entries}
use Rattle.reloc_apply.specs.declared.window.Patch.{Patch}
use Rattle.reloc_apply.specs.declared.window.Form.TheVariants.{Word4}
use Rattle.reloc_apply.specs.Windows.{bits32, little}
use Rattle.dylink_out.specs.declared.dylink.Dylink.{Dylink}
use Rattle.dylink_out.specs.declared.word.WordReloc.{WordReloc}
use Rattle.dylink_out.specs.declared.word.WordValue.TheVariants.{OwnDatum, OwnFunction, ForeignDatum, ForeignFunction}
use Rattle.dylink_out.specs.Shared.{apply_body}
use Rattle.dylink_out.specs.Loading.{cell, word_number, word_patch, word_patches, word_steps, step_bytes, Machine, run, AreLinked, Agree, IsLoaded, HoldsWindow, HoldsPlace}
use Rattle.program_build.specs.link_program.Loaded.{home_of}
use Rattle.link_inputs.specs.Loaded.{LoadedAreSound}
use Rattle.program_build.specs.Standing.{LoadedPartsStand}
use Rattle.link_rules.specs.Program.{Program, Part, Ref, Named, named_ref, refs, program_of}
use Rattle.link_rules.specs.Marks.{live, exported, is_foreign}
use Rattle.link_rules.specs.Keys.{GlobalKey, outside_global, GotKey, got, got_entries, global_number}
use Rattle.link_rules.specs.Values.{Layout, segments, solid_segments, segment_address, meant_address, ref_slot, got_value, is_zero, part_bytes}
use Rattle.link_rules.specs.Loader.{is_function_got, cell_number, dylink}
use Rattle.link_rules.specs.Output.{layout}
use Rattle.link_rules.specs.LinkOf.{asked_names}
use Rattle.shared_laws.specs.Linked.{SharedStands, shared_words, import_count, the_linkers, WordsAreLinked}
use Rattle.shared_laws.specs.Placed.{AreRelocated, WordsAreLoaded, SharedWordsAreLoaded, window_held, cell_held}
use Rattle.shared_laws.proofs.Lie.{part_words, row_word}
use Rattle.shared_laws.proofs.Linked.{row_value, rows, cells, cell_word, address, words_are}
use Rattle.shared_laws.proofs.Globals.{imports_first, owns, gots, dates, globals_are}
use Rattle.shared_laws.proofs.Foreign.{foreign_cell_numbered}
use Rattle.shared_laws.proofs.Steps.{link_fits}
use Rattle.shared_laws.proofs.Programs.{shared_stands, rows_take}
use Rattle.shared_laws.proofs.Rows.{RowsTake}

abbrev pub Spelled : Type 0
Spelled = (words : List WordReloc) → apply_body words ≡ 0 ∷ flat_map step_bytes (flat_map word_steps words) ++ 0x0B ∷ []

abbrev pub LoadedThere : Type 0
LoadedThere = (imports : ℕ) (words : List WordReloc) (d : Dylink) (entries : ℕ) (m : Machine) → AreLinked imports (length m.cells) d.memory_size words → Agree d entries m
    → (after : Machine) × (run (flat_map word_steps words) m ≡ Some after) × IsLoaded imports words m after × (after.stack ≡ m.stack)

-- what has a window isn't zero
has_rows : (named : List Named) (ref : Ref) (b : Bool) → Has (filter_map named_ref named) ref → not ((length named == 0) && b) ≡ true
has_rows [] ref b h = absurd h
has_rows (n ∷ ns) ref b h = ap (λ z. not (z && b)) (by_test (suc (length ns) == 0) (λ t. absurd (let e : suc (length ns) ≡ 0 = eqb-true (suc (length ns)) 0 t in omega (arith, e))) (λ t. t))

module _ (p : Program) (exports : List InputSymbol) where
  abbrev parts : List Part
  parts = live p exports

  abbrev lay : Layout
  lay = layout Shared p (live p exports) exports

  row_in : (part : Part) (ref : Ref) → Has parts part → part.chunk.kind ≡ 1 → Has (refs part) ref → Has (shared_words p exports) (row_word (row_value p exports) (segment_address lay part.chunk) ref)
  row_in part ref h k r =
      let segment = filter_has (λ (q : Part). q.chunk.kind == 1) parts part h (eq-eqb part.chunk.kind 1 k) in
      let solid = filter_has (λ (q : Part). not (is_zero p q)) (segments parts) part segment (has_rows part.named ref (list_all (λ b. b == 0) (part_bytes p part)) r) in
      let word = row_word (row_value p exports) (segment_address lay part.chunk) ref in
      subst (λ ws. Has ws word) (sym (words_are p exports))
      (has_left (rows p exports) (cells p exports) word
      (flat_has (part_words (address p exports) (row_value p exports)) (solid_segments p parts) part word solid (map_has (row_word (row_value p exports) (segment_address lay part.chunk)) (refs part) ref r)))

  cell_in : (key : GotKey) → Has (got_entries Shared parts) key → Has (shared_words p exports) (cell_word p exports key)
  cell_in key h = subst (λ ws. Has ws (cell_word p exports key)) (sym (words_are p exports)) (has_right (rows p exports) (cells p exports) (cell_word p exports key) (map_has (cell_word p exports) (got_entries Shared parts) key h))

  -- numbers of words as they are said
  window_number : (base : List ℕ) (ref : Ref) → word_number base (row_value p exports ref) ≡ window_held p exports base ref
  window_number base ref = by (is_foreign ref) (ref.kind == 2)
    where
      by : (f k : Bool) → word_number base
          (cond f
          (cond k (ForeignFunction (cell_number Shared p parts lay ref)) (ForeignDatum (cell_number Shared p parts lay ref) ref.addend))
          (cond k (OwnFunction (ref_slot lay ref)) (OwnDatum (bits32 (pos (meant_address Shared lay ref.meaning) +ℤ ref.addend)))))
          ≡ cond k
          (cond f (cell base (cell_number Shared p parts lay ref)) ((cell base 2 + ref_slot lay ref) % 2 ^ 32))
          (cond f (bits32 (pos (cell base (cell_number Shared p parts lay ref)) +ℤ ref.addend)) ((cell base 1 + bits32 (pos (meant_address Shared lay ref.meaning) +ℤ ref.addend)) % 2 ^ 32))
      by true true = refl
      by true false = refl
      by false true = refl
      by false false = refl

  cell_says : (base : List ℕ) (key : GotKey) → word_number base (cell_word p exports key).value ≡ cell_held p exports base key
  cell_says base key = by (is_function_got Shared p parts lay key)
    where
      by : (b : Bool) → word_number base (cond b (OwnFunction (got_value Shared lay key)) (OwnDatum (got_value Shared lay key)))
          ≡ cond b ((cell base 2 + got_value Shared lay key) % 2 ^ 32) ((cell base 1 + got_value Shared lay key) % 2 ^ 32)
      by true = refl
      by false = refl

  module _ (before after : Machine) (is : IsLoaded (import_count p exports) (shared_words p exports) before after) where
    window_holds : (part : Part) (ref : Ref) → Has parts part → part.chunk.kind ≡ 1 → Has (refs part) ref
        → (let at = cell before.cells 1 + (segment_address lay part.chunk + ref.place) in slice_range after.memory at (at + 4) ≡ little (window_held p exports before.cells ref))
    window_holds part ref h k r =
        let word = row_word (row_value p exports) (segment_address lay part.chunk) ref in
        let patch : Patch = record { place = cell before.cells 1 + (segment_address lay part.chunk + ref.place); form = Word4; value = word_number before.cells (row_value p exports ref) } in
        let there : Has (word_patches before.cells (shared_words p exports)) patch = pick_has (word_patch before.cells) (shared_words p exports) word patch (row_in part ref h k r) refl in
        let holds = all_has (HoldsWindow after.memory) (word_patches before.cells (shared_words p exports)) is.windows patch there in
        holds ∙ ap little (window_number before.cells ref)

    cell_holds : (key : GotKey) → Has (got_entries Shared parts) key → cell after.cells (global_number lay.numbers (got key)) ≡ cell_held p exports before.cells key
    cell_holds key h =
        let holds = all_has (λ (w : WordReloc). HoldsPlace after.cells w.to (word_number before.cells w.value)) (shared_words p exports) is.cells (cell_word p exports key) (cell_in key h) in
        holds ∙ cell_says before.cells key

    relocated : AreRelocated p exports before after
    relocated = record { windows = window_holds; cells = cell_holds; same = is.same; size = is.size }

  bases : p.entries ≡ entries Shared p.objects → (rest : List GlobalKey) × (lay.numbers.globals ≡ map outside_global the_linkers ++ rest)
  unfolding layout
  bases is =
      let f = imports_first p parts is in (
        map outside_global f.0 ++ (owns p parts exports ++ gots p parts exports ++ dates p parts exports),
        globals_are p parts exports ∙ ap (λ ks. map outside_global ks ++ (owns p parts exports ++ gots p parts exports ++ dates p parts exports)) f.1,
      )

  words_loaded : Spelled → LoadedThere → SharedStands p → RowsTake p → AreLinked (import_count p exports) (length lay.numbers.globals) lay.places.data_end (shared_words p exports) → WordsAreLoaded p exports
  words_loaded spelled there s rows linked = record {
    body = refl;
    spelled = spelled (shared_words p exports);
    bases = bases s.entries_are;
    foreign = foreign_cell_numbered p exports rows;
    loaded = λ entries m long agree.
        let l : AreLinked (import_count p exports) (length m.cells) lay.places.data_end (shared_words p exports) = subst (λ n. AreLinked (import_count p exports) n lay.places.data_end (shared_words p exports)) (sym long) linked in
        let r = there (import_count p exports) (shared_words p exports) (dylink Shared p parts lay) entries m l agree in
        (r.0, r.1, relocated m r.0 r.2, r.3);
  }

pub shared_loaded : WordsAreLinked → Spelled → LoadedThere → LoadedAreSound → LoadedPartsStand → SharedWordsAreLoaded
unfolding program_of
shared_loaded linked spelled there loads stand plan files bytes all objects long shared c l e =
    let p = program_of Shared plan files all objects in
    let x = exported Shared p in
    let loaded = (loads Shared plan files (asked_names plan) all objects long c l).1 in
    let s = shared_stands stand plan files all objects (map home_of all) loaded in
    let f = link_fits plan files bytes all objects shared c l e in
    words_loaded p x spelled there s (rows_take stand plan files all objects (map home_of all) loaded) (linked p x s f.fits.memory f.fits.table)
