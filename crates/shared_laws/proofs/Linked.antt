-- The words of a shared output are linked.
use Rattle.std.proofs.Common.{◌≡◌, ℕ, ◌+◌, ◌≤◌, ◌<◌, List, [], ◌∷◌, ◌++◌, length, map, None, Bool, true, false, not, refl, sym, ap, ◌∙◌, subst, inl, inr, ⊎_elim, arith}
use Rattle.std.specs.Prelude.{◌==◌, cond, flat_map}
use Rattle.std.proofs.lemmas.List.{length-append}
use Rattle.std.proofs.lemmas.List.Elements.{All-from_recursion}
use Rattle.list_places.specs.Has.{Has, Apart}
use Rattle.list_places.proofs.Lists.{all_has, has_either, has_filter, has_flat, has_map}
use Rattle.made_symbols.specs.declared.mode.Mode.TheVariants.{Shared}
use Rattle.live_mark.specs.Live.{ReachedLaw, is_among, reached}
use Rattle.name_rules.specs.Entries.{InputSymbol}
use Rattle.dylink_out.specs.declared.word.WordReloc.{WordReloc}
use Rattle.dylink_out.specs.declared.word.WordPlace.TheVariants.{Window, Got}
use Rattle.dylink_out.specs.declared.word.WordValue.{WordValue}
use Rattle.dylink_out.specs.declared.word.WordValue.TheVariants.{OwnDatum, OwnFunction}
use Rattle.dylink_out.specs.Loading.{AreLinked, Reads, PlaceFits, RiseFrom, LieFrom}
use Rattle.link_rules.specs.Program.{Program, Part, Ref, refs}
use Rattle.link_rules.specs.Marks.{live, picked, targets, root_places, is_foreign}
use Rattle.link_rules.specs.Keys.{GotKey, got, got_entries, global_number, same_global}
use Rattle.link_rules.specs.Values.{Layout, segments, solid_segments, segment_address, got_value, is_zero}
use Rattle.link_rules.specs.Loader.{got_word, is_function_got, foreign_value, own_value}
use Rattle.link_rules.specs.Output.{layout}
use Rattle.link_rules.specs.LinkOf.{memory_fault, table_fault}
use Rattle.link_facts.specs.link_worlds.Sound.{same_part}
use Rattle.link_facts.proofs.link_worlds_lemmas.Live.{live_part}
use Rattle.program_build.specs.link_program.Stand.{PartStands, NamedStand}
use Rattle.shared_laws.specs.Linked.{SharedStands, shared_layout, shared_words, import_count, WordsAreLinked}
use Rattle.shared_laws.proofs.Lie.{part_words, segments_lie, segments_rise, places_fit, CellFits}
use Rattle.shared_laws.proofs.Places.{all_from_has, picks_all, number_below}
use Rattle.shared_laws.proofs.Solid.{stand_solid, end_small}
use Rattle.shared_laws.proofs.Globals.{outs, owns, gots, dates, three_imports, globals_are, picked_are, got_number, behind_imports, cells_rise, cells_lie}
use Rattle.shared_laws.proofs.Read.{row_reads, got_reads}

-- ---- no two live parts have one chunk

picked_has : (marked : List ℕ) (at : ℕ) (xs : List Part) (x : Part) → Has (picked marked at xs) x → Has xs x
picked_has marked at [] x h = h
picked_has marked at (y ∷ ys) x h = onto (is_among marked at) h (picked_has marked (at + 1) ys x)
  where
    onto : (b : Bool) → Has (cond b (y ∷ picked marked (at + 1) ys) (picked marked (at + 1) ys)) x → (Has (picked marked (at + 1) ys) x → Has ys x) → Has (y ∷ ys) x
    onto true (inl e) f = inl e
    onto true (inr h) f = inr (f h)
    onto false h f = inr (f h)

picked_apart : (marked : List ℕ) (at : ℕ) (xs : List Part) → Apart same_part xs → Apart same_part (picked marked at xs)
picked_apart marked at [] a = tt
picked_apart marked at (x ∷ xs) a = onto (is_among marked at) (picked_apart marked (at + 1) xs a.1)
  where
    onto : (b : Bool) → Apart same_part (picked marked (at + 1) xs) → Apart same_part (cond b (x ∷ picked marked (at + 1) xs) (picked marked (at + 1) xs))
    onto true r = (λ y h. a.0 y (picked_has marked (at + 1) xs y h), r)
    onto false r = r

pub live_apart : (p : Program) (exports : List InputSymbol) → Apart same_part p.parts → Apart same_part (live p exports)
unfolding live
live_apart p exports a = picked_apart (reached (targets p) (root_places p exports)) 0 p.parts a

-- ---- the words are rows of segments, and cells

module _ (p : Program) (exports : List InputSymbol) where
  abbrev parts : List Part
  parts = live p exports

  abbrev lay : Layout
  lay = layout Shared p (live p exports) exports

  abbrev pub address : Part → ℕ
  address part = segment_address lay part.chunk

  abbrev pub row_value : Ref → WordValue
  row_value ref = cond (is_foreign ref) (foreign_value Shared p parts lay ref) (own_value Shared p parts lay ref)

  abbrev number : GotKey → ℕ
  number key = global_number lay.numbers (got key)

  abbrev pub cell_word : GotKey → WordReloc
  cell_word key = record { to = Got (number key); value = cond (is_function_got Shared p parts lay key) (OwnFunction (got_value Shared lay key)) (OwnDatum (got_value Shared lay key)) }

  abbrev pub rows : List WordReloc
  rows = flat_map (part_words address row_value) (solid_segments p parts)

  abbrev pub cells : List WordReloc
  cells = map cell_word (got_entries Shared parts)

  pub words_are : shared_words p exports ≡ rows ++ cells
  unfolding layout
  words_are =
      ap (λ ws. rows ++ ws)
      (picked_are p parts exports (got_word Shared p parts lay) (λ k. refl) (λ i n. refl) (λ e. refl)
      ∙ picks_all (got_word Shared p parts lay) got cell_word (λ k. refl) (got_entries Shared parts))

  module _ (law : ReachedLaw) (s : SharedStands p) (memory : memory_fault Shared p (live p exports) ≡ None) (table : table_fault (shared_layout p exports) ≡ None) where
    abbrev apart : Apart same_part (live p exports)
    apart = live_apart p exports s.apart

    abbrev size : ℕ
    size = lay.places.data_end

    -- windows of a live segment stand one behind another in it
    rows_stand : (x : Part) → Has (solid_segments p parts) x → NamedStand 0 x.source.span.len x.named
    rows_stand x h =
        let a = has_filter (λ (q : Part). not (is_zero p q)) (segments parts) x h in
        let b = has_filter (λ (q : Part). q.chunk.kind == 1) parts x a.0 in
        let stand = all_has (PartStands p) p.parts s.stand x (live_part p exports x b.0) in
        ⊎_elim (λ q. absurd (let z = b.1 in let y = q.1 in grind (arith, z, y))) (λ q. q) stand.windows

    lie : LieFrom size 0 (rows ++ cells)
    lie = segments_lie size address row_value cells 0 (solid_segments p parts) (stand_solid p exports apart) rows_stand (cells_lie size size (got_entries Shared parts) cell_word number (λ k. refl) (omega arith))

    rise : RiseFrom (import_count p exports) (rows ++ cells)
    unfolding layout
    rise =
        segments_rise size address row_value cells (import_count p exports) (solid_segments p parts)
        (cells_rise (import_count p exports) (length (outs p parts exports ++ owns p parts exports)) (got_entries Shared parts) cell_word number (λ k. refl) (behind_imports p parts exports) (got_number p parts exports))

    imports_few : import_count p exports ≤ length lay.numbers.globals
    unfolding layout
    imports_few =
        let a = behind_imports p parts exports in
        let b = length-append (outs p parts exports) (owns p parts exports) in
        let c = length-append (outs p parts exports) (owns p parts exports ++ gots p parts exports ++ dates p parts exports) in
        let d = length-append (owns p parts exports) (gots p parts exports) in
        let e = length-append (owns p parts exports ++ gots p parts exports) (dates p parts exports) in
        let g = ap length (globals_are p parts exports) in
        omega (arith, a, b, c, d, e, g)

    three : 2 < import_count p exports
    three = three_imports p parts s.entries_are

    -- what holds of each row and of each cell
    each : (P : WordReloc → Type 0) → ((part : Part) (ref : Ref) → P (record { to = Window (address part + ref.place); value = row_value ref })) → ((k : GotKey) → Has (got_entries Shared parts) k → P (cell_word k))
        → (w : WordReloc) → Has (rows ++ cells) w → P w
    each P row cell w h =
        ⊎_elim
        (λ a. let f = has_flat (part_words address row_value) (solid_segments p parts) w a in let m = has_map _ (refs f.0) w f.2 in subst P m.2 (row f.0 m.0))
        (λ a. let m = has_map cell_word (got_entries Shared parts) w a in subst P m.2 (cell m.0 m.1))
        (has_either rows cells w h)

    cell_there : (k : GotKey) → number k < length lay.numbers.globals
    cell_there k = number_below (same_global (got k)) lay.numbers.globals (omega (arith, three, imports_few))

    pub linked : AreLinked (import_count p exports) (length lay.numbers.globals) size (shared_words p exports)
    linked =
        let small = end_small p exports apart memory in
        subst (AreLinked (import_count p exports) (length lay.numbers.globals) size) (sym words_are)
        (record {
          bases = three;
          imported = imports_few;
          reads = all_from_has (λ (w : WordReloc). Reads (import_count p exports) w.value) (rows ++ cells)
              (each (λ (w : WordReloc). Reads (import_count p exports) w.value) (λ part ref. row_reads law p exports s apart memory table ref) (λ k h. got_reads law p exports s apart memory table k h));
          places = All-from_recursion (λ (w : WordReloc). PlaceFits (length lay.numbers.globals) w.to) (rows ++ cells)
              (places_fit size (length lay.numbers.globals) 0 (rows ++ cells) (omega (arith, small)) lie (each (λ (w : WordReloc). CellFits (length lay.numbers.globals) w.to) (λ part ref. tt) (λ k h. cell_there k)));
          rise = rise;
          lie = lie;
        })

pub words_linked : ReachedLaw → WordsAreLinked
words_linked law p exports s memory table = linked p exports law s memory table
