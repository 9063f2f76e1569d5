-- What words read: numbers of 32 bits, and imported cells alone.
use Rattle.std.proofs.Common.{◌≡◌, ℕ, ◌+◌, ◌-◌, ◌<◌, List, [], length, None, Bool, true, false, refl, sym, ap, ◌∙◌, subst, arith, ℤ, pos, negsuc}
use Rattle.std.specs.Prelude.{◌^◌, ◌==◌, nat_lt, cond, slice_index_or, ◌+ℤ◌}
use Rattle.std.proofs.lemmas.Bool.{eq-eqb, ltb-false, cond-true, cond-false}
use Rattle.list_places.specs.Has.{Has, Apart}
use Rattle.list_places.proofs.Lists.{by_test}
use Rattle.linking_section.specs.declared.symbol.SymbolKind.TheVariants.{Datum}
use Rattle.linking_section.specs.Flags.{kind_code}
use Rattle.made_symbols.specs.declared.mode.Mode.TheVariants.{Shared}
use Rattle.live_mark.specs.Live.{ReachedLaw}
use Rattle.index_layout.specs.Numbers.{number_by}
use Rattle.name_rules.specs.Entries.{InputSymbol, is_kind}
use Rattle.name_rules.specs.Meanings.{cell_of}
use Rattle.reloc_apply.specs.Windows.{bits32}
use Rattle.dylink_out.specs.declared.word.WordValue.TheVariants.{OwnDatum, OwnFunction, ForeignDatum, ForeignFunction}
use Rattle.dylink_out.specs.Loading.{Reads}
use Rattle.link_rules.specs.Program.{Program, Part, Ref, chunk_at}
use Rattle.link_rules.specs.Marks.{live, is_foreign}
use Rattle.link_rules.specs.Keys.{FunctionKey, outside, same_function, GotKey, got_entry, got_import, got_null, got_entries, ref_got, function_of, slot_of, outside_global, ref_function, is_null, cell_key, got, same_global, globals}
use Rattle.link_rules.specs.Values.{Layout, address_of, got_value, segment_address, ref_slot, meant_address}
use Rattle.link_rules.specs.Loader.{own_value, foreign_value, cell_number, is_function_got}
use Rattle.link_rules.specs.Output.{layout}
use Rattle.link_rules.specs.LinkOf.{memory_fault, table_fault}
use Rattle.link_facts.specs.link_worlds.Sound.{same_part}
use Rattle.shared_laws.specs.Linked.{SharedStands, shared_layout, import_count}
use Rattle.shared_laws.proofs.Places.{mapped_none, given_none, number_low}
use Rattle.shared_laws.specs.Numbered.{IsPlaced}
use Rattle.shared_laws.proofs.Data.{placed_there, got_from, meant_by}
use Rattle.shared_laws.proofs.Solid.{end_small}
use Rattle.shared_laws.proofs.Globals.{three_imports, import_number}

bits_small : (z : ℤ) → bits32 z < 2 ^ 32
bits_small (pos n) = omega arith
bits_small (negsuc n) = omega arith

nothing_at : (k : ℕ) → ◌≡◌ {A = ℕ} (slice_index_or [] k 0) 0
nothing_at k = refl

module _ (law : ReachedLaw) (p : Program) (exports : List InputSymbol) (s : SharedStands p) (apart : Apart same_part (live p exports))
    (memory : memory_fault Shared p (live p exports) ≡ None) (table : table_fault (shared_layout p exports) ≡ None) where
  abbrev parts : List Part
  parts = live p exports

  abbrev lay : Layout
  lay = layout Shared p (live p exports) exports

  -- ---- slots

  slots_few : length lay.numbers.slots < 2 ^ 32
  unfolding table_fault layout
  slots_few =
      let none = mapped_none _ _ table in
      let low = ltb-false (2 ^ 32 - 1) (0 + length lay.numbers.slots) (given_none (nat_lt (2 ^ 32 - 1) (0 + length lay.numbers.slots)) (0 + length lay.numbers.slots) none) in
      omega (arith, low)

  slot_small : (k : FunctionKey) → slot_of lay.numbers k < 2 ^ 32
  unfolding layout
  slot_small k = let a = number_low (same_function k) lay.numbers.slots in let b = slots_few in omega (arith, a, b)

  -- ---- addresses of data

  -- that of a datum in a live segment
  address_small : (e : InputSymbol) → ((e.input ≡ 0 → ⊥) → IsPlaced p exports e) → address_of Shared lay e < 2 ^ 32
  address_small e o =
      by_test (e.input == 0)
      (λ t. subst (λ k. k < 2 ^ 32) (sym (cond-true (e.input == 0) (slice_index_or [] e.place 0) (segment_address lay (chunk_at e.input 1 e.index) + e.symbol.offset) t ∙ nothing_at e.place)) (omega arith))
      (λ t. subst (λ k. k < 2 ^ 32) (sym (cond-false (e.input == 0) (slice_index_or [] e.place 0) (segment_address lay (chunk_at e.input 1 e.index) + e.symbol.offset) t))
      (of_segment (λ z. no_both (e.input == 0) t (eq-eqb e.input 0 z))))
    where
      no_both : (b : Bool) → b ≡ false → b ≡ true → ⊥
      no_both true h k = absurd (grind arith)
      no_both false h k = absurd (grind arith)

      of_segment : (e.input ≡ 0 → ⊥) → segment_address lay (chunk_at e.input 1 e.index) + e.symbol.offset < 2 ^ 32
      of_segment z =
          let q = o z in
          let at : segment_address lay q.part.chunk ≡ segment_address lay (chunk_at e.input 1 e.index) = ap (segment_address lay) q.chunk in
          let few = end_small p exports apart memory in
          let inside = q.inside in
          let within = q.within in
          omega (arith, within, inside, at, few)

  -- ---- cells of addresses

  pub got_small : (k : GotKey) → Has (got_entries Shared parts) k → got_value Shared lay k < 2 ^ 32
  got_small (got_null k) h = omega arith
  got_small (got_import k) h = slot_small (outside k)
  got_small (got_entry e) h =
      by_test (is_kind Datum e)
      (λ t. subst (λ k. k < 2 ^ 32) (sym (cond-true (is_kind Datum e) (address_of Shared lay e) (slot_of lay.numbers (function_of e)) t))
      (let g = got_from p exports (got_entry e) h in
      address_small e (placed_there law p exports s apart g.0 g.1 e g.2 g.3 (meant_by (kind_code g.1.entry.symbol.kind) g.1.meaning e g.4) t)))
      (λ t. subst (λ k. k < 2 ^ 32) (sym (cond-false (is_kind Datum e) (address_of Shared lay e) (slot_of lay.numbers (function_of e)) t)) (slot_small (function_of e)))

  -- ---- what words read

  pub got_reads : (k : GotKey) → Has (got_entries Shared parts) k → Reads (import_count p exports) (cond (is_function_got Shared p parts lay k) (OwnFunction (got_value Shared lay k)) (OwnDatum (got_value Shared lay k)))
  got_reads k h = by (is_function_got Shared p parts lay k)
    where
      by : (b : Bool) → Reads (import_count p exports) (cond b (OwnFunction (got_value Shared lay k)) (OwnDatum (got_value Shared lay k)))
      by true = got_small k h
      by false = got_small k h

  -- where the reference's slot is 0 or one of the table
  slot_low : (ref : Ref) → ref_slot lay ref < 2 ^ 32
  slot_low ref = by (is_null ref.meaning)
    where
      by : (b : Bool) → cond b 0 (slot_of lay.numbers (ref_function ref)) < 2 ^ 32
      by true = omega arith
      by false = slot_small (ref_function ref)

  own_reads : (ref : Ref) → Reads (import_count p exports) (own_value Shared p parts lay ref)
  own_reads ref = by (ref.kind == 2)
    where
      by : (b : Bool) → Reads (import_count p exports) (cond b (OwnFunction (ref_slot lay ref)) (OwnDatum (bits32 (pos (meant_address Shared lay ref.meaning) +ℤ ref.addend))))
      by true = slot_low ref
      by false = bits_small (pos (meant_address Shared lay ref.meaning) +ℤ ref.addend)

  cell_low : (ref : Ref) → is_foreign ref ≡ true → cell_number Shared p parts lay ref < import_count p exports
  unfolding layout
  cell_low ref f =
      let three = three_imports p parts s.entries_are in
      let key : cell_key Shared ref ≡ outside_global (cell_of ref.entry) = cond-true (is_foreign ref) (outside_global (cell_of ref.entry)) (got (ref_got ref)) f in
      subst (λ k. number_by same_global (globals Shared p parts exports) k < import_count p exports) (sym key)
      (import_number p parts exports (cell_of ref.entry) (omega (arith, three)))

  foreign_reads : (ref : Ref) → is_foreign ref ≡ true → Reads (import_count p exports) (foreign_value Shared p parts lay ref)
  foreign_reads ref f = by (ref.kind == 2)
    where
      by : (b : Bool) → Reads (import_count p exports) (cond b (ForeignFunction (cell_number Shared p parts lay ref)) (ForeignDatum (cell_number Shared p parts lay ref) ref.addend))
      by true = cell_low ref f
      by false = cell_low ref f

  pub row_reads : (ref : Ref) → Reads (import_count p exports) (cond (is_foreign ref) (foreign_value Shared p parts lay ref) (own_value Shared p parts lay ref))
  row_reads ref =
      by_test (is_foreign ref)
      (λ t. subst (Reads (import_count p exports)) (sym (cond-true (is_foreign ref) (foreign_value Shared p parts lay ref) (own_value Shared p parts lay ref) t)) (foreign_reads ref t))
      (λ t. subst (Reads (import_count p exports)) (sym (cond-false (is_foreign ref) (foreign_value Shared p parts lay ref) (own_value Shared p parts lay ref) t)) (own_reads ref))
