-- Functions whose address data or cells hold stand in the table, and data in live segments.
use Rattle.std.proofs.Common.{◌≡◌, ℕ, ◌+◌, List, map, Some, true, not, sym, ap, ◌∙◌, subst, inl, inr, ⊎_elim, arith}
use Rattle.std.specs.Prelude.{◌⊎◌, ◌==◌, ◌&&◌, ◌||◌, filter, filter_map, slice_get, unwrap_or, IsTrue}
use Rattle.std.proofs.lemmas.Bool.{and_parts, and_from, or_left, or_right, eq-eqb, eqb-true, cond-true, cond-false}
use Rattle.list_places.specs.Has.{Has}
use Rattle.list_places.proofs.Lists.{by_test, not_both, has_right, first_of, third_of, filter_has, map_has, pick_has, any_has, placed, stands}
use Rattle.wl_base.specs.Choice.{given}
use Rattle.linking_section.specs.declared.symbol.SymbolKind.{SymbolKind}
use Rattle.linking_section.specs.declared.symbol.SymbolKind.TheVariants.{Function, Datum, GlobalVar}
use Rattle.linking_section.specs.Flags.{kind_code}
use Rattle.object_rules.specs.Relocs.{may_name}
use Rattle.made_symbols.specs.declared.mode.Mode.TheVariants.{Shared}
use Rattle.mark_bits.specs.declared.chunk.Chunk.{Chunk}
use Rattle.live_mark.specs.Live.{ReachedLaw}
use Rattle.name_rules.specs.Entries.{InputSymbol, entries, is_kind, name_of}
use Rattle.name_rules.specs.Meanings.{here}
use Rattle.name_rules.specs.Further.{is_here}
use Rattle.link_rules.specs.Program.{Program, Part, Ref, refs, chunk_at, chunk_by, meant_chunk, program_of}
use Rattle.link_rules.specs.Marks.{live, refs_of, reads_cell, exported}
use Rattle.link_rules.specs.Keys.{FunctionKey, outside, linker_function, stub, own, same_function, functions, function_imports_of, defined_functions, made_function_key, own_function_key, stub_names, function_of, ref_function, meant_function, takes_slot, is_taken, slots, got_entry, got_entries}
use Rattle.link_rules.specs.Values.{Layout}
use Rattle.link_rules.specs.Output.{layout}
use Rattle.index_layout.specs.Numbers.{number_by}
use Rattle.link_facts.specs.link_worlds.Sound.{PartOf}
use Rattle.link_facts.proofs.link_worlds_lemmas.Keys.{function_equal, functions_same}
use Rattle.link_facts.proofs.link_worlds_lemmas.Live.{live_part, live_closed, ref_listed}
use Rattle.shared_laws.specs.Linked.{SharedStands}
use Rattle.shared_laws.specs.Numbered.{HasSlot, IsPlaced, AreNumbered, SharedWordsAreNumbered}
use Rattle.shared_laws.proofs.Named.{slot_kind, offset_kind, cell_kind}
use Rattle.shared_laws.proofs.Standing.{FunctionsStand}
use Rattle.shared_laws.proofs.Data.{placed_there, got_from, meant_by}
use Rattle.shared_laws.proofs.Linked.{live_apart}
use Rattle.shared_laws.proofs.Steps.{link_fits}
use Rattle.shared_laws.proofs.Programs.{shared_stands, functions_stand}
use Rattle.program_build.specs.link_program.Loaded.{home_of}
use Rattle.link_inputs.specs.Loaded.{LoadedAreSound}
use Rattle.program_build.specs.Standing.{LoadedPartsStand}
use Rattle.link_rules.specs.LinkOf.{asked_names}

module _ (law : ReachedLaw) (p : Program) (exports : List InputSymbol) (s : SharedStands p) (f : FunctionsStand p) where
  abbrev parts : List Part
  parts = live p exports

  abbrev lay : Layout
  lay = layout Shared p (live p exports) exports

  abbrev fs : List FunctionKey
  fs = functions Shared p parts

  -- ---- functions

  -- a function that a live part refers to is live
  live_function : (part : Part) (ref : Ref) (e : InputSymbol) → Has parts part → Has (refs part) ref → ref.meaning ≡ here e → e.symbol.kind ≡ Function → PartOf parts (chunk_at e.input 0 e.index)
  live_function part ref e h r m t =
      let c = chunk_at e.input 0 e.index in
      let meant : meant_chunk ref.meaning ≡ Some c = ap meant_chunk m ∙ ap (chunk_by e) t in
      live_closed law p exports part c h (pick_has (λ (x : Ref). meant_chunk x.meaning) (refs part) ref c r meant) (f.functions part ref e (live_part p exports part h) r m t).0

  -- and has a number
  listed : (e : InputSymbol) → PartOf parts (chunk_at e.input 0 e.index) → (e.input ≡ 0 → e.index ≡ e.place) → Has fs (function_of e)
  unfolding functions
  listed e o made =
      has_right (map outside (function_imports_of Shared p (refs_of parts))) (defined_functions p parts) (function_of e)
      (by_test (e.input == 0)
      (λ t. first_of (filter_map made_function_key parts) (map stub (stub_names p (refs_of parts))) (filter_map own_function_key parts) (function_of e)
      (pick_has made_function_key parts o.part (function_of e) o.there
      (ap (λ (c : Chunk). given ((c.input == 0) && (c.kind == 0)) (linker_function c.index)) o.chunk
      ∙ ap (λ b. given (b && true) (linker_function e.index)) t
      ∙ ap Some (ap linker_function (made (eqb-true e.input 0 t)) ∙ sym (cond-true (e.input == 0) (linker_function e.place) (own e.input e.index) t)))))
      (λ t. third_of (filter_map made_function_key parts) (map stub (stub_names p (refs_of parts))) (filter_map own_function_key parts) (function_of e)
      (pick_has own_function_key parts o.part (function_of e) o.there
      (ap (λ (c : Chunk). given (not (c.input == 0) && (c.kind == 0)) (own c.input c.index)) o.chunk
      ∙ ap (λ b. given (not b && true) (own e.input e.index)) t
      ∙ ap Some (sym (cond-false (e.input == 0) (linker_function e.place) (own e.input e.index) t))))))

  -- what takes its address gives it a slot
  slotted : (ref : Ref) (e : InputSymbol) → Has (refs_of parts) ref → takes_slot Shared ref ≡ true → ref.meaning ≡ here e → Has fs (function_of e) → Has (slots Shared parts fs) (function_of e)
  unfolding slots
  slotted ref e h t m there =
      let takers = filter (takes_slot Shared) (refs_of parts) in
      let key : ref_function ref ≡ function_of e = ap (meant_function (name_of ref.entry)) m in
      let taken : Has (map ref_function takers) (function_of e) = subst (Has (map ref_function takers)) key (map_has ref_function takers ref (filter_has (takes_slot Shared) (refs_of parts) ref h t)) in
      filter_has (is_taken (map ref_function takers)) fs (function_of e) there (any_has (same_function (function_of e)) (map ref_function takers) (function_of e) taken (functions_same.itself (function_of e)))

  numbered : (k : FunctionKey) → Has (slots Shared parts fs) k → slice_get (slots Shared parts fs) (0 + number_by same_function (slots Shared parts fs) k) ≡ Some k
  numbered k h =
      let xs = slots Shared parts fs in
      let n = placed (same_function k) xs k h (functions_same.itself k) in
      let at = stands (same_function k) xs n.0 n.1 in
      let z : 0 + n.0 ≡ n.0 = omega arith in
      ap (λ o. slice_get xs (0 + unwrap_or o 0)) n.1 ∙ ap (slice_get xs) z ∙ at.there ∙ ap Some (sym (function_equal k at.item at.passes))

  has_slot : (part : Part) (ref : Ref) (e : InputSymbol) → Has parts part → Has (refs part) ref → ref.meaning ≡ here e → e.symbol.kind ≡ Function → takes_slot Shared ref ≡ true → HasSlot p exports e
  unfolding layout
  has_slot part ref e h r m t takes =
      let there = listed e (live_function part ref e h r m t) (f.functions part ref e (live_part p exports part h) r m t).1 in
      numbered (function_of e) (slotted ref e (ref_listed parts part ref h r) takes m there)

  -- ---- windows of data

  kind_is : (part : Part) (ref : Ref) (e : InputSymbol) (n : ℕ) → Has parts part → Has (refs part) ref → ref.meaning ≡ here e → ref.kind ≡ n → (n ≡ 0 → ⊥) → IsTrue (may_name n e.symbol.kind)
  kind_is part ref e n h r m k z =
      let lp = live_part p exports part h in
      ⊎_elim (λ q. absurd (z (sym k ∙ q))) (λ q. subst (λ x. IsTrue (may_name n x)) (sym (f.kinds part ref e lp r m)) (subst (λ x. IsTrue (may_name x ref.entry.symbol.kind)) k q)) (f.names part ref lp r)

  is_of : (e : InputSymbol) (k : SymbolKind) → e.symbol.kind ≡ k → is_kind k e ≡ true
  is_of e k t = eq-eqb (kind_code e.symbol.kind) (kind_code k) (ap kind_code t)

  window_slot : (part : Part) (ref : Ref) (e : InputSymbol) → Has parts part → part.chunk.kind ≡ 1 → Has (refs part) ref → ref.kind ≡ 2 → ref.meaning ≡ here e → (e.symbol.kind ≡ Function) × HasSlot p exports e
  window_slot part ref e h c r k m =
      let t = slot_kind e.symbol.kind (kind_is part ref e 2 h r m k (λ z. omega (arith, z))) in
      let takes : takes_slot Shared ref ≡ true =
      and_from (is_here ref.meaning) ((ref.kind == 1) || (ref.kind == 2) || (ref.kind == 12) || ((ref.kind == 7) && is_kind Function ref.entry)) (ap is_here m)
      (or_left ((ref.kind == 1) || (ref.kind == 2) || (ref.kind == 12)) ((ref.kind == 7) && is_kind Function ref.entry) (or_left ((ref.kind == 1) || (ref.kind == 2)) (ref.kind == 12) (or_right (ref.kind == 1) (ref.kind == 2) (eq-eqb ref.kind 2 k)))) in
      (t, has_slot part ref e h r m t takes)

  datum_placed : (part : Part) (ref : Ref) (e : InputSymbol) → Has parts part → Has (refs part) ref → ref.meaning ≡ here e → e.symbol.kind ≡ Datum → (e.input ≡ 0 → ⊥) → IsPlaced p exports e
  datum_placed part ref e h r m t z = placed_there law p exports s (live_apart p exports s.apart) part ref e h r m (is_of e Datum t) z

  window_offset : (part : Part) (ref : Ref) (e : InputSymbol) → Has parts part → part.chunk.kind ≡ 1 → Has (refs part) ref → ref.kind ≡ 5 → ref.meaning ≡ here e
      → (e.symbol.kind ≡ Datum) × ((e.input ≡ 0 → ⊥) → IsPlaced p exports e)
  window_offset part ref e h c r k m =
      let t = offset_kind e.symbol.kind (kind_is part ref e 5 h r m k (λ z. omega (arith, z))) in
      (t, datum_placed part ref e h r m t)

  -- ---- cells of addresses

  cell_numbered : (e : InputSymbol) → Has (got_entries Shared parts) (got_entry e) → ((e.symbol.kind ≡ Function) × HasSlot p exports e) ⊎ ((e.symbol.kind ≡ Datum) × ((e.input ≡ 0 → ⊥) → IsPlaced p exports e))
  cell_numbered e h =
      let g = got_from p exports (got_entry e) h in
      let part = g.0 in
      let ref = g.1 in
      let m = meant_by (kind_code ref.entry.symbol.kind) ref.meaning e g.4 in
      let q = and_parts (reads_cell ref) (is_here ref.meaning) g.5 in
      let c = and_parts (ref.kind == 7) (not (is_kind GlobalVar ref.entry)) q.0 in
      let k = eqb-true ref.kind 7 c.0 in
      let same = f.kinds part ref e (live_part p exports part g.2) g.3 m in
      ⊎_elim
      (λ t. let fun : is_kind Function ref.entry ≡ true = is_of ref.entry Function (sym same ∙ t) in
      let takes : takes_slot Shared ref ≡ true =
      and_from (is_here ref.meaning) ((ref.kind == 1) || (ref.kind == 2) || (ref.kind == 12) || ((ref.kind == 7) && is_kind Function ref.entry)) (ap is_here m)
      (or_right ((ref.kind == 1) || (ref.kind == 2) || (ref.kind == 12)) ((ref.kind == 7) && is_kind Function ref.entry) (and_from (ref.kind == 7) (is_kind Function ref.entry) c.0 fun)) in
      inl (t, has_slot part ref e g.2 g.3 m t takes))
      (λ t. inr (t, datum_placed part ref e g.2 g.3 m t))
      (cell_kind e.symbol.kind (kind_is part ref e 7 g.2 g.3 m k (λ z. omega (arith, z))) (λ t. not_both (is_kind GlobalVar ref.entry) c.1 (is_of ref.entry GlobalVar (sym same ∙ t))))

  pub are_numbered : AreNumbered p exports
  are_numbered = record { slots = window_slot; offsets = window_offset; cells = cell_numbered }

pub shared_numbered : ReachedLaw → LoadedAreSound → LoadedPartsStand → SharedWordsAreNumbered
unfolding program_of entries
shared_numbered law loads stand plan files bytes all objects long shared c l e =
    let p = program_of Shared plan files all objects in
    let x = exported Shared p in
    let loaded = (loads Shared plan files (asked_names plan) all objects long c l).1 in
    let fits = link_fits plan files bytes all objects shared c l e in
    are_numbered law p x (shared_stands stand plan files all objects (map home_of all) loaded) (functions_stand stand plan files all objects (map home_of all) loaded fits.clear)
