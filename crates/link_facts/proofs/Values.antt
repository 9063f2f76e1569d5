-- Windows and cells hold their values.
use Rattle.std.proofs.Common.{◌≡◌, ℕ, ◌+◌, ◌-◌, ◌<◌, ◌≤◌, List, [], ◌++◌, length, map, Option, Some, None, Bool, true, false, refl, sym, ap, ◌∙◌, subst, inl, inr, ⊎_elim, arith}
use Rattle.std.specs.Prelude.{◌^◌, ◌==◌, ◌&&◌, ◌⊎◌, not, nat_lt, filter, filter_map, flat_map, find, cond, unwrap_or, position, slice_index_or}
use Rattle.std.proofs.lemmas.Bool.{and_from, eqb-true, eq-eqb, ltb-false, not-false, cond-true, cond-false, not_from_false}
use Rattle.list_places.specs.Has.{Has}
use Rattle.list_places.proofs.Lists.{by_test, has_left, has_right, has_either, has_filter, filter_has, has_map, map_has, has_pick, pick_has, has_flat, flat_has, distinct_only, stands, below}
use Rattle.wl_base.specs.Choice.{given}
use Rattle.linking_section.specs.declared.symbol.SymbolKind.{SymbolKind}
use Rattle.linking_section.specs.declared.symbol.SymbolKind.TheVariants.{Function, Datum, GlobalVar, Section, Table}
use Rattle.linking_section.specs.Flags.{kind_code}
use Rattle.made_symbols.specs.declared.mode.Mode.TheVariants.{Plain}
use Rattle.name_rules.specs.Entries.{InputSymbol, is_kind}
use Rattle.name_rules.specs.Meanings.{Meaning, here, imported, null, nothing}
use Rattle.mark_bits.specs.declared.chunk.Chunk.{Chunk}
use Rattle.live_mark.specs.Live.{ReachedLaw}
use Rattle.reloc_apply.specs.declared.window.Window.{Window}
use Rattle.reloc_apply.specs.Windows.{fits, value_overflow}
use Rattle.memory_layout.specs.Memory.{around, heap_base, base_of, places}
use Rattle.output_module.specs.link_rules.Program.{Program, Part, Ref, refs, chunk_at, chunk_of, chunk_by, meant_chunk}
use Rattle.output_module.specs.link_rules.Marks.{live, refs_of}
use Rattle.output_module.specs.link_rules.Keys.{FunctionKey, GlobalKey, GotKey, outside, stub, own, outside_global, linker_global, own_global, got, exported_datum, got_entry, got_import, got_null, functions, defined_functions, function_imports_of, made_function_key, own_function_key, stub_names, globals, used_globals, made_global_key, own_global_key, got_entries, datum_key, needs_got, ref_got, got_of, parts_of_kind, is_function_at, same_function, slot_of, function_of}
use Rattle.output_module.specs.link_rules.Values.{Layout, shapes, named_window, windows, made_data, made_global_value, address_of, got_value, segment_address}
use Rattle.output_module.specs.link_rules.Output.{layout, source_windows, body_windows, windows_in, defined}
use Rattle.output_module.specs.link_rules.LinkOf.{reference_fault, table_fault}
use Rattle.output_module.specs.link_worlds.Worlds.{layout_of}
use Rattle.output_module.specs.link_worlds.Sound.{Sound, SoundExports, SoundRef, SoundHere, PartOf, InRange, IsSmall, meant_entries, meant_entry}
use Rattle.output_module.proofs.link_worlds_lemmas.Live.{live_part, live_closed, live_root, ref_listed}
use Rattle.output_module.proofs.link_worlds_lemmas.Functions.{find_part, live_apart}
use Rattle.output_module.proofs.link_worlds_lemmas.Spaces.{outer_defined, kept_defined}
use Rattle.link_facts.specs.Faults.{NoFault, Measured, ValuesFit}
use Rattle.link_facts.proofs.Found.{found_none, mapped_none, small_at}
use Rattle.link_facts.proofs.Segments.{end, rules, base_low, heap_high, heap_fits, stack_low, segment_lies}

given_none : {A : Type 0} (b : Bool) (x : A) → given b x ≡ None → b ≡ false
given_none true x h = absurd (grind arith)
given_none false x h = refl

-- the number of a key is at most how many there are
number_low : (test : FunctionKey → Bool) (xs : List FunctionKey) (o : Option ℕ) → position test xs ≡ o → unwrap_or o 0 ≤ length xs
number_low test xs None e = omega arith
number_low test xs (Some k) e = let s = stands test xs k e in let l : k < length xs = below xs k s.item s.there in omega (arith, l)

module _ (law : ReachedLaw) (p : Program) (exports : List InputSymbol) (sound : Sound p) (named : SoundExports p exports) (m : Measured p exports) (n : NoFault p exports (layout_of p exports)) where
  abbrev parts : List Part
  parts = live p exports

  abbrev lay : Layout
  lay = layout Plain p (live p exports) exports

  -- ---- windows

  no_overflow : find (λ (w : Window). not (fits w)) (flat_map (λ ws. ws) (source_windows Plain p parts exports lay)) ≡ None
  unfolding reference_fault value_overflow
  no_overflow = mapped_none _ _ (mapped_none _ _ n.references)

  window_fits : (ws : List Window) (w : Window) → Has (source_windows Plain p parts exports lay) ws → Has ws w → fits w ≡ true
  window_fits ws w a b = not-false (fits w) (found_none (λ (w : Window). not (fits w)) (flat_map (λ ws. ws) (source_windows Plain p parts exports lay)) w no_overflow (flat_has (λ ws. ws) (source_windows Plain p parts exports lay) ws w a b))

  defined_is : defined Plain p parts exports lay ≡ defined_functions p parts
  unfolding layout functions
  defined_is = kept_defined p exports sound (function_imports_of Plain p (refs_of parts)) (defined_functions p parts) (outer_defined p exports sound)

  own_defined : (part : Part) → Has parts part → part.chunk.kind ≡ 0 → (part.chunk.input ≡ 0 → ⊥) → Has (defined_functions p parts) (own part.chunk.input part.chunk.index)
  own_defined part h k z =
      has_right (filter_map made_function_key parts ++ map stub (stub_names p (refs_of parts))) (filter_map own_function_key parts) (own part.chunk.input part.chunk.index)
      (pick_has own_function_key parts part (own part.chunk.input part.chunk.index) h
      (ap (λ b. given b (own part.chunk.input part.chunk.index)) (and_from (not (part.chunk.input == 0)) (part.chunk.kind == 0) (not_from_false (part.chunk.input == 0) (by_test (part.chunk.input == 0) (λ t. absurd (z (eqb-true part.chunk.input 0 t))) (λ t. t))) (eq-eqb part.chunk.kind 0 k))))

  part_windows : (part : Part) → Has parts part → part.chunk.kind ≡ 0 → (part.chunk.input ≡ 0 → ⊥) → Has (source_windows Plain p parts exports lay) (windows Plain lay part)
  unfolding source_windows
  part_windows part h k z =
      let i = part.chunk.input in
      let x = part.chunk.index in
      let at : is_function_at i x part ≡ true = and_from ((part.chunk.kind == 0) && (part.chunk.input == i)) (part.chunk.index == x) (and_from (part.chunk.kind == 0) (part.chunk.input == i) (eq-eqb part.chunk.kind 0 k) (eq-eqb part.chunk.input i refl)) (eq-eqb part.chunk.index x refl) in
      let f = find_part parts i x part (live_apart p exports sound) h at in
      let there = subst (λ ks. Has ks (own i x)) (sym defined_is) (own_defined part h k z) in
      has_left (map (body_windows Plain p parts exports lay) (defined Plain p parts exports lay)) _ (windows Plain lay part)
      (subst (Has (map (body_windows Plain p parts exports lay) (defined Plain p parts exports lay))) (ap (windows_in Plain p parts exports lay) f)
      (map_has (body_windows Plain p parts exports lay) (defined Plain p parts exports lay) (own i x) there))

  in_range : InRange lay parts
  unfolding windows
  in_range part nm h k z g = window_fits (windows Plain lay part) (named_window Plain lay nm) (part_windows part h k z) (map_has (named_window Plain lay) part.named nm g)

  -- ---- numbers in cells

  slots_few : 1 + length lay.numbers.slots < 2 ^ 32
  unfolding table_fault layout
  slots_few =
      let none = mapped_none _ _ n.table in
      let low = ltb-false (2 ^ 32 - 1) (1 + length lay.numbers.slots) (given_none (nat_lt (2 ^ 32 - 1) (1 + length lay.numbers.slots)) (1 + length lay.numbers.slots) none) in
      omega (arith, low)

  slot_small : (k : FunctionKey) → slot_of lay.numbers k < 2 ^ 32
  unfolding layout
  slot_small k = let a = number_low (same_function k) lay.numbers.slots (position (same_function k) lay.numbers.slots) refl in let b = slots_few in omega (arith, a, b)

  heap_low : heap_base (rules p exports sound) (end p exports sound) < 2 ^ 32
  heap_low = let h = heap_fits p exports sound n.memory in omega (arith, h)

  small_in : (x : ℕ) → Has (made_data lay.places) x → heap_base (rules p exports sound) (end p exports sound) < 2 ^ 32 → end p exports sound ≤ heap_base (rules p exports sound) (end p exports sound)
      → base_of (rules p exports sound) ≤ end p exports sound
      → ((around (rules p exports sound)).stack_high (end p exports sound) ≤ heap_base (rules p exports sound) (end p exports sound)) × ((around (rules p exports sound)).stack_low (end p exports sound) ≤ heap_base (rules p exports sound) (end p exports sound))
      → x < 2 ^ 32
  unfolding layout shapes places
  small_in x (inl e) a b c d = omega (arith, e)
  small_in x (inr (inl e)) a b c d = omega (arith, e)
  small_in x (inr (inr (inl e))) a b c d = omega (arith, e)
  small_in x (inr (inr (inr (inl e)))) a b c d = omega (arith, e)
  small_in x (inr (inr (inr (inr (inl e))))) a b c d = omega (arith, e)
  small_in x (inr (inr (inr (inr (inr (inl e)))))) a b c d = omega (arith, e, a)
  small_in x (inr (inr (inr (inr (inr (inr (inl e))))))) a b c d = omega (arith, e, a, b)
  small_in x (inr (inr (inr (inr (inr (inr (inr (inl e)))))))) a b c d = omega (arith, e, a, b, c)
  small_in x (inr (inr (inr (inr (inr (inr (inr (inr (inl e))))))))) a b c d = omega (arith, e, a, b, c)
  small_in x (inr (inr (inr (inr (inr (inr (inr (inr (inr (inl e)))))))))) a b c d = omega (arith, e, a, d.1)
  small_in x (inr (inr (inr (inr (inr (inr (inr (inr (inr (inr (inl e))))))))))) a b c d = omega (arith, e, a, d.0)
  small_in x (inr (inr (inr (inr (inr (inr (inr (inr (inr (inr (inr (inl e)))))))))))) a b c d = omega (arith, e)
  small_in x (inr (inr (inr (inr (inr (inr (inr (inr (inr (inr (inr (inr h)))))))))))) a b c d = absurd h

  data_small : (x : ℕ) → Has (made_data lay.places) x → x < 2 ^ 32
  data_small x h = small_in x h heap_low (heap_high p exports sound) (base_low p exports sound) (stack_low p exports sound)

  -- the address of a datum in a live segment
  address_small : (e : InputSymbol) → Has (meant_entries p) e ⊎ Has exports e → is_kind Datum e ≡ true → ((e.input ≡ 0 → ⊥) → PartOf parts (chunk_at e.input 1 e.index)) → address_of Plain lay e < 2 ^ 32
  address_small e w d o =
      by_test (e.input == 0)
      (λ t. subst (λ k. k < 2 ^ 32) (sym (cond-true (e.input == 0) (slice_index_or (made_data lay.places) e.place 0) (segment_address lay (chunk_at e.input 1 e.index) + e.symbol.offset) t))
      (small_at (2 ^ 32) (made_data lay.places) e.place (omega arith) data_small))
      (λ t. subst (λ k. k < 2 ^ 32) (sym (cond-false (e.input == 0) (slice_index_or (made_data lay.places) e.place 0) (segment_address lay (chunk_at e.input 1 e.index) + e.symbol.offset) t)) (of_segment (λ z. no_both (e.input == 0) t (eq-eqb e.input 0 z))))
    where
      no_both : (b : Bool) → b ≡ false → b ≡ true → ⊥
      no_both true h k = absurd (grind arith)
      no_both false h k = absurd (grind arith)

      of_segment : (e.input ≡ 0 → ⊥) → segment_address lay (chunk_at e.input 1 e.index) + e.symbol.offset < 2 ^ 32
      of_segment z =
          let q = o z in
          let kind : (q.part.chunk.kind == 1) ≡ true = eq-eqb q.part.chunk.kind 1 (ap (λ (c : Chunk). c.kind) q.chunk) in
          let s = segment_lies p exports sound q.part (filter_has (λ (x : Part). x.chunk.kind == 1) parts q.part q.there kind) in
          let i = m.inside e w d z q.part (live_part p exports q.part q.there) q.chunk in
          let at : segment_address lay q.part.chunk ≡ segment_address lay (chunk_at e.input 1 e.index) = ap (segment_address lay) q.chunk in
          let a = heap_low in
          let b = heap_high p exports sound in
          omega (arith, s.1, i, at, a, b)

  datum_chunk : (e : InputSymbol) → is_kind Datum e ≡ true → (e.input ≡ 0 → ⊥) → chunk_of e ≡ Some (chunk_at e.input 1 e.index)
  datum_chunk e d z = by_kind e.symbol.kind d
    where
      by_kind : (k : SymbolKind) → (kind_code k == kind_code Datum) ≡ true → chunk_by e k ≡ Some (chunk_at e.input 1 e.index)
      by_kind Function h = absurd (grind arith)
      by_kind Datum h = cond-false (e.input == 0) None (Some (chunk_at e.input 1 e.index)) (by_test (e.input == 0) (λ t. absurd (z (eqb-true e.input 0 t))) (λ t. t))
      by_kind GlobalVar h = absurd (grind arith)
      by_kind Section h = absurd (grind arith)
      by_kind Table h = absurd (grind arith)

  -- a cell of an address is made for what a reference of live code means
  got_live : (k : GotKey) → Has (got_entries Plain parts) k → (part : Part) × (ref : Ref) × Has parts part × Has (refs part) ref × (ref_got ref ≡ k)
  got_live k h =
      let code = parts_of_kind 0 parts in
      ⊎_elim (λ q. absurd q)
      (λ q. let r = has_map ref_got (filter (needs_got Plain) (refs_of code)) k q in
      let f = has_filter (needs_got Plain) (refs_of code) r.0 r.1 in
      let g = has_flat refs code r.0 f.0 in
      let c = has_filter (λ (x : Part). x.chunk.kind == 0) parts g.0 g.1 in
      (g.0, r.0, c.0, g.2, r.2))
      (distinct_only _ [] (map ref_got (filter (needs_got Plain) (refs_of code))) k h)

  entry_of : GotKey → Option InputSymbol
  entry_of (got_entry e) = Some e
  entry_of (got_import k) = None
  entry_of (got_null k) = None

  meant_by : (kind : ℕ) (mean : Meaning) (e : InputSymbol) → got_of kind mean ≡ got_entry e → mean ≡ here e
  unfolding entry_of
  meant_by kind (here f) e h = let q : Some f ≡ Some e = ap entry_of h in let z : f ≡ e = grind arith in ap here z
  meant_by kind (imported k) e h = absurd (let q = ap entry_of h in grind arith)
  meant_by kind null e h = absurd (let q = ap entry_of h in grind arith)
  meant_by kind nothing e h = absurd (let q = ap entry_of h in grind arith)

  got_small : (k : GotKey) → Has (got_entries Plain parts) k → got_value Plain lay k < 2 ^ 32
  got_small (got_null k) h = omega arith
  got_small (got_import k) h = slot_small (outside k)
  got_small (got_entry e) h =
      by_test (is_kind Datum e)
      (λ t. subst (λ k. k < 2 ^ 32) (sym (cond-true (is_kind Datum e) (address_of Plain lay e) (slot_of lay.numbers (function_of e)) t)) (datum t))
      (λ t. subst (λ k. k < 2 ^ 32) (sym (cond-false (is_kind Datum e) (address_of Plain lay e) (slot_of lay.numbers (function_of e)) t)) (slot_small (function_of e)))
    where
      datum : is_kind Datum e ≡ true → address_of Plain lay e < 2 ^ 32
      datum t =
          let g = got_live (got_entry e) h in
          let part = g.0 in
          let ref = g.1 in
          let mean = meant_by (kind_code ref.entry.symbol.kind) ref.meaning e g.4 in
          let lp = live_part p exports part g.2 in
          let in_all = ref_listed p.parts part ref lp g.3 in
          let s : SoundHere p ref e = as_here ref mean (sound.refs part ref lp g.3) in
          address_small e (inl (pick_has (λ (x : Ref). meant_entry x.meaning) (refs_of p.parts) ref e in_all (ap meant_entry mean))) t
          (λ z. let c = datum_chunk e t z in
          live_closed law p exports part (chunk_at e.input 1 e.index) g.2 (pick_has (λ (x : Ref). meant_chunk x.meaning) (refs part) ref (chunk_at e.input 1 e.index) g.3 (ap meant_chunk mean ∙ c)) (s.kept (chunk_at e.input 1 e.index) c))
        where
          as_here : {part : Part} (ref : Ref) → ref.meaning ≡ here e → SoundRef p part ref → SoundHere p ref e
          as_here ref q r = subst (Rattle.output_module.specs.link_worlds.Sound.SoundMeaning p ref) q r.meant

  exported_small : (e : InputSymbol) → Has exports e → is_kind Datum e ≡ true → address_of Plain lay e < 2 ^ 32
  exported_small e h t =
      address_small e (inr h) t
      (λ z. let c = datum_chunk e t z in
      live_root law p exports (chunk_at e.input 1 e.index) (has_left _ _ _ (has_left _ _ _ (has_left (filter_map chunk_of exports) _ _ (pick_has chunk_of exports e (chunk_at e.input 1 e.index) h c)))) ((named.each e h).kept (chunk_at e.input 1 e.index) c))

  stack_by : (b : Bool) → cond b lay.places.stack_high 0 < 2 ^ 32
  unfolding layout shapes places
  stack_by true = let a = heap_low in let d = stack_low p exports sound in omega (arith, a, d.0)
  stack_by false = omega arith

  stack_small : (k : ℕ) → made_global_value lay k < 2 ^ 32
  stack_small k = stack_by (k == 1)

  given_small : (t : Bool) (x k : GlobalKey) → given t x ≡ Some k → (t ≡ true → IsSmall lay x) → IsSmall lay k
  given_small true x k h f = subst (IsSmall lay) (grind arith) (f refl)
  given_small false x k h f = absurd (grind arith)

  small : (k : GlobalKey) → Has (globals Plain p parts exports) k → IsSmall lay k
  unfolding globals
  small k h =
      let outs = map outside_global (used_globals Plain p (refs_of parts)) in
      let mades = filter_map made_global_key parts in
      let owns = filter_map own_global_key parts in
      let gots = map got (got_entries Plain parts) in
      let dates = filter_map datum_key exports in
      ⊎_elim
      (λ a. let r = has_map outside_global (used_globals Plain p (refs_of parts)) k a in subst (IsSmall lay) r.2 tt)
      (λ g. ⊎_elim
      (λ g. ⊎_elim
      (λ g. ⊎_elim
      (λ a. let r = has_pick made_global_key parts k a in given_small ((r.0.chunk.input == 0) && (r.0.chunk.kind == 2)) (linker_global r.0.chunk.index) k r.2 (λ _. stack_small r.0.chunk.index))
      (λ a. let r = has_pick own_global_key parts k a in given_small (not (r.0.chunk.input == 0) && (r.0.chunk.kind == 2)) (own_global r.0.chunk.input r.0.chunk.index) k r.2 (λ _. tt))
      (has_either mades owns k g))
      (λ a. let r = has_map got (got_entries Plain parts) k a in subst (IsSmall lay) r.2 (got_small r.0 r.1))
      (has_either (mades ++ owns) gots k g))
      (λ a. let r = has_pick datum_key exports k a in given_small (is_kind Datum r.0) (exported_datum r.0) k r.2 (λ t. exported_small r.0 r.1 t))
      (has_either (mades ++ owns ++ gots) dates k g))
      (has_either outs (mades ++ owns ++ gots ++ dates) k h)

  pub both : InRange lay parts × ((k : GlobalKey) → Has lay.numbers.globals k → IsSmall lay k)
  unfolding layout
  both = (in_range, small)

pub values_fit : ReachedLaw → ValuesFit
values_fit law p exports sound named m n = both law p exports sound named m n
