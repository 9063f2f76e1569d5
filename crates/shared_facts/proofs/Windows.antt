-- Where a shared link gives bytes, the windows of its live code hold their values.
use Rattle.std.proofs.Common.{◌≡◌, List, ◌++◌, map, Option, Some, None, true, refl, sym, ap, subst, arith}
use Rattle.std.specs.Prelude.{◌==◌, ◌&&◌, not, find, filter_map, flat_map, option_map}
use Rattle.std.proofs.lemmas.Bool.{and_from, eq-eqb, not-false, not_from_false, eqb-true}
use Rattle.list_places.specs.Has.{Has, Apart}
use Rattle.list_places.proofs.Lists.{by_test, has_left, has_right, pick_has, map_has, flat_has}
use Rattle.wl_base.specs.Choice.{given}
use Rattle.made_symbols.specs.declared.mode.Mode.TheVariants.{Shared}
use Rattle.name_rules.specs.Entries.{InputSymbol}
use Rattle.reloc_apply.specs.declared.window.Window.{Window}
use Rattle.reloc_apply.specs.Windows.{fits, value_overflow}
use Rattle.link_rules.specs.Program.{Program, Part, Named}
use Rattle.link_rules.specs.Marks.{live, refs_of}
use Rattle.link_rules.specs.Keys.{own, made_function_key, own_function_key, stub, stub_names, defined_functions, is_function_at}
use Rattle.link_rules.specs.Values.{Layout, windows, named_window, solid_segments}
use Rattle.link_rules.specs.Output.{layout, source_windows, body_windows, windows_in, defined}
use Rattle.link_rules.specs.LinkOf.{reference_fault}
use Rattle.shared_links.specs.link_worlds.Sound.{same_part}
use Rattle.shared_links.proofs.link_worlds_lemmas.Functions.{find_part, picks_apart}
use Rattle.shared_links.proofs.link_facts_lemmas.Meant.{find_none}
use Rattle.shared_links.proofs.shared_module_lemmas.Keys.{defined_is}

mapped_none : {A B : Type 0} (f : A → B) (o : Option A) → option_map f o ≡ None → o ≡ None
mapped_none f None h = refl
mapped_none f (Some x) h = absurd (grind arith)

module _ (p : Program) (exports : List InputSymbol) (apart : Apart same_part p.parts) (none : reference_fault (source_windows Shared p (live p exports) exports (layout Shared p (live p exports) exports)) ≡ None) where
  abbrev parts : List Part
  parts = live p exports

  abbrev lay : Layout
  lay = layout Shared p (live p exports) exports

  no_overflow : find (λ (w : Window). not (fits w)) (flat_map (λ ws. ws) (source_windows Shared p parts exports lay)) ≡ None
  unfolding reference_fault value_overflow
  no_overflow = mapped_none _ _ (mapped_none _ _ none)

  window_fits : (ws : List Window) (w : Window) → Has (source_windows Shared p parts exports lay) ws → Has ws w → fits w ≡ true
  window_fits ws w a b = not-false (fits w) (find_none (λ (w : Window). not (fits w)) (flat_map (λ ws. ws) (source_windows Shared p parts exports lay)) w no_overflow (flat_has (λ ws. ws) (source_windows Shared p parts exports lay) ws w a b))

  own_defined : (part : Part) → Has parts part → part.chunk.kind ≡ 0 → (part.chunk.input ≡ 0 → ⊥) → Has (defined_functions p parts) (own part.chunk.input part.chunk.index)
  own_defined part h k z =
      has_right (filter_map made_function_key parts ++ map stub (stub_names p (refs_of parts))) (filter_map own_function_key parts) (own part.chunk.input part.chunk.index)
      (pick_has own_function_key parts part (own part.chunk.input part.chunk.index) h
      (ap (λ b. given b (own part.chunk.input part.chunk.index)) (and_from (not (part.chunk.input == 0)) (part.chunk.kind == 0) (not_from_false (part.chunk.input == 0) (by_test (part.chunk.input == 0) (λ t. absurd (z (eqb-true part.chunk.input 0 t))) (λ t. t))) (eq-eqb part.chunk.kind 0 k))))

  part_windows : (part : Part) → Has parts part → part.chunk.kind ≡ 0 → (part.chunk.input ≡ 0 → ⊥) → Has (source_windows Shared p parts exports lay) (windows Shared lay part)
  unfolding source_windows
  part_windows part h k z =
      let i = part.chunk.input in
      let x = part.chunk.index in
      let at : is_function_at i x part ≡ true = and_from ((part.chunk.kind == 0) && (part.chunk.input == i)) (part.chunk.index == x) (and_from (part.chunk.kind == 0) (part.chunk.input == i) (eq-eqb part.chunk.kind 0 k) (eq-eqb part.chunk.input i refl)) (eq-eqb part.chunk.index x refl) in
      let f = find_part parts i x part (picks_apart p exports apart) h at in
      let there = subst (λ ks. Has ks (own i x)) (sym (defined_is p parts exports)) (own_defined part h k z) in
      has_left (map (body_windows Shared p parts exports lay) (defined Shared p parts exports lay)) (map (windows Shared lay) (solid_segments p parts)) (windows Shared lay part)
      (subst (Has (map (body_windows Shared p parts exports lay) (defined Shared p parts exports lay))) (ap (windows_in Shared p parts exports lay) f)
      (map_has (body_windows Shared p parts exports lay) (defined Shared p parts exports lay) (own i x) there))

  pub in_range : (part : Part) (named : Named) → Has parts part → part.chunk.kind ≡ 0 → (part.chunk.input ≡ 0 → ⊥) → Has part.named named → fits (named_window Shared lay named) ≡ true
  unfolding windows
  in_range part nm h k z g = window_fits (windows Shared lay part) (named_window Shared lay nm) (part_windows part h k z) (map_has (named_window Shared lay) part.named nm g)
