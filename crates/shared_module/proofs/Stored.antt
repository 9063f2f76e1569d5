-- The numbers in the function that makes addresses right fit.
use Rattle.std.proofs.Common.{◌≡◌, ℕ, ◌<◌, List, [], ◌∷◌, ◌++◌, length, Some, Bool, true, false, refl, subst, inl, inr, ⊎_elim, arith}
use Rattle.std.specs.Prelude.{◌^◌, ◌==◌, position, cond, flat_map, filter_map, not, pos, ◌+ℤ◌}
use Rattle.reloc_apply.specs.Windows.{bits32}
use Rattle.std.proofs.lemmas.Bool.{eqb-true}
use Rattle.list_places.specs.Has.{Has}
use Rattle.list_places.proofs.Lists.{position_below, has_flat, has_map, has_filter, has_pick, has_either, some_is}
use Rattle.made_symbols.specs.declared.mode.Mode.TheVariants.{Shared}
use Rattle.name_rules.specs.Entries.{InputSymbol}
use Rattle.dylink_out.specs.declared.word.WordReloc.{WordReloc}
use Rattle.dylink_out.specs.declared.word.WordPlace.{WordPlace}
use Rattle.dylink_out.specs.declared.word.WordPlace.TheVariants.{Window, Got}
use Rattle.dylink_out.specs.declared.word.WordValue.{WordValue}
use Rattle.dylink_out.specs.declared.word.WordValue.TheVariants.{OwnDatum, OwnFunction, ForeignDatum, ForeignFunction}
use Rattle.dylink_out.specs.Loading.{Step, store, set_global, value_steps, steps_to, word_steps}
use Rattle.output_module.specs.link_worlds.link_rules.Program.{Program, Part, Ref, refs}
use Rattle.output_module.specs.link_worlds.link_rules.Marks.{is_foreign}
use Rattle.output_module.specs.link_worlds.link_rules.Keys.{GlobalKey, outside_global, linker_global, own_global, got, exported_datum, same_global, cell_key, global_number}
use Rattle.output_module.specs.link_worlds.link_rules.Values.{Layout, solid_segments, segments, is_zero, segment_address, ref_slot, meant_address, got_value}
use Rattle.output_module.specs.link_worlds.link_rules.Output.{layout}
use Rattle.output_module.specs.link_worlds.link_rules.Loader.{words, segment_words, window_word, got_word, own_value, is_function_got, cell_number}
use Rattle.output_module.proofs.Spelled.{signed_range}
use Rattle.shared_module.specs.Applied.{steps_of, StepFits}
use Rattle.shared_module.specs.Fit.{IsS32}

abbrev AllFit : List Step → Type 0
AllFit [] = Unit {0}
AllFit (x ∷ xs) = StepFits x × AllFit xs

both_fit : (xs ys : List Step) → AllFit xs → AllFit ys → AllFit (xs ++ ys)
both_fit [] ys a b = b
both_fit (x ∷ xs) ys a b = (a.0, both_fit xs ys a.1 b)

each_fits : (xs : List Step) → AllFit xs → (x : Step) → Has xs x → StepFits x
each_fits [] a x h = absurd h
each_fits (y ∷ ys) a x (inl e) = subst StepFits e a.0
each_fits (y ∷ ys) a x (inr h) = each_fits ys a.1 x h

-- what is asked of a word
abbrev ValueFits : WordValue → Type 0
ValueFits (OwnDatum n) = Unit {0}
ValueFits (OwnFunction t) = Unit {0}
ValueFits (ForeignDatum g addend) = (g < 2 ^ 32) × IsS32 addend
ValueFits (ForeignFunction g) = g < 2 ^ 32

abbrev PlaceFits : WordPlace → Type 0
PlaceFits (Window p) = Unit {0}
PlaceFits (Got g) = g < 2 ^ 32

own_fits : (slot : Bool) (a b : ℕ) → ValueFits (cond slot (OwnFunction a) (OwnDatum b))
own_fits true a b = tt
own_fits false a b = tt

value_fits : (v : WordValue) → ValueFits v → AllFit (value_steps v)
value_fits (OwnDatum n) f = (omega arith, (signed_range n, (tt, tt)))
value_fits (OwnFunction t) f = (omega arith, (signed_range t, (tt, tt)))
value_fits (ForeignDatum g addend) f = (f.0, (f.1, (tt, tt)))
value_fits (ForeignFunction g) f = (f, tt)

steps_fit : (to : WordPlace) (xs : List Step) → PlaceFits to → AllFit xs → AllFit (steps_to to xs)
steps_fit (Window p) xs f a = (omega arith, (signed_range p, (tt, both_fit xs (store ∷ []) a (tt, tt))))
steps_fit (Got g) xs f a = both_fit xs (set_global g ∷ []) a (f, tt)

word_fits : (w : WordReloc) → PlaceFits w.to → ValueFits w.value → (x : Step) → Has (word_steps w) x → StepFits x
word_fits w t v = each_fits (word_steps w) (steps_fit w.to (value_steps w.value) t (value_fits w.value v))

module _ (p : Program) (parts : List Part) (exports : List InputSymbol) (few : length (layout Shared p parts exports).numbers.globals < 2 ^ 32)
    (addends : (part : Part) (ref : Ref) → Has parts part → part.chunk.kind ≡ 1 → Has (refs part) ref → IsS32 ref.addend) where
  abbrev l : Layout
  l = layout Shared p parts exports

  number_few : (k : GlobalKey) → global_number l.numbers k < 2 ^ 32
  number_few k = position_below (same_global k) l.numbers.globals (position (same_global k) l.numbers.globals) refl (2 ^ 32) few

  window_value : (ref : Ref) → IsS32 ref.addend → (foreign slot : Bool)
      → ValueFits (cond foreign (cond slot (ForeignFunction (cell_number Shared p parts l ref)) (ForeignDatum (cell_number Shared p parts l ref) ref.addend)) (own_value Shared p parts l ref))
  window_value ref a true true = number_few (cell_key Shared ref)
  window_value ref a true false = (number_few (cell_key Shared ref), a)
  window_value ref a false slot = own_fits (ref.kind == 2) (ref_slot l ref) (bits32 (pos (meant_address Shared l ref.meaning) +ℤ ref.addend))

  got_fits : (k : GlobalKey) (w : WordReloc) → got_word Shared p parts l k ≡ Some w → PlaceFits w.to × ValueFits w.value
  got_fits (outside_global k) w e = absurd (grind arith)
  got_fits (linker_global k) w e = absurd (grind arith)
  got_fits (own_global input index) w e = absurd (grind arith)
  got_fits (exported_datum d) w e = absurd (grind arith)
  got_fits (got key) w e = subst (λ (w : WordReloc). PlaceFits w.to × ValueFits w.value) (some_is _ w e) (number_few (got key), own_fits (is_function_got Shared p parts l key) (got_value Shared l key) (got_value Shared l key))

  solid_kind : (part : Part) → Has (solid_segments p parts) part → Has parts part × (part.chunk.kind ≡ 1)
  solid_kind part h =
      let a = has_filter (λ (x : Part). not (is_zero p x)) (segments parts) part h in
      let b = has_filter (λ (x : Part). x.chunk.kind == 1) parts part a.0 in
      (b.0, eqb-true part.chunk.kind 1 b.1)

  each_word : (w : WordReloc) → Has (words Shared p parts l) w → PlaceFits w.to × ValueFits w.value
  each_word w h =
      ⊎_elim
      (λ a. let f = has_flat (segment_words Shared p parts l) (solid_segments p parts) w a in
      let s = solid_kind f.0 f.1 in
      let m = has_map (window_word Shared p parts l (segment_address l f.0.chunk)) (refs f.0) w f.2 in
      subst (λ (w : WordReloc). PlaceFits w.to × ValueFits w.value) m.2 (tt, window_value m.0 (addends f.0 m.0 s.0 s.1 m.1) (is_foreign m.0) (m.0.kind == 2)))
      (λ a. let r = has_pick (got_word Shared p parts l) l.numbers.globals w a in got_fits r.0 w r.2)
      (has_either (flat_map (segment_words Shared p parts l) (solid_segments p parts)) (filter_map (got_word Shared p parts l) l.numbers.globals) w h)

  pub all_stored : (x : Step) → Has (steps_of (words Shared p parts l)) x → StepFits x
  all_stored x h =
      let f = has_flat word_steps (words Shared p parts l) x h in
      let w = each_word f.0 f.1 in
      word_fits f.0 w.0 w.1 x f.2
