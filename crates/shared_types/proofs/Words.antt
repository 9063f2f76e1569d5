-- The function that makes addresses right has a typing: what stores a word leads from nothing to nothing.
use Rattle.std.proofs.Common.{◌≡◌, ℕ, zero, suc, List, [], ◌∷◌, ◌++◌, map, Some, Bool, true, false, refl, sym, ap, ◌∙◌, subst, inl, inr, ⊎_elim, arith}
use Rattle.std.specs.Prelude.{◌==◌, not, nat_lt, length, slice_get, option_map, flat_map, filter_map, cond, ℤ, pos, ◌+ℤ◌}
use Rattle.std.proofs.lemmas.List.{map-append}
use Rattle.std.proofs.lemmas.Option.{slice_get-map}
use Rattle.std.proofs.lemmas.Bool.{eqb-true}
use Rattle.list_places.specs.Has.{Has}
use Rattle.list_places.proofs.Lists.{has_either, has_flat, has_map, has_pick, has_filter, some_is}
use Rattle.wasm_types.specs.declared.value.ValType.{ValType}
use Rattle.wasm_types.specs.declared.value.ValType.TheVariants.{I32}
use Rattle.wasm_types.specs.declared.table.GlobalType.{GlobalType}
use Rattle.wasm_instr.specs.declared.instr.Instr.TheVariants as instrs
use Rattle.wasm_instr.specs.declared.body.Placed.{Placed}
use Rattle.object_file.specs.Spaces.{no_type}
use Rattle.made_symbols.specs.declared.mode.Mode.TheVariants.{Shared}
use Rattle.live_mark.specs.Live.{ReachedLaw}
use Rattle.name_rules.specs.Entries.{InputSymbol}
use Rattle.name_rules.specs.Meanings.{cell_of}
use Rattle.reloc_apply.specs.Windows.{bits32}
use Rattle.dylink_out.specs.declared.word.WordReloc.{WordReloc}
use Rattle.dylink_out.specs.declared.word.WordPlace.{WordPlace}
use Rattle.dylink_out.specs.declared.word.WordPlace.TheVariants.{Window, Got}
use Rattle.dylink_out.specs.declared.word.WordValue.{WordValue}
use Rattle.dylink_out.specs.declared.word.WordValue.TheVariants.{OwnDatum, OwnFunction, ForeignDatum, ForeignFunction}
use Rattle.dylink_out.specs.Loading.{Step, get_global, add, store, set_global, value_steps, steps_to, word_steps}
use Rattle.link_rules.specs.Program.{Program, Part, Ref, refs}
use Rattle.link_rules.specs.Marks.{live, is_foreign}
use Rattle.link_rules.specs.Keys.{GlobalKey, outside_global, linker_global, own_global, got, exported_datum, same_global, globals, defined_globals, global_imports_in}
use Rattle.link_rules.specs.Values.{Layout, segments, solid_segments, is_zero, segment_address, ref_slot, meant_address, got_value}
use Rattle.link_rules.specs.Output.{layout}
use Rattle.link_rules.specs.Loader.{words, segment_words, window_word, got_word, own_value, foreign_value, is_function_got, cell_number}
use Rattle.link_worlds.specs.Bodies.{bare}
use Rattle.link_worlds.proofs.Keys.{globals_same}
use Rattle.shared_module.specs.Applied.{step_instr, steps_of, applied}
use Rattle.shared_module.specs.Outputs.{shared_module}
use Rattle.valid_rules.specs.declared.types.Shape.{Shape}
use Rattle.valid_rules.specs.declared.types.Operand.{Operand}
use Rattle.valid_rules.specs.declared.types.Operand.TheVariants.{Known}
use Rattle.valid_rules.specs.Leads.{Labels, Leads, nothing, follows, above, typed}
use Rattle.valid_bodies.specs.declared.types.Context.{Context}
use Rattle.valid_bodies.specs.Numeric.{to, numeric}
use Rattle.valid_bodies.specs.Accesses.{access}
use Rattle.valid_bodies.specs.Meanings.{global_as}
use Rattle.valid_bodies.specs.Shapes.{plain, global, as_global, shape, BodyIsTyped}
use Rattle.wasm_valid.specs.Spaces.{context_of}
use Rattle.output_types.specs.Types.{symbol_cell}
use Rattle.shared_types.specs.Types.{own_cell, shared_cell}
use Rattle.shared_types.specs.Linked.{SharedLinkedBy}
use Rattle.shared_types.specs.Spaces.{HasSpaces}
use Rattle.shared_types.specs.Checked.{IsBase, IsChecked}
use Rattle.shared_types.proofs.Lists.{itself}
use Rattle.shared_types.proofs.Meanings.{cell_at}

-- ---- what steps do to operands, all i32

abbrev pushed : Shape
pushed = to [] (I32 ∷ [])

abbrev summed : Shape
summed = to (I32 ∷ I32 ∷ []) (I32 ∷ [])

abbrev kept : Shape
kept = to (I32 ∷ I32 ∷ []) []

abbrev put : Shape
put = to (I32 ∷ []) []

abbrev one_more : List Operand
one_more = Known I32 ∷ []

push_leads : (ls : Labels) → Leads ls (pushed ∷ []) [] one_more
push_leads ls = typed {t = record { params = []; results = I32 ∷ [] }}

sum_leads : (ls : Labels) → Leads ls (pushed ∷ pushed ∷ summed ∷ []) [] one_more
sum_leads ls =
    follows {is = pushed ∷ []} {js = pushed ∷ summed ∷ []} (push_leads ls)
    (follows {is = pushed ∷ []} {js = summed ∷ []} (above one_more (push_leads ls)) (typed {t = record { params = I32 ∷ I32 ∷ []; results = I32 ∷ [] }}))

mapped_last : {A B C : Type 0} (f : B → C) (g : A → B) (xs : List A) (z : B) → map f (map g xs ++ z ∷ []) ≡ map (λ x. f (g x)) xs ++ f z ∷ []
mapped_last f g [] z = refl
mapped_last f g (x ∷ xs) z = ap (λ ys. f (g x) ∷ ys) (mapped_last f g xs z)

module _ (c : Context) (memory : c.memory ≡ true) where
  abbrev see : Step → Shape
  see x = shape c no_type [] (step_instr x)

  -- a global of i32
  abbrev pub IsCell : ℕ → Type 0
  IsCell n = (g : GlobalType) × (slice_get c.globals n ≡ Some g) × (g.kind ≡ I32)

  get_is : (n : ℕ) → IsCell n → see (get_global n) ≡ pushed
  get_is n g = ap (λ o. as_global (global 0x23) (global_as o)) g.1 ∙ ap (λ (k : ValType). to [] (k ∷ [])) g.2

  set_is : (n : ℕ) → slice_get c.globals n ≡ Some own_cell → see (set_global n) ≡ put
  set_is n e = ap (λ o. as_global (global 0x24) (global_as o)) e

  add_is : see add ≡ summed
  unfolding plain numeric
  add_is = refl

  store_is : see store ≡ kept
  unfolding access
  store_is = ap (λ b. access b 0x36 2) memory

  -- ---- words

  -- the cells that a word reads or sets
  abbrev pub ReadsCells : WordValue → Type 0
  ReadsCells (OwnDatum n) = IsCell 1
  ReadsCells (OwnFunction t) = IsCell 2
  ReadsCells (ForeignDatum g addend) = IsCell g
  ReadsCells (ForeignFunction g) = IsCell g

  abbrev pub SetsCell : WordPlace → Type 0
  SetsCell (Window p) = IsCell 1
  SetsCell (Got g) = slice_get c.globals g ≡ Some own_cell

  module _ (ls : Labels) where
    summed_leads : (n : ℕ) → IsCell n → Leads ls (see (get_global n) ∷ pushed ∷ see add ∷ []) [] one_more
    summed_leads n g =
        subst (λ s. Leads ls (s ∷ pushed ∷ see add ∷ []) [] one_more) (sym (get_is n g))
        (subst (λ s. Leads ls (pushed ∷ pushed ∷ s ∷ []) [] one_more) (sym add_is) (sum_leads ls))

    value_leads : (v : WordValue) → ReadsCells v → Leads ls (map see (value_steps v)) [] one_more
    value_leads (OwnDatum n) g = summed_leads 1 g
    value_leads (OwnFunction t) g = summed_leads 2 g
    value_leads (ForeignDatum n addend) g = summed_leads n g
    value_leads (ForeignFunction n) g = subst (λ s. Leads ls (s ∷ []) [] one_more) (sym (get_is n g)) (push_leads ls)

    store_leads : Leads ls (see store ∷ []) (Known I32 ∷ Known I32 ∷ []) []
    store_leads = subst (λ s. Leads ls (s ∷ []) (Known I32 ∷ Known I32 ∷ []) []) (sym store_is) (typed {t = record { params = I32 ∷ I32 ∷ []; results = [] }})

    set_leads : (n : ℕ) → slice_get c.globals n ≡ Some own_cell → Leads ls (see (set_global n) ∷ []) one_more []
    set_leads n e = subst (λ s. Leads ls (s ∷ []) one_more []) (sym (set_is n e)) (typed {t = record { params = I32 ∷ []; results = [] }})

    to_leads : (to' : WordPlace) (vs : List Step) → SetsCell to' → Leads ls (map see vs) [] one_more → Leads ls (map see (steps_to to' vs)) [] []
    to_leads (Window p) vs g v =
        subst (λ ss. Leads ls (see (get_global 1) ∷ pushed ∷ see add ∷ ss) [] []) (sym (map-append see vs (store ∷ [])))
        (follows {is = see (get_global 1) ∷ pushed ∷ see add ∷ []} {js = map see vs ++ see store ∷ []} (summed_leads 1 g)
        (follows {is = map see vs} {js = see store ∷ []} (above one_more v) store_leads))
    to_leads (Got n) vs e v =
        subst (λ ss. Leads ls ss [] []) (sym (map-append see vs (set_global n ∷ [])))
        (follows {is = map see vs} {js = see (set_global n) ∷ []} v (set_leads n e))

    words_lead : (ws : List WordReloc) → ((w : WordReloc) → Has ws w → SetsCell w.to × ReadsCells w.value) → Leads ls (map see (steps_of ws)) [] []
    words_lead [] f = nothing
    words_lead (w ∷ ws) f =
        let g = f w (inl refl) in
        subst (λ ss. Leads ls ss [] []) (sym (map-append see (word_steps w) (steps_of ws)))
        (follows {is = map see (word_steps w)} {js = map see (steps_of ws)} (to_leads w.to (value_steps w.value) g.0 (value_leads w.value g.1)) (words_lead ws (λ x h. f x (inr h))))

  pub applied_typed : (ws : List WordReloc) → ((w : WordReloc) → Has ws w → SetsCell w.to × ReadsCells w.value) → BodyIsTyped c no_type (applied ws)
  unfolding plain
  applied_typed ws f = record {
    body = map see (steps_of ws);
    ends = mapped_last (λ (q : Placed). shape c no_type [] q.instr) (λ (x : Step). bare (step_instr x)) (steps_of ws) (bare (instrs.Plain 0x0B));
    leads = words_lead ([] ∷ []) ws f;
  }

-- ---- the words of an output

get_left : {A : Type 0} (xs ys : List A) (k : ℕ) (v : A) → slice_get xs k ≡ Some v → slice_get (xs ++ ys) k ≡ Some v
get_left [] ys k v at = absurd (grind arith)
get_left (x ∷ xs) ys zero v at = at
get_left (x ∷ xs) ys (suc k) v at = get_left xs ys k v at

module _ (law : ReachedLaw) (p : Program) (exports : List InputSymbol) (lk : SharedLinkedBy p exports) (s : HasSpaces p exports) (checked : IsChecked p exports) where
  abbrev parts : List Part
  parts = live p exports

  abbrev lay : Layout
  lay = layout Shared p (live p exports) exports

  abbrev c : Context
  c = context_of (shared_module p exports)

  has_memory : c.memory ≡ true
  has_memory = ap (λ ms. nat_lt 0 (length ms)) s.memories

  -- what a key numbers is in the context
  at_key : (n : ℕ) (k : GlobalKey) → slice_get lay.numbers.globals n ≡ Some k → slice_get c.globals n ≡ Some (shared_cell parts k)
  at_key n k e = ap (λ gs. slice_get gs n) s.globals ∙ slice_get-map (shared_cell parts) lay.numbers.globals n ∙ ap (option_map (shared_cell parts)) e

  base_is : (n : ℕ) → IsBase p exports n → IsCell c has_memory n
  unfolding layout globals
  base_is n b =
      let js = global_imports_in Shared p parts in
      let at : slice_get (map outside_global js ++ defined_globals Shared parts exports) n ≡ Some (outside_global b.0) =
      get_left (map outside_global js) (defined_globals Shared parts exports) n (outside_global b.0) (slice_get-map outside_global js n ∙ ap (option_map outside_global) b.1) in
      (symbol_cell b.0.type, at_key n (outside_global b.0) at, ap (λ t. (symbol_cell t).kind) b.2)

  abbrev Fits : WordReloc → Type 0
  Fits w = SetsCell c has_memory w.to × ReadsCells c has_memory w.value

  own_reads : (slot : Bool) (a b : ℕ) → ReadsCells c has_memory (cond slot (OwnFunction a) (OwnDatum b))
  own_reads true a b = base_is 2 checked.table_base
  own_reads false a b = base_is 1 checked.memory_base

  foreign_reads : (slot : Bool) (n : ℕ) (addend : ℤ) → IsCell c has_memory n → ReadsCells c has_memory (cond slot (ForeignFunction n) (ForeignDatum n addend))
  foreign_reads true n addend g = g
  foreign_reads false n addend g = g

  window_reads : (part : Part) (ref : Ref) → Has parts part → part.chunk.kind ≡ 1 → Has (refs part) ref → (b : Bool) → is_foreign ref ≡ b
      → ReadsCells c has_memory (cond b (foreign_value Shared p parts lay ref) (own_value Shared p parts lay ref))
  window_reads part ref h z r true f =
      let n = cell_number Shared p parts lay ref in
      foreign_reads (ref.kind == 2) n ref.addend (own_cell, at_key n (outside_global (cell_of ref.entry)) (checked.foreign part ref h z r f), refl)
  window_reads part ref h z r false f = own_reads (ref.kind == 2) (ref_slot lay ref) (bits32 (pos (meant_address Shared lay ref.meaning) +ℤ ref.addend))

  got_fits : (k : GlobalKey) (w : WordReloc) → Has lay.numbers.globals k → got_word Shared p parts lay k ≡ Some w → Fits w
  got_fits (outside_global k) w h e = absurd (grind arith)
  got_fits (linker_global k) w h e = absurd (grind arith)
  got_fits (own_global input index) w h e = absurd (grind arith)
  got_fits (exported_datum d) w h e = absurd (grind arith)
  got_fits (got key) w h e =
      subst Fits (some_is _ w e)
      (cell_at law p exports lk s (got key) (itself same_global globals_same lay.numbers.globals (got key) h), own_reads (is_function_got Shared p parts lay key) (got_value Shared lay key) (got_value Shared lay key))

  each_fits : (w : WordReloc) → Has (words Shared p parts lay) w → Fits w
  each_fits w h =
      ⊎_elim
      (λ a. let f = has_flat (segment_words Shared p parts lay) (solid_segments p parts) w a in
      let x = has_filter (λ (x : Part). not (is_zero p x)) (segments parts) f.0 f.1 in
      let y = has_filter (λ (x : Part). x.chunk.kind == 1) parts f.0 x.0 in
      let m = has_map (window_word Shared p parts lay (segment_address lay f.0.chunk)) (refs f.0) w f.2 in
      subst Fits m.2 (base_is 1 checked.memory_base, window_reads f.0 m.0 y.0 (eqb-true f.0.chunk.kind 1 y.1) m.1 (is_foreign m.0) refl))
      (λ a. let r = has_pick (got_word Shared p parts lay) lay.numbers.globals w a in got_fits r.0 w r.1 r.2)
      (has_either (flat_map (segment_words Shared p parts lay) (solid_segments p parts)) (filter_map (got_word Shared p parts lay) lay.numbers.globals) w h)

  pub words_typed : BodyIsTyped c no_type (applied (words Shared p parts lay))
  words_typed = applied_typed c has_memory (words Shared p parts lay) each_fits
