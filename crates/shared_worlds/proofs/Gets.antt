-- What the number in the window of a live reference is the number of.
use Rattle.std.proofs.Common.{◌≡◌, ℕ, List, map, Option, Some, None, Bool, true, false, refl, sym, ap, ◌∙◌, subst, inl, inr}
use Rattle.std.specs.Prelude.{◌⊎◌, ◌==◌, position, ℤ, pos, ◌+ℤ◌}
use Rattle.std.proofs.lemmas.Bool.{cond-true, cond-false}
use Rattle.list_places.specs.Has.{Has}
use Rattle.list_places.proofs.Lists.{by_test}
use Rattle.linking_section.specs.declared.symbol.SymbolKind.TheVariants.{Function, Datum, GlobalVar}
use Rattle.made_symbols.specs.declared.mode.Mode.TheVariants.{Shared}
use Rattle.live_mark.specs.Live.{ReachedLaw}
use Rattle.reloc_apply.specs.declared.window.Window.{Window}
use Rattle.reloc_apply.specs.Windows.{bits32, value, fits}
use Rattle.name_rules.specs.Entries.{InputSymbol, is_kind}
use Rattle.name_rules.specs.Meanings.{Meaning, here, imported, null, nothing, is_nothing, cell_of}
use Rattle.sim_laws.specs.Pairs.{Renaming}
use Rattle.link_rules.specs.Program.{Program, Part, Ref, refs, a_symbol}
use Rattle.link_rules.specs.Marks.{live, is_foreign}
use Rattle.link_rules.specs.Keys.{FunctionKey, GlobalKey, outside_global, linker_global, own_global, got, exported_datum, same_function, same_global, functions, globals, global_of, linker_key, meant_global, cell_key, ref_function, ref_global, ref_got, function_number, global_number}
use Rattle.link_rules.specs.Values.{Layout, Asks, a_function, a_global, asks, form_of, target_by, addend_by, ref_window}
use Rattle.link_rules.specs.Output.{layout}
use Rattle.link_worlds.specs.Names.{all_functions, function_place, callee, number_in, FunctionGets, CellGets}
use Rattle.link_worlds.proofs.Every.{in_range}
use Rattle.link_worlds.proofs.Keys.{globals_same}
use Rattle.shared_types.specs.Linked.{SharedLinkedBy}
use Rattle.shared_worlds.specs.Names.{renaming, cell_place}
use Rattle.shared_worlds.proofs.Lists.{Among, itself}
use Rattle.shared_worlds.proofs.KeyPlaces.{not_nothing, function_among, global_there, cell_among}
use Rattle.shared_worlds.proofs.Cells.{IsCell}
use Rattle.shared_worlds.proofs.Included.{function_number_pairs, cell_number_pairs}

-- what stands in the window of a reference, by what it asks for; 0 is a function's index, 7 a global's, 20 a table's
pub record RefGets (p : Program) (l : Layout) (ref : Ref) : Type 0 where
  pub function : ref.kind ≡ 0 → FunctionGets (renaming p l) (callee p ref) (number_in Shared l (a_symbol ref))
  pub cell : ref.kind ≡ 7 → CellGets (renaming p l) (cell_place p (ref_global Shared ref)) (number_in Shared l (a_symbol ref))
  pub table : ref.kind ≡ 20 → number_in Shared l (a_symbol ref) ≡ 0

-- ---- windows

abbrev window_as : Layout → Ref → Asks → Window
window_as l ref a = record { place = ref.place; form = form_of ref.kind; target = pos (target_by Shared l ref a); addend = addend_by ref a }

-- the number in the window, where it is that of a function or of a global
number_is : (l : Layout) (ref : Ref) → fits (ref_window Shared l ref) ≡ true → (a : Asks) → asks ref.kind ≡ a → (n : ℕ) → target_by Shared l ref a ≡ n → addend_by ref a ≡ pos 0 → number_in Shared l (a_symbol ref) ≡ n
number_is l ref f a e n t z =
    ap (λ b. bits32 (value (window_as l ref b))) e
    ∙ ap (λ k. bits32 (pos k +ℤ addend_by ref a)) t
    ∙ ap (λ k. bits32 (pos n +ℤ k)) z
    ∙ in_range ref.place n (form_of ref.kind) (as_record (target_by Shared l ref a) (addend_by ref a) t z (subst (λ b. fits (window_as l ref b) ≡ true) e f))
  where
    as_record : (k : ℕ) (m : ℤ) → k ≡ n → m ≡ pos 0 → fits (record { place = ref.place; form = form_of ref.kind; target = pos k; addend = m }) ≡ true
        → fits (record { place = ref.place; form = form_of ref.kind; target = pos n; addend = pos 0 }) ≡ true
    as_record k m t z g =
        subst (λ k. fits (record { place = ref.place; form = form_of ref.kind; target = pos k; addend = pos 0 }) ≡ true) t
        (subst (λ m. fits (record { place = ref.place; form = form_of ref.kind; target = pos k; addend = m }) ≡ true) z g)

module _ (law : ReachedLaw) (p : Program) (exports : List InputSymbol) (lk : SharedLinkedBy p exports) where
  abbrev lay : Layout
  lay = layout Shared p (live p exports) exports

  abbrev ren : Renaming
  ren = renaming p (layout Shared p (live p exports) exports)

  -- the number of a function that the output has
  pub function_gets : (k : FunctionKey) → Among same_function (functions Shared p (live p exports)) k → FunctionGets ren (function_place p k) (function_number lay.numbers k)
  unfolding layout
  function_gets k h = let n = function_number_pairs p exports lk k h in subst (λ o. FunctionGets ren o (function_number lay.numbers k)) (sym n.1) n.2

  -- the number of a cell that the output has
  pub cell_gets : (k : GlobalKey) → IsCell k → Among same_global (globals Shared p (live p exports) exports) k → CellGets ren (cell_place p k) (global_number lay.numbers k)
  unfolding layout
  cell_gets k c h = let n = cell_number_pairs p exports lk k c h in subst (λ o. CellGets ren o (global_number lay.numbers k)) (sym n.1) n.2

  -- ---- of live references

  module _ (part : Part) (ref : Ref) (h : Has (live p exports) part) (r : Has (refs part) ref) where
    leads : (m : Meaning) → ref.meaning ≡ m → is_nothing m ≡ false
    leads (here e) m = refl
    leads (imported k) m = refl
    leads null m = refl
    leads nothing m = absurd (not_nothing law p exports lk part ref h r m)

    -- the function that is called
    pub callee_gets : ref.kind ≡ 0 → FunctionGets ren (callee p ref) (function_number lay.numbers (ref_function ref))
    callee_gets k =
        subst (λ o. FunctionGets ren o (function_number lay.numbers (ref_function ref)))
        (sym (cond-false (is_nothing ref.meaning) None (function_place p (ref_function ref)) (leads ref.meaning refl)))
        (function_gets (ref_function ref) (function_among law p exports lk part ref h r k))

    -- what is named is a cell
    of_entry : (e : InputSymbol) → IsCell (global_of Shared e)
    of_entry e = by_test (e.input == 0)
        (λ t. subst IsCell (sym (cond-true (e.input == 0) (linker_key Shared e) (own_global e.input e.index) t)) tt)
        (λ t. subst IsCell (sym (cond-false (e.input == 0) (linker_key Shared e) (own_global e.input e.index) t)) tt)

    of_meaning : (m : Meaning) → IsCell (meant_global Shared ref m)
    of_meaning (here e) = of_entry e
    of_meaning (imported k) = tt
    of_meaning null = tt
    of_meaning nothing = tt

    of_address : IsCell (cell_key Shared ref)
    of_address = by_test (is_foreign ref)
        (λ t. subst IsCell (sym (cond-true (is_foreign ref) (outside_global (cell_of ref.entry)) (got (ref_got ref)) t)) tt)
        (λ t. subst IsCell (sym (cond-false (is_foreign ref) (outside_global (cell_of ref.entry)) (got (ref_got ref)) t)) tt)

    named_cell : IsCell (ref_global Shared ref)
    named_cell = by_test (is_kind GlobalVar ref.entry)
        (λ t. subst IsCell (sym (cond-true (is_kind GlobalVar ref.entry) (meant_global Shared ref ref.meaning) (cell_key Shared ref) t)) (of_meaning ref.meaning))
        (λ t. subst IsCell (sym (cond-false (is_kind GlobalVar ref.entry) (meant_global Shared ref ref.meaning) (cell_key Shared ref) t)) of_address)

    -- the global, or the cell of an address
    pub named_gets : ref.kind ≡ 7 → part.chunk.kind ≡ 0 → (is_kind GlobalVar ref.entry ≡ false → (ref.entry.symbol.kind ≡ Function) ⊎ (ref.entry.symbol.kind ≡ Datum))
        → CellGets ren (cell_place p (ref_global Shared ref)) (global_number lay.numbers (ref_global Shared ref))
    named_gets seven code addressed =
        cell_gets (ref_global Shared ref) named_cell
        (by_test (is_kind GlobalVar ref.entry)
        (λ t. itself same_global globals_same (globals Shared p (live p exports) exports) (ref_global Shared ref) (global_there law p exports lk part ref h r seven t))
        (λ t. cell_among law p exports lk part ref h r seven t code (addressed t)))

    -- the number in the window
    pub ref_gets : fits (ref_window Shared lay ref) ≡ true → part.chunk.kind ≡ 0 → (ref.kind ≡ 7 → is_kind GlobalVar ref.entry ≡ false → (ref.entry.symbol.kind ≡ Function) ⊎ (ref.entry.symbol.kind ≡ Datum)) → RefGets p lay ref
    ref_gets f code addressed = record {
      function = λ k. subst (λ n. FunctionGets ren (callee p ref) n) (sym (number_is lay ref f a_function (ap asks k) (function_number lay.numbers (ref_function ref)) refl refl)) (callee_gets k);
      cell = λ k. subst (λ n. CellGets ren (cell_place p (ref_global Shared ref)) n) (sym (number_is lay ref f a_global (ap asks k) (global_number lay.numbers (ref_global Shared ref)) refl refl)) (named_gets k code (addressed k));
      table = λ k. ap (λ a. bits32 (value (window_as lay ref a))) (ap asks k);
    }
