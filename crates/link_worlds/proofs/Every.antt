-- What the number in the window of a live reference is the number of.
use Rattle.std.proofs.Common.{◌≡◌, ℕ, ◌+◌, List, [], ◌++◌, map, Option, Some, None, Bool, true, false, refl, sym, ap, ◌∙◌, subst, ⊎_elim, arith}
use Rattle.std.specs.Prelude.{◌==◌, ◌&&◌, ◌^◌, ◌<◌, not, slice_get, filter, filter_map, position, option_and_then, unwrap_or, ℤ, pos, int_lt, ◌+ℤ◌}
use Rattle.std.proofs.lemmas.Bool.{and_from, and_parts, eq-eqb, not_from_false, cond-false, ltb-true}
use Rattle.std.proofs.Math.Nat.{mod-eq_of_lt}
use Rattle.list_places.specs.Has.{Has}
use Rattle.list_places.proofs.Lists.{has_at, has_left, has_right, has_either, third_of, placed, stands, has_pick, has_flat, map_has, has_map, filter_has, has_filter, pick_has, distinct_only}
use Rattle.wl_base.specs.Choice.{given}
use Rattle.linking_section.specs.declared.symbol.SymbolKind.TheVariants.{Datum, GlobalVar}
use Rattle.linking_section.specs.Flags.{kind_code}
use Rattle.made_symbols.specs.declared.mode.Mode.TheVariants.{Plain}
use Rattle.name_rules.specs.Entries.{InputSymbol, is_kind, same_entry}
use Rattle.name_rules.specs.Meanings.{Meaning, here, imported, null, nothing}
use Rattle.live_mark.specs.Live.{ReachedLaw}
use Rattle.reloc_apply.specs.declared.window.Form.{Form}
use Rattle.reloc_apply.specs.declared.window.Window.{Window}
use Rattle.reloc_apply.specs.Windows.{bits32, value, fits, least_of}
use Rattle.link_rules.specs.Program.{Program, Part, Ref, refs, a_symbol}
use Rattle.link_rules.specs.Marks.{live, unresolved, refs_of}
use Rattle.link_rules.specs.Keys.{GlobalKey, GotKey, outside_global, linker_global, own_global, got, exported_datum, got_entry, got_import, got_null, same_global, same_got, globals, used_globals, made_global_key, own_global_key, got_entries, got_of, datum_key, ref_got, ref_global, ref_function, meant_global, needs_got, function_number, global_number}
use Rattle.link_rules.specs.Values.{Layout, Asks, a_function, a_global, asks, form_of, target_by, addend_by, ref_window, got_value}
use Rattle.link_rules.specs.Output.{layout}
use Rattle.link_worlds.specs.Names.{renaming, constant_of, number_at, callee, cell_place, FunctionGets, CellGets, RefGets}
use Rattle.link_worlds.specs.Sound.{Sound, SoundRef, meant_entry, meant_entries}
use Rattle.link_worlds.proofs.Keys.{import_equal, gots_same}
use Rattle.link_worlds.proofs.Live.{live_part, ref_listed}
use Rattle.link_worlds.proofs.Refs.{distinct_has, callee_pairs, cell_pairs}

-- the cells of addresses among all cells
abbrev IfGot : (GotKey → Type 0) → GlobalKey → Type 0
IfGot P (outside_global k) = Unit {0}
IfGot P (linker_global k) = Unit {0}
IfGot P (own_global i k) = Unit {0}
IfGot P (got k) = P k
IfGot P (exported_datum e) = Unit {0}

given_if : (P : GotKey → Type 0) (t : Bool) (x k : GlobalKey) → given t x ≡ Some k → IfGot P x → IfGot P k
given_if P true x k h p = subst (IfGot P) (grind arith) p
given_if P false x k h p = absurd (grind arith)

got_among : (p : Program) (parts : List Part) (exports : List InputSymbol) (k : GlobalKey) → Has (globals Plain p parts exports) k → IfGot (Has (got_entries Plain parts)) k
unfolding globals
got_among p parts exports k h =
    let P = Has (got_entries Plain parts) in
    let outs = map outside_global (used_globals Plain p (refs_of parts)) in
    let mades = filter_map made_global_key parts in
    let owns = filter_map own_global_key parts in
    let gots = map got (got_entries Plain parts) in
    let dates = filter_map datum_key exports in
    ⊎_elim
    (λ a. let r = has_map outside_global (used_globals Plain p (refs_of parts)) k a in subst (IfGot P) r.2 tt)
    (λ g. ⊎_elim
    (λ g. ⊎_elim
    (λ g. ⊎_elim
    (λ a. let r = has_pick made_global_key parts k a in given_if P ((r.0.chunk.input == 0) && (r.0.chunk.kind == 2)) (linker_global r.0.chunk.index) k r.2 tt)
    (λ a. let r = has_pick own_global_key parts k a in given_if P (not (r.0.chunk.input == 0) && (r.0.chunk.kind == 2)) (own_global r.0.chunk.input r.0.chunk.index) k r.2 tt)
    (has_either mades owns k g))
    (λ a. let r = has_map got (got_entries Plain parts) k a in subst (IfGot P) r.2 r.1)
    (has_either (mades ++ owns) gots k g))
    (λ a. let r = has_pick datum_key exports k a in given_if P (is_kind Datum r.0) (exported_datum r.0) k r.2 tt)
    (has_either (mades ++ owns ++ gots) dates k g))
    (has_either outs (mades ++ owns ++ gots ++ dates) k h)

abbrev entry_of : GotKey → Option InputSymbol
entry_of (got_entry e) = Some e
entry_of (got_import k) = None
entry_of (got_null n) = None

got_meant : (kind : ℕ) (m : Meaning) → meant_entry m ≡ entry_of (got_of kind m)
got_meant kind (here e) = refl
got_meant kind (imported k) = refl
got_meant kind null = refl
got_meant kind nothing = refl

-- one value for the same cell
value_equal : (l : Layout) (a b : GotKey) → same_got a b ≡ true → ((e f : InputSymbol) → a ≡ got_entry e → b ≡ got_entry f → same_entry e f ≡ true → e ≡ f) → got_value Plain l a ≡ got_value Plain l b
value_equal l (got_entry e) (got_entry f) s h = ap (λ x. got_value Plain l (got_entry x)) (h e f refl refl s)
value_equal l (got_import j) (got_import k) s h = ap (λ x. got_value Plain l (got_import x)) (import_equal j k s)
value_equal l (got_null j) (got_null k) s h = refl
value_equal l _ _ s h = absurd (grind arith)

module _ (p : Program) (exports : List InputSymbol) (sound : Sound p) where
  -- the entry that a cell of live code is made for is among those that references mean
  got_from : (k : GotKey) → Has (got_entries Plain (live p exports)) k → (ref : Ref) × Has (refs_of p.parts) ref × (ref_got ref ≡ k)
  got_from k h =
      let code = filter (λ (x : Part). x.chunk.kind == 0) (live p exports) in
      let found = distinct_only same_got [] (map ref_got (filter (needs_got Plain) (refs_of code))) k h in
      ⊎_elim (λ n. absurd n)
      (λ m. let r = has_map ref_got (filter (needs_got Plain) (refs_of code)) k m in
      let f = has_filter (needs_got Plain) (refs_of code) r.0 r.1 in
      let q = has_flat refs code r.0 f.0 in
      let c = has_filter (λ (x : Part). x.chunk.kind == 0) (live p exports) q.0 q.1 in
      (r.0, ref_listed p.parts q.0 r.0 (live_part p exports q.0 c.0) q.2, r.2))
      found

  meant_has : (ref : Ref) (e : InputSymbol) → Has (refs_of p.parts) ref → ref_got ref ≡ got_entry e → Has (meant_entries p) e
  meant_has ref e h g = pick_has (λ (x : Ref). meant_entry x.meaning) (refs_of p.parts) ref e h (got_meant (kind_code ref.entry.symbol.kind) ref.meaning ∙ ap entry_of g)

  module _ (part : Part) (ref : Ref) (h : Has (live p exports) part) (r : Has (refs part) ref) (seven : ref.kind ≡ 7) (kind : is_kind GlobalVar ref.entry ≡ false) where
    in_all : Has (refs_of p.parts) ref
    in_all = ref_listed p.parts part ref (live_part p exports part h) r

    said' : SoundRef p part ref
    said' = sound.refs part ref (live_part p exports part h) r

    got_listed : (y : GotKey) × Has (got_entries Plain (live p exports)) y × (same_got (ref_got ref) y ≡ true)
    got_listed =
        let code = filter (λ (x : Part). x.chunk.kind == 0) (live p exports) in
        let in_code = filter_has (λ (x : Part). x.chunk.kind == 0) (live p exports) part h (eq-eqb part.chunk.kind 0 (said'.code seven)) in
        let listed = ref_listed code part ref in_code r in
        let needs = and_from (ref.kind == 7) (not (is_kind GlobalVar ref.entry)) (eq-eqb ref.kind 7 seven) (not_from_false (is_kind GlobalVar ref.entry) kind) in
        distinct_has same_got gots_same (map ref_got (filter (needs_got Plain) (refs_of code))) (ref_got ref) (map_has ref_got (filter (needs_got Plain) (refs_of code)) ref (filter_has (needs_got Plain) (refs_of code) ref listed needs))

    module _ (l : Layout) (keys : l.numbers.globals ≡ globals Plain p (live p exports) exports) where
      same_value : (d : GlobalKey) → IfGot (Has (got_entries Plain (live p exports))) d → same_global (got (ref_got ref)) d ≡ true → constant_of l d ≡ Some (got_value Plain l (ref_got ref))
      same_value (got k) g e =
          let q = got_from k g in
          ap Some (sym (value_equal l (ref_got ref) k e (λ a b ea eb s. sound.one a b (meant_has ref a in_all ea) (meant_has q.0 b q.1 (q.2 ∙ eb)) s)))
      same_value (outside_global k) g e = absurd (grind arith)
      same_value (linker_global k) g e = absurd (grind arith)
      same_value (own_global i k) g e = absurd (grind arith)
      same_value (exported_datum k) g e = absurd (grind arith)

      pub got_pairs : (renaming p l).constant (global_number l.numbers (got (ref_got ref))) ≡ Some (got_value Plain l (ref_got ref))
      unfolding globals
      got_pairs =
          let parts = live p exports in
          let gs = globals Plain p parts exports in
          let key = got (ref_got ref) in
          let y = got_listed in
          let outs = map outside_global (used_globals Plain p (refs_of parts)) in
          let mades = filter_map made_global_key parts in
          let owns = filter_map own_global_key parts in
          let gots = map got (got_entries Plain parts) in
          let dates = filter_map datum_key exports in
          let there : Has gs (got y.0) = has_right outs (mades ++ owns ++ gots ++ dates) (got y.0) (has_left (mades ++ owns ++ gots) dates (got y.0) (third_of mades owns gots (got y.0) (map_has got (got_entries Plain parts) y.0 y.1))) in
          let n = placed (same_global key) gs (got y.0) there y.2 in
          let s = stands (same_global key) gs n.0 n.1 in
          let num : global_number l.numbers key ≡ n.0 = ap (λ ks. unwrap_or (position (same_global key) ks) 0) keys ∙ ap (λ o. unwrap_or o 0) n.1 in
          ap (λ d. option_and_then (constant_of l) (slice_get l.numbers.globals d)) num
          ∙ ap (λ ks. option_and_then (constant_of l) (slice_get ks n.0)) keys
          ∙ ap (option_and_then (constant_of l)) s.there
          ∙ same_value s.item (got_among p parts exports s.item (has_at gs n.0 s.item s.there)) s.passes

-- ---- windows

-- the window, by what is asked for
abbrev window_as : Layout → Ref → Asks → Window
window_as l ref a = record { place = ref.place; form = form_of ref.kind; target = pos (target_by Plain l ref a); addend = addend_by ref a }

-- a number that is in range stands in its window
pub in_range : (place n : ℕ) (form : Form) → fits (record { place = place; form = form; target = pos n; addend = pos 0 }) ≡ true → bits32 (pos n +ℤ pos 0) ≡ n
in_range place n form h =
    let r = and_parts (not (int_lt (pos n +ℤ pos 0) (least_of form))) (int_lt (pos n +ℤ pos 0) (pos (2 ^ 32))) h in
    let l : n + 0 < 2 ^ 32 = ltb-true (n + 0) (2 ^ 32) r.1 in
    mod-eq_of_lt l ∙ omega arith

module _ (p : Program) (exports : List InputSymbol) (part : Part) (ref : Ref) (sound : Sound p) (open' : unresolved p (live p exports) ≡ None) (h : Has (live p exports) part) (r : Has (refs part) ref)
    (law : ReachedLaw) (f : fits (ref_window Plain (layout Plain p (live p exports) exports) ref) ≡ true) where
  abbrev lay : Layout
  lay = layout Plain p (live p exports) exports

  -- the number in the window, where it is that of a function or of a global
  number_is : (a : Asks) → asks ref.kind ≡ a → (n : ℕ) → target_by Plain lay ref a ≡ n → addend_by ref a ≡ pos 0 → number_at lay (a_symbol ref) ≡ n
  number_is a e n t z =
      ap (λ b. bits32 (value (window_as lay ref b))) e
      ∙ ap (λ k. bits32 (pos k +ℤ addend_by ref a)) t
      ∙ ap (λ k. bits32 (pos n +ℤ k)) z
      ∙ in_range ref.place n (form_of ref.kind) (as_record n (target_by Plain lay ref a) (addend_by ref a) t z (subst (λ b. fits (window_as lay ref b) ≡ true) e f))
    where
      as_record : (n k : ℕ) (m : ℤ) → k ≡ n → m ≡ pos 0 → fits (record { place = ref.place; form = form_of ref.kind; target = pos k; addend = m }) ≡ true
          → fits (record { place = ref.place; form = form_of ref.kind; target = pos n; addend = pos 0 }) ≡ true
      as_record n k m t z g =
          subst (λ k. fits (record { place = ref.place; form = form_of ref.kind; target = pos k; addend = pos 0 }) ≡ true) t
          (subst (λ m. fits (record { place = ref.place; form = form_of ref.kind; target = pos k; addend = m }) ≡ true) z g)

  function_number_is : ref.kind ≡ 0 → number_at lay (a_symbol ref) ≡ function_number lay.numbers (ref_function ref)
  function_number_is k = number_is a_function (ap asks k) (function_number lay.numbers (ref_function ref)) refl refl

  global_number_is : ref.kind ≡ 7 → number_at lay (a_symbol ref) ≡ global_number lay.numbers (ref_global Plain ref)
  global_number_is k = number_is a_global (ap asks k) (global_number lay.numbers (ref_global Plain ref)) refl refl

  cell_gets : ref.kind ≡ 7 → (b : is_kind GlobalVar ref.entry ≡ true) → CellGets (renaming p lay) (cell_place p (ref_global Plain ref)) (global_number lay.numbers (ref_global Plain ref))
  cell_gets k b = cell_pairs law p exports sound part ref open' h r k b

  held_gets : ref.kind ≡ 7 → is_kind GlobalVar ref.entry ≡ false → (renaming p lay).constant (global_number lay.numbers (ref_global Plain ref)) ≡ Some (got_value Plain lay (ref_got ref))
  unfolding layout
  held_gets k b =
      let key : got (ref_got ref) ≡ ref_global Plain ref = sym (cond-false (is_kind GlobalVar ref.entry) (meant_global Plain ref ref.meaning) (got (ref_got ref)) b) in
      subst (λ g. (renaming p lay).constant (global_number lay.numbers g) ≡ Some (got_value Plain lay (ref_got ref))) key
      (got_pairs p exports sound part ref h r k b lay refl)

  pub ref_gets : RefGets p lay ref
  ref_gets = record {
    function = λ k. subst (λ n. FunctionGets (renaming p lay) (callee p ref) n) (sym (function_number_is k)) (callee_pairs law p exports sound part ref open' h r k);
    cell = λ k b. subst (λ n. CellGets (renaming p lay) (cell_place p (ref_global Plain ref)) n) (sym (global_number_is k)) (cell_gets k b);
    held = λ k b. subst (λ n. (renaming p lay).constant n ≡ Some (got_value Plain lay (ref_got ref))) (sym (global_number_is k)) (held_gets k b);
    table = λ k. ap (λ a. bits32 (value (window_as lay ref a))) (ap asks k);
  }
