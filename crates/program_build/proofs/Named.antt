-- Each entry has a name among those that have numbers, so nothing defines a name that isn't among them.
use Rattle.std.proofs.Common.{◌≡◌, ℕ, zero, suc, ◌+◌, Bool, true, false, cond, ◌||◌, List, [], ◌∷◌, ◌++◌, filter, map, flat_map, refl, sym, ap, subst, ◌∙◌, Option, Some, None, IsSome}
use Rattle.std.specs.Prelude.{slice_get, bytes_eq, All}
use Rattle.std.specs.List.{list_any, AllByRecursion}
use Rattle.std.proofs.lemmas.Slice.Eq.{bytes_eq-Decides}
use Rattle.std.proofs.lemmas.List.Elements.{filter-append, All-head, All-tail}
use Rattle.loose_calls.specs.link_program.wl_base.Names.{number_of}
use Rattle.loose_calls.specs.link_program.linking_section.declared.symbol.Symbol.{Symbol}
use Rattle.loose_calls.specs.link_program.object_file.declared.object.Object.{Object}
use Rattle.loose_calls.specs.link_program.made_symbols.declared.mode.Mode.{Mode}
use Rattle.loose_calls.specs.link_program.made_symbols.Made.{MadeSymbol, made}
use Rattle.loose_calls.specs.link_program.link_names.Numbered.{Numbered, AreNumbers, Held, entry_names, is_entry_symbol, symbol_name}
use Rattle.loose_calls.specs.link_program.name_rules.Entries.{InputSymbol, entries, entries_from, entry_in, symbols_of, made_from, name_of, is_entry, is_named}
use Rattle.loose_calls.proofs.link_program_lemmas.name_entries_lemmas.Numbers.{name_at}
use Rattle.loose_calls.proofs.Behind.{IsNot}

none : IsSome {T = ℕ} None → ⊥
none h = cc

-- the name of an entry is among these
abbrev Has : List (List ℕ) → InputSymbol → Type 0
Has names e = list_any (bytes_eq (name_of e)) names ≡ true

is_there : (names : List (List ℕ)) (i : ℕ) (name : List ℕ) → slice_get names i ≡ Some name → list_any (bytes_eq name) names ≡ true
is_there [] i name at = absurd cc
is_there (n ∷ ns) zero name at =
    let same : n ≡ name = cc in
    ap (λ b. b || list_any (bytes_eq name) ns) ((bytes_eq-Decides name n).1 (sym same))
is_there (n ∷ ns) (suc i) name at = by (bytes_eq name n) (is_there ns i name at)
  where
    by : (b : Bool) → list_any (bytes_eq name) ns ≡ true → (b || list_any (bytes_eq name) ns) ≡ true
    by true h = refl
    by false h = h

module _ (names : List (List ℕ)) where
  among : (name : List ℕ) → Held names name → list_any (bytes_eq name) names ≡ true
  among name held = by (number_of names name) refl held
    where
      by : (o : Option ℕ) → number_of names name ≡ o → IsSome o → list_any (bytes_eq name) names ≡ true
      by None is some = absurd (none some)
      by (Some n) is some = is_there names n name (name_at names name n is)

  both : (xs ys : List InputSymbol) → AllByRecursion (Has names) xs → AllByRecursion (Has names) ys → AllByRecursion (Has names) (xs ++ ys)
  both [] ys hs ks = ks
  both (x ∷ xs) ys hs ks = (hs.0, both xs ys hs.1 ks)

  symbols_have : (objects : List Object) (o : Object) (p : ℕ) (ss : List Symbol) → All (Held names) (map symbol_name (filter is_entry_symbol ss))
      → AllByRecursion (Has names) (filter is_entry (entries_from objects o p ss))
  symbols_have objects o p [] all = tt
  symbols_have objects o p (s ∷ ss) all = by (symbols_have objects o (p + 1) ss) (is_entry_symbol s) all
    where
      by : (All (Held names) (map symbol_name (filter is_entry_symbol ss)) → AllByRecursion (Has names) (filter is_entry (entries_from objects o (p + 1) ss)))
          → (b : Bool) → All (Held names) (map symbol_name (cond b (s ∷ filter is_entry_symbol ss) (filter is_entry_symbol ss)))
          → AllByRecursion (Has names) (cond b (entry_in objects o p s ∷ filter is_entry (entries_from objects o (p + 1) ss)) (filter is_entry (entries_from objects o (p + 1) ss)))
      by rest true all = (
        among (symbol_name s) (All-head (Held names) (symbol_name s) (map symbol_name (filter is_entry_symbol ss)) all),
        rest (All-tail (Held names) (symbol_name s) (map symbol_name (filter is_entry_symbol ss)) all),
      )
      by rest false all = rest all

  objects_have : (objects os : List Object) → All (λ o. All (Held names) (entry_names o)) os → AllByRecursion (Has names) (filter is_entry (flat_map (symbols_of objects) os))
  objects_have objects [] all = tt
  objects_have objects (o ∷ os) all =
      subst (AllByRecursion (Has names)) (sym (filter-append is_entry (symbols_of objects o) (flat_map (symbols_of objects) os)))
      (both _ _ (symbols_have objects o 0 o.symbols (All-head (λ o. All (Held names) (entry_names o)) o os all))
      (objects_have objects os (All-tail (λ o. All (Held names) (entry_names o)) o os all)))

  made_have : (p : ℕ) (ms : List MadeSymbol) → All (Held names) (map (λ m. m.name) ms) → AllByRecursion (Has names) (made_from p ms)
  made_have p [] all = tt
  made_have p (m ∷ ms) all =
      (among m.name (All-head (Held names) m.name (map (λ m. m.name) ms) all), made_have (p + 1) ms (All-tail (Held names) m.name (map (λ m. m.name) ms) all))

  none_defines : (es : List InputSymbol) (name : List ℕ) → AllByRecursion (Has names) es → IsNot names name → filter (λ e. e.defines) (filter (is_named name) es) ≡ []
  none_defines [] name held not = refl
  none_defines (e ∷ es) name held not = by (is_named name e) refl (none_defines es name held.1 not)
    where
      by : (b : Bool) → is_named name e ≡ b → filter (λ e. e.defines) (filter (is_named name) es) ≡ []
          → filter (λ e. e.defines) (cond b (e ∷ filter (is_named name) es) (filter (is_named name) es)) ≡ []
      by true is rest = absurd (
          let same : name_of e ≡ name = (bytes_eq-Decides (name_of e) name).0 is in
          let clash : true ≡ false = sym held.0 ∙ ap (λ n. list_any (bytes_eq n) names) same ∙ not in
          cc)
      by false is rest = rest

entries_have : (mode : Mode) (objects : List Object) (n : Numbered) → AreNumbers mode objects n → AllByRecursion (Has n.names) (entries mode objects)
unfolding entries
entries_have mode objects n numbers = both n.names _ _ (made_have n.names 0 (made mode) numbers.made_held) (objects_have n.names objects objects numbers.symbols_held)

pub undefined : (mode : Mode) (objects : List Object) (n : Numbered) (name : List ℕ) → AreNumbers mode objects n → IsNot n.names name
    → filter (λ e. e.defines) (filter (is_named name) (entries mode objects)) ≡ []
undefined mode objects n name numbers not = none_defines n.names (entries mode objects) name (entries_have mode objects n numbers) not
