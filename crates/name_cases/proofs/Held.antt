-- All entries of a link have names that are held, and stand in its rows.
use Rattle.std.proofs.Common.{◌≡◌, ℕ, ◌+◌, Bool, true, false, cond, List, [], ◌∷◌, ◌++◌, map, filter, Option, Some, None, IsSome, refl, sym, ap, ◌∙◌, subst}
use Rattle.std.specs.Prelude.{All}
use Rattle.std.specs.List.{flat_map, AllByRecursion}
use Rattle.std.proofs.lemmas.List.Elements.{filter-append, All-head, All-tail}
use Rattle.name_entries.specs.wl_base.Names.{number_of}
use Rattle.name_entries.specs.linking_section.declared.symbol.Symbol.{Symbol}
use Rattle.name_entries.specs.object_file.declared.object.Object.{Object}
use Rattle.name_entries.specs.made_symbols.declared.mode.Mode.{Mode}
use Rattle.name_entries.specs.made_symbols.Made.{MadeSymbol, made}
use Rattle.name_entries.specs.link_names.Numbered.{Numbered, AreNumbers, Held, entry_names, is_entry_symbol, symbol_name}
use Rattle.name_entries.specs.name_rules.Entries.{InputSymbol, name_of, is_entry, entries, entries_from, entry_in, symbols_of, made_entry, made_from}
use Rattle.name_entries.specs.View.{rows_of}
use Rattle.name_cases.specs.Rows.{all_rows, entries_in}
use Rattle.name_cases.proofs.Column.{name_at}
use Rattle.name_cases.proofs.Found.{IsNumbered}

none : IsSome {T = ℕ} None → ⊥
none h = cc

module _ (names : List (List ℕ)) where
  held_is : (e : InputSymbol) → is_entry e ≡ true → Held names (name_of e) → IsNumbered names e
  held_is e entry held = by (number_of names (name_of e)) refl held
    where
      by : (o : Option ℕ) → number_of names (name_of e) ≡ o → IsSome o → IsNumbered names e
      by None is some = absurd (none some)
      by (Some n) is some = (n, ap (λ b. cond b (number_of names (name_of e)) None) entry ∙ is, name_at names (name_of e) n is)

  each-append : (xs ys : List InputSymbol) → AllByRecursion (IsNumbered names) xs → AllByRecursion (IsNumbered names) ys → AllByRecursion (IsNumbered names) (xs ++ ys)
  each-append [] ys hs ks = ks
  each-append (x ∷ xs) ys hs ks = (hs.0, each-append xs ys hs.1 ks)

  held_symbols : (objects : List Object) (o : Object) (p : ℕ) (ss : List Symbol) → All (Held names) (map symbol_name (filter is_entry_symbol ss))
      → AllByRecursion (IsNumbered names) (filter is_entry (entries_from objects o p ss))
  held_symbols objects o p [] all = tt
  held_symbols objects o p (s ∷ ss) all = by (held_symbols objects o (p + 1) ss) (is_entry_symbol s) refl all
    where
      by : (All (Held names) (map symbol_name (filter is_entry_symbol ss)) → AllByRecursion (IsNumbered names) (filter is_entry (entries_from objects o (p + 1) ss)))
          → (b : Bool) → is_entry_symbol s ≡ b → All (Held names) (map symbol_name (cond b (s ∷ filter is_entry_symbol ss) (filter is_entry_symbol ss)))
          → AllByRecursion (IsNumbered names) (cond b (entry_in objects o p s ∷ filter is_entry (entries_from objects o (p + 1) ss)) (filter is_entry (entries_from objects o (p + 1) ss)))
      by rest true entry all = (
        held_is (entry_in objects o p s) entry (All-head (Held names) (symbol_name s) (map symbol_name (filter is_entry_symbol ss)) all),
        rest (All-tail (Held names) (symbol_name s) (map symbol_name (filter is_entry_symbol ss)) all),
      )
      by rest false entry all = rest all

  held_objects : (objects os : List Object) → All (λ o. All (Held names) (entry_names o)) os
      → AllByRecursion (IsNumbered names) (filter is_entry (flat_map (λ row. row) (map (symbols_of objects) os)))
  held_objects objects [] all = tt
  held_objects objects (o ∷ os) all =
      subst (AllByRecursion (IsNumbered names)) (sym (filter-append is_entry (symbols_of objects o) (flat_map (λ row. row) (map (symbols_of objects) os))))
      (each-append _ _ (held_symbols objects o 0 o.symbols (All-head (λ o. All (Held names) (entry_names o)) o os all))
      (held_objects objects os (All-tail (λ o. All (Held names) (entry_names o)) o os all)))

  held_made : (p : ℕ) (ms : List MadeSymbol) → All (Held names) (map (λ m. m.name) ms) → AllByRecursion (IsNumbered names) (made_from p ms)
  held_made p [] all = tt
  held_made p (m ∷ ms) all =
      (held_is (made_entry p m) refl (All-head (Held names) m.name (map (λ m. m.name) ms) all), held_made (p + 1) ms (All-tail (Held names) m.name (map (λ m. m.name) ms) all))

-- each linker-made symbol is an entry of its name
made_kept : (p : ℕ) (ms : List MadeSymbol) → filter is_entry (made_from p ms) ≡ made_from p ms
made_kept p [] = refl
made_kept p (m ∷ ms) = ap (λ es. made_entry p m ∷ es) (made_kept (p + 1) ms)

joined : {A B : Type 0} (f : A → List B) (xs : List A) → flat_map (λ row. row) (map f xs) ≡ flat_map f xs
joined f [] = refl
joined f (x ∷ xs) = ap (λ l. f x ++ l) (joined f xs)

-- The entries of the rows are all entries.
pub entries_are : (mode : Mode) (objects : List Object) → entries_in (all_rows mode objects) ≡ entries mode objects
unfolding entries
entries_are mode objects =
    filter-append is_entry (made_from 0 (made mode)) (flat_map (λ row. row) (rows_of objects))
    ∙ ap (λ es. es ++ filter is_entry (flat_map (λ row. row) (rows_of objects))) (made_kept 0 (made mode))
    ∙ ap (λ es. made_from 0 (made mode) ++ filter is_entry es) (joined (symbols_of objects) objects)

pub entries_held : (mode : Mode) (objects : List Object) (n : Numbered) → AreNumbers mode objects n → AllByRecursion (IsNumbered n.names) (entries_in (all_rows mode objects))
entries_held mode objects n numbers =
    subst (AllByRecursion (IsNumbered n.names))
    (sym (filter-append is_entry (made_from 0 (made mode)) (flat_map (λ row. row) (rows_of objects)) ∙ ap (λ es. es ++ filter is_entry (flat_map (λ row. row) (rows_of objects))) (made_kept 0 (made mode))))
    (each-append n.names _ _ (held_made n.names 0 (made mode) numbers.made_held) (held_objects n.names objects objects numbers.symbols_held))
