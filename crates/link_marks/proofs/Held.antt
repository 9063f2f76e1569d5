-- The names of all entries are held.
use Rattle.std.proofs.Common.{◌≡◌, ℕ, ◌+◌, Bool, true, false, cond, List, [], ◌∷◌, ◌++◌, map, filter, Option, Some, None, IsSome, refl, sym, subst, All, flat_map}
use Rattle.std.specs.List.{AllByRecursion}
use Rattle.std.proofs.lemmas.List.Elements.{filter-append, All-head, All-tail, All-from_recursion, All-filter}
use Rattle.link_program.specs.wl_base.Names.{number_of}
use Rattle.link_program.specs.linking_section.declared.symbol.Symbol.{Symbol}
use Rattle.link_program.specs.object_file.declared.object.Object.{Object}
use Rattle.link_program.specs.made_symbols.declared.mode.Mode.{Mode}
use Rattle.link_program.specs.made_symbols.Made.{MadeSymbol, made}
use Rattle.link_program.specs.link_names.Numbered.{Numbered, AreNumbers, Held, entry_names, is_entry_symbol, symbol_name}
use Rattle.link_program.specs.name_rules.Entries.{InputSymbol, name_of, is_entry, entries, entries_from, entry_in, symbols_of, made_from}
use Rattle.link_program.specs.link_rules.Program.{winners_of, is_winner}

none : IsSome {T = ℕ} None → ⊥
none h = cc

pub numbered : (names : List (List ℕ)) (name : List ℕ) → Held names name → (n : ℕ) × (number_of names name ≡ Some n)
numbered names name held = by (number_of names name) refl held
  where
    by : (o : Option ℕ) → number_of names name ≡ o → IsSome o → (n : ℕ) × (number_of names name ≡ Some n)
    by None is some = absurd (none some)
    by (Some n) is some = (n, is)

module _ (names : List (List ℕ)) where
  abbrev pub HeldOf : InputSymbol → Type 0
  HeldOf e = Held names (name_of e)

  both : (xs ys : List InputSymbol) → AllByRecursion HeldOf xs → AllByRecursion HeldOf ys → AllByRecursion HeldOf (xs ++ ys)
  both [] ys hs ks = ks
  both (x ∷ xs) ys hs ks = (hs.0, both xs ys hs.1 ks)

  held_symbols : (objects : List Object) (o : Object) (p : ℕ) (ss : List Symbol) → All (Held names) (map symbol_name (filter is_entry_symbol ss))
      → AllByRecursion HeldOf (filter is_entry (entries_from objects o p ss))
  held_symbols objects o p [] all = tt
  held_symbols objects o p (s ∷ ss) all = by (held_symbols objects o (p + 1) ss) (is_entry_symbol s) all
    where
      by : (All (Held names) (map symbol_name (filter is_entry_symbol ss)) → AllByRecursion HeldOf (filter is_entry (entries_from objects o (p + 1) ss)))
          → (b : Bool) → All (Held names) (map symbol_name (cond b (s ∷ filter is_entry_symbol ss) (filter is_entry_symbol ss)))
          → AllByRecursion HeldOf (cond b (entry_in objects o p s ∷ filter is_entry (entries_from objects o (p + 1) ss)) (filter is_entry (entries_from objects o (p + 1) ss)))
      by rest true all = (
        All-head (Held names) (symbol_name s) (map symbol_name (filter is_entry_symbol ss)) all,
        rest (All-tail (Held names) (symbol_name s) (map symbol_name (filter is_entry_symbol ss)) all),
      )
      by rest false all = rest all

  held_objects : (objects os : List Object) → All (λ o. All (Held names) (entry_names o)) os → AllByRecursion HeldOf (filter is_entry (flat_map (symbols_of objects) os))
  held_objects objects [] all = tt
  held_objects objects (o ∷ os) all =
      subst (AllByRecursion HeldOf) (sym (filter-append is_entry (symbols_of objects o) (flat_map (symbols_of objects) os)))
      (both _ _ (held_symbols objects o 0 o.symbols (All-head (λ o. All (Held names) (entry_names o)) o os all))
      (held_objects objects os (All-tail (λ o. All (Held names) (entry_names o)) o os all)))

  held_made : (p : ℕ) (ms : List MadeSymbol) → All (Held names) (map (λ m. m.name) ms) → AllByRecursion HeldOf (made_from p ms)
  held_made p [] all = tt
  held_made p (m ∷ ms) all =
      (All-head (Held names) m.name (map (λ m. m.name) ms) all, held_made (p + 1) ms (All-tail (Held names) m.name (map (λ m. m.name) ms) all))

pub entries_held : (mode : Mode) (objects : List Object) (n : Numbered) → AreNumbers mode objects n → All (HeldOf n.names) (entries mode objects)
unfolding entries
entries_held mode objects n numbers =
    All-from_recursion (HeldOf n.names) _
    (both n.names _ _ (held_made n.names 0 (made mode) numbers.made_held) (held_objects n.names objects objects numbers.symbols_held))

pub winners_held : (names : List (List ℕ)) (all : List InputSymbol) → All (HeldOf names) all → All (HeldOf names) (winners_of all)
unfolding winners_of
winners_held names all held = All-filter (is_winner all) (HeldOf names) all held
