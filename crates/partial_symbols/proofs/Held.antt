-- The names of all entries are held.
use Rattle.std.proofs.Common.{◌≡◌, ℕ, ◌+◌, Bool, true, false, cond, List, [], ◌∷◌, map, filter, flat_map, Option, Some, None, IsSome, refl, sym, ◌∙◌, All}
use Rattle.std.specs.List.{AllByRecursion}
use Rattle.std.proofs.lemmas.List.Elements.{All-head, All-tail}
use Rattle.link_program.specs.wl_base.Names.{number_of}
use Rattle.link_program.specs.linking_section.declared.symbol.Symbol.{Symbol}
use Rattle.link_program.specs.object_file.declared.object.Object.{Object}
use Rattle.link_program.specs.made_symbols.declared.mode.Mode.{Mode}
use Rattle.link_program.specs.made_symbols.Made.{MadeSymbol, made}
use Rattle.link_program.specs.link_names.Numbered.{Held, entry_names, is_entry_symbol, symbol_name}
use Rattle.link_program.specs.name_rules.Entries.{InputSymbol, name_of, is_entry, entries, entries_from, entry_in, symbols_of, made_from}
use Rattle.link_program.specs.link_rules.Program.{winners_of, is_winner}
use Rattle.partial_symbols.proofs.Lists.{all_both}

none : IsSome {T = ℕ} None → ⊥
none h = cc

pub numbered : (names : List (List ℕ)) (name : List ℕ) → Held names name → (n : ℕ) × (number_of names name ≡ Some n)
numbered names name held = by (number_of names name) refl held
  where
    by : (o : Option ℕ) → number_of names name ≡ o → IsSome o → (n : ℕ) × (number_of names name ≡ Some n)
    by None is some = absurd (none some)
    by (Some n) is some = (n, is)

module _ (names : List (List ℕ)) where
  abbrev pub HeldOf : InputSymbol → Type 0
  HeldOf e = Held names (name_of e)

  -- of a symbol that is an entry
  abbrev pub HeldWhere : InputSymbol → Type 0
  HeldWhere e = is_entry e ≡ true → Held names (name_of e)

  held_kept : (test : InputSymbol → Bool) (es : List InputSymbol) → AllByRecursion HeldOf es → AllByRecursion HeldOf (filter test es)
  held_kept test [] all = tt
  held_kept test (e ∷ es) all = by (test e) all.0 (held_kept test es all.1)
    where
      by : (b : Bool) → HeldOf e → AllByRecursion HeldOf (filter test es) → AllByRecursion HeldOf (cond b (e ∷ filter test es) (filter test es))
      by true h rest = (h, rest)
      by false h rest = rest

  held_symbols : (objects : List Object) (o : Object) (p : ℕ) (ss : List Symbol) → All (Held names) (map symbol_name (filter is_entry_symbol ss))
      → AllByRecursion HeldWhere (entries_from objects o p ss)
  held_symbols objects o p [] all = tt
  held_symbols objects o p (s ∷ ss) all = by (is_entry_symbol s) refl (held_symbols objects o (p + 1) ss) all
    where
      by : (b : Bool) → is_entry_symbol s ≡ b → (All (Held names) (map symbol_name (filter is_entry_symbol ss)) → AllByRecursion HeldWhere (entries_from objects o (p + 1) ss)) → All (Held names) (map symbol_name (cond b (s ∷ filter is_entry_symbol ss) (filter is_entry_symbol ss)))
          → HeldWhere (entry_in objects o p s) × AllByRecursion HeldWhere (entries_from objects o (p + 1) ss)
      by true is again all = (
        λ entry. All-head (Held names) (symbol_name s) (map symbol_name (filter is_entry_symbol ss)) all,
        again (All-tail (Held names) (symbol_name s) (map symbol_name (filter is_entry_symbol ss)) all),
      )
      by false is again all = (λ entry. absurd (let f : false ≡ true = sym is ∙ entry in cc), again all)

  pub held_objects : (objects os : List Object) → All (λ o. All (Held names) (entry_names o)) os → AllByRecursion HeldWhere (flat_map (symbols_of objects) os)
  held_objects objects [] all = tt
  held_objects objects (o ∷ os) all =
      all_both HeldWhere (symbols_of objects o) (flat_map (symbols_of objects) os)
      (held_symbols objects o 0 o.symbols (All-head (λ o. All (Held names) (entry_names o)) o os all))
      (held_objects objects os (All-tail (λ o. All (Held names) (entry_names o)) o os all))

  held_entries : (es : List InputSymbol) → AllByRecursion HeldWhere es → AllByRecursion HeldOf (filter is_entry es)
  held_entries [] all = tt
  held_entries (e ∷ es) all = by (is_entry e) refl (held_entries es all.1)
    where
      by : (b : Bool) → is_entry e ≡ b → AllByRecursion HeldOf (filter is_entry es) → AllByRecursion HeldOf (cond b (e ∷ filter is_entry es) (filter is_entry es))
      by true is rest = (all.0 is, rest)
      by false is rest = rest

  held_made : (p : ℕ) (ms : List MadeSymbol) → All (Held names) (map (λ m. m.name) ms) → AllByRecursion HeldOf (made_from p ms)
  held_made p [] all = tt
  held_made p (m ∷ ms) all =
      (All-head (Held names) m.name (map (λ m. m.name) ms) all, held_made (p + 1) ms (All-tail (Held names) m.name (map (λ m. m.name) ms) all))

  pub entries_held : (mode : Mode) (objects : List Object) → All (Held names) (map (λ m. m.name) (made mode)) → All (λ o. All (Held names) (entry_names o)) objects → AllByRecursion HeldOf (entries mode objects)
  unfolding entries
  entries_held mode objects of_made of_symbols =
      all_both HeldOf (made_from 0 (made mode)) (filter is_entry (flat_map (symbols_of objects) objects)) (held_made 0 (made mode) of_made)
      (held_entries (flat_map (symbols_of objects) objects) (held_objects objects objects of_symbols))

  pub winners_held : (all : List InputSymbol) → AllByRecursion HeldOf all → AllByRecursion HeldOf (winners_of all)
  unfolding winners_of
  winners_held all held = held_kept (is_winner all) all held
