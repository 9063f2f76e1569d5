-- Whether an object has an entry of a name, by the numbers of names.
use Rattle.std.proofs.Common.{◌≡◌, ℕ, ◌+◌, ◌<◌, ◌==◌, Bool, true, false, not, cond, ◌&&◌, ◌||◌, List, [], ◌∷◌, filter, map, refl, sym, ap, ◌∙◌, arith, Option, Some, None, eq-eqb, ne_eqb}
use Rattle.std.specs.Prelude.{flat_map, bytes_eq, slice_get}
use Rattle.std.specs.List.{list_any}
use Rattle.std.proofs.lemmas.List.Folds.{list_any-append}
use Rattle.std.proofs.lemmas.Option.{same_Some}
use Rattle.std.proofs.lemmas.Slice.Eq.{bytes_eq-Decides}
use Rattle.link_marks.specs.link_program.wl_base.Names.{number_of}
use Rattle.link_marks.specs.link_program.linking_section.declared.symbol.Symbol.{Symbol}
use Rattle.link_marks.specs.link_program.object_file.declared.object.Object.{Object}
use Rattle.link_marks.specs.link_program.made_symbols.declared.mode.Mode.TheVariants.{Plain}
use Rattle.link_marks.specs.link_program.made_symbols.Made.{MadeSymbol, made}
use Rattle.link_marks.specs.link_program.link_names.Numbered.{Numbered, is_entry_symbol, symbol_name, symbol_number}
use Rattle.link_marks.specs.link_program.name_rules.Entries.{InputSymbol, entries, entries_from, symbols_of, made_from, is_entry, is_named}
use Rattle.link_marks.specs.link_program.name_entries.View.{InputsRise, is_number}
use Rattle.link_marks.proofs.link_program_lemmas.name_entries_lemmas.Numbered.{named_by}

any_filter : {A : Type 0} (f g : A → Bool) (xs : List A) → list_any f (filter g xs) ≡ list_any (λ x. g x && f x) xs
any_filter f g [] = refl
any_filter {A} f g (x ∷ xs) = by (g x) (any_filter f g xs)
  where
    by : (b : Bool) → list_any f (filter g xs) ≡ list_any (λ x. g x && f x) xs → list_any f (cond b (x ∷ filter g xs) (filter g xs)) ≡ ((b && f x) || list_any (λ x. g x && f x) xs)
    by true rest = ap (λ b. f x || b) rest
    by false rest = rest

module _ (names : List (List ℕ)) (name : List ℕ) where
  -- whether an object has an entry of the name
  abbrev pub names_it : InputSymbol → Bool
  names_it e = not (e.input == 0) && is_named name e

  none_made : (place : ℕ) (ms : List MadeSymbol) → list_any names_it (made_from place ms) ≡ false
  none_made place [] = refl
  none_made place (m ∷ ms) = none_made (place + 1) ms

  module _ (number : ℕ) (at : number_of names name ≡ Some number) where
    number_is : (s : List ℕ) → is_number number (number_of names s) ≡ bytes_eq s name
    number_is s = by (bytes_eq s name) refl
      where
        by : (b : Bool) → bytes_eq s name ≡ b → is_number number (number_of names s) ≡ b
        by true same = ap (is_number number) (ap (number_of names) ((bytes_eq-Decides s name).0 same) ∙ at) ∙ eq-eqb number number refl
        by false not = found (number_of names s) refl
          where
            found : (o : Option ℕ) → number_of names s ≡ o → is_number number o ≡ false
            found None is = refl
            found (Some k) is = ne_eqb k number (λ same.
                let equal : s ≡ name = same_Some s name (sym (named_by names s k is) ∙ ap (slice_get names) same ∙ named_by names name number at) in
                let e : true ≡ false = sym ((bytes_eq-Decides s name).1 equal) ∙ not in
                absurd (let f : ⊥ = cc in f))

    symbols_name : (objects : List Object) (o : Object) (k : ℕ) (ss : List Symbol) → 0 < o.input
        → list_any (λ e. is_entry e && names_it e) (entries_from objects o k ss) ≡ list_any (is_number number) (map (symbol_number names) ss)
    symbols_name objects o k [] some = refl
    symbols_name objects o k (s ∷ ss) some =
        let input : (o.input == 0) ≡ false = ne_eqb o.input 0 (λ e. let z = e in omega (arith, z, some)) in
        let rest = symbols_name objects o (k + 1) ss some in
        (λ i. (is_entry_symbol s && (not (input i) && bytes_eq (symbol_name s) name)) || rest i) ∙ by (is_entry_symbol s) (number_is (symbol_name s))
      where
        by : (b : Bool) → is_number number (number_of names (symbol_name s)) ≡ bytes_eq (symbol_name s) name
            → ((b && bytes_eq (symbol_name s) name) || list_any (is_number number) (map (symbol_number names) ss)) ≡ (is_number number (cond b (number_of names (symbol_name s)) None) || list_any (is_number number) (map (symbol_number names) ss))
        by true is = ap (λ b. b || list_any (is_number number) (map (symbol_number names) ss)) (sym is)
        by false is = refl

    objects_name : (objects os : List Object) (last : ℕ) → InputsRise last os → list_any (λ e. is_entry e && names_it e) (flat_map (symbols_of objects) os)
        ≡ list_any (λ row. list_any (is_number number) row) (map (λ (o : Object). map (symbol_number names) o.symbols) os)
    objects_name objects [] last rise = refl
    objects_name objects (o ∷ os) last rise =
        let above = rise.0 in
        let some : 0 < o.input = omega (arith, above) in
        list_any-append (λ e. is_entry e && names_it e) (symbols_of objects o) (flat_map (symbols_of objects) os)
        ∙ (λ i. symbols_name objects o 0 o.symbols some i || objects_name objects os o.input rise.2 i)

    pub entries_name : (objects : List Object) (n : Numbered) → n.symbols ≡ map (λ (o : Object). map (symbol_number names) o.symbols) objects → InputsRise 0 objects
        → list_any names_it (entries Plain objects) ≡ list_any (λ row. list_any (is_number number) row) n.symbols
    unfolding entries
    entries_name objects n is rise =
        list_any-append names_it (made_from 0 (made Plain)) (filter is_entry (flat_map (symbols_of objects) objects))
        ∙ ap (λ b. b || list_any names_it (filter is_entry (flat_map (symbols_of objects) objects))) (none_made 0 (made Plain))
        ∙ any_filter names_it is_entry (flat_map (symbols_of objects) objects)
        ∙ objects_name objects objects 0 rise
        ∙ ap (list_any (λ row. list_any (is_number number) row)) (sym is)
