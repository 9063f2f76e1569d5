-- The column of the least entries of names tells them.
use Rattle.std.proofs.Common.{◌≡◌, ℕ, zero, suc, ◌+◌, ◌<◌, ◌==◌, Bool, true, false, ◌&&◌, cond, List, [], ◌∷◌, ◌++◌, map, filter, flat_map, length, slice_get, get_or, set, replicate, Option, Some, None, option_map, unwrap_or, refl, sym, ap, subst, ◌∙◌, arith, append_assoc, append-nil, length-set, get_or-set_same, get_or-set_other}
use Rattle.std.specs.Prelude.{if◌then◌else◌, bytes_eq, find}
use Rattle.std.specs.Option.{option_or}
use Rattle.std.specs.List.{list_any}
use Rattle.std.proofs.lemmas.Bool.Decides.{nat_tests}
use Rattle.std.proofs.lemmas.List.Elements.{filter-append}
use Rattle.std.proofs.lemmas.List.Folds.{find-append}
use Rattle.std.proofs.lemmas.List.Quantifiers.{position-Some}
use Rattle.std.proofs.lemmas.List.{length-replicate}
use Rattle.std.proofs.lemmas.Option.{slice_get-map, get_or_from_slice_get, slice_get_within}
use Rattle.link_program.specs.wl_base.Names.{number_of}
use Rattle.link_program.specs.linking_section.declared.symbol.Symbol.{Symbol}
use Rattle.link_program.specs.object_file.declared.object.Object.{Object}
use Rattle.link_program.specs.name_rules.Entries.{InputSymbol, is_entry, is_named, name_of, symbols_of, entries_from, entry_in}
use Rattle.link_program.specs.name_entries.View.{rows_of, entry_at, entry_number}
use Rattle.link_program.specs.link_names.Numbered.{is_entry_symbol, symbol_number}
use Rattle.link_keys.specs.declared.firsts.At.{At}
use Rattle.link_keys.specs.Firsts.{first_kept, first_at, firsts_row, firsts_rows}
use Rattle.link_keys.proofs.Equals.{OnePlace, Holds, holds_at, stands, same_number, same_sym, position_held, none_past}
use Rattle.link_keys.proofs.Imports.{name_equal, name_itself}

abbrev names_one : List (List ℕ) → Type 0
names_one names = OnePlace bytes_eq name_equal name_itself names

-- the least entry of a name among symbols
abbrev pub least_of : List InputSymbol → List ℕ → Option InputSymbol
least_of es name = find (is_named name) (filter is_entry es)

-- The column of these symbols.
pub record AreFirsts (names : List (List ℕ)) (objects : List Object) (es : List InputSymbol) (column : List (Option At)) : Type 0 where
  pub count : length column ≡ length names
  pub each : (i : ℕ) (name : List ℕ) → slice_get names i ≡ Some name → option_map (λ at. entry_at objects at.object at.place) (get_or column i None) ≡ option_map Some (least_of es name)

least_more : (es : List InputSymbol) (e : InputSymbol) (name : List ℕ) → least_of (es ++ e ∷ []) name ≡ option_or (least_of es name) (find (is_named name) (cond (is_entry e) (e ∷ []) []))
least_more es e name = ap (find (is_named name)) (filter-append is_entry es (e ∷ [])) ∙ find-append (is_named name) (filter is_entry es) (cond (is_entry e) (e ∷ []) [])

-- what one symbol more is for a name
one_least : (e : InputSymbol) (name : List ℕ) (r s : Bool) → is_entry e ≡ r → is_named name e ≡ s → find (is_named name) (cond (is_entry e) (e ∷ []) []) ≡ (if r && s then Some e else None)
one_least e name true true a b = rw (a, b) refl
one_least e name true false a b = rw (a, b) refl
one_least e name false s a b = rw a refl

or_none : {A : Type 0} (o : Option A) → option_or o None ≡ o
or_none None = refl
or_none (Some a) = refl

none_of : {A : Type 0} (o : Option A) → option_map Some o ≡ None → o ≡ None
none_of None e = refl
none_of (Some a) e = absurd cc

first_stays : {A : Type 0} (o p : Option A) (x : Option A) → Some x ≡ option_map Some o → option_or o p ≡ o
first_stays None p x e = absurd cc
first_stays (Some a) p x e = refl

blank_at : (n i : ℕ) → get_or (replicate {A = Option At} n None) i None ≡ None
blank_at zero i = refl
blank_at (suc n) zero = refl
blank_at (suc n) (suc i) = blank_at n i

number_inside : (names : List (List ℕ)) (e : InputSymbol) (n : ℕ) → entry_number names e ≡ Some n → n < length names
number_inside names e n number = by_entry (is_entry e) refl
  where
    by_entry : (r : Bool) → is_entry e ≡ r → n < length names
    by_entry false a = absurd (let f : None ≡ Some n = sym (ap (λ b. if b then number_of names (name_of e) else None) a) ∙ number in cc)
    by_entry true a =
        let found : number_of names (name_of e) ≡ Some n = sym (ap (λ b. if b then number_of names (name_of e) else None) a) ∙ number in
        (position-Some (bytes_eq (name_of e)) names n [] found).0

module _ (names : List (List ℕ)) (one : names_one names) (objects : List Object) where
  abbrev seen : Option At → Option (Option InputSymbol)
  seen o = option_map (λ at. entry_at objects at.object at.place) o

  -- a name that the symbol isn't an entry of
  others : (es : List InputSymbol) (e : InputSymbol) (name : List ℕ) → (if is_entry e then is_named name e else false) ≡ false → least_of (es ++ e ∷ []) name ≡ least_of es name
  others es e name no_entry = least_more es e name ∙ by_entry (is_entry e) (is_named name e) refl refl
    where
      by_entry : (r s : Bool) → is_entry e ≡ r → is_named name e ≡ s → option_or (least_of es name) (find (is_named name) (cond (is_entry e) (e ∷ []) [])) ≡ least_of es name
      by_entry true true a b = absurd (let t : (if is_entry e then is_named name e else false) ≡ true = rw (a, b) refl in let f : true ≡ false = sym t ∙ no_entry in cc)
      by_entry true false a b = ap (option_or (least_of es name)) (one_least e name true false a b) ∙ or_none (least_of es name)
      by_entry false s a b = ap (option_or (least_of es name)) (one_least e name false s a b) ∙ or_none (least_of es name)

  -- ---- one symbol more

  -- a symbol without a number is no entry of a name that has one
  unnumbered : (e : InputSymbol) (i : ℕ) (name : List ℕ) → slice_get names i ≡ Some name → entry_number names e ≡ None → (if is_entry e then is_named name e else false) ≡ false
  unnumbered e i name at none = by_entry (is_entry e) (is_named name e) refl refl
    where
      by_entry : (r s : Bool) → is_entry e ≡ r → is_named name e ≡ s → (if r then s else false) ≡ false
      by_entry true true a b =
          let held : list_any (bytes_eq (name_of e)) names ≡ true = subst (λ n. list_any (bytes_eq n) names ≡ true) (sym (name_equal (name_of e) name b)) (holds_at bytes_eq name_equal name_itself names i name at) in
          let s = stands bytes_eq name_equal name_itself names (name_of e) held in
          let number : entry_number names e ≡ Some s.at = rw a s.found in
          absurd (let f : None ≡ Some s.at = sym none ∙ number in cc)
      by_entry true false a b = refl
      by_entry false s a b = refl

  -- a symbol with a number is an entry of the name that has it, and of no other
  numbered : (e : InputSymbol) (n : ℕ) → entry_number names e ≡ Some n → (i : ℕ) (name : List ℕ) → slice_get names i ≡ Some name → (is_entry e ≡ true) × (is_named name e ≡ (n == i))
  numbered e n number i name at = by_entry (is_entry e) refl
    where
      by_number : number_of names (name_of e) ≡ Some n → is_named name e ≡ (n == i)
      by_number found =
          let held : list_any (bytes_eq (name_of e)) names ≡ true = position_held bytes_eq name_equal name_itself names (name_of e) n found in
          sym (ap (λ o. unwrap_or o 0 == i) (sym found) ∙ same_number bytes_eq name_equal name_itself names i name (name_of e) one at held ∙ same_sym bytes_eq name_equal name_itself name (name_of e))

      by_entry : (r : Bool) → is_entry e ≡ r → (r ≡ true) × (is_named name e ≡ (n == i))
      by_entry false a = absurd (let f : None ≡ Some n = sym (ap (λ b. if b then number_of names (name_of e) else None) a) ∙ number in cc)
      by_entry true a = (refl, by_number (sym (ap (λ b. if b then number_of names (name_of e) else None) a) ∙ number))

  module _ (es : List InputSymbol) (e : InputSymbol) (at : At) (there : entry_at objects at.object at.place ≡ Some e) (column : List (Option At)) (are : AreFirsts names objects es column) where
    more_none : entry_number names e ≡ None → AreFirsts names objects (es ++ e ∷ []) column
    more_none none = record {
      count = are.count;
      each = λ i name at_name. are.each i name at_name ∙ ap (option_map Some) (sym (others es e name (unnumbered e i name at_name none)));
    }

    -- the symbol is the first one of its name
    new_each : (n : ℕ) → entry_number names e ≡ Some n → get_or column n None ≡ None → n < length column → (i : ℕ) (name : List ℕ) → slice_get names i ≡ Some name
        → seen (get_or (set column n (Some at)) i None) ≡ option_map Some (least_of (es ++ e ∷ []) name)
    new_each n number free below i name at_name = by_place (n == i) refl
      where
        by_place : (r : Bool) → (n == i) ≡ r → seen (get_or (set column n (Some at)) i None) ≡ option_map Some (least_of (es ++ e ∷ []) name)
        by_place true is =
            let same : n ≡ i = grind (arith, nat_tests) in
            let k = numbered e n number i name at_name in
            let old : option_map Some (least_of es name) ≡ None = sym (are.each i name at_name) ∙ ap seen (ap (λ j. get_or column j None) (sym same) ∙ free) in
            let none : least_of es name ≡ None = none_of (least_of es name) old in
            ap seen (ap (λ j. get_or (set column n (Some at)) j None) (sym same) ∙ get_or-set_same column n (Some at) None below)
            ∙ ap Some there
            ∙ sym (ap (option_map Some) (least_more es e name ∙ ap (λ o. option_or o (find (is_named name) (cond (is_entry e) (e ∷ []) []))) none ∙ one_least e name true true k.0 (k.1 ∙ is)))
        by_place false is =
            let apart : i ≡ n → ⊥ = λ same. let back : n ≡ i = sym same in grind (arith, nat_tests) in
            let k = numbered e n number i name at_name in
            ap seen (get_or-set_other column n i (Some at) None apart)
            ∙ are.each i name at_name
            ∙ ap (option_map Some) (sym (others es e name (rw k.0 (k.1 ∙ is))))

    -- another symbol of its name came before
    old_each : (n : ℕ) (x : At) → entry_number names e ≡ Some n → get_or column n None ≡ Some x → (i : ℕ) (name : List ℕ) → slice_get names i ≡ Some name
        → seen (get_or column i None) ≡ option_map Some (least_of (es ++ e ∷ []) name)
    old_each n x number taken i name at_name = by_place (n == i) refl
      where
        by_place : (r : Bool) → (n == i) ≡ r → seen (get_or column i None) ≡ option_map Some (least_of (es ++ e ∷ []) name)
        by_place true is =
            let same : n ≡ i = grind (arith, nat_tests) in
            let old : Some (entry_at objects x.object x.place) ≡ option_map Some (least_of es name) = ap seen (sym taken ∙ ap (λ j. get_or column j None) same) ∙ are.each i name at_name in
            are.each i name at_name ∙ ap (option_map Some) (sym (least_more es e name ∙ first_stays (least_of es name) (find (is_named name) (cond (is_entry e) (e ∷ []) [])) (entry_at objects x.object x.place) old))
        by_place false is =
            let k = numbered e n number i name at_name in
            are.each i name at_name ∙ ap (option_map Some) (sym (others es e name (rw k.0 (k.1 ∙ is))))

    -- The column with the symbol.
    pub symbol_noted : AreFirsts names objects (es ++ e ∷ []) (first_at column at (entry_number names e))
    symbol_noted = by_number (entry_number names e) refl
      where
        by_slot : (n : ℕ) (o : Option (Option At)) → entry_number names e ≡ Some n → slice_get column n ≡ o → AreFirsts names objects (es ++ e ∷ []) (first_kept column at n o)
        by_slot n None number slot =
            let inside : n < length names = number_inside names e n number in
            absurd (let past = none_past column n slot in let c = are.count in omega arith)
        by_slot n (Some None) number slot = record {
          count = length-set column n (Some at) ∙ are.count;
          each = new_each n number (get_or_from_slice_get column n None None slot) (slice_get_within column n None slot);
        }
        by_slot n (Some (Some x)) number slot = record {
          count = are.count;
          each = old_each n x number (get_or_from_slice_get column n (Some x) None slot);
        }

        by_number : (o : Option ℕ) → entry_number names e ≡ o → AreFirsts names objects (es ++ e ∷ []) (first_at column at o)
        by_number None is = more_none is
        by_number (Some n) is = by_slot n (slice_get column n) is refl

  -- ---- the symbols of an object

  abbrev Placed : ℕ → ℕ → List InputSymbol → Type 0
  Placed object place es = (k : ℕ) (e : InputSymbol) → slice_get es k ≡ Some e → entry_at objects object (place + k) ≡ Some e

  row_noted : (o : Object) (object place : ℕ) (ss : List Symbol) (es : List InputSymbol) (column : List (Option At)) → Placed object place (entries_from objects o place ss) → AreFirsts names objects es column
      → AreFirsts names objects (es ++ entries_from objects o place ss) (firsts_row object place column (map (symbol_number names) ss))
  row_noted o object place [] es column placed are = subst (λ xs. AreFirsts names objects xs column) (sym (append-nil es)) are
  row_noted o object place (s ∷ ss) es column placed are =
      let e : InputSymbol = entry_in objects o place s in
      let at : At = record { object = object; place = place } in
      let zero_place : place + 0 ≡ place = omega arith in
      let there : entry_at objects object place ≡ Some e = ap (entry_at objects object) (sym zero_place) ∙ placed 0 e refl in
      let rest : Placed object (place + 1) (entries_from objects o (place + 1) ss) = λ k x is. let moved : place + 1 + k ≡ place + suc k = omega arith in ap (entry_at objects object) moved ∙ placed (suc k) x is in
      subst (λ xs. AreFirsts names objects xs (firsts_row object (place + 1) (first_at column at (symbol_number names s)) (map (symbol_number names) ss)))
      (append_assoc es (e ∷ []) (entries_from objects o (place + 1) ss))
      (row_noted o object (place + 1) ss (es ++ e ∷ []) (first_at column at (symbol_number names s)) rest (symbol_noted es e at there column are))

  -- ---- all objects

  rows_noted : (os : List Object) (object : ℕ) (es : List InputSymbol) (column : List (Option At)) → ((k : ℕ) (o : Object) → slice_get os k ≡ Some o → slice_get objects (object + k) ≡ Some o) → AreFirsts names objects es column
      → AreFirsts names objects (es ++ flat_map (symbols_of objects) os) (firsts_rows object column (map (λ (o : Object). map (symbol_number names) o.symbols) os))
  rows_noted [] object es column placed are = subst (λ xs. AreFirsts names objects xs column) (sym (append-nil es)) are
  rows_noted (o ∷ os) object es column placed are =
      let zero_place : object + 0 ≡ object = omega arith in
      let here_is : slice_get objects object ≡ Some o = ap (slice_get objects) (sym zero_place) ∙ placed 0 o refl in
      let rest : (k : ℕ) (x : Object) → slice_get os k ≡ Some x → slice_get objects (object + 1 + k) ≡ Some x = λ k x is. let moved : object + 1 + k ≡ object + suc k = omega arith in ap (slice_get objects) moved ∙ placed (suc k) x is in
      let row : get_or (rows_of objects) object [] ≡ symbols_of objects o = get_or_from_slice_get (rows_of objects) object (symbols_of objects o) [] (slice_get-map (symbols_of objects) objects object ∙ ap (option_map (symbols_of objects)) here_is) in
      let inside : Placed object 0 (entries_from objects o 0 o.symbols) = λ k e is. let plain : 0 + k ≡ k = omega arith in ap (entry_at objects object) plain ∙ ap (λ r. slice_get r k) row ∙ is in
      subst (λ xs. AreFirsts names objects xs (firsts_rows (object + 1) (firsts_row object 0 column (map (symbol_number names) o.symbols)) (map (λ (o : Object). map (symbol_number names) o.symbols) os)))
      (append_assoc es (symbols_of objects o) (flat_map (symbols_of objects) os))
      (rows_noted os (object + 1) (es ++ symbols_of objects o) (firsts_row object 0 column (map (symbol_number names) o.symbols)) rest (row_noted o object 0 o.symbols es column inside are))

  -- The whole column.
  pub all_noted : AreFirsts names objects (flat_map (symbols_of objects) objects) (firsts_rows 0 (replicate (length names) None) (map (λ (o : Object). map (symbol_number names) o.symbols) objects))
  all_noted = rows_noted objects 0 [] (replicate (length names) None) (λ k o is. let plain : 0 + k ≡ k = omega arith in ap (slice_get objects) plain ∙ is)
      (record { count = length-replicate (length names) None; each = λ i name at. ap seen (blank_at (length names) i) })
