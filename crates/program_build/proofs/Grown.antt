-- Names of variants behind the others: what held of the names holds on.
use Rattle.std.proofs.Common.{◌≡◌, ℕ, zero, suc, ◌+◌, ◌-◌, ◌<◌, ◌≤◌, ◌^◌, Bool, true, false, cond, List, [], ◌∷◌, ◌++◌, filter, length, refl, sym, ap, subst, ◌∙◌, arith, inl, inr, ◌⊎◌, Option, Some, None, IsSome, slice_index_or}
use Rattle.std.specs.Prelude.{map, slice_get, if◌then◌else◌, option_map, bytes_eq, All}
use Rattle.std.specs.List.{list_any, IsDistinct}
use Rattle.std.proofs.lemmas.List.Elements.{All-append, All-cons, All-nil, All-head, All-tail}
use Rattle.loose_calls.specs.link_program.wl_base.Choice.{distinct, distinct_onto}
use Rattle.loose_calls.specs.link_program.wl_base.Names.{number_of}
use Rattle.loose_calls.specs.link_program.linking_section.declared.symbol.Symbol.{Symbol}
use Rattle.loose_calls.specs.link_program.object_file.declared.object.Object.{Object}
use Rattle.loose_calls.specs.link_program.made_symbols.declared.mode.Mode.{Mode}
use Rattle.loose_calls.specs.link_program.made_symbols.Made.{made}
use Rattle.loose_calls.specs.link_program.link_names.Numbered.{Numbered, AreNumbers, Held, Short, entry_names, group_names, is_entry_symbol, symbol_name, symbol_number}
use Rattle.loose_calls.specs.link_program.name_rules.Entries.{entries}
use Rattle.loose_calls.specs.link_program.name_rules.Meanings.{winner, least, entry_rank}
use Rattle.loose_calls.specs.link_program.name_entries.View.{WinnersAre, NonePast}
use Rattle.loose_calls.specs.link_program.name_entries.Fits.{IsTable}
use Rattle.loose_calls.specs.link_program.name_entries.Rows.{AreRows}
use Rattle.loose_calls.specs.link_program.name_entries.declared.table.EntryTable.{EntryTable}
use Rattle.link_names.specs.Interning.{more}
use Rattle.link_names.proofs.More.{numbers_stay}
use Rattle.link_names.proofs.Held.{more_distinct}
use Rattle.loose_calls.specs.Interned.{Stays}
use Rattle.loose_calls.proofs.Behind.{IsNot}
use Rattle.program_build.proofs.Named.{undefined}

none : IsSome {T = ℕ} None → ⊥
none h = cc

-- ---- numbers

module _ (old xs : List (List ℕ)) where
  abbrev new : List (List ℕ)
  new = more old xs

  same_number : (name : List ℕ) → Held old name → number_of old name ≡ number_of new name
  same_number name held = by (number_of old name) refl held
    where
      by : (o : Option ℕ) → number_of old name ≡ o → IsSome o → o ≡ number_of new name
      by None is some = absurd (none some)
      by (Some n) is some = sym (numbers_stay old xs name n is)

  still_held : (name : List ℕ) → Held old name → Held new name
  still_held name held = subst (λ (o : Option ℕ). IsSome o) (same_number name held) held

  all_held : (names : List (List ℕ)) → All (Held old) names → All (Held new) names
  all_held names h = λ k d lt. still_held (slice_index_or names k d) (h k d lt)

  lists_held : {A : Type 0} (f : A → List (List ℕ)) (os : List A) → All (λ o. All (Held old) (f o)) os → All (λ o. All (Held new) (f o)) os
  lists_held f os h = λ k d lt. all_held (f (slice_index_or os k d)) (h k d lt)

  map_held : {A : Type 0} (f : A → List ℕ) (os : List A) → All (Held old) (map f os) → map (λ o. number_of old (f o)) os ≡ map (λ o. number_of new (f o)) os
  map_held f [] h = refl
  map_held f (o ∷ os) h =
      let one = same_number (f o) (All-head (Held old) (f o) (map f os) h) in
      let rest = map_held f os (All-tail (Held old) (f o) (map f os) h) in
      λ i. one i ∷ rest i

  itself_held : (names : List (List ℕ)) → All (Held old) names → map (number_of old) names ≡ map (number_of new) names
  itself_held [] h = refl
  itself_held (n ∷ ns) h =
      let one = same_number n (All-head (Held old) n ns h) in
      let rest = itself_held ns (All-tail (Held old) n ns h) in
      λ i. one i ∷ rest i

  symbols_held : (ss : List Symbol) → All (Held old) (map symbol_name (filter is_entry_symbol ss)) → map (symbol_number old) ss ≡ map (symbol_number new) ss
  symbols_held [] h = refl
  symbols_held (s ∷ ss) h = by (is_entry_symbol s) h (λ h. symbols_held ss h)
    where
      by : (b : Bool) → All (Held old) (map symbol_name (cond b (s ∷ filter is_entry_symbol ss) (filter is_entry_symbol ss)))
          → (All (Held old) (map symbol_name (filter is_entry_symbol ss)) → map (symbol_number old) ss ≡ map (symbol_number new) ss)
          → (if b then number_of old (symbol_name s) else None) ∷ map (symbol_number old) ss ≡ (if b then number_of new (symbol_name s) else None) ∷ map (symbol_number new) ss
      by true h later =
          let one = same_number (symbol_name s) (All-head (Held old) (symbol_name s) (map symbol_name (filter is_entry_symbol ss)) h) in
          let rest = later (All-tail (Held old) (symbol_name s) (map symbol_name (filter is_entry_symbol ss)) h) in
          λ i. one i ∷ rest i
      by false h later = ap (λ l. None ∷ l) (later h)

  objects_held : (os : List Object) → All (λ o. All (Held old) (entry_names o)) os → map (λ (o : Object). map (symbol_number old) o.symbols) os ≡ map (λ (o : Object). map (symbol_number new) o.symbols) os
  objects_held [] h = refl
  objects_held (o ∷ os) h =
      let one = symbols_held o.symbols (All-head (λ o. All (Held old) (entry_names o)) o os h) in
      let rest = objects_held os (All-tail (λ o. All (Held old) (entry_names o)) o os h) in
      λ i. one i ∷ rest i

  groups_held : (os : List Object) → All (λ o. All (Held old) (group_names o)) os → map (λ o. map (number_of old) (group_names o)) os ≡ map (λ o. map (number_of new) (group_names o)) os
  groups_held [] h = refl
  groups_held (o ∷ os) h =
      let one = itself_held (group_names o) (All-head (λ o. All (Held old) (group_names o)) o os h) in
      let rest = groups_held os (All-tail (λ o. All (Held old) (group_names o)) o os h) in
      λ i. one i ∷ rest i

pub numbers_grown : (mode : Mode) (objects : List Object) (n m : Numbered) (xs : List (List ℕ)) → AreNumbers mode objects n → m.names ≡ more n.names xs → Stays n m → length m.names < 2 ^ 32 → AreNumbers mode objects m
numbers_grown mode objects n m xs are is stays few =
    record {
      differ = subst (IsDistinct bytes_eq) (sym is) (more_distinct n.names xs are.differ);
      few = few;
      made_held = subst (λ ns. All (Held ns) (map (λ m. m.name) (made mode))) (sym is) (all_held n.names xs (map (λ m. m.name) (made mode)) are.made_held);
      made = ap (map Some) stays.made ∙ are.made ∙ map_held n.names xs (λ m. m.name) (made mode) are.made_held ∙ ap (λ ns. map (λ m. number_of ns m.name) (made mode)) (sym is);
      symbols_held = subst (λ ns. All (λ o. All (Held ns) (entry_names o)) objects) (sym is) (lists_held n.names xs entry_names objects are.symbols_held);
      symbols = stays.symbols ∙ are.symbols ∙ objects_held n.names xs objects are.symbols_held ∙ ap (λ ns. map (λ (o : Object). map (symbol_number ns) o.symbols) objects) (sym is);
      short = subst (All (λ (numbers : List (Option ℕ)). Short numbers)) (sym stays.symbols) are.short;
      groups_held = subst (λ ns. All (λ o. All (Held ns) (group_names o)) objects) (sym is) (lists_held n.names xs group_names objects are.groups_held);
      groups = ap (map (map Some)) stays.groups ∙ are.groups ∙ groups_held n.names xs objects are.groups_held ∙ ap (λ ns. map (λ o. map (number_of ns) (group_names o)) objects) (sym is);
      groups_short = subst (All (λ (numbers : List ℕ). Short numbers)) (sym stays.groups) are.groups_short;
    }

pub table_grown : (objects : List Object) (n m : Numbered) (table : EntryTable) → Stays n m → IsTable objects n table → IsTable objects m table
table_grown objects n m table stays is = record { parts = is.parts; rows = subst (λ (s : List (List (Option ℕ))). AreRows objects s table.rows) (sym stays.symbols) is.rows }

-- ---- winners

all_once : (P : List ℕ → Type 0) (seen xs : List (List ℕ)) → All P seen → All P xs → All P (distinct_onto bytes_eq seen xs)
all_once P seen [] first all = first
all_once P seen (x ∷ xs) first all =
    by (list_any (bytes_eq x) seen) (all_once P seen xs first (All-tail P x xs all))
    (all_once P (seen ++ x ∷ []) xs (All-append P seen (x ∷ []) first (All-cons P x [] (All-head P x xs all) (All-nil P))) (All-tail P x xs all))
  where
    by : (b : Bool) → All P (distinct_onto bytes_eq seen xs) → All P (distinct_onto bytes_eq (seen ++ x ∷ []) xs) → All P (distinct_onto bytes_eq (if b then seen else seen ++ x ∷ []) xs)
    by true here there = here
    by false here there = there

place_in : {A : Type 0} (xs ys : List A) (i : ℕ) (x : A) → slice_get (xs ++ ys) i ≡ Some x → (slice_get xs i ≡ Some x) ⊎ ((length xs ≤ i) × ((j : ℕ) × (slice_get ys j ≡ Some x)))
place_in [] ys i x at = inr (let z : 0 ≤ i = omega arith in z, (i, at))
place_in (y ∷ xs) ys zero x at = inl at
place_in {A} (y ∷ xs) ys (suc i) x at = elim (place_in xs ys i x at) as (λ _. (slice_get (y ∷ xs) (suc i) ≡ Some x) ⊎ ((length (y ∷ xs) ≤ suc i) × ((j : ℕ) × (slice_get ys j ≡ Some x)))) [
  | inl h ↦ inl h
  | inr h ↦ inr (let low = h.0 in let z : length (y ∷ xs) ≤ suc i = omega (arith, low) in z, h.1)
]

all_at : {A : Type 0} (P : A → Type 0) (xs : List A) (i : ℕ) (x : A) → All P xs → slice_get xs i ≡ Some x → P x
all_at P [] i x all at = absurd cc
all_at P (y ∷ xs) zero x all at = let same : y ≡ x = cc in subst P same (All-head P y xs all)
all_at P (y ∷ xs) (suc i) x all at = all_at P xs i x (All-tail P y xs all) at

pub winners_grown : (mode : Mode) (objects : List Object) (n m : Numbered) (xs : List (List ℕ)) (ranks : List (Option ℕ)) → AreNumbers mode objects n → m.names ≡ n.names ++ distinct bytes_eq xs → All (IsNot n.names) xs
    → NonePast (length n.names) ranks → WinnersAre n.names (entries mode objects) ranks → WinnersAre m.names (entries mode objects) ranks
winners_grown mode objects n m xs ranks numbers is apart past won i name at =
    elim (place_in n.names (distinct bytes_eq xs) i name (ap (λ l. slice_get l i) (sym is) ∙ at)) as (λ _. slice_index_or ranks i None ≡ option_map entry_rank (winner (entries mode objects) name)) [
      | inl h ↦ won i name h
      | inr h ↦
          let not : IsNot n.names name = all_at (IsNot n.names) (distinct bytes_eq xs) h.1.0 name (all_once (IsNot n.names) [] xs (All-nil (IsNot n.names)) apart) h.1.1 in
          past i h.0 ∙ sym (ap (λ es. option_map entry_rank (least es)) (undefined mode objects n name numbers not))
    ]
