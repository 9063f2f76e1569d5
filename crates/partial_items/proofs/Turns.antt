-- Loops over objects, groups and parts: what is left gives what the whole gives.
use Rattle.std.proofs.Common.{◌≡◌, ℕ, zero, suc, ◌+◌, ◌<◌, ◌≤◌, true, false, List, [], ◌∷◌, ◌++◌, map, fold, take, drop, length, get_or, slice_get, Option, Some, None, option_map, refl, sym, ap, ◌∙◌, arith, append_assoc, append-nil}
use Rattle.std.specs.Prelude.{if◌then◌else◌}
use Rattle.std.specs.List.{cons_option}
use Rattle.std.proofs.lemmas.List.{take_all, take_more, map-append, length-map}
use Rattle.std.proofs.lemmas.Option.{none-some, slice_get_within, get_or_from_slice_get}
use Rattle.std.proofs.Math.ListN.{drop_of_length-le}
use Rattle.partial_tree.specs.link_program.linking_section.declared.group.Member.{Member}
use Rattle.partial_tree.specs.link_program.linking_section.declared.group.Group.{Group}
use Rattle.partial_tree.specs.link_program.wasm_types.declared.import.Import.{Import}
use Rattle.partial_tree.specs.link_program.linking_section.declared.symbol.SymbolKind.TheVariants.{Function}
use Rattle.partial_tree.specs.link_program.object_file.declared.object.Object.{Object}
use Rattle.partial_tree.specs.link_program.object_file.Spaces.{function_imports}
use Rattle.partial_tree.specs.link_program.name_entries.declared.parts.ObjectParts.{ObjectParts}
use Rattle.partial_tree.specs.link_program.name_entries.Parts.{AreParts}
use Rattle.partial_tree.specs.link_program.name_rules.Entries.{is_input}
use Rattle.partial_items.specs.declared.groups.GroupAt.{GroupAt}
use Rattle.partial_items.specs.declared.groups.Owner.{Owner}
use Rattle.partial_items.specs.Groups.{offered, offered_from, Places, Won, with_group, with_offer, with_groups, owner_of, with_objects, group_with, group_there, rows_from}

dropped_at : {A : Type 0} (xs : List A) (i : ℕ) (x : A) → slice_get xs i ≡ Some x → drop i xs ≡ x ∷ drop (i + 1) xs
dropped_at [] i x at = absurd (none-some x at)
dropped_at (y ∷ xs) zero x at = let same : y ≡ x = cc in ap (λ z. z ∷ xs) same
dropped_at {A} (y ∷ xs) (suc i) x at =
    let moved : suc (i + 1) ≡ suc i + 1 = omega arith in
    dropped_at xs i x at ∙ ap (λ k. x ∷ drop {A = A} k (y ∷ xs)) moved

dropped_none : {A : Type 0} (xs : List A) (i : ℕ) → slice_get xs i ≡ None → drop i xs ≡ []
dropped_none [] zero none = refl
dropped_none [] (suc i) none = refl
dropped_none (x ∷ xs) zero none = absurd (none-some x (sym none))
dropped_none (x ∷ xs) (suc i) none = dropped_none xs i none

past_end : {A : Type 0} (xs : List A) (i : ℕ) → slice_get xs i ≡ None → length xs ≤ i
past_end [] i none = omega arith
past_end (x ∷ xs) zero none = absurd (none-some x (sym none))
past_end (x ∷ xs) (suc i) none = let r = past_end xs i none in omega (arith, r)

next : {A : Type 0} (xs : List A) (i : ℕ) (d : A) → i < length xs → drop i xs ≡ get_or xs i d ∷ drop (i + 1) xs
next [] i d lt = absurd (omega (arith, lt))
next (x ∷ xs) zero d lt = refl
next {A} (x ∷ xs) (suc i) d lt =
    let moved : suc (i + 1) ≡ suc i + 1 = omega arith in
    next xs i d (omega (arith, lt)) ∙ ap (λ k. get_or xs i d ∷ drop {A = A} k (x ∷ xs)) moved

-- ---- what objects offer

fold_append : {A C : Type 0} (g : C → A → C) (c : C) (xs ys : List A) → fold g c (xs ++ ys) ≡ fold g (fold g c xs) ys
fold_append g c [] ys = refl
fold_append g c (x ∷ xs) ys = fold_append g (g c x) xs ys

pub offer_more : (input : ℕ) (first : List (Option ℕ)) (ns : List ℕ) (i n : ℕ) (old new : List (Option ℕ)) → slice_get ns i ≡ Some n → new ≡ offered input old n → old ≡ fold (offered input) first (take i ns)
    → new ≡ fold (offered input) first (take (i + 1) ns)
offer_more input first ns i n old new at step so_far =
    step
    ∙ (ap (λ c. offered input c n) so_far
    ∙ sym (ap (fold (offered input) first) (take_more ns i n (slice_get_within ns i n at) ∙ ap (λ m. take i ns ++ m ∷ []) (get_or_from_slice_get ns i n n at)) ∙ fold_append (offered input) first (take i ns) (n ∷ [])))

pub offers_end : (input : ℕ) (first : List (Option ℕ)) (ns : List ℕ) (i : ℕ) (old : List (Option ℕ)) → length ns ≤ i → old ≡ fold (offered input) first (take i ns) → old ≡ fold (offered input) first ns
offers_end input first ns i old past so_far = so_far ∙ ap (fold (offered input) first) (take_all i ns past)

pub no_offer : (input : ℕ) (first : List (Option ℕ)) (ns : List ℕ) (i : ℕ) (old : List (Option ℕ)) → slice_get ns i ≡ None → old ≡ fold (offered input) first (take i ns) → old ≡ fold (offered input) first ns
no_offer input first ns i old none so_far = so_far ∙ ap (fold (offered input) first) (take_all i ns (past_end ns i none))

pub objects_offer : (rows : List (List ℕ)) (objects : List Object) (i : ℕ) (o : Object) (old new whole : List (Option ℕ)) → slice_get objects i ≡ Some o → new ≡ fold (offered o.input) old (get_or rows i [])
    → offered_from rows i old (drop i objects) ≡ whole → offered_from rows (i + 1) new (drop (i + 1) objects) ≡ whole
objects_offer rows objects i o old new whole at step so_far =
    ap (λ c. offered_from rows (i + 1) c (drop (i + 1) objects)) step ∙ (sym (ap (offered_from rows i old) (dropped_at objects i o at)) ∙ so_far)

pub objects_offered : (rows : List (List ℕ)) (objects : List Object) (i : ℕ) (old whole : List (Option ℕ)) → length objects ≤ i → offered_from rows i old (drop i objects) ≡ whole → old ≡ whole
objects_offered rows objects i old whole past so_far = sym (ap (offered_from rows i old) (drop_of_length-le objects past)) ∙ so_far

pub none_offers : (rows : List (List ℕ)) (objects : List Object) (i : ℕ) (old whole : List (Option ℕ)) → slice_get objects i ≡ None → offered_from rows i old (drop i objects) ≡ whole → old ≡ whole
none_offers rows objects i old whole none so_far = sym (ap (offered_from rows i old) (dropped_none objects i none)) ∙ so_far

-- ---- the groups of an object

-- how many functions an object imports
pub imports_counted : (objects : List Object) (parts : List ObjectParts) (i : ℕ) (o : Object) (own : ObjectParts) → AreParts objects parts → slice_get objects i ≡ Some o → slice_get parts i ≡ Some own
    → length own.imports.functions ≡ length (function_imports o)
imports_counted objects parts i o own are at there =
    let same = (are.each i o own at there).imports Function in
    sym (length-map own.imports.functions (slice_get o.imports)) ∙ (ap length same ∙ length-map (function_imports o) (λ (x : Import). Some x))

module _ (l : Places) (winners : List (Option ℕ)) (o : Owner) (gs : List Group) (ns : List ℕ) where
  pub one_group : (old new whole : Won) (i : ℕ) (g : Group) (n : ℕ) → slice_get gs i ≡ Some g → slice_get ns i ≡ Some n → new ≡ with_offer l winners o old i g n
      → with_groups l winners o old i (drop i gs) (drop i ns) ≡ whole → with_groups l winners o new (i + 1) (drop (i + 1) gs) (drop (i + 1) ns) ≡ whole
  one_group old new whole i g n here there step so_far =
      let a = dropped_at gs i g here in
      let b = dropped_at ns i n there in
      ap (λ w. with_groups l winners o w (i + 1) (drop (i + 1) gs) (drop (i + 1) ns)) step ∙ (sym (λ j. with_groups l winners o old i (a j) (b j)) ∙ so_far)

  no_numbers : (w : Won) (i : ℕ) (xs : List Group) → with_groups l winners o w i xs [] ≡ w
  no_numbers w i [] = refl
  no_numbers w i (x ∷ xs) = refl

  pub no_group : (old whole : Won) (i : ℕ) → slice_get gs i ≡ None → with_groups l winners o old i (drop i gs) (drop i ns) ≡ whole → old ≡ whole
  no_group old whole i none so_far = sym (ap (λ xs. with_groups l winners o old i xs (drop i ns)) (dropped_none gs i none)) ∙ so_far

  pub no_number : (old whole : Won) (i : ℕ) → slice_get ns i ≡ None → with_groups l winners o old i (drop i gs) (drop i ns) ≡ whole → old ≡ whole
  no_number old whole i none so_far =
      sym (ap (with_groups l winners o old i (drop i gs)) (dropped_none ns i none) ∙ no_numbers old i (drop i gs)) ∙ so_far

  pub groups_end : (old whole : Won) (i : ℕ) → length ns ≤ i → with_groups l winners o old i (drop i gs) (drop i ns) ≡ whole → old ≡ whole
  groups_end old whole i past so_far =
      sym (ap (with_groups l winners o old i (drop i gs)) (drop_of_length-le ns past) ∙ no_numbers old i (drop i gs)) ∙ so_far

-- ---- those of all objects

module _ (l : Places) (winners : List (Option ℕ)) (rows : List (List ℕ)) (objects : List Object) where
  pub object_won : (i : ℕ) (o : Object) (own : Owner) (old new whole : Won) → slice_get objects i ≡ Some o → own ≡ owner_of i o → new ≡ with_groups l winners own old 0 o.groups (get_or rows own.object [])
      → with_objects l winners rows i old (drop i objects) ≡ whole → with_objects l winners rows (i + 1) new (drop (i + 1) objects) ≡ whole
  object_won i o own old new whole at is step so_far =
      ap (λ w. with_objects l winners rows (i + 1) w (drop (i + 1) objects)) (step ∙ ap (λ x. with_groups l winners x old 0 o.groups (get_or rows x.object [])) is)
      ∙ (sym (ap (with_objects l winners rows i old) (dropped_at objects i o at)) ∙ so_far)

  pub objects_won : (i : ℕ) (old whole : Won) → length objects ≤ i → with_objects l winners rows i old (drop i objects) ≡ whole → old ≡ whole
  objects_won i old whole past so_far = sym (ap (with_objects l winners rows i old) (drop_of_length-le objects past)) ∙ so_far

  pub none_wins : (i : ℕ) (old whole : Won) → slice_get objects i ≡ None → with_objects l winners rows i old (drop i objects) ≡ whole → old ≡ whole
  none_wins i old whole none so_far = sym (ap (with_objects l winners rows i old) (dropped_none objects i none)) ∙ so_far

-- ---- rows

module _ {C : Type 0} (view : C → Group) (objects : List Object) (rows : List (List Member)) (gs : List GroupAt) where
  shown : (found : Option C) → map view (cons_option found []) ≡ cons_option (option_map view found) []
  shown None = refl
  shown (Some c) = refl

  front : (o : Option Group) (xs : List Group) → cons_option o [] ++ xs ≡ cons_option o xs
  front None xs = refl
  front (Some x) xs = refl

  pub row_more : (i : ℕ) (d : GroupAt) (old new : List C) (found : Option C) (whole : List Group) → i < length gs → new ≡ old ++ cons_option found []
      → option_map view found ≡ group_with (group_there objects (get_or gs i d)) (get_or rows i []) → map view old ++ rows_from objects rows i (drop i gs) ≡ whole
      → map view new ++ rows_from objects rows (i + 1) (drop (i + 1) gs) ≡ whole
  row_more i d old new found whole lt put is so_far =
      let rest = rows_from objects rows (i + 1) (drop (i + 1) gs) in
      ap (λ xs. map view xs ++ rest) put
      ∙ (ap (λ xs. xs ++ rest) (map-append view old (cons_option found []) ∙ ap (λ xs. map view old ++ xs) (shown found ∙ ap (λ o. cons_option o []) is))
      ∙ (append_assoc (map view old) (cons_option (group_with (group_there objects (get_or gs i d)) (get_or rows i [])) []) rest
      ∙ (ap (λ xs. map view old ++ xs) (front (group_with (group_there objects (get_or gs i d)) (get_or rows i [])) rest ∙ sym (ap (rows_from objects rows i) (next gs i d lt))) ∙ so_far)))

  pub rows_end : (i : ℕ) (old : List C) (whole : List Group) → length gs ≤ i → map view old ++ rows_from objects rows i (drop i gs) ≡ whole → map view old ≡ whole
  rows_end i old whole past so_far =
      sym (ap (λ xs. map view old ++ rows_from objects rows i xs) (drop_of_length-le gs past) ∙ append-nil (map view old)) ∙ so_far
