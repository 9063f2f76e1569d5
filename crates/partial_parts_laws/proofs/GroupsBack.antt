-- The groups of a program's relocatable object are those of its objects: each stands in the first that has it.
use Rattle.std.proofs.Common.{◌≡◌, ℕ, Bool, true, false, List, [], ◌∷◌, filter, inl, inr, refl, sym, ap, ◌∙◌, subst}
use Rattle.std.specs.Prelude.{Some, option_map, find, flat_map, bytes_eq, if◌then◌else◌}
use Rattle.std.specs.List.{list_any}
use Rattle.std.proofs.lemmas.Bool.{eq-eqb}
use Rattle.list_places.specs.Has.{Has}
use Rattle.list_places.proofs.Lists.{any_has, filter_has, find_has, flat_has, has_any, has_filter, has_flat, has_map, map_has}
use Rattle.name_rules.specs.object_file.linking_section.declared.group.Group.{Group}
use Rattle.name_rules.specs.object_file.declared.object.Object.{Object}
use Rattle.object_file.specs.Objects.{object_from}
use Rattle.name_rules.specs.Entries.{has_group, group_winner, is_input}
use Rattle.link_rules.specs.Program.{Program}
use Rattle.partial_rules.specs.Partial.{group_for, groups_in, relocatable}
use Rattle.partial_laws.proofs.Same.{name_equal}
use Rattle.partial_parts_laws.specs.Linked.{Linked, program}
use Rattle.partial_parts_laws.specs.GroupsBack.{GroupsAreRead}
use Rattle.partial_parts_laws.proofs.Parts.{objects_are}

both_tests : (a b : Bool) → (a ≡ true → b ≡ true) → (b ≡ true → a ≡ true) → a ≡ b
both_tests true b f g = sym (f refl)
both_tests false true f g = g refl
both_tests false false f g = refl

first_there : {A : Type 0} (t : A → Bool) (xs : List A) (x : A) → Has xs x → t x ≡ true → (y : A) × (find t xs ≡ Some y)
first_there t [] x has ok = absurd has
first_there {A} t (z ∷ zs) x has ok = choose (t z) refl has (λ h. first_there t zs x h ok)
  where
    choose : (b : Bool) → t z ≡ b → Has (z ∷ zs) x → (Has zs x → (y : A) × (find t zs ≡ Some y)) → (y : A) × ((if b then Some z else find t zs) ≡ Some y)
    choose true e h rest = (z, refl)
    choose false e (inl is) rest = absurd (no_true (sym e ∙ (ap t is ∙ ok)))
      where
        no_true : false ≡ true → ⊥
        no_true x = absurd cc
    choose false e (inr h) rest = rest h

module _ (l : Linked) (objects : List Object) (name : List ℕ) where
  abbrev p : Program
  p = program l objects

  abbrev is_so : Group → Bool
  is_so = λ (g : Group). bytes_eq g.name name

  abbrev won : Object → Group → Bool
  won o = λ (g : Group). is_input o.input (group_winner p.objects g.name)

  there : list_any is_so (flat_map (groups_in p) p.objects) ≡ true → list_any (has_group name) objects ≡ true
  there t =
      let g = has_any is_so (flat_map (groups_in p) p.objects) t in
      let f = has_flat (groups_in p) p.objects g.0 g.1 in
      let m = has_map (group_for p f.0) (filter (won f.0) f.0.groups) g.0 f.2 in
      let h = has_filter (won f.0) f.0.groups m.0 m.1 in
      any_has (has_group name) objects f.0 (subst (λ os. Has os f.0) (objects_are l objects) f.1)
      (any_has is_so f.0.groups m.0 h.0 (ap (λ (x : Group). bytes_eq x.name name) m.2 ∙ g.2))

  here : list_any (has_group name) objects ≡ true → list_any is_so (flat_map (groups_in p) p.objects) ≡ true
  here t =
      let o = has_any (has_group name) objects t in
      let first = first_there (has_group name) objects o.0 o.1 o.2 in
      let f = find_has (has_group name) objects first.0 first.1 in
      let g = has_any is_so first.0.groups f.1 in
      let same : g.0.name ≡ name = name_equal g.0.name name g.2 in
      let winner : group_winner p.objects g.0.name ≡ Some first.0.input = (λ i. group_winner (objects_are l objects i) (same i)) ∙ ap (option_map (λ (x : Object). x.input)) first.1 in
      let wins : is_input first.0.input (group_winner p.objects g.0.name) ≡ true = ap (is_input first.0.input) winner ∙ eq-eqb first.0.input first.0.input refl in
      any_has is_so (flat_map (groups_in p) p.objects) (group_for p first.0 g.0)
      (flat_has (groups_in p) p.objects first.0 (group_for p first.0 g.0) (subst (λ os. Has os first.0) (sym (objects_are l objects)) f.0)
      (map_has (group_for p first.0) (filter (won first.0) first.0.groups) g.0 (filter_has (won first.0) first.0.groups g.0 g.1 wins))) g.2

pub groups_are_read : GroupsAreRead
unfolding object_from relocatable
groups_are_read l objects rise codes input name =
    both_tests (list_any (λ (g : Group). bytes_eq g.name name) (flat_map (groups_in (program l objects)) (program l objects).objects)) (list_any (has_group name) objects) (there l objects name) (here l objects name)
