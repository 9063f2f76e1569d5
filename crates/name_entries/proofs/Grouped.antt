-- Which parts of an object aren't kept, group by group.
use Rattle.std.proofs.Common.{◌≡◌, ℕ, ◌+◌, Bool, not, ◌&&◌, ◌||◌, List, [], length, map, take, get_or, slice_get, Option, Some, None, sym, ap, ◌∙◌}
use Rattle.std.specs.Option.{option_map, option_and_then}
use Rattle.std.specs.List.{list_any}
use Rattle.std.proofs.Math.ListN.{get_or-map}
use Rattle.std.proofs.Math.Seq.{take-length}
use Rattle.std.proofs.lemmas.List.{length-map}
use Rattle.std.proofs.lemmas.List.Folds.{list_any_more}
use Rattle.std.proofs.lemmas.Option.{slice_get-map, slice_get_within, get_or_from_slice_get}
use Rattle.name_rules.specs.object_file.wl_base.Names.{number_of}
use Rattle.name_rules.specs.object_file.linking_section.declared.group.Group.{Group}
use Rattle.name_rules.specs.object_file.declared.object.Object.{Object}
use Rattle.link_names.specs.Numbered.{Numbered, group_names}
use Rattle.name_rules.specs.Entries.{group_winner, is_input, has_member}
use Rattle.name_entries.specs.View.{GroupsAre}
use Rattle.name_entries.specs.Parts.{has_flag, AreDropped}
use Rattle.name_entries.specs.Fits.{GroupsAreNumbered}
use Rattle.name_entries.proofs.Found.{mapped}
use Rattle.name_entries.proofs.Numbered.{named_by}

-- the numbers of an object's groups
own_numbers : (objects : List Object) (n : Numbered) (object : ℕ) (o : Object) → GroupsAreNumbered objects n → slice_get objects object ≡ Some o
    → map (λ k. Some k) (get_or n.groups object []) ≡ map (number_of n.names) (group_names o)
own_numbers objects n object o are there =
    sym (get_or-map (map (λ k. Some k)) n.groups object []) ∙ ap (λ rows. get_or rows object []) are
    ∙ mapped (λ (o : Object). map (number_of n.names) (group_names o)) objects object o [] there

-- an object has as many groups as numbers of groups
pub as_many_groups : (objects : List Object) (n : Numbered) (object : ℕ) (o : Object) → GroupsAreNumbered objects n
    → slice_get objects object ≡ Some o → length (get_or n.groups object []) ≡ length o.groups
as_many_groups objects n object o are there =
    sym (length-map (get_or n.groups object []) (λ (k : ℕ). Some k)) ∙ ap length (own_numbers objects n object o are there)
    ∙ length-map (group_names o) (number_of n.names) ∙ length-map o.groups (λ (g : Group). g.name)

-- the winner by the number of the group is the winner by its name
pub winner_is : (objects : List Object) (n : Numbered) (winners : List (Option ℕ)) (object at : ℕ) (o : Object) (g : Group)
    → GroupsAreNumbered objects n → GroupsAre n.names objects winners → slice_get objects object ≡ Some o → slice_get o.groups at ≡ Some g
    → option_and_then (λ k. get_or winners k None) (slice_get (get_or n.groups object []) at) ≡ group_winner objects g.name
winner_is objects n winners object at o g are wins there here =
    by (slice_get (get_or n.groups object []) at)
    (sym (slice_get-map {A = ℕ} {B = Option ℕ} (λ k. Some k) (get_or n.groups object []) at) ∙ ap (λ row. slice_get row at)
    (own_numbers objects n object o are there)
    ∙ slice_get-map (number_of n.names) (group_names o) at
    ∙ ap (option_map (number_of n.names)) (slice_get-map (λ g. g.name) o.groups at ∙ ap (option_map (λ g. g.name)) here))
  where
    by : (found : Option ℕ) → option_map (λ k. Some k) found ≡ Some (number_of n.names g.name)
        → option_and_then (λ k. get_or winners k None) found ≡ group_winner objects g.name
    by None e = absurd cc
    by (Some k) e = let e' : number_of n.names g.name ≡ Some k = cc in wins k g.name (named_by n.names g.name k e')

-- ---- flags

-- whether a group takes a part away
abbrev pub is_lost : List Object → Object → ℕ → ℕ → Group → Bool
is_lost objects o kind index g = has_member kind index g && not (is_input o.input (group_winner objects g.name))

pub one_group : (objects : List Object) (o : Object) (kind k at : ℕ) (g : Group) (before after : List Bool) (wins : Bool)
    → slice_get o.groups at ≡ Some g → wins ≡ is_input o.input (group_winner objects g.name)
    → has_flag after k ≡ (has_flag before k || (has_member kind k g && not wins))
    → has_flag before k ≡ list_any (is_lost objects o kind k) (take at o.groups)
    → has_flag after k ≡ list_any (is_lost objects o kind k) (take (at + 1) o.groups)
one_group objects o kind k at g before after wins here won flagged so_far =
    flagged ∙ ap (λ b. b || (has_member kind k g && not wins)) so_far
    ∙ ap (λ b. list_any (is_lost objects o kind k) (take at o.groups) || (has_member kind k g && not b)) won
    ∙ ap (λ h. list_any (is_lost objects o kind k) (take at o.groups) || is_lost objects o kind k h)
    (sym (get_or_from_slice_get o.groups at g g here))
    ∙ sym (list_any_more (is_lost objects o kind k) o.groups at g (slice_get_within o.groups at g here))

pub all_groups : (objects : List Object) (o : Object) (kind count : ℕ) (flags : List Bool) → count ≡ length o.groups
    → ((k : ℕ) → has_flag flags k ≡ list_any (is_lost objects o kind k) (take count o.groups)) → AreDropped objects o kind flags
all_groups objects o kind count flags counted all k =
    sym (ap not (all k ∙ ap (λ gs. list_any (is_lost objects o kind k) gs) (ap (λ n. take n o.groups) counted ∙ take-length o.groups)))
