-- The groups that stand in the object: those that their objects win.
use Rattle.std.specs.Prelude.{ℕ, ◌+◌, ◌-◌, ◌==◌, List, [], ◌∷◌, ◌++◌, map, filter_map, fold, length, replicate, slice_get, slice_index_or, if◌then◌else◌, Option, Some, None, option_map, option_and_then}
use Rattle.std.specs.List.{cons_option}
use Rattle.std.specs.Option.{option_or}
use Rattle.partial_tree.specs.link_program.linking_section.declared.group.Member.{Member}
use Rattle.partial_tree.specs.link_program.linking_section.declared.group.Group.{Group}
use Rattle.partial_tree.specs.link_program.mark_bits.declared.chunk.Chunk.{Chunk}
use Rattle.partial_tree.specs.link_program.object_file.declared.object.Object.{Object}
use Rattle.partial_tree.specs.link_program.object_file.Spaces.{function_imports}
use Rattle.partial_tree.specs.link_program.name_rules.Entries.{is_input}
use Rattle.partial_tree.specs.link_program.link_rules.Program.{chunk_at}
use Rattle.partial_tree.specs.partial_symbols.Columns.{changed_at}
use Rattle.partial_tree.specs.partial_parts.Kept.{Kept, place_in}
use Rattle.partial_items.specs.declared.groups.GroupAt.{GroupAt}
use Rattle.partial_items.specs.declared.groups.Owner.{Owner}

-- ---- who wins: the first input that has a group of the name

abbrev pub offered : ℕ → List (Option ℕ) → ℕ → List (Option ℕ)
offered input column n = changed_at None (λ c. option_or c (Some input)) column (Some n)

-- By the numbers of names: of objects from a place on, and the numbers of the names of all groups.
abbrev pub offered_from : List (List ℕ) → ℕ → List (Option ℕ) → List Object → List (Option ℕ)
offered_from rows object column [] = column
offered_from rows object column (o ∷ os) = offered_from rows (object + 1) (fold (offered o.input) column (slice_index_or rows object [])) os

abbrev pub first_inputs : ℕ → List (List ℕ) → List Object → List (Option ℕ)
first_inputs names rows objects = offered_from rows 0 (replicate names None) objects

-- ---- members

-- What is looked up: the kept parts, the chunks of all parts, and how many functions are imported.
pub record Places : Type 0 where
  pub kept : Kept
  pub chunks : List Chunk
  pub functions : ℕ

abbrev pub segment_member : Places → ℕ → ℕ → Member
segment_member l input index = record { kind = 0; index = place_in l.kept l.chunks (chunk_at input 1 index) }

abbrev pub function_member : Places → ℕ → ℕ → Member
function_member l input index = record { kind = 1; index = l.functions + place_in l.kept l.chunks (chunk_at input 0 index) }

-- Of an object that imports so many functions: data segments are of kind 0, functions of kind 1, and others are left out.
abbrev pub member_with : Places → ℕ → ℕ → Member → Option Member
member_with l input imports m =
    if m.kind == 0 then Some (segment_member l input m.index) else if m.kind == 1 then Some (function_member l input (m.index - imports)) else None

abbrev pub members_of : Places → Owner → Group → List Member
members_of l o g = filter_map (member_with l o.input o.imports) g.members

-- ---- the groups

-- Where they stand, and the members of each.
pub record Won : Type 0 where
  pub groups : List GroupAt
  pub members : List (List Member)

abbrev pub none_won : Won
none_won = record { groups = []; members = [] }

abbrev pub with_group : Places → Owner → Won → ℕ → Group → Won
with_group l o w place g = record {
  groups = w.groups ++ record { object = o.object; place = place } ∷ [];
  members = w.members ++ members_of l o g ∷ [];
}

-- A group by the number of its name: it stands where the object wins it.
abbrev pub with_offer : Places → List (Option ℕ) → Owner → Won → ℕ → Group → ℕ → Won
with_offer l winners o w place g n = if is_input o.input (slice_index_or winners n None) then with_group l o w place g else w

-- The groups of an object, from a place on, with the numbers of their names.
abbrev pub with_groups : Places → List (Option ℕ) → Owner → Won → ℕ → List Group → List ℕ → Won
with_groups l winners o w place [] ns = w
with_groups l winners o w place (g ∷ gs) [] = w
with_groups l winners o w place (g ∷ gs) (n ∷ ns) = with_groups l winners o (with_offer l winners o w place g n) (place + 1) gs ns

abbrev pub owner_of : ℕ → Object → Owner
owner_of object o = record { object = object; input = o.input; imports = length (function_imports o) }

-- Those of objects from a place on.
abbrev pub with_objects : Places → List (Option ℕ) → List (List ℕ) → ℕ → Won → List Object → Won
with_objects l winners rows object w [] = w
with_objects l winners rows object w (o ∷ os) = with_objects l winners rows (object + 1) (with_groups l winners (owner_of object o) w 0 o.groups (slice_index_or rows object [])) os

abbrev pub all_won : Places → ℕ → List (List ℕ) → List Object → Won
all_won l names rows objects = with_objects l (first_inputs names rows objects) rows 0 none_won objects

-- ---- what they tell

abbrev pub group_there : List Object → GroupAt → Option Group
group_there objects at = option_and_then (λ o. slice_get o.groups at.place) (slice_get objects at.object)

-- Each with its members.
abbrev pub group_with : Option Group → List Member → Option Group
group_with o members = option_map (λ g. record { name = g.name; members = members }) o

abbrev pub rows_from : List Object → List (List Member) → ℕ → List GroupAt → List Group
rows_from objects rows at [] = []
rows_from objects rows at (g ∷ gs) = cons_option (group_with (group_there objects g) (slice_index_or rows at [])) (rows_from objects rows (at + 1) gs)
